-- A request written as a record is read as that request again, for all eleven kinds.
use Prim.Native.Nat.{ℕ, zero, suc, ◌+◌, ◌*◌, ◌/◌, ◌%◌, ◌^◌, ◌≤◌, ◌<◌}
use native.Mathlib.Omega.{arith}
use native.Mathlib.Nat.{div-add-mod', div-lt_iff_lt-mul, pow-suc, zero-lt-suc}
use mathlib.Core.Path.{◌≡◌, refl, sym, ap, ◌∙◌, subst}
use mathlib.Core.Bool.{Bool}
use mathlib.Core.List.{List, [], ◌∷◌, ◌++◌, append_assoc, append-nil}
use mathlib.Core.List.Memᴰ.{head as here}
use mathlib.Core.List.Memᴰ.{tail as there}
use mathlib.Core.List.{Memᴰ as In}
use lib.Dec.{eqb, eqb_refl, leb, le→leb}
use lib.ListN.{length, length-append, get_or}
use lib.Seq.{take-append_seam, drop-append_seam}
use Rattle.policy.specs.Lists.{flat}
use Rattle.policy.specs.Contract.{Aid, Tok, Row, Contract, valid_aid}
use Rattle.policy.specs.Layout.{Layout, LayoutOk}
use Rattle.policy.specs.Record.{Change, load, remove, add_service, remove_service, add_call, remove_call, add_grant, remove_grant, add_need, remove_need, replace, Got, got, bad, Reader, and_then, done, given, byte, bytes}
use Rattle.policy.specs.Record.{number_from, number, aid, tokens, row_of, valid_tok, valid_tokens, valid_row, many, counted, row_list, a_contract, a_service, kinds, change, fields, parse}
use Rattle.policy.specs.Tables.{write_number, write_tok}
use Rattle.policy.specs.Judge.{aid_bytes, row_bytes, rows_bytes, load_record}
use Rattle.policy.specs.Records.{kind_of, request_of, ValidAid, ValidTok, ValidRow, AtMost, contract_bytes, change_bytes, body_bytes, record_bytes, WithinContract, WithinChange, WrittenRead}
use Rattle.policy.proofs.Sets.{T_true}
use Rattle.policy.proofs.Bits.{length_number}

-- ---- numbers
-- the last byte of a number apart
pub number_last : (w n : ℕ) (s : List ℕ) → number_from (suc w) n s ≡ and_then (number_from w n s) (λ m u. and_then (byte u) (λ b. got (m * 256 + b)))
unfolding byte
number_last zero n s = refl
number_last (suc w) n [] = refl
number_last (suc w) n (b ∷ s) = number_last w (n * 256 + b) s

number_from_lem : (w n m : ℕ) (rest : List ℕ) → n < 256 ^ w → number_from w m (write_number w n rest) ≡ got (m * 256 ^ w + n) rest
unfolding byte
number_from_lem zero n m rest h = ap (λ (z : ℕ). got z rest) (lone n m h)
  where
    lone : (n m : ℕ) → n < 1 → m ≡ m * 1 + n
    lone n m h = omega arith
number_from_lem (suc w) n m rest h =
    let low : n / 256 < 256 ^ w = (div-lt_iff_lt-mul (zero-lt-suc 255)).1 (subst (λ (z : ℕ). n < z) (pow-suc 256 w) h) in
    number_last w m (write_number w (n / 256) (n % 256 ∷ rest))
    ∙ ap (λ (z : Got ℕ). and_then z (λ x u. and_then (byte u) (λ b. got (x * 256 + b)))) (number_from_lem w (n / 256) m (n % 256 ∷ rest) low)
    ∙ ap (λ (z : ℕ). got z rest) (rw (pow-suc 256 w) (shift m (256 ^ w) (n / 256) (n % 256) n (div-add-mod' n 256)))
  where
    shift : (m p q r n : ℕ) → q * 256 + r ≡ n → (m * p + q) * 256 + r ≡ m * (p * 256) + n
    shift m p q r n e = omega arith

number_written : (w n : ℕ) (rest : List ℕ) → n < 256 ^ w → number w (write_number w n rest) ≡ got n rest
unfolding number
number_written w n rest h = number_from_lem w n 0 rest h ∙ ap (λ (z : ℕ). got z rest) (none (256 ^ w) n)
  where
    none : (p n : ℕ) → 0 * p + n ≡ n
    none p n = omega arith

pub number_append : (w n : ℕ) (a b : List ℕ) → write_number w n a ++ b ≡ write_number w n (a ++ b)
number_append zero n a b = refl
number_append (suc w) n a b = number_append w (n / 256) (n % 256 ∷ a) b

number_byte : (n : ℕ) (rest : List ℕ) → number 1 (n ∷ rest) ≡ got n rest
unfolding number byte
number_byte n rest = let e : 0 * 256 + n ≡ n = omega arith in ap (λ (z : ℕ). got z rest) e

-- ---- rows and lists
aid_written : (a rest : List ℕ) → ValidAid a → aid (aid_bytes a ++ rest) ≡ got a rest
unfolding aid byte bytes
aid_written a rest v =
    rw (T_true (leb (length a) (length (a ++ rest))) (le→leb (length a) (length (a ++ rest)) (omega (arith, length-append a rest))), take-append_seam a rest, drop-append_seam a rest, T_true (valid_aid a) v)

row_written : (p : Reader Tok) (r : Row) (rest : List ℕ) → ValidAid r.aid → p (write_tok r.tok ++ rest) ≡ got r.tok rest → row_of p (row_bytes r ++ rest) ≡ got r rest
unfolding row_of
row_written p r rest v e =
    ap (row_of p) (append_assoc (aid_bytes r.aid) (write_tok r.tok) rest)
    ∙ ap (λ (z : Got Aid). and_then z (λ a u. and_then (p u) (λ s. got (record { aid = a; tok = s })))) (aid_written r.aid (write_tok r.tok ++ rest) v)
    ∙ ap (λ (z : Got Tok). and_then z (λ s. got (record { aid = r.aid; tok = s }))) e

module _ (L : Layout) where
  tokens_written : (s : Tok) (rest : List ℕ) → ValidTok L s → valid_tokens L (write_tok s ++ rest) ≡ got s rest
  unfolding valid_tokens tokens byte
  tokens_written s rest v = ap (λ (b : Bool). given b (done s) rest) (T_true (valid_tok L s) v)

  valid_row_written : (r : Row) (rest : List ℕ) → ValidRow L r → valid_row L (row_bytes r ++ rest) ≡ got r rest
  valid_row_written r rest v = row_written (valid_tokens L) r rest v.0 (tokens_written r.tok rest v.1)

module _ {A : Type 0} (p : Reader A) (f : A → List ℕ) where
  many_written : (l : List A) (rest : List ℕ) → ((x : A) → In x l → (u : List ℕ) → p (f x ++ u) ≡ got x u) → many p (length l) (flat f l ++ rest) ≡ got l rest
  many_written [] rest h = refl
  many_written (x ∷ l) rest h =
      rw (append_assoc (f x) (flat f l) rest, h x (here refl) (flat f l ++ rest), many_written l rest (λ y m. h y (there m)))

  -- after a count of any width, once that is read
  counted_written : (w most : ℕ) (s : List ℕ) (l : List A) (rest : List ℕ) → number w s ≡ got (length l) (flat f l ++ rest) → length l ≤ most → ((x : A) → In x l → (u : List ℕ) → p (f x ++ u) ≡ got x u)
      → counted w most p s ≡ got l rest
  unfolding counted
  counted_written w most s l rest e m h = rw (e, T_true (leb (length l) most) (le→leb (length l) most m), many_written l rest h)

-- ---- what follows the first AID, by kind
module _ (L : Layout) (lo : LayoutOk L) where
  rows_written : (l : List Row) (rest : List ℕ) → AtMost L.most_rows (ValidRow L) l → row_list L (rows_bytes L l ++ rest) ≡ got l rest
  rows_written l rest v =
      let fits : length l < 256 ^ L.count_width = let h = lo.counts_fit in let n = v.0 in omega arith in
      counted_written (valid_row L) row_bytes L.count_width L.most_rows (rows_bytes L l ++ rest) l rest
      (ap (number L.count_width) (number_append L.count_width (length l) (flat row_bytes l) rest) ∙ number_written L.count_width (length l) (flat row_bytes l ++ rest) fits)
      v.0 (λ r m u. valid_row_written L r u (v.1 r m))

  -- kinds 5 to 10
  one_written : (f : Row → Change) (r : Row) (rest : List ℕ) → ValidRow L r → and_then (valid_row L (row_bytes r ++ rest)) (λ x. got (f x)) ≡ got (f r) rest
  one_written f r rest v = ap (λ (z : Got Row). and_then z (λ x. got (f x))) (valid_row_written L r rest v)

  -- kinds 1 and 11
  contract_written : (f : List Tok → List Row → List Row → List Row → Change) (p : List Tok) (c g n : List Row) (rest : List ℕ) → WithinContract L p c g n
      → a_contract L f (contract_bytes L p c g n ++ rest) ≡ got (f p c g n) rest
  unfolding a_contract
  contract_written f p c g n rest v =
      let cs = rows_bytes L c in
      let gs = rows_bytes L g in
      let ns = rows_bytes L n in
      let after : List ℕ = cs ++ (gs ++ (ns ++ rest)) in
      rw (
        append_assoc (flat write_tok p) (cs ++ (gs ++ ns)) rest,
        append_assoc cs (gs ++ ns) rest,
        append_assoc gs ns rest,
        counted_written (valid_tokens L) write_tok 1 L.services (length p ∷ flat write_tok p ++ after) p after (number_byte (length p) _) v.0.0 (λ s m u. tokens_written L s u (v.0.1 s m)),
        rows_written c (gs ++ (ns ++ rest)) v.1,
        rows_written g (ns ++ rest) v.2,
        rows_written n rest v.3,
      )

  change_written : (c : Change) (rest : List ℕ) → WithinChange L c → get_or (kinds L) (kind_of c) (λ s. bad) (change_bytes L c ++ rest) ≡ got c rest
  unfolding a_service
  change_written (load p c g n) rest v = contract_written load p c g n rest v
  change_written remove rest v = refl
  change_written (add_service s l) rest v =
      rw (
        tokens_written L s (length l ∷ flat aid_bytes l ++ rest) v.0,
        counted_written aid aid_bytes 1 L.most_callers (length l ∷ flat aid_bytes l ++ rest) l rest (number_byte (length l) _) v.1.0 (λ a m u. aid_written a u (v.1.1 a m)),
      )
  change_written (remove_service s) rest v = ap (λ (z : Got Tok). and_then z (λ x. got (remove_service x))) (tokens_written L s rest v)
  change_written (add_call r) rest v = one_written add_call r rest v
  change_written (remove_call r) rest v = one_written remove_call r rest v
  change_written (add_grant r) rest v = one_written add_grant r rest v
  change_written (remove_grant r) rest v = one_written remove_grant r rest v
  change_written (add_need r) rest v = one_written add_need r rest v
  change_written (remove_need r) rest v = one_written remove_need r rest v
  change_written (replace p c g n) rest v = contract_written replace p c g n rest v

  -- ---- the whole record
  pub written_read : WrittenRead L
  unfolding parse fields byte change
  written_read q v =
      let n : ℕ = 4 + length (body_bytes L q) in
      let rest : List ℕ = L.version ∷ kind_of q.change ∷ body_bytes L q in
      let e : length (record_bytes L q) ≡ n = length_number 2 n rest ∙ omega arith in
      let h = v.2 in
      let two : (0 * 256 + n / 256 % 256) * 256 + n % 256 ≡ n = omega arith in
      let last : get_or (kinds L) (kind_of q.change) (λ s. bad) (change_bytes L q.change) ≡ got q.change [] =
      ap (get_or (kinds L) (kind_of q.change) (λ s. bad)) (sym (append-nil (change_bytes L q.change))) ∙ change_written q.change [] v.0.1 in
      rw (e, two, T_true (eqb n n) (eqb_refl n), T_true (eqb L.version L.version) (eqb_refl L.version), aid_written q.aid (change_bytes L q.change) v.0.0, T_true (L.reads (kind_of q.change)) v.1, last)

-- reading out writes a load so
pub load_record_lem : (L : Layout) (c : Contract) → load_record L c ≡ record_bytes L (request_of c)
unfolding load_record
load_record_lem L c = refl
