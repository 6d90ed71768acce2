-- The bytes that an image's tables give are the image's, exactly when each part of them is.
use Prim.Native.Nat.{ℕ, zero, suc, ◌+◌, ◌*◌, ◌-◌, ◌/◌, ◌%◌, ◌^◌, ◌≤◌, ◌<◌}
use native.Mathlib.Omega.{arith}
use native.Mathlib.Nat.{zero-mul, suc-mul, pow-suc, mul-le-mul_right, add-zero, add-mul, add-sub_of_le}
use mathlib.Core.Path.{◌≡◌, refl, sym, ap, ◌∙◌}
use mathlib.Core.Bool.{Bool, true, false, ◌&&◌, cond}
use mathlib.Core.List.{List, [], ◌∷◌, ◌++◌, append-nil}
use lib.Dec.{T, ltb, lt→ltb}
use lib.ListN.{length, get_or, take, drop, replicate, length-map, take-append-drop, length-drop}
use lib.Seq.{drop-drop, take_at, drop_at}
use Rattle.policy.specs.Lists.{flat, from, upto}
use Rattle.policy.specs.Contract.{Tok}
use Rattle.policy.specs.Layout.{Layout, aid_size}
use Rattle.policy.specs.Tables.{Waiting, bit, row_of, read_number, write_number, read_aid, write_aid, read_tok, write_tok, read_unmet, write_unmet, number_with, read_list, write_list, bit_of, write_bits, pieces}
use Rattle.policy.proofs.Sets.{T_true, flat_map, length_from}
use Rattle.policy.proofs.Pieces.{piece_only, length_table, piece_part, row_ends}
use Rattle.geometry.specs.declared.Kept.TheVariants.{WaitingGrants}
use Rattle.soundness.specs.Check.{byte_at, part_at, row_size}
use Rattle.rows.proofs.Parts.{part_in, part_part, part_length, part_cons}
use Rattle.soundness.proofs.Parts.{Filled}
use Rattle.rows.proofs.Words.{Bytes}
use Rattle.bits.proofs.Row.{row_is}
use Rattle.soundness.proofs.Decoded.{list_read}

-- ---- numbers and rows of bits are written as they were read
write_read : (v m : ℕ) (bs rest : List ℕ) → Bytes bs → write_number (v + length bs) (read_number m bs) rest ≡ write_number v m (bs ++ rest)
write_read v m [] rest h = ap (λ (k : ℕ). write_number k m rest) (add-zero v)
write_read v m (b ∷ bs) rest h =
    let e : v + suc (length bs) ≡ suc v + length bs = omega arith in
    let l : b < 256 = h 0 in
    let q : (m * 256 + b) / 256 ≡ m = omega arith in
    let r : (m * 256 + b) % 256 ≡ b = omega arith in
    ap (λ (k : ℕ). write_number k (read_number (m * 256 + b) bs) rest) e ∙ write_read (suc v) (m * 256 + b) bs rest (λ k. h (suc k))
    ∙ λ i. write_number v (q i) (r i ∷ bs ++ rest)

read_lt : (m : ℕ) (bs : List ℕ) → Bytes bs → read_number m bs < (m + 1) * 256 ^ length bs
read_lt m [] h = omega arith
read_lt m (b ∷ bs) h = more m b (256 ^ length bs) (h 0) (read_lt (m * 256 + b) bs (λ k. h (suc k))) (pow-suc 256 (length bs))
  where
    more : {x q : ℕ} (m b p : ℕ) → b < 256 → x < (m * 256 + b + 1) * p → q ≡ p * 256 → x < (m + 1) * q
    more m b p h l e =
        let le : (m * 256 + b + 1) * p ≤ ((m + 1) * 256) * p = mul-le-mul_right p (omega arith) in
        let q : ((m + 1) * 256) * p ≡ (m + 1) * (p * 256) = omega arith in
        rw e (omega arith)

module _ (L : Layout) (n : ℕ) (full : 2 ^ n ≡ 256 ^ L.width) (bs : List ℕ) (len : length bs ≡ L.width) (h : Bytes bs) where
  pub row_lt : read_number 0 bs < 2 ^ n
  row_lt = let e = read_lt 0 bs h in rw full (rw (← len) (omega arith))

  pub bits_back : write_bits L n (bit_of L n bs) ≡ bs
  bits_back =
      let r : row_of n (bit_of L n bs) ≡ read_number 0 bs = sym (row_is n (read_number 0 bs) (bit_of L n bs) row_lt
      (λ k l. ap (λ (b : Bool). b && bit (read_number 0 bs) k) (sym (T_true (ltb k n) (lt→ltb k n l))))) in
      ap (λ (x : ℕ). write_number L.width x []) r ∙ ap (λ (w : ℕ). write_number w (read_number 0 bs) []) (sym len ∙ z (length bs)) ∙ write_read 0 0 bs [] h ∙ append-nil bs
    where
      z : (n : ℕ) → n ≡ 0 + n
      z n = omega arith

-- ---- tokens and rows of lists
two : (q : List ℕ) → length q ≡ 2 → get_or q 0 0 ∷ get_or q 1 0 ∷ [] ≡ q
two [] e = absurd (omega arith)
two (a ∷ []) e = absurd (omega arith)
two (a ∷ b ∷ []) e = refl
two (a ∷ b ∷ c ∷ q) e = absurd (omega arith)

three : (q : List ℕ) → length q ≡ 3 → get_or q 0 0 ∷ get_or q 1 0 ∷ get_or q 2 0 ∷ [] ≡ q
three [] e = absurd (omega arith)
three (a ∷ q) e = ap (λ (z : List ℕ). a ∷ z) (two q (omega arith))

one_two : (q : List ℕ) → length q ≡ 3 → get_or q 0 0 ∷ write_tok (read_tok (drop 1 q)) ≡ q
one_two [] e = absurd (omega arith)
one_two (a ∷ q) e = ap (λ (z : List ℕ). a ∷ z) (two q (omega arith))

pub tok_back : (p : List ℕ) → length p ≡ 2 → write_tok (read_tok p) ≡ p
tok_back p e = two p e

-- ---- parts
module _ (l : List ℕ) where
  -- a part in its place before what follows, and the other way
  pub join : (p rest : List ℕ) (a n : ℕ) → p ≡ part_at l a n → rest ≡ drop (a + n) l → p ++ rest ≡ drop a l
  join p rest a n e q = (λ i. e i ++ q i) ∙ ap (λ (z : List ℕ). part_at l a n ++ z) (sym (drop-drop n a l)) ∙ take-append-drop n (drop a l)

  pub split : (p rest : List ℕ) (a n : ℕ) → length p ≡ n → p ++ rest ≡ drop a l → (p ≡ part_at l a n) × (rest ≡ drop (a + n) l)
  split p rest a n e q = (sym (take_at p rest n e) ∙ ap (take n) q, sym (drop_at p rest n e) ∙ ap (drop n) q ∙ drop-drop n a l)

  -- n pieces of w bytes, one after another, are a part when each is
  module _ (f : ℕ → List ℕ) (w n a : ℕ) where
    pub flat_part : ((i : ℕ) → i < n → f i ≡ part_at l (a + i * w) w) → flat f (upto n) ≡ part_at l a (n * w)
    flat_part h = go n 0 (λ j p. h j (omega arith)) ∙ ap (λ (k : ℕ). part_at l k (n * w)) (let e : a + 0 * w ≡ a = omega arith in e)
      where
        go : (m i : ℕ) → ((j : ℕ) → j < i + m → f j ≡ part_at l (a + j * w) w) → flat f (from i m) ≡ part_at l (a + i * w) (m * w)
        go zero i e = rw zero-mul
        go (suc m) i e =
            let q : a + suc i * w ≡ a + i * w + w = let s = suc-mul i w in omega arith in
            let r : w + m * w ≡ suc m * w = let s = suc-mul m w in omega arith in
            (λ z. e i (omega arith) z ++ (go m (suc i) (λ j p. e j (omega arith)) ∙ ap (λ (k : ℕ). part_at l k (m * w)) q) z)
            ∙ sym (part_part l (a + i * w) w (m * w)) ∙ ap (λ (k : ℕ). part_at l (a + i * w) k) r

    pub part_flat : ((i : ℕ) → i < n → length (f i) ≡ w) → flat f (upto n) ≡ part_at l a (n * w) → (i : ℕ) → i < n → f i ≡ part_at l (a + i * w) w
    part_flat h e i p =
        sym (piece_only f w n h i p) ∙ ap (λ (z : List ℕ). get_or (pieces w n z) i []) e
        ∙ piece_part w n (part_at l a (n * w)) i p ∙ part_in l a (n * w) (i * w) w (row_ends i n w p)

-- ---- rows of lists
row_back : (p : List ℕ) (a : List ℕ) → Filled (take 17 p) → a ≡ drop 17 p → write_aid (read_aid (take 17 p)) ++ a ≡ p
row_back p a f e = (λ i. f i ++ e i) ∙ take-append-drop 17 p

length_past : (p : List ℕ) (a b : ℕ) → length p ≡ a + b → length (drop a p) ≡ b
length_past p a b e = length-drop a p ∙ ap (λ (k : ℕ). k - a) e ∙ (let q : a + b - a ≡ b = omega arith in q)

pub unmet_back : (p : List ℕ) → length p ≡ 20 → Filled (take 17 p) → write_unmet (read_unmet p) ≡ p
unmet_back p e f = row_back p (write_tok (read_tok (drop 17 p)) ++ (get_or (drop 17 p) 2 0 ∷ [])) f (three (drop 17 p) (length_past p 17 3 e))

-- a row of waiting grants by the rules of its version: it is read and written as L's where these are L's
abbrev pub read_grant : (ℕ → ℕ → Tok) → Bool → List ℕ → Waiting
read_grant toks early bs =
    let q = drop aid_size bs in
    record { caller = read_aid (take aid_size bs); callee = get_or q 0 0; tok = cond early (read_tok (drop 1 q)) (toks (get_or q 0 0) (get_or q 1 0)) }

module _ (L : Layout) (provides : ℕ → ℕ → Bool) (toks : ℕ → ℕ → Tok) where
  abbrev pub write_grant : Bool → Waiting → List ℕ
  write_grant early v = write_aid v.caller ++ (v.callee ∷ cond early (write_tok v.tok) (number_with L (provides v.callee) (toks v.callee) v.tok ∷ []))

  -- the service number q names a service that is written by it
  abbrev pub Numbered : ℕ → ℕ → Type 0
  Numbered j q = number_with L (provides j) (toks j) (toks j q) ≡ q

  pub grant_back : (early : Bool) (p : List ℕ) → length p ≡ row_size early WaitingGrants → Filled (take 17 p) → ((T early → ⊥) → Numbered (get_or (drop 17 p) 0 0) (get_or (drop 17 p) 1 0))
      → write_grant early (read_grant toks early p) ≡ p
  grant_back true p e f n = row_back p (get_or (drop 17 p) 0 0 ∷ write_tok (read_tok (drop 1 (drop 17 p)))) f (one_two (drop 17 p) (length_past p 17 3 e))
  grant_back false p e f n = row_back p _ f ((λ i. get_or (drop 17 p) 0 0 ∷ n (λ x. x) i ∷ []) ∙ two (drop 17 p) (length_past p 17 2 e))

-- ---- a list of rows of w bytes, read by f and written by g
module _ (L : Layout) (l : List ℕ) {A : Type 0} (f : List ℕ → A) (g : A → List ℕ) (w at : ℕ) (fits : at + (1 + L.capacity * w) ≤ length l) where
  abbrev n : ℕ
  n = byte_at l at

  abbrev row : ℕ → List ℕ
  row r = part_at l (at + (1 + r * w)) w

  abbrev fill : ℕ
  fill = (L.capacity - n) * w

  abbrev written : List ℕ
  written = write_list L g w (read_list f w (drop at l))

  pub length_rows : length (read_list f w (drop at l)) ≡ n
  length_rows = ap length (list_read l f w at (omega arith)) ∙ length-map (upto n) (λ r. f (row r)) ∙ length_from 0 n

  written_is : written ≡ n ∷ flat (λ r. g (f (row r))) (upto n) ++ replicate fill 0
  written_is =
      (λ i. length_rows i ∷ flat g (list_read l f w at (omega arith) i) ++ replicate ((L.capacity - length_rows i) * w) 0)
      ∙ ap (λ (z : List ℕ). n ∷ z ++ replicate fill 0) (flat_map g (λ r. f (row r)) (upto n))

  part_is : n ≤ L.capacity → part_at l at (1 + L.capacity * w) ≡ n ∷ part_at l (at + 1) (n * w) ++ part_at l (at + (1 + n * w)) fill
  part_is h =
      let e : 1 + L.capacity * w ≡ suc (L.capacity * w) = omega arith in
      let q : L.capacity * w ≡ n * w + fill = ap (λ (z : ℕ). z * w) (sym (add-sub_of_le h)) ∙ add-mul n (L.capacity - n) w in
      let p : at + 1 + n * w ≡ at + (1 + n * w) = omega arith in
      ap (part_at l at) e ∙ part_cons l at (L.capacity * w) (omega arith)
      ∙ ap (λ (z : List ℕ). n ∷ z) (ap (part_at l (at + 1)) q ∙ part_part l (at + 1) (n * w) fill ∙ ap (λ (z : ℕ). part_at l (at + 1) (n * w) ++ part_at l z fill) p)

  one_on : (r : ℕ) → at + 1 + r * w ≡ at + (1 + r * w)
  one_on r = omega arith

  pub list_back : n ≤ L.capacity → ((r : ℕ) → r < n → g (f (row r)) ≡ row r) → part_at l (at + (1 + n * w)) fill ≡ replicate fill 0 → written ≡ part_at l at (1 + L.capacity * w)
  list_back h back zeros =
      let rows : flat (λ r. g (f (row r))) (upto n) ≡ part_at l (at + 1) (n * w) =
      flat_part l (λ r. g (f (row r))) w n (at + 1) (λ r p. back r p ∙ ap (λ (a : ℕ). part_at l a w) (sym (one_on r))) in
      written_is ∙ (λ i. n ∷ rows i ++ sym zeros i) ∙ sym (part_is h)

  pub list_parts : n ≤ L.capacity → ((r : ℕ) → r < n → length (g (f (row r))) ≡ w) → written ≡ part_at l at (1 + L.capacity * w)
      → ((r : ℕ) → r < n → g (f (row r)) ≡ row r) × (part_at l (at + (1 + n * w)) fill ≡ replicate fill 0)
  list_parts h size e =
      let rows : List ℕ = flat (λ r. g (f (row r))) (upto n) in
      let front : List ℕ = part_at l (at + 1) (n * w) in
      let rest : List ℕ = part_at l (at + (1 + n * w)) fill in
      let q : rows ++ replicate fill 0 ≡ front ++ rest = ap (drop 1) (sym written_is ∙ e ∙ part_is h) in
      let a : length rows ≡ n * w = length_table (λ r. g (f (row r))) w n size in
      let b : length front ≡ n * w = part_length l (at + 1) (n * w) (let c : n * w ≤ L.capacity * w = mul-le-mul_right w h in omega arith) in (
        λ r p. part_flat l (λ r. g (f (row r))) w n (at + 1) size (sym (take_at rows (replicate fill 0) (n * w) a) ∙ ap (take (n * w)) q ∙ take_at front rest (n * w) b) r p ∙ ap (λ (z : ℕ). part_at l z w) (one_on r),
        sym (drop_at front rest (n * w) b) ∙ ap (drop (n * w)) (sym q) ∙ drop_at rows (replicate fill 0) (n * w) a,
      )
