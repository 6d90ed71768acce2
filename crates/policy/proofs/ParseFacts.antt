-- What reading a record gives: bytes that are read are those that are written, of a request within the limits, and where the first AID stands.
use Prim.Native.Nat.{ℕ, zero, suc, ◌+◌, ◌*◌, ◌/◌, ◌%◌, ◌^◌, ◌≤◌, ◌<◌}
use native.Mathlib.Omega.{arith}
use mathlib.Core.Path.{◌≡◌, refl, sym, ap, ◌∙◌, subst}
use mathlib.Core.Bool.{Bool, true, false, ◌&&◌}
use mathlib.Core.List.{List, [], ◌∷◌, ◌++◌, append_assoc, append-nil}
use mathlib.Core.List.Memᴰ.{append_right as in_right}
use mathlib.Core.List.Memᴰ.{head as here}
use mathlib.Core.List.Memᴰ.{not-nil as in_nil}
use mathlib.Core.List.Memᴰ.{tail as there}
use mathlib.Core.List.{Memᴰ as In}
use mathlib.Core.Option.{Option, none, some}
use lib.Dec.{T, eqb, eqb→eq, leb, leb→le}
use lib.ListN.{length, get_or, take, drop, length-append, take-append-drop}
use lib.Seq.{length-take-le, take-append_seam}
use Rattle.policy.specs.Lists.{flat, or_else}
use Rattle.policy.specs.Contract.{Aid, Tok, Row, valid_aid}
use Rattle.policy.specs.Layout.{Layout}
use Rattle.policy.specs.Record.{Change, load, add_call, remove_call, add_grant, remove_grant, add_need, remove_need, replace, Request, Got, got, bad, Reader, and_then, ◌>>=◌, done, given}
use Rattle.policy.specs.Record.{byte, bytes, number_from, number, aid, tokens, row_of, valid_tok, valid_tokens, valid_row, many, counted, row_list, a_contract, a_service, kinds, change, fields, whole, parse, first_aid}
use Rattle.policy.specs.Tables.{write_number, write_tok}
use Rattle.policy.specs.Judge.{aid_bytes, row_bytes, rows_bytes}
use Rattle.policy.specs.Records.{kind_of, ValidAid, ValidTok, ValidRow, AtMost, Bytes, contract_bytes, change_bytes, body_bytes, record_bytes, WithinContract, WithinChange, Within, ReadWritten}
use Rattle.policy.specs.Claims.{FirstAidPart}
use Rattle.policy.proofs.Sets.{and_l, and_r, each_cons}
use Rattle.policy.proofs.Bits.{length_number}
use Rattle.policy.proofs.Written.{number_last, number_append}

-- ---- s is d and then u: its length always, and itself where it is of bytes
record Starts (s d u : List ℕ) : Type 0 where
  size : length s ≡ length d + length u
  same : Bytes s → s ≡ d ++ u

starts : {s : List ℕ} (d u : List ℕ) → s ≡ d ++ u → Starts s d u
starts d u e = record { size = ap length e ∙ length-append d u; same = λ _. e }

-- what follows is of bytes too
starts_bytes : {s d u : List ℕ} → Starts s d u → Bytes s → Bytes u
starts_bytes {d = d} h l b m = subst Bytes (h.same l) l b (in_right d m)

starts_then : {s d u e v : List ℕ} → Starts s d u → Starts u e v → Starts s (d ++ e) v
starts_then {d = d} {e = e} {v = v} h k = record {
  size = let a = h.size in let b = k.size in let c = length-append d e in omega arith;
  same = λ l. h.same l ∙ ap (λ (z : List ℕ). d ++ z) (k.same (starts_bytes h l)) ∙ sym (append_assoc d e v);
}

-- ---- what was read, and what follows it, satisfies P, if anything was
abbrev Parses : {A : Type 0} → (A → Type 0) → Option A → Type 0
Parses P (some a) = P a
Parses P none = Unit {0}

module _ {A : Type 0} (P : A → List ℕ → Type 0) where
  abbrev Reads : Got A → Type 0
  Reads (got a u) = P a u
  Reads bad = Unit {0}

  reads_given : (b : Bool) (p : Reader A) (s : List ℕ) → (T b → Reads (p s)) → Reads (given b p s)
  reads_given true p s h = h tt
  reads_given false p s h = tt

  reads_whole : (x : Got A) → Reads x → Parses (λ a. P a []) (whole x)
  reads_whole (got a []) h = h
  reads_whole (got a (b ∷ s)) h = tt
  reads_whole bad h = tt

-- one reader after another
reads_then : {A B : Type 0} (P : A → List ℕ → Type 0) (Q : B → List ℕ → Type 0) (x : Got A) (f : A → Reader B)
    → Reads P x → ((a : A) (s : List ℕ) → P a s → Reads Q (f a s)) → Reads Q (and_then x f)
reads_then P Q (got a s) f h k = k a s h
reads_then P Q bad f h k = tt

reads_as : {A : Type 0} (P Q : A → List ℕ → Type 0) (x : Got A) → ((a : A) (u : List ℕ) → P a u → Q a u) → Reads P x → Reads Q x
reads_as P Q (got a u) f h = f a u h
reads_as P Q bad f h = tt

-- a value as it must be, as f writes it
abbrev Took : {A : Type 0} → (A → Type 0) → (A → List ℕ) → List ℕ → A → List ℕ → Type 0
Took P f s a u = P a × Starts s (f a) u

-- ---- numbers
abbrev Counts : (ℕ → List ℕ) → List ℕ → ℕ → List ℕ → Type 0
Counts f s n u = Starts s (f n) u

-- n in w bytes
abbrev wide : ℕ → ℕ → List ℕ
wide w n = write_number w n []

reads_from : (w n : ℕ) (s : List ℕ) → Reads (Counts (wide w) s) (number_from w n s)
unfolding byte
reads_from zero n s = starts [] s refl
reads_from (suc w) n s =
    subst (Reads (Counts (wide (suc w)) s)) (sym (number_last w n s))
    (reads_then (Counts (wide w) s) (Counts (wide (suc w)) s) (number_from w n s) _ (reads_from w n s) last)
  where
    last : (m : ℕ) (u : List ℕ) → Counts (wide w) s m u → Reads (Counts (wide (suc w)) s) (and_then (byte u) (λ b. got (m * 256 + b)))
    last m [] h = tt
    last m (b ∷ u) h = record {
      size = let a = h.size in let e = length_number w m [] in let f = length_number (suc w) (m * 256 + b) [] in omega arith;
      same = λ l.
          let low : b < 256 = starts_bytes h l b (here refl) in
          let q : m ≡ (m * 256 + b) / 256 = omega arith in
          let r : b ≡ (m * 256 + b) % 256 = omega arith in
          h.same l ∙ number_append w m [] (b ∷ u) ∙ (λ i. write_number w (q i) (r i ∷ u)) ∙ sym (number_append (suc w) (m * 256 + b) [] u);
    }

reads_number : (w : ℕ) (s : List ℕ) → Reads (Counts (wide w) s) (number w s)
unfolding number
reads_number w s = reads_from w 0 s

reads_byte : (s : List ℕ) → Reads (Counts (λ n. n ∷ []) s) (number 1 s)
unfolding number byte
reads_byte [] = tt
reads_byte (b ∷ s) = let e : b ≡ 0 * 256 + b = omega arith in starts ((0 * 256 + b) ∷ []) s (ap (λ (z : ℕ). z ∷ s) e)

-- ---- lists
module _ {A : Type 0} (P : A → Type 0) (f : A → List ℕ) (p : Reader A) (ok : (s : List ℕ) → Reads (Took P f s) (p s)) where
  abbrev Several : ℕ → List ℕ → List A → List ℕ → Type 0
  Several n s l u = (length l ≡ n) × ((x : A) → In x l → P x) × Starts s (flat f l) u

  reads_many : (n : ℕ) (s : List ℕ) → Reads (Several n s) (many p n s)
  reads_many zero s = (refl, (λ x m. absurd (in_nil m)), starts [] s refl)
  reads_many (suc n) s =
      reads_then (Took P f s) (Several (suc n) s) (p s) _ (ok s) (λ a t h.
      reads_then (Several n t) (Several (suc n) s) (many p n t) _ (reads_many n t) (λ l u e.
      (ap suc e.0, each_cons P a l h.0 e.1, starts_then h.1 e.2)))

  -- after a count of w bytes
  reads_counted : (w most : ℕ) (count : ℕ → List ℕ) → ((s : List ℕ) → Reads (Counts count s) (number w s))
      → (s : List ℕ) → Reads (Took (AtMost most P) (λ l. count (length l) ++ flat f l) s) (counted w most p s)
  unfolding counted
  reads_counted w most count num s =
      reads_then (Counts count s) Q (number w s) _ (num s) (λ n t h.
      reads_given Q (leb n most) (many p n) t (λ le. reads_as (Several n t) Q (many p n t) (λ l u e.
      ((subst (λ (z : ℕ). z ≤ most) (sym e.0) (leb→le n most le), e.1), starts_then (subst (λ (z : ℕ). Counts count s z t) (sym e.0) h) e.2))
      (reads_many n t)))
    where
      Q : List A → List ℕ → Type 0
      Q = Took (AtMost most P) (λ l. count (length l) ++ flat f l) s

-- ---- an AID, exactly
abbrev AidAt : List ℕ → Aid → List ℕ → Type 0
AidAt s a u = ValidAid a × (s ≡ aid_bytes a ++ u)

reads_aid_at : (s : List ℕ) → Reads (AidAt s) (aid s)
unfolding aid byte bytes
reads_aid_at [] = tt
reads_aid_at (n ∷ s) =
    reads_then (λ a u. n ∷ s ≡ aid_bytes a ++ u) (AidAt (n ∷ s)) (bytes n s) _
    (reads_given (λ a u. n ∷ s ≡ aid_bytes a ++ u) (leb n (length s)) (λ t. got (take n t) (drop n t)) s
    (λ h i. sym (length-take-le n s (leb→le n (length s) h)) i ∷ sym (take-append-drop n s) i))
    (λ a t e. reads_given (AidAt (n ∷ s)) (valid_aid a) (done a) t (λ v. (v, e)))

reads_aid : (s : List ℕ) → Reads (Took ValidAid aid_bytes s) (aid s)
reads_aid s = reads_as (AidAt s) (Took ValidAid aid_bytes s) (aid s) (λ a u h. (h.0, starts (aid_bytes a) u h.1)) (reads_aid_at s)

-- ---- what follows the first AID, by kind
abbrev All : {A : Type 0} → (ℕ → A → Type 0) → List A → Type 0
All P [] = Unit {0}
All P (x ∷ l) = P 0 x × All (λ k. P (suc k)) l

all_get_d : {A : Type 0} (P : ℕ → A → Type 0) (l : List A) (d : A) → All P l → ((k : ℕ) → P k d) → (k : ℕ) → P k (get_or l k d)
all_get_d P [] d h e k = e k
all_get_d P (x ∷ l) d h e zero = h.0
all_get_d P (x ∷ l) d h e (suc k) = all_get_d (λ k. P (suc k)) l d h.1 (λ k. e (suc k)) k

module _ (L : Layout) where
  -- 'The token reading promises that range.'
  reads_tokens : (s : List ℕ) → Reads (Took (ValidTok L) write_tok s) (valid_tokens L s)
  unfolding valid_tokens tokens byte
  reads_tokens [] = tt
  reads_tokens (i ∷ []) = tt
  reads_tokens (i ∷ m ∷ s) =
      let k : Tok = record { itf = i; mth = m } in
      reads_given (Took (ValidTok L) write_tok (i ∷ m ∷ s)) (valid_tok L k) (done k) s (λ v. (v, starts (i ∷ m ∷ []) s refl))

  reads_row : (s : List ℕ) → Reads (Took (ValidRow L) row_bytes s) (valid_row L s)
  unfolding row_of
  reads_row s =
      reads_then (Took ValidAid aid_bytes s) (Took (ValidRow L) row_bytes s) (aid s) _ (reads_aid s) (λ a t h.
      reads_then (Took (ValidTok L) write_tok t) (Took (ValidRow L) row_bytes s) (valid_tokens L t) _ (reads_tokens t) (λ k u e. ((h.0, e.0), starts_then h.1 e.1)))

  -- a change of kind k, read from s
  abbrev Changes : ℕ → List ℕ → Change → List ℕ → Type 0
  Changes k s c u = (kind_of c ≡ k) × Took (WithinChange L) (change_bytes L) s c u

  abbrev ReadsChange : ℕ → Reader Change → Type 0
  ReadsChange k p = (s : List ℕ) → Reads (Changes k s) (p s)

  abbrev Rows : List ℕ → List Row → List ℕ → Type 0
  Rows = Took (AtMost L.most_rows (ValidRow L)) (rows_bytes L)

  reads_rows : (s : List ℕ) → Reads (Rows s) (row_list L s)
  reads_rows s =
      subst (λ (f : List Row → List ℕ). Reads (Took (AtMost L.most_rows (ValidRow L)) f s) (row_list L s)) (λ i l. number_append L.count_width (length l) [] (flat row_bytes l) i)
      (reads_counted (ValidRow L) row_bytes (valid_row L) reads_row L.count_width L.most_rows (wide L.count_width) (reads_number L.count_width) s)

  -- kinds 1 and 11
  reads_contract : (k : ℕ) (f : List Tok → List Row → List Row → List Row → Change)
      → ((p : List Tok) (c g n : List Row) (s u : List ℕ) → WithinContract L p c g n × Starts s (contract_bytes L p c g n) u → Changes k s (f p c g n) u)
      → ReadsChange k (a_contract L f)
  unfolding a_contract
  reads_contract k f is s =
      reads_then (Took (AtMost L.services (ValidTok L)) (λ l. length l ∷ flat write_tok l) s) (Changes k s) (counted 1 L.services (valid_tokens L) s) _
      (reads_counted (ValidTok L) write_tok (valid_tokens L) reads_tokens 1 L.services (λ n. n ∷ []) reads_byte s) (λ p t hp.
      reads_then (Rows t) (Changes k s) (row_list L t) _ (reads_rows t) (λ c u hc.
      reads_then (Rows u) (Changes k s) (row_list L u) _ (reads_rows u) (λ g v hg.
      reads_then (Rows v) (Changes k s) (row_list L v) _ (reads_rows v) (λ n w hn.
      is p c g n s w ((hp.0, hc.0, hg.0, hn.0), starts_then hp.1 (starts_then hc.1 (starts_then hg.1 hn.1)))))))

  reads_service : ReadsChange 3 (a_service L)
  unfolding a_service
  reads_service s =
      reads_then (Took (ValidTok L) write_tok s) (Changes 3 s) (valid_tokens L s) _ (reads_tokens s) (λ k t h.
      reads_then (Took (AtMost L.most_callers ValidAid) (λ l. length l ∷ flat aid_bytes l) t) (Changes 3 s) (counted 1 L.most_callers aid t) _
      (reads_counted ValidAid aid_bytes aid reads_aid 1 L.most_callers (λ n. n ∷ []) reads_byte t) (λ l u e. (refl, ((h.0, e.0), starts_then h.1 e.1))))

  -- kinds 5 to 10
  reads_one : (k : ℕ) (f : Row → Change) → ((r : Row) (s u : List ℕ) → Took (ValidRow L) row_bytes s r u → Changes k s (f r) u) → ReadsChange k (valid_row L >>= λ r. done (f r))
  reads_one k f h s = reads_then (Took (ValidRow L) row_bytes s) (Changes k s) (valid_row L s) _ (reads_row s) (λ r u. h r s u)

  reads_kinds : All ReadsChange (kinds L)
  reads_kinds = (
    (λ s. tt),
    (
      reads_contract 1 load (λ p c g n s u h. (refl, h)),
      (
        (λ s. (refl, (tt, starts [] s refl))),
        (
          reads_service,
          (
            (λ s. reads_then (Took (ValidTok L) write_tok s) (Changes 4 s) (valid_tokens L s) _ (reads_tokens s) (λ k t h. (refl, h))),
            (
              reads_one 5 add_call (λ r s u h. (refl, h)),
              (
                reads_one 6 remove_call (λ r s u h. (refl, h)),
                (
                  reads_one 7 add_grant (λ r s u h. (refl, h)),
                  (
                    reads_one 8 remove_grant (λ r s u h. (refl, h)),
                    (
                      reads_one 9 add_need (λ r s u h. (refl, h)),
                      (reads_one 10 remove_need (λ r s u h. (refl, h)), (reads_contract 11 replace (λ p c g n s u h. (refl, h)), tt)),
                    ),
                  ),
                ),
              ),
            ),
          ),
        ),
      ),
    ),
  )

  -- of a kind that is read
  reads_change : (k : ℕ) (s : List ℕ) → Reads (λ c u. T (L.reads k) × Changes k s c u) (change L k s)
  unfolding change
  reads_change k s =
      let reader = get_or (kinds L) k (λ s. bad) in
      reads_given (λ c u. T (L.reads k) × Changes k s c u) (L.reads k) reader s
      (λ on. reads_as (Changes k s) (λ c u. T (L.reads k) × Changes k s c u) (reader s) (λ c u h. (on, h)) (all_get_d ReadsChange (kinds L) (λ s. bad) reads_kinds (λ k s. tt) k s))

  -- ---- the whole record: q was read from s, of l bytes by its head, and u follows
  record Facts (l : ℕ) (s : List ℕ) (q : Request) (u : List ℕ) : Type 0 where
    first : q.aid ≡ take (length q.aid) (drop 5 s)
    within : Within L q
    is_read : T (L.reads (kind_of q.change))
    written : Starts s (write_number 2 l (L.version ∷ kind_of q.change ∷ body_bytes L q)) u
    two_bytes : Bytes s → l < 256 ^ 2

  reads_fields : (l : ℕ) (s : List ℕ) → Reads (Facts l s) (fields L l s)
  unfolding fields number byte
  reads_fields l [] = tt
  reads_fields l (h ∷ []) = tt
  reads_fields l (h ∷ x ∷ []) = tt
  reads_fields l (h ∷ x ∷ v ∷ []) = tt
  reads_fields l (h ∷ x ∷ v ∷ k ∷ s) =
      reads_then (λ a t. AidAt s a t × T test) (Facts l all) (given test aid s) _
      (reads_given (λ a t. AidAt s a t × T test) test aid s (λ e. reads_as (AidAt s) (λ a t. AidAt s a t × T test) (aid s) (λ a t ha. (ha, e)) (reads_aid_at s)))
      (λ a t ha. reads_then (λ c u. T (L.reads k) × Changes k t c u) (Facts l all) (change L k t) _ (reads_change k t) (λ c u (on, hc).
      let eq : n ≡ l = eqb→eq n l (and_l (eqb n l) (eqb v L.version) ha.1) in
      let ver : v ≡ L.version = eqb→eq v L.version (and_r (eqb n l) (eqb v L.version) ha.1) in
      let head : Starts (v ∷ k ∷ s) (L.version ∷ kind_of c ∷ aid_bytes a) t = starts (L.version ∷ kind_of c ∷ aid_bytes a) t (λ i. ver i ∷ sym hc.0 i ∷ ha.0.1 i) in
      record {
        first = sym (take-append_seam a t) ∙ ap (λ (z : List ℕ). take (length a) (drop 1 z)) (sym ha.0.1);
        within = (ha.0.0, hc.1.0);
        is_read = subst (λ (z : ℕ). T (L.reads z)) (sym hc.0) on;
        written = starts_then (subst (λ (z : ℕ). Starts all (wide 2 z) (v ∷ k ∷ s)) eq (reads_number 2 all)) (starts_then head hc.1.1);
        two_bytes = λ b. let p = b h (here refl) in let q = b x (there (here refl)) in omega arith;
      }))
    where
      n : ℕ
      n = (0 * 256 + h) * 256 + x

      test : Bool
      test = eqb n l && eqb v L.version

      all : List ℕ
      all = h ∷ x ∷ v ∷ k ∷ s

  -- nothing follows
  parsed : (s : List ℕ) (q : Request) → parse L s ≡ some q → Facts (length s) s q []
  unfolding parse
  parsed s q e = subst (Parses (λ q. Facts (length s) s q [])) e (reads_whole (Facts (length s) s) (fields L (length s) s) (reads_fields (length s) s))

  module _ (s : List ℕ) (q : Request) (e : parse L s ≡ some q) where
    pub parsed_within : Within L q
    parsed_within = (parsed s q e).within

    pub parsed_kind : T (L.reads (kind_of q.change))
    parsed_kind = (parsed s q e).is_read

    abbrev after : List ℕ
    after = L.version ∷ kind_of q.change ∷ body_bytes L q

    parsed_size : length s ≡ 4 + length (body_bytes L q)
    parsed_size = let h = (parsed s q e).written.size in let n = length_number 2 (length s) after in omega arith

    pub parsed_length : length s ≡ length (record_bytes L q)
    parsed_length = let h = parsed_size in let n = length_number 2 (4 + length (body_bytes L q)) after in omega arith

  pub read_written : ReadWritten L
  read_written s q b e =
      let h = parsed s q e in (
        h.written.same b ∙ append-nil _ ∙ ap (λ (z : ℕ). write_number 2 z (after s q e)) (parsed_size s q e),
        (h.within, h.is_read, subst (λ (z : ℕ). z < 256 ^ 2) (parsed_length s q e) (h.two_bytes b)),
      )

-- ---- the first AID
pub first_aid_part : (L : Layout) → FirstAidPart L
unfolding first_aid
first_aid_part L s = (λ e. part e, λ q e. let h = parsed L s q e in (part e, h.first, h.within.0))
  where
    part : {o : Option Request} → parse L s ≡ o → first_aid L s ≡ or_else o [] (λ q. q.aid)
    part e = ap (λ (z : Option Request). or_else z [] (λ q. q.aid)) e
