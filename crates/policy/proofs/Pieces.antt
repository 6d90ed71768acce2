-- Pieces of one width, written one after another, are read back one by one; the places of AIDs, tokens and rows of lists.
use Prim.Native.Nat.{ℕ, zero, suc, ◌+◌, ◌*◌, ◌-◌, ◌≤◌, ◌<◌}
use native.Mathlib.Omega.{arith}
use native.Mathlib.Nat.{le_of_suc-le-suc, not-suc-le-zero, zero-mul, suc-mul, mul-le-mul_right, zero-add, le_trans, le_of_eq, add-mul, add-sub_of_le}
use native.Mathlib.Numerals.{one-add}
use mathlib.Core.Path.{◌≡◌, refl, sym, ap, ◌∙◌}
use mathlib.Core.Logic.{◌⊎◌, inl, inr}
use mathlib.Core.Bool.{Bool, true, false, cond}
use mathlib.Core.List.{List, [], ◌∷◌, ◌++◌, map, append_assoc, append-nil}
use mathlib.Core.List.Memᴰ.{head as here}
use mathlib.Core.List.Memᴰ.{tail as there}
use mathlib.Core.List.{Memᴰ as In}
use lib.Dec.{T, leb, leb→le, ltb, ltb→lt, nltb→le}
use lib.ListN.{length, get_or, take, drop, replicate, length-append, length-map, length-replicate, replicate-append-replicate, get_or-eq_default}
use lib.Seq.{take_at, drop_at, drop-drop}
use Rattle.policy.specs.Lists.{flat, from, upto}
use Rattle.policy.specs.Contract.{Aid, Tok, valid_aid}
use Rattle.policy.specs.Layout.{Layout, waiting_size}
use Rattle.policy.specs.Tables.{Unmet, Waiting, pieces, read_aid, write_aid, read_tok, write_tok, read_unmet, write_unmet, number_with, read_waiting, write_waiting, read_list, write_list}
use Rattle.policy.proofs.Sets.{T_true, and_r, test, not_i, length_from, upto_in}

-- ---- one piece for each element of a list
module _ {A : Type 0} (g : A → List ℕ) (w : ℕ) where
  pub length_flat : (l : List A) → ((x : A) → In x l → length (g x) ≡ w) → length (flat g l) ≡ length l * w
  length_flat [] h = omega arith
  length_flat (x ∷ l) h = length-append (g x) (flat g l) ∙ rw (h x (here refl), length_flat l (λ y m. h y (there m)), suc-mul (length l) w) (omega arith)

  pieces_flat : (l : List A) (rest : List ℕ) → ((x : A) → In x l → length (g x) ≡ w) → pieces w (length l) (flat g l ++ rest) ≡ map g l
  pieces_flat [] rest h = refl
  pieces_flat (x ∷ l) rest h =
      let q = append_assoc (g x) (flat g l) rest in
      let e = h x (here refl) in
      λ i. (ap (take w) q ∙ take_at (g x) (flat g l ++ rest) w e) i
      ∷ (ap (pieces w (length l)) (ap (drop w) q ∙ drop_at (g x) (flat g l ++ rest) w e) ∙ pieces_flat l rest (λ y m. h y (there m))) i

-- ---- one piece for each number below n
pub in_or_off : (k n : ℕ) → (k < n) ⊎ (n ≤ k)
in_or_off k n = go (test (ltb k n))
  where
    go : T (ltb k n) ⊎ (T (ltb k n) → ⊥) → (k < n) ⊎ (n ≤ k)
    go (inl t) = inl (ltb→lt k n t)
    go (inr f) = inr (nltb→le k n (not_i (ltb k n) f))

get_d_from : {A : Type 0} (f : ℕ → A) (i n k : ℕ) (d : A) → k < n → get_or (map f (from i n)) k d ≡ f (i + k)
get_d_from f i zero k d h = absurd (not-suc-le-zero h)
get_d_from f i (suc n) zero d h = let e : i ≡ i + zero = omega arith in ap f e
get_d_from f i (suc n) (suc k) d h = let e : suc i + k ≡ i + suc k = omega arith in get_d_from f (suc i) n k d (le_of_suc-le-suc h) ∙ ap f e

get_d_map : {A B : Type 0} (f : A → B) (l : List A) (k : ℕ) (d : A) (e : B) → k < length l → get_or (map f l) k e ≡ f (get_or l k d)
get_d_map f [] k d e h = absurd (not-suc-le-zero h)
get_d_map f (x ∷ l) zero d e h = refl
get_d_map f (x ∷ l) (suc k) d e h = get_d_map f l k d e (le_of_suc-le-suc h)

pub length_pieces : (w n : ℕ) (bs : List ℕ) → length (pieces w n bs) ≡ n
length_pieces w zero bs = refl
length_pieces w (suc n) bs = ap suc (length_pieces w n (drop w bs))

-- piece k of n stands k widths on, and ends within them all
pub piece_part : (w n : ℕ) (l : List ℕ) (k : ℕ) → k < n → get_or (pieces w n l) k [] ≡ take w (drop (k * w) l)
piece_part w zero l k h = absurd (not-suc-le-zero h)
piece_part w (suc n) l zero h = rw zero-mul
piece_part w (suc n) l (suc k) h =
    let e : w + k * w ≡ suc k * w = rw suc-mul (omega arith) in
    piece_part w n (drop w l) k (le_of_suc-le-suc h) ∙ ap (take w) (drop-drop (k * w) w l ∙ ap (λ (x : ℕ). drop x l) e)

pub row_ends : (k n w : ℕ) → k < n → k * w + w ≤ n * w
row_ends k n w h = rw (← suc-mul) (mul-le-mul_right w h)

module _ (f : ℕ → List ℕ) (w n : ℕ) (h : (i : ℕ) → i < n → length (f i) ≡ w) where
  pub length_table : length (flat f (upto n)) ≡ n * w
  length_table = length_flat f w (upto n) (λ i m. h i (upto_in n m)) ∙ ap (λ (z : ℕ). z * w) (length_from 0 n)

  -- piece k of bytes that begin with the table, and of the table alone
  pub piece_at : (bs rest : List ℕ) → bs ≡ flat f (upto n) ++ rest → (k : ℕ) → k < n → get_or (pieces w n bs) k [] ≡ f k
  piece_at bs rest e k lt =
      let q : pieces w n (flat f (upto n) ++ rest) ≡ map f (upto n) = rw length_from at (pieces_flat f w (upto n) rest (λ i m. h i (upto_in n m))) in
      ap (λ (z : List (List ℕ)). get_or z k []) (ap (pieces w n) e ∙ q) ∙ get_d_from f 0 n k [] lt ∙ ap f (zero-add k)

  pub piece_only : (k : ℕ) → k < n → get_or (pieces w n (flat f (upto n))) k [] ≡ f k
  piece_only = piece_at (flat f (upto n)) [] (sym (append-nil (flat f (upto n))))

-- a piece read by r, and none past the n-th
module _ (w n : ℕ) (bs : List ℕ) where
  pub piece_off : (k : ℕ) → n ≤ k → get_or (pieces w n bs) k [] ≡ []
  piece_off k le = get_or-eq_default (pieces w n bs) [] (le_trans (le_of_eq (length_pieces w n bs)) le)

  module _ {A : Type 0} (r : List ℕ → A) (d : A) (k : ℕ) where
    pub read_at : k < n → get_or (map r (pieces w n bs)) k d ≡ r (get_or (pieces w n bs) k [])
    read_at lt = get_d_map r (pieces w n bs) k [] d (le_trans lt (le_of_eq (sym (length_pieces w n bs))))

    pub read_off : n ≤ k → get_or (map r (pieces w n bs)) k d ≡ d
    read_off le = get_or-eq_default (map r (pieces w n bs)) d (le_trans (le_of_eq (length-map (pieces w n bs) r ∙ length_pieces w n bs)) le)

-- ---- a list with its count, and zeros up to its capacity
module _ (L : Layout) {A : Type 0} (g : A → List ℕ) (w : ℕ) (l : List A) (h : (x : A) → In x l → length (g x) ≡ w) where
  abbrev fill : ℕ
  fill = (L.capacity - length l) * w

  pub length_list : length l ≤ L.capacity → length (write_list L g w l) ≡ 1 + L.capacity * w
  length_list le =
      let e : length l * w + fill ≡ L.capacity * w = sym (add-mul (length l) (L.capacity - length l) w) ∙ ap (λ (z : ℕ). z * w) (add-sub_of_le le) in
      ap suc (length-append (flat g l) (replicate fill 0) ∙ rw (length_flat g w l h, length-replicate) e) ∙ sym (one-add (L.capacity * w))

  pub read_list_lem : (f : List ℕ → A) → ((x : A) → In x l → f (g x) ≡ x) → (bs rest : List ℕ) → bs ≡ write_list L g w l ++ rest → read_list f w bs ≡ l
  read_list_lem f back bs rest q =
      ap (read_list f w) (q ∙ ap (λ (z : List ℕ). length l ∷ z) (append_assoc (flat g l) (replicate fill 0) rest))
      ∙ ap (map f) (pieces_flat g w l (replicate fill 0 ++ rest) h) ∙ each l back
    where
      each : (l : List A) → ((x : A) → In x l → f (g x) ≡ x) → map f (map g l) ≡ l
      each [] e = refl
      each (x ∷ l) e = λ i. e x (here refl) i ∷ each l (λ y m. e y (there m)) i

-- ---- single places
-- a valid AID has room in its place
pub valid_short : (a : Aid) → T (valid_aid a) → length a ≤ 16
valid_short a t = leb→le (length a) 16 (and_r (leb 5 (length a)) (leb (length a) 16) t)

pub length_aid : (a : Aid) → length a ≤ 16 → length (write_aid a) ≡ 17
length_aid a h = ap suc (length-append a (replicate (16 - length a) 0) ∙ rw length-replicate (omega arith))

pub read_aid_lem : (a : Aid) → read_aid (write_aid a) ≡ a
read_aid_lem a = take_at a (replicate (16 - length a) 0) (length a) refl

module _ (u : Unmet) (h : length u.callee ≤ 16) where
  abbrev after : List ℕ
  after = write_tok u.tok ++ (u.caller ∷ [])

  pub length_unmet : length (write_unmet u) ≡ 20
  length_unmet = length-append (write_aid u.callee) after ∙ rw (length_aid u.callee h) refl

  pub read_unmet_lem : read_unmet (write_unmet u) ≡ u
  read_unmet_lem =
      let q = drop_at (write_aid u.callee) after 17 (length_aid u.callee h) in
      λ i. record {
        callee = (ap read_aid (take_at (write_aid u.callee) after 17 (length_aid u.callee h)) ∙ read_aid_lem u.callee) i;
        tok = ap read_tok q i;
        caller = ap (λ (z : List ℕ). get_or z 2 0) q i;
      }

-- a row of waiting grants: its AID, its callee, and what stands for its service
module _ (v : Waiting) (h : length v.caller ≤ 16) (last : List ℕ) where
  abbrev rest : List ℕ
  rest = v.callee ∷ last

  length_wait : length (write_aid v.caller ++ rest) ≡ 18 + length last
  length_wait = length-append (write_aid v.caller) rest ∙ rw (length_aid v.caller h) (omega arith)

  wait_caller : read_aid (take 17 (write_aid v.caller ++ rest)) ≡ v.caller
  wait_caller = ap read_aid (take_at (write_aid v.caller) rest 17 (length_aid v.caller h)) ∙ read_aid_lem v.caller

  wait_rest : drop 17 (write_aid v.caller ++ rest) ≡ rest
  wait_rest = drop_at (write_aid v.caller) rest 17 (length_aid v.caller h)

module _ (L : Layout) (provides : ℕ → ℕ → Bool) (tok : ℕ → ℕ → Tok) (v : Waiting) (h : length v.caller ≤ 16) where
  -- what stands for the service, by whether it is its tokens
  abbrev named : Bool → List ℕ
  named b = cond b (write_tok v.tok) (number_with L (provides v.callee) (tok v.callee) v.tok ∷ [])

  pub length_waiting : length (write_waiting L provides tok v) ≡ waiting_size L
  length_waiting = length_wait v h (named L.early) ∙ go L.early
    where
      go : (b : Bool) → 18 + length (named b) ≡ cond b 20 19
      go true = refl
      go false = refl

  -- the service with these tokens has a number, where a number stands for it
  abbrev Numbered : Type 0
  Numbered = (T L.early → ⊥) → tok v.callee (number_with L (provides v.callee) (tok v.callee) v.tok) ≡ v.tok

  pub read_waiting_lem : Numbered → read_waiting L tok (write_waiting L provides tok v) ≡ v
  read_waiting_lem n = λ i. record {
    caller = wait_caller v h (named L.early) i;
    callee = ap (λ (z : List ℕ). get_or z 0 0) (wait_rest v h (named L.early)) i;
    tok = (ap (λ (z : List ℕ). cond L.early (read_tok (drop 1 z)) (tok (get_or z 0 0) (get_or z 1 0))) (wait_rest v h (named L.early)) ∙ go L.early n) i;
  }
    where
      go : (b : Bool) → ((T b → ⊥) → tok v.callee (number_with L (provides v.callee) (tok v.callee) v.tok) ≡ v.tok)
          → cond b (read_tok (named b)) (tok v.callee (get_or (v.callee ∷ named b) 1 0)) ≡ v.tok
      go true f = refl
      go false f = f (λ x. x)

-- where tokens stand for the service a row is read and written by itself: what the code of the cards in force uses
module _ (L : Layout) (early : T L.early) where
  pub early_size : waiting_size L ≡ 20
  early_size = ap (λ (b : Bool). cond b 20 19) (T_true L.early early)

  pub early_write : (provides : ℕ → ℕ → Bool) (tok : ℕ → ℕ → Tok) (w : Waiting) → write_waiting L provides tok w ≡ write_aid w.caller ++ (w.callee ∷ write_tok w.tok)
  early_write provides tok w = λ i.
      write_aid w.caller
      ++ (w.callee ∷ cond (T_true L.early early i) (write_tok w.tok) (number_with L (provides w.callee) (tok w.callee) w.tok ∷ []))

-- ---- nothing but zeros
abbrev pub Zeros : List ℕ → Type 0
Zeros l = l ≡ replicate (length l) 0

pub zeros_append : {p q : List ℕ} → Zeros p → Zeros q → Zeros (p ++ q)
zeros_append {p} {q} d e = (λ i. d i ++ e i) ∙ replicate-append-replicate (length p) (length q) 0 ∙ ap (λ (z : ℕ). replicate z 0) (sym (length-append p q))

pub zeros_flat : {A : Type 0} (g : A → List ℕ) (l : List A) → ((x : A) → Zeros (g x)) → Zeros (flat g l)
zeros_flat g [] h = refl
zeros_flat g (x ∷ l) h = zeros_append (h x) (zeros_flat g l h)

pub zeros_list : (L : Layout) {A : Type 0} (g : A → List ℕ) (w : ℕ) → Zeros (write_list L g w [])
zeros_list L g w = ap (λ (z : ℕ). 0 ∷ replicate z 0) (sym (length-replicate ((L.capacity - 0) * w) 0))
