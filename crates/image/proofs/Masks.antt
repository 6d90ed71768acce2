-- Masks: which elements of a list pass a test, as the bits of a number; and the loop that gathers one, from the last element to the first.
use Prim.Native.Nat.{ℕ, suc, ◌+◌, ◌-◌, ◌*◌, ◌/◌, ◌%◌, ◌^◌, ◌≤◌, ◌<◌, suc-le-suc}
use native.Mathlib.Omega.{arith}
use native.Mathlib.Nat.{pow-succ', lt_of_lt_of_le, zero-add, add-zero, add-suc, suc-add}
use native.Mathlib.Numerals.{one-add}
use mathlib.Core.Path.{◌≡◌, refl, sym, ap, ap₂, ◌∙◌}
use mathlib.Core.Bool.{Bool, true, false, not, ◌&&◌, ◌||◌, cond}
use mathlib.Core.List.Memᴰ.{head as here}
use mathlib.Core.List.Memᴰ.{tail as there}
use mathlib.Core.List.{Memᴰ as In}
use mathlib.Core.List.{List, [], ◌∷◌}
use lib.ListN.{length, get_or, drop, length-drop}
use lib.Seq.{drop-cons}
use lib.Pow.{pow_mono}
use lib.Bits.{bit_and, bit_or, and_lt, or_lt}
use lib.Count.{ones, ones_step}
use mir.Syntax.{w32}
use mir.Val.{bool_byte, Fits}
use Rattle.policy.specs.Lists.{exists, keep, upto}
use Rattle.policy.specs.Tables.{bit, row_of}
use Rattle.policy.proofs.Bits.{row_of_lt, bit_row_of}
use Rattle.bits.proofs.Row.{bit_and_lem, bit_or_lem, bit_ext, ones_count}
use Rattle.rows.specs.Area.{keep_from, keep_rows}
use Rattle.image.specs.Read.{mask_of}

ones_none : ones 0 ≡ 0
unfolding ones
ones_none = refl

ones_next : (c m : ℕ) → c < 2 → ones (c + 2 * m) ≡ c + ones m
ones_next c m h =
    let p : (c + 2 * m) % 2 ≡ c = omega arith in
    let q : (c + 2 * m) / 2 ≡ m = omega arith in
    ones_step (c + 2 * m) ∙ ap₂ (λ (x y : ℕ). x + ones y) p q

module _ {A : Type 0} (f : A → Bool) where
  -- the row of bits of the places that pass
  mask_row : (l : List A) (d : A) → mask_of f l ≡ row_of (length l) (λ k. f (get_or l k d))
  unfolding row_of
  mask_row [] d = refl
  mask_row (x ∷ l) d = let e = mask_row l d in omega arith

  pub mask_lt : (l : List A) → mask_of f l < 2 ^ length l
  mask_lt [] = omega arith
  mask_lt (x ∷ l) = rw (mask_row (x ∷ l) x) (row_of_lt (length (x ∷ l)) (λ k. f (get_or (x ∷ l) k x)))

  -- bit r is whether the r-th passes
  pub mask_bit : (l : List A) (r : ℕ) (d : A) → r < length l → bit (mask_of f l) r ≡ f (get_or l r d)
  mask_bit l r d h = ap (λ (m : ℕ). bit m r) (mask_row l d) ∙ bit_row_of (length l) (λ k. f (get_or l k d)) r h

  -- ---- none passes
  pub mask_zero : (l : List A) → exists f l ≡ false → mask_of f l ≡ 0
  mask_zero [] e = refl
  mask_zero (x ∷ l) e = go (f x) e (mask_zero l)
    where
      go : (b : Bool) → b || exists f l ≡ false → (exists f l ≡ false → mask_of f l ≡ 0) → cond b 1 0 + 2 * mask_of f l ≡ 0
      go true e h = let z : ◌≡◌ {A = ℕ} 0 1 = cc in absurd (omega arith)
      go false e h = let z = h e in omega arith

  pub zero_mask : (l : List A) → mask_of f l ≡ 0 → exists f l ≡ false
  zero_mask [] e = refl
  zero_mask (x ∷ l) e = go (f x) e (zero_mask l)
    where
      go : (b : Bool) → cond b 1 0 + 2 * mask_of f l ≡ 0 → (mask_of f l ≡ 0 → exists f l ≡ false) → b || exists f l ≡ false
      go true e h = absurd (omega arith)
      go false e h = h (omega arith)

  -- ---- how many pass
  mask_ones : (l : List A) → ones (mask_of f l) ≡ length (keep f l)
  mask_ones [] = ones_none
  mask_ones (x ∷ l) = go (f x) (mask_ones l)
    where
      go : (b : Bool) → ones (mask_of f l) ≡ length (keep f l) → ones (cond b 1 0 + 2 * mask_of f l) ≡ length (cond b (x ∷ keep f l) (keep f l))
      go true e = ones_next 1 (mask_of f l) (omega arith) ∙ ap (λ (n : ℕ). 1 + n) e ∙ one-add (length (keep f l))
      go false e = ones_next 0 (mask_of f l) (omega arith) ∙ zero-add (ones (mask_of f l)) ∙ e

  pub mask_count : (l : List A) → length l ≤ 32 → length (keep (bit (mask_of f l)) (upto 32)) ≡ length (keep f l)
  mask_count l h = sym (ones_count 32 (mask_of f l) (lt_of_lt_of_le (mask_lt l) (pow_mono h))) ∙ mask_ones l

  -- ---- what is left where those that pass are dropped
  keep_from_lem : (k m : ℕ) (l : List A) → ((r : ℕ) (d : A) → r < length l → bit m (k + r) ≡ f (get_or l r d)) → keep_from k m l ≡ keep (λ x. not (f x)) l
  keep_from_lem k m [] h = refl
  keep_from_lem k m (x ∷ l) h =
      let e : bit m k ≡ f x = ap (bit m) (sym (add-zero k)) ∙ h 0 x (omega arith) in
      ap₂ (λ (b : Bool) (t : List A). cond b t (x ∷ t)) e (keep_from_lem (suc k) m l (λ r d p. ap (bit m) (suc-add k r ∙ sym (add-suc k r)) ∙ h (suc r) d (suc-le-suc p))) ∙ go (f x) (keep (λ y. not (f y)) l)
    where
      go : (b : Bool) (t : List A) → cond b t (x ∷ t) ≡ cond (not b) (x ∷ t) t
      go true t = refl
      go false t = refl

  pub keep_mask : (l : List A) → keep_rows (mask_of f l) l ≡ keep (λ x. not (f x)) l
  keep_mask l = keep_from_lem 0 (mask_of f l) l (λ r d h. ap (bit (mask_of f l)) (zero-add r) ∙ mask_bit l r d h)

-- the same pass
pub mask_ext : {A : Type 0} (f g : A → Bool) (l : List A) → ((x : A) → In x l → f x ≡ g x) → mask_of f l ≡ mask_of g l
mask_ext f g [] h = refl
mask_ext f g (x ∷ l) h = ap₂ (λ (b : Bool) (m : ℕ). cond b 1 0 + 2 * m) (h x (here refl)) (mask_ext f g l (λ y m. h y (there m)))

-- both pass
pub mask_and : {A : Type 0} (f g : A → Bool) (l : List A) → bit_and (mask_of f l) (mask_of g l) ≡ mask_of (λ x. f x && g x) l
mask_and f g [] = refl
mask_and f g (x ∷ l) =
    bit_ext (length (x ∷ l)) (bit_and (mask_of f (x ∷ l)) (mask_of g (x ∷ l))) (mask_of (λ y. f y && g y) (x ∷ l))
    (and_lt (length (x ∷ l)) (mask_of f (x ∷ l)) (mask_of g (x ∷ l)) (mask_lt f (x ∷ l)) (mask_lt g (x ∷ l))) (mask_lt (λ y. f y && g y) (x ∷ l))
    (λ k h. bit_and_lem (mask_of f (x ∷ l)) (mask_of g (x ∷ l)) k ∙ ap₂ ◌&&◌ (mask_bit f (x ∷ l) k x h) (mask_bit g (x ∷ l) k x h) ∙ sym (mask_bit (λ y. f y && g y) (x ∷ l) k x h))

-- one passes
pub mask_or : {A : Type 0} (f g : A → Bool) (l : List A) → bit_or (mask_of f l) (mask_of g l) ≡ mask_of (λ x. f x || g x) l
mask_or f g [] = refl
mask_or f g (x ∷ l) =
    bit_ext (length (x ∷ l)) (bit_or (mask_of f (x ∷ l)) (mask_of g (x ∷ l))) (mask_of (λ y. f y || g y) (x ∷ l))
    (or_lt (length (x ∷ l)) (mask_of f (x ∷ l)) (mask_of g (x ∷ l)) (mask_lt f (x ∷ l)) (mask_lt g (x ∷ l))) (mask_lt (λ y. f y || g y) (x ∷ l))
    (λ k h. bit_or_lem (mask_of f (x ∷ l)) (mask_of g (x ∷ l)) k ∙ ap₂ ◌||◌ (mask_bit f (x ∷ l) k x h) (mask_bit g (x ∷ l) k x h) ∙ sym (mask_bit (λ y. f y || g y) (x ∷ l) k x h))

-- ---- the loop: m is the mask of the elements from r on
module _ {A : Type 0} (f : A → Bool) (l : List A) (r m : ℕ) (e : m ≡ mask_of f (drop r l)) where
  module _ (h : 0 < r) (i : r ≤ length l) where
    pub mask_turn : (d : A) (b : Bool) → b ≡ f (get_or l (r - 1) d) → m * 2 + bool_byte b ≡ mask_of f (drop (r - 1) l)
    mask_turn d b p =
        let q : suc (r - 1) ≡ r = omega arith in
        let n : r - 1 < length l = omega arith in
        let z : mask_of f (drop (r - 1) l) ≡ cond b 1 0 + 2 * m =
        ap (mask_of f) (drop-cons l (r - 1) d n) ∙ ap₂ (λ (x : Bool) (y : ℕ). cond x 1 0 + 2 * y) (sym p) (ap (λ (k : ℕ). mask_of f (drop k l)) q ∙ sym e) in
        go b ∙ sym z
      where
        go : (b : Bool) → m * 2 + bool_byte b ≡ cond b 1 0 + 2 * m
        go true = omega arith
        go false = omega arith

    module _ (w : length l ≤ 32) where
      half : m < 2147483648
      half =
          let n : length (drop r l) ≤ 31 = simp length-drop (omega arith) in
          let z = lt_of_lt_of_le (mask_lt f (drop r l)) (pow_mono n) in
          omega arith

-- ---- the same loop where the test is still to be said: m is below 2 ^ (n - r)
module _ (n r m : ℕ) (e : m < 2 ^ (n - r)) (h : 0 < r) (i : r ≤ n) where
  twice : 2 ^ (n - (r - 1)) ≡ 2 * 2 ^ (n - r)
  twice = let s : n - (r - 1) ≡ suc (n - r) = omega arith in ap (λ (k : ℕ). 2 ^ k) s ∙ pow-succ' 2 (n - r)

  pub mask_low : (b : Bool) → m * 2 + bool_byte b < 2 ^ (n - (r - 1))
  mask_low true = omega (arith, twice)
  mask_low false = omega (arith, twice)

  module _ (w : n ≤ 32) where
    low : m < 2147483648
    low =
        let k : n - r ≤ 31 = omega arith in
        let z = lt_of_lt_of_le e (pow_mono k) in
        omega arith

    pub mask_doubled : Fits w32 (m * 2)
    mask_doubled = omega (arith, low)

    pub mask_added : (b : Bool) → Fits w32 (m * 2 + bool_byte b)
    mask_added true = omega (arith, low)
    mask_added false = omega (arith, low)
