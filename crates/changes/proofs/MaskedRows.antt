-- Rows of a list that a mask names: the bits that they become, and whether one of them passes. Assumes nothing.
use Prim.Native.Nat.{ℕ, ◌+◌, ◌≤◌, ◌<◌, suc, suc-le-suc}
use native.Mathlib.Omega.{arith}
use native.Mathlib.Nat.{add-zero, add-suc, suc-add, zero-add}
use mathlib.Core.Path.{◌≡◌, refl, sym, ap, ◌∙◌, ap₂}
use mathlib.Core.Bool.{Bool, true, false, ◌&&◌, ◌||◌, cond, or-false}
use mathlib.Core.List.{List, [], ◌∷◌, ◌++◌}
use lib.Dec.{eqb}
use lib.ListN.{length, get_or}
use Rattle.policy.specs.Lists.{exists}
use Rattle.policy.specs.Tables.{bit}
use Rattle.policy.specs.Draft.{put3}
use Rattle.policy.proofs.Sets.{false_T}
use Rattle.policy.proofs.Bits.{bit_none}
use Rattle.image.specs.Read.{mask_of}
use Rattle.image.proofs.Masks.{mask_bit, mask_lt}
use Rattle.bits.proofs.Row.{bit_past}
use Rattle.changes.specs.Masks.{listed, some_listed}

-- a row that a mask names
pub named : {A : Type 0} (f : A → Bool) (l : List A) (m r : ℕ) (d : A) → m ≡ mask_of f l → r < length l → bit m r ≡ f (get_or l r d)
named f l m r d e h = ap (λ (x : ℕ). bit x r) e ∙ mask_bit f l r d h

-- ---- a bit beside nothing, and one more that does not count: u is that a place may, s that it does
pub or_none : (b : Bool) {c : Bool} → c ≡ false → b ≡ b || c
or_none b e = sym (ap (λ (z : Bool). b || z) e ∙ or-false b)

pub row_off : (u s e : Bool) → false ≡ u && s → u && e ≡ u && (s || e)
row_off true true e h = absurd (false_T (sym h) tt)
row_off true false e h = refl
row_off false s e h = refl

-- ---- the mask names from r on the rows of l that pass f
abbrev pub NamesFrom : {A : Type 0} → (A → Bool) → ℕ → ℕ → List A → Type 0
NamesFrom {A} f mask r l = (n : ℕ) (d : A) → n < length l → bit mask (r + n) ≡ f (get_or l n d)

module _ {A : Type 0} (f : A → Bool) (mask : ℕ) where
  names_all : (l : List A) → mask ≡ mask_of f l → NamesFrom f mask 0 l
  names_all l e n d h = ap (bit mask) (zero-add n) ∙ named f l mask n d e h

  names_here : (r : ℕ) (x : A) (l : List A) → NamesFrom f mask r (x ∷ l) → bit mask r ≡ f x
  names_here r x l h = ap (bit mask) (sym (add-zero r)) ∙ h 0 x (omega arith)

  names_next : (r : ℕ) (x : A) (l : List A) → NamesFrom f mask r (x ∷ l) → NamesFrom f mask (suc r) l
  names_next r x l h n d p = ap (bit mask) (suc-add r n ∙ sym (add-suc r n)) ∙ h (suc n) d (suc-le-suc p)

-- it names none past them
pub mask_past : {A : Type 0} (f : A → Bool) (l : List A) (mask : ℕ) → mask ≡ mask_of f l → (n : ℕ) → length l ≤ n → bit mask n ≡ false
mask_past f l mask e n h = ap (λ (x : ℕ). bit x n) e ∙ bit_past (length l) (mask_of f l) n (mask_lt f l) h

-- ---- the bits that rows become, where the mask is that of those that pass
module _ {A : Type 0} (f : A → Bool) (row column service : A → ℕ) (mask : ℕ) where
  -- a row that passes is at this place
  abbrev pub marks : ℕ → ℕ → ℕ → A → Bool
  marks x y z w = f w && (eqb x (row w) && eqb y (column w) && eqb z (service w))

  listed_from : (r : ℕ) (l : List A) → NamesFrom f mask r l → (b : ℕ → ℕ → ℕ → Bool) (x y z : ℕ) → listed row column service mask r l b x y z ≡ b x y z || exists (marks x y z) l
  listed_from r [] h b x y z = or_none (b x y z) refl
  listed_from r (w ∷ l) h b x y z =
      listed_from (suc r) l (names_next f mask r w l h) (cond (bit mask r) (put3 (row w) (column w) (service w) true b) b) x y z
      ∙ ap (λ (v : Bool). cond v (put3 (row w) (column w) (service w) true b) b x y z || exists (marks x y z) l) (names_here f mask r w l h)
      ∙ go (f w) (eqb x (row w) && eqb y (column w) && eqb z (service w)) (b x y z) (exists (marks x y z) l) refl
    where
      more : (p o e : Bool) → cond p true o || e ≡ o || (p || e)
      more true true e = refl
      more true false e = refl
      more false o e = refl

      go : (v p o e : Bool) → eqb x (row w) && eqb y (column w) && eqb z (service w) ≡ p → cond v (put3 (row w) (column w) (service w) true b) b x y z || e ≡ b x y z || (v && p || e)
      go true p o e q = ap (λ (m : Bool). cond m true (b x y z) || e) q ∙ more p (b x y z) e
      go false p o e q = refl

  pub listed_is : (l : List A) → mask ≡ mask_of f l → (b : ℕ → ℕ → ℕ → Bool) (x y z : ℕ)
      → listed row column service mask 0 l b x y z ≡ b x y z || exists (λ w. f w && (eqb x (row w) && eqb y (column w) && eqb z (service w))) l
  listed_is l e = listed_from 0 l (names_all f mask l e)

-- ---- one of the rows passes g
module _ {A : Type 0} (f g : A → Bool) (mask : ℕ) where
  some_from : (r : ℕ) (l : List A) → NamesFrom f mask r l → some_listed g mask r l ≡ exists (λ x. f x && g x) l
  some_from r [] h = refl
  some_from r (x ∷ l) h = ap₂ (λ (b e : Bool). b && g x || e) (names_here f mask r x l h) (some_from (suc r) l (names_next f mask r x l h))

  pub some_is : (l : List A) → mask ≡ mask_of f l → some_listed g mask 0 l ≡ exists (λ x. f x && g x) l
  some_is l e = some_from 0 l (names_all f mask l e)

module _ {A : Type 0} (g : A → Bool) (mask : ℕ) where
  -- rows past those of the mask do not count
  past_from : (r : ℕ) (m : List A) → ((n : ℕ) → r ≤ n → bit mask n ≡ false) → some_listed g mask r m ≡ false
  past_from r [] h = refl
  past_from r (x ∷ m) h = ap₂ (λ (b e : Bool). b && g x || e) (h r (omega arith)) (past_from (suc r) m (λ n p. h n (omega arith)))

  -- a mask that names none
  pub some_none : (l : List A) → mask ≡ 0 → false ≡ some_listed g mask 0 l
  some_none l e = sym (past_from 0 l (λ n _. ap (λ (m : ℕ). bit m n) e ∙ bit_none n))

  some_past : (r : ℕ) (l m : List A) → ((n : ℕ) → r + length l ≤ n → bit mask n ≡ false) → some_listed g mask r (l ++ m) ≡ some_listed g mask r l
  some_past r [] m h = past_from r m (λ n p. h n (omega arith))
  some_past r (x ∷ l) m h = ap (λ (e : Bool). bit mask r && g x || e) (some_past (suc r) l m (λ n p. h n (omega arith)))

  pub some_more : (l m : List A) → ((n : ℕ) → length l ≤ n → bit mask n ≡ false) → some_listed g mask 0 (l ++ m) ≡ some_listed g mask 0 l
  some_more l m h = some_past 0 l m (λ n p. h n (omega arith))
