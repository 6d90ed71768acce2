-- What the code of kind 3 finds: rows that a mask names, unmet calls that are granted, and callers that have no row yet. Assumes nothing.
use Prim.Native.Nat.{ℕ, suc, ◌+◌, ◌≤◌, ◌<◌}
use native.Mathlib.Omega.{arith}
use native.Mathlib.Nat.{add-zero, add-suc, suc-add, zero-add}
use mathlib.Core.Path.{◌≡◌, refl, sym, ap, ap₂, ◌∙◌}
use mathlib.Core.Logic.{◌⊎◌, inl, inr}
use mathlib.Core.Bool.{Bool, true, false, ◌&&◌, ◌||◌}
use mathlib.Core.List.{List, [], ◌∷◌}
use lib.ListN.{length, get_or}
use lib.Dec.{T, eqb, leb}
use borrow.Author.Tests.{le-leb, lt-leb, ne_eqb}
use mathlib.Core.Option.{Option, none, some}
use Rattle.std.specs.Prelude.{Some, None, is_none, Option as Answer}
use Rattle.std.specs.Option.{option_eq, option_map}
use Rattle.std.specs.List.{slice_get}
use Rattle.std.proofs.lemmas.Option.{slice_get_cases, slice_get_within}
use Rattle.image.specs.Read.{found, number_or}
use Rattle.policy.specs.Lists.{every, exists, from, upto}
use Rattle.policy.specs.Tables.{bit}
use Rattle.changes.specs.Masks.{some_listed}

-- ---- a test h of the numbers of the rows of l
module _ {A : Type 0} (d : A) (h : ℕ → Bool) where
  every_from : (p : A → Bool) (i : ℕ) (l : List A) → ((n : ℕ) → n < length l → h (i + n) ≡ p (get_or l n d)) → every h (from i (length l)) ≡ every p l
  every_from p i [] e = refl
  every_from p i (x ∷ l) e = ap₂ (λ (b c : Bool). b && c) (ap h (sym (add-zero i)) ∙ e 0 (omega arith)) (every_from p (suc i) l (λ n q. ap h (suc-add i n ∙ sym (add-suc i n)) ∙ e (suc n) (omega arith)))

  -- all of them, where h is p of the rows
  pub every_row : (p : A → Bool) (l : List A) {n : ℕ} → n ≡ length l → ((r : ℕ) → r < length l → h r ≡ p (get_or l r d)) → every h (upto n) ≡ every p l
  every_row p l k e = ap (λ (n : ℕ). every h (upto n)) k ∙ every_from p 0 l (λ n q. ap h (zero-add n) ∙ e n q)

-- one of those that a mask names
module _ {A : Type 0} (d : A) (g : A → Bool) (mask : ℕ) where
  named_from : (h : ℕ → Bool) (i : ℕ) (l : List A) → ((n : ℕ) → n < length l → h (i + n) ≡ bit mask (i + n) && g (get_or l n d)) → exists h (from i (length l)) ≡ some_listed g mask i l
  named_from h i [] e = refl
  named_from h i (x ∷ l) e =
      ap₂ (λ (b c : Bool). b || c) (ap h (sym (add-zero i)) ∙ e 0 (omega arith) ∙ ap (λ (k : ℕ). bit mask k && g x) (add-zero i))
      (named_from h (suc i) l (λ n q. let z : suc i + n ≡ i + suc n = suc-add i n ∙ sym (add-suc i n) in ap h z ∙ e (suc n) (omega arith) ∙ ap (λ (k : ℕ). bit mask k && g (get_or l n d)) (sym z)))

  pub named_row : (l : List A) {n : ℕ} → n ≡ length l → exists (λ r. bit mask r && g (get_or l r d)) (upto n) ≡ some_listed g mask 0 l
  named_row l e =
      ap (λ (n : ℕ). exists (λ r. bit mask r && g (get_or l r d)) (upto n)) e
      ∙ named_from (λ r. bit mask r && g (get_or l r d)) 0 l (λ n q. ap (λ (k : ℕ). bit mask (0 + n) && g (get_or l k d)) (zero-add n))

-- the package that holds an AID is n
pub held_same : (m n : ℕ) (o : Option ℕ) → n < m → option_eq eqb (found o) (Some n) ≡ eqb (number_or m o) n
held_same m n none h = sym (ne_eqb m n (λ e. absurd (omega arith)))
held_same m n (some i) h = refl

-- l has no thing past the first n
pub nth_none : {A B : Type 0} (v : A → B) (l : List B) (n : ℕ) (r : Answer A) → option_map v r ≡ slice_get l n → is_none r ≡ leb (length l) n
nth_none {B = B} v l n None e = go (slice_get_cases l n).1
  where
    go : ((x : B) × (n < length l) × (slice_get l n ≡ Some x) × (get_or l n x ≡ x)) ⊎ ((length l ≤ n) × (slice_get l n ≡ None)) → true ≡ leb (length l) n
    go (inl p) = cc (e, p.2)
    go (inr p) = sym (le-leb (length l) n p.0)
nth_none v l n (Some x) e = sym (lt-leb (length l) n (slice_get_within l n (v x) (sym e)))

-- a used package's AID
pub used_same : (b x r : Bool) → T b → r ≡ b && x → r ≡ x
used_same false x r h e = elim h [ ]
used_same true x r h e = e
