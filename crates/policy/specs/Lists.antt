-- Tests, and finite sets held as lists. Assumes nothing.
use Rattle.std.specs.Prelude.{ℕ, zero, suc, ◌↔◌, Bool, true, false, not, ◌&&◌, ◌||◌, cond, List, [], ◌∷◌, ◌++◌, eqb}
use mathlib.Core.List.{Memᴰ as In}
use Rattle.std.proofs.Math.Option.{Option, none, some}

abbrev pub implies : Bool → Bool → Bool
implies a b = not a || b

module _ {A : Type 0} where
  -- every element passes
  abbrev pub every : (A → Bool) → List A → Bool
  every f [] = true
  every f (x ∷ xs) = f x && every f xs

  -- some element passes
  abbrev pub exists : (A → Bool) → List A → Bool
  exists f [] = false
  exists f (x ∷ xs) = f x || exists f xs

  -- those that pass, in order
  abbrev pub keep : (A → Bool) → List A → List A
  keep f [] = []
  keep f (x ∷ xs) = cond (f x) (x ∷ keep f xs) (keep f xs)

  -- the first that passes
  abbrev pub first : (A → Bool) → List A → Option A
  first f [] = none
  first f (x ∷ xs) = cond (f x) (some x) (first f xs)

  -- no two elements are equal by the test
  abbrev pub distinct : (A → A → Bool) → List A → Bool
  distinct eq [] = true
  distinct eq (x ∷ xs) = not (exists (eq x) xs) && distinct eq xs

  -- the same set
  abbrev pub SameSet : List A → List A → Type 0
  SameSet l m = (x : A) → In x l ↔ In x m

  -- no element stands twice
  abbrev pub NoRepeat : List A → Type 0
  NoRepeat [] = Unit {0}
  NoRepeat (x ∷ l) = (In x l → ⊥) × NoRepeat l

  abbrev pub is_nil : List A → Bool
  is_nil [] = true
  is_nil (x ∷ xs) = false

  abbrev pub is_some : Option A → Bool
  is_some none = false
  is_some (some x) = true

module _ {A B : Type 0} where
  -- the lists of all elements, one after another
  abbrev pub flat : (A → List B) → List A → List B
  flat f [] = []
  flat f (x ∷ xs) = f x ++ flat f xs

  -- f of what was found, or b where nothing was
  abbrev pub or_else : Option A → B → (A → B) → B
  or_else none b f = b
  or_else (some x) b f = f x

-- i, i + 1, .., n of them
abbrev pub from : ℕ → ℕ → List ℕ
from i zero = []
from i (suc n) = i ∷ from (suc i) n

-- the numbers below n
abbrev pub upto : ℕ → List ℕ
upto n = from 0 n

abbrev pub eq_bytes : List ℕ → List ℕ → Bool
eq_bytes [] [] = true
eq_bytes [] (y ∷ ys) = false
eq_bytes (x ∷ xs) [] = false
eq_bytes (x ∷ xs) (y ∷ ys) = eqb x y && eq_bytes xs ys
