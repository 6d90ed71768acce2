-- Chains over the numbers below n, by policy's words. Assumes nothing.
use Prim.Native.Nat.{ℕ, zero, suc, ◌+◌}
use native.Mathlib.Omega.{arith}
use native.Mathlib.Numerals.{add-one}
use mathlib.Core.Path.{◌≡◌, refl, sym, ap, ◌∙◌}
use mathlib.Core.Bool.{Bool, true, false, ◌&&◌, ◌||◌}
use mathlib.Core.List.{List, [], ◌∷◌}
use denote.Param.Members.{Mut}
use denote.Ref.{Bor}
use Rattle.std.specs.Prelude.{Option, Some, None}
use Rattle.std.specs.Bool.{⊤}
use Rattle.std.specs.Fn.{Called, CalledAt}
use Rattle.std.specs.Iterator.{YieldsThen, Drains}
use Rattle.std.specs.List.{FoldsTo, find, fold, list_all, list_any, range_with_len, sum_by}
use Rattle.std.specs.Option.{MatchOption, option_map}
use Rattle.std.specs.declared.ops.Range.{Range}
use Rattle.std.proofs.iter.Yields.{nat_range_steps}
use Rattle.std.proofs.lemmas.Iterator.{YieldsList, YieldsList-from_range}
use Rattle.std.proofs.lemmas.Iterator.Search.{all_from_yields_List, any_from_yields_List, find_from_yields_List}
use Rattle.std.proofs.lemmas.Iterator.Consumers.{fold_from_yields_List}
use Rattle.policy.specs.Lists.{every, exists, from, upto}
use Rattle.policy.specs.ShortCheck.{sum}

range_is : (a n : ℕ) → range_with_len a n ≡ from a n
range_is a zero = refl
range_is a (suc n) = rw (add-one a) (ap (λ (l : List ℕ). a ∷ l) (range_is (suc a) n))

every_all : (f : ℕ → Bool) (l : List ℕ) → list_all f l ≡ every f l
every_all f [] = refl
every_all f (x ∷ l) = ap (λ b. f x && b) (every_all f l)

exists_any : (f : ℕ → Bool) (l : List ℕ) → list_any f l ≡ exists f l
exists_any f [] = refl
exists_any f (x ∷ l) = ap (λ b. f x || b) (exists_any f l)

abbrev pub below : ℕ → Range ℕ
below n = record { start = 0; end = n }

pub given_all : (n : ℕ) → YieldsList nat_range_steps (λ x. x) (below n) (range_with_len 0 n)
given_all n = YieldsList-from_range 0 n n refl (omega arith)

module _ {F : Type 0} {g : Mut F (ℕ × Unit {0}) Bool} {c : F} {r : Bool} (n : ℕ) (f : ℕ → Bool) (u : Range ℕ) where
  -- `(0..n).all(p)`, where the closure computes f; take the clause `ran` of the call
  pub all_below : (xs : List ℕ) × (o : Option ℕ) × (j : F) × YieldsThen nat_range_steps (below n) xs o u × FoldsTo (λ p x q. Called g p (x, tt) true q) c xs j
      × MatchOption o (r ≡ true) (λ x. (r ≡ false) × ((h : F) × Called g j (x, tt) false h))
      → ((x : ℕ) (b : Bool) (q : F) → Called g c (x, tt) b q → (q ≡ c) × (b ≡ f x)) → r ≡ every f (upto n)
  all_below ran is = all_from_yields_List f u c r ran (given_all n) is ∙ every_all f (range_with_len 0 n) ∙ ap (every f) (range_is 0 n)

  -- `(0..n).any(p)`
  pub any_below : (xs : List ℕ) × (o : Option ℕ) × (j : F) × YieldsThen nat_range_steps (below n) xs o u × FoldsTo (λ p x q. Called g p (x, tt) false q) c xs j
      × MatchOption o (r ≡ false) (λ x. (r ≡ true) × ((h : F) × Called g j (x, tt) true h))
      → ((x : ℕ) (b : Bool) (q : F) → Called g c (x, tt) b q → (q ≡ c) × (b ≡ f x)) → r ≡ exists f (upto n)
  any_below ran is = any_from_yields_List f u c r ran (given_all n) is ∙ exists_any f (range_with_len 0 n) ∙ ap (exists f) (range_is 0 n)

-- ---- `(0..n).map(h).sum()`
sum_from : (h : ℕ → ℕ) (a : ℕ) (l : List ℕ) → fold (λ a x. a + h x) a l ≡ a + sum h l
sum_from h a [] = omega arith
sum_from h a (x ∷ l) = let e = sum_from h (a + h x) l in omega arith

pub sum_below : (h : ℕ → ℕ) (n : ℕ) → sum_by h (range_with_len 0 n) ≡ sum h (upto n)
sum_below h n = let e = sum_from h 0 (range_with_len 0 n) in e ∙ ap (λ (l : List ℕ). 0 + sum h l) (range_is 0 n) ∙ omega arith

same_option : {A : Type 0} (o : Option A) → option_map (λ x. x) o ≡ o
same_option None = refl
same_option (Some x) = refl

module _ {F : Type 0} {c : F} (n : ℕ) where
  -- `(0..n).find(p)`
  pub find_below : {g : Mut F (Bor ℕ × Unit {0}) Bool} {r : Option ℕ} (f : ℕ → Bool) (u : Range ℕ)
      → (xs : List ℕ) × (j : F) × YieldsThen nat_range_steps (below n) xs r u × FoldsTo (λ p x q. CalledAt g p x false q) c xs j
      × MatchOption r ⊤ (λ x. (h : F) × CalledAt g j x true h)
      → ((x : ℕ) (b : Bool) (q : F) → CalledAt g c x b q → (q ≡ c) × (b ≡ f x)) → r ≡ find f (upto n)
  find_below {r = r} f u ran is = sym (same_option r) ∙ find_from_yields_List f u c r ran (given_all n) is ∙ ap (find f) (range_is 0 n)

  -- `(0..n).fold(a, h)`
  pub fold_below : {C : Type 0} {g : Mut F (C × (ℕ × Unit {0})) C} {r : C} (h : C → ℕ → C) (a : C)
      → (xs : List ℕ) × (q : F) × Drains nat_range_steps (below n) xs × FoldsTo {P = F × C} (λ p x b. Called g p.0 (p.1, (x, tt)) b.1 b.0) (c, a) xs (q, r)
      → ((p : C) (x : ℕ) (b : C) (q : F) → Called g c (p, (x, tt)) b q → (q ≡ c) × (b ≡ h p x)) → r ≡ fold h a (upto n)
  fold_below {g = g} {r} h a ran is = fold_from_yields_List g h a r ran (given_all n) is ∙ ap (fold h a) (range_is 0 n)
