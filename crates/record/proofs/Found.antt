-- What `any` and `all` say of the things that an iterator has left, in the words of policy. Assumes nothing.
use mathlib.Core.Path.{◌≡◌, refl, sym, ap, ◌∙◌}
use mathlib.Core.Bool.{Bool, true, false, ◌&&◌, ◌||◌}
use mathlib.Core.List.{List, [], ◌∷◌}
use denote.Param.Members.{Mut}
use lib.Dec.{T}
use Rattle.std.specs.Prelude.{Option, None, Some}
use Rattle.std.specs.Fn.{Called}
use Rattle.std.specs.Iterator.{Yields, YieldsThen, YieldsFirstBy}
use Rattle.std.specs.List.{FoldsTo, list_all, list_any}
use Rattle.std.specs.Option.{MatchOption}
use Rattle.std.proofs.lemmas.Iterator.Consumers.{YieldsList-from_first}
use Rattle.std.proofs.lemmas.Iterator.{YieldsList}
use Rattle.std.proofs.lemmas.Iterator.Search.{all_from_yields_List, any_from_yields_List}
use Rattle.policy.specs.Lists.{every, exists}
use Rattle.policy.proofs.Sets.{or_r}

module _ {A : Type 0} (f : A → Bool) where
  exists_any : (l : List A) → list_any f l ≡ exists f l
  exists_any [] = refl
  exists_any (x ∷ l) = ap (λ b. f x || b) (exists_any l)

  every_all : (l : List A) → list_all f l ≡ every f l
  every_all [] = refl
  every_all (x ∷ l) = ap (λ b. f x && b) (every_all l)

-- take the clause `ran` of the call, and what the closure computes; the first of a chain of iterators that gives the list all
pub any_of : {S A B F : Type 0} {steps : S → Option A → S → Type 0} {view : A → B} {g : Mut F (A × Unit {0}) Bool} {s : S} {f : F} {r : Bool} {all : List B} (test : B → Bool) (u : S)
    → (xs : List A) × (o : Option A) × (j : F) × YieldsThen steps s xs o u × FoldsTo (λ p x q. Called g p (x, tt) false q) f xs j
    × MatchOption o (r ≡ false) (λ x. (r ≡ true) × ((h : F) × Called g j (x, tt) true h))
    → YieldsList steps view s all → ((x : A) (b : Bool) (q : F) → Called g f (x, tt) b q → (q ≡ f) × (b ≡ test (view x))) → r ≡ exists test all
any_of {f = f} {r} {all} test u ran chain is = any_from_yields_List test u f r ran chain is ∙ exists_any test all

module _ {S A B F : Type 0} {view : A → B} {rest : S → List B} {g : Mut F (A × Unit {0}) Bool} {s : S} {f : F} {r : Bool} (test : B → Bool) (u : S) where
  pub any_is : (xs : List A) × (o : Option A) × (j : F) × YieldsThen (YieldsFirstBy view rest) s xs o u × FoldsTo (λ p x q. Called g p (x, tt) false q) f xs j
      × MatchOption o (r ≡ false) (λ x. (r ≡ true) × ((h : F) × Called g j (x, tt) true h))
      → ((x : A) (b : Bool) (q : F) → Called g f (x, tt) b q → (q ≡ f) × (b ≡ test (view x))) → r ≡ exists test (rest s)
  any_is ran is = any_of test u ran (YieldsList-from_first view rest (rest s) refl) is

  pub all_is : (xs : List A) × (o : Option A) × (j : F) × YieldsThen (YieldsFirstBy view rest) s xs o u × FoldsTo (λ p x q. Called g p (x, tt) true q) f xs j
      × MatchOption o (r ≡ true) (λ x. (r ≡ false) × ((h : F) × Called g j (x, tt) false h))
      → ((x : A) (b : Bool) (q : F) → Called g f (x, tt) b q → (q ≡ f) × (b ≡ test (view x))) → r ≡ every test (rest s)
  all_is ran is = all_from_yields_List test u f r ran (YieldsList-from_first view rest (rest s) refl) is ∙ every_all test (rest s)

-- what a search through an iterator has left was among what it had; take the clause `ran.3` of the call
module _ {S A B : Type 0} (view : A → B) (rest : S → List B) where
  left_by : (t : B → Bool) (s u : S) (r : Option A) → YieldsFirstBy view rest s r u → T (exists t (rest u)) → T (exists t (rest s))
  left_by t s u None h p = rw h.0 (rw h.1 at p)
  left_by t s u (Some x) h p = rw h (or_r (t (view x)) (exists t (rest u)) p)

  left_after : (t : B → Bool) (xs : List A) (s u : S) → Yields (YieldsFirstBy view rest) s xs u → T (exists t (rest u)) → T (exists t (rest s))
  left_after t [] s u e p = rw e p
  left_after t (x ∷ xs) s u h p = left_by t s h.0 (Some x) h.1 (left_after t xs h.0 u h.2 p)

  pub left_among : (s u : S) (xs : List A) (r : Option A) → YieldsThen (YieldsFirstBy view rest) s xs r u → (t : B → Bool) → T (exists t (rest u)) → T (exists t (rest s))
  left_among s u xs r h t p = left_after t xs s h.0 h.1 (left_by t h.0 u r h.2 p)

-- ---- a loop over the things that an iterator has left: those to come decide, by f of them, which is b; next gives the first, x, or nothing
module _ {B C : Type 0} (f : List B → C) {l : List B} {b : C} where
  pub no_more : f l ≡ b → l ≡ [] → f [] ≡ b
  no_more h e = rw e at h

  pub one_more : {x : B} {rest : List B} → f l ≡ b → l ≡ x ∷ rest → f (x ∷ rest) ≡ b
  one_more h e = rw e at h

-- where f asks a test of each, or of one of them, and r is that of x
module _ {B : Type 0} (test : B → Bool) {l rest : List B} {b r : Bool} {x : B} where
  pub every_stop : every test l ≡ b → l ≡ x ∷ rest → r ≡ test x → r ≡ false → false ≡ b
  every_stop h e q n = rw (sym q ∙ n) at (one_more (every test) h e)

  pub every_next : every test l ≡ b → l ≡ x ∷ rest → r ≡ test x → r ≡ true → every test rest ≡ b
  every_next h e q n = rw (sym q ∙ n) at (one_more (every test) h e)

  pub exists_stop : exists test l ≡ b → l ≡ x ∷ rest → r ≡ test x → r ≡ true → true ≡ b
  exists_stop h e q n = rw (sym q ∙ n) at (one_more (exists test) h e)

  pub exists_next : exists test l ≡ b → l ≡ x ∷ rest → r ≡ test x → r ≡ false → exists test rest ≡ b
  exists_next h e q n = rw (sym q ∙ n) at (one_more (exists test) h e)
