-- The first number below n that passes, as a search over a range finds it.
use Prim.Native.Nat.{ℕ, zero, suc, ◌<◌}
use native.Mathlib.Nat.{le_refl}
use native.Mathlib.Numerals.{add-one}
use mathlib.Core.Path.{◌≡◌, refl, sym, ap, ◌∙◌, subst}
use mathlib.Core.Bool.{Bool, true, false, cond}
use mathlib.Core.Option.{Option, none, some}
use Rattle.std.specs.Prelude.{Option as Answer, Some, None}
use Rattle.std.specs.Option.{option_map, IfSome}
use Rattle.std.specs.Bool.{then_some}
use Rattle.std.specs.List.{find, range_with_len}
use Rattle.policy.specs.Lists.{first, from, upto, or_else}
use Rattle.policy.proofs.Sets.{Found as Finds, found as first_found, upto_in}
use lib.Dec.{ltb}
use borrow.Author.Tests.{lt-ltb, le-ltb}
use Rattle.image.specs.Read.{found}

found_from : (f : ℕ → Bool) (i n : ℕ) → find f (range_with_len i n) ≡ found (first f (from i n))
found_from f i zero = refl
found_from f i (suc n) = go (f i) (first f (from (suc i) n)) (ap (λ (k : ℕ). find f (range_with_len k n)) (add-one i) ∙ found_from f (suc i) n)
  where
    go : (b : Bool) (o : Option ℕ) {a : Answer ℕ} → a ≡ found o → cond b (Some i) a ≡ found (cond b (some i) o)
    go true o e = refl
    go false o e = e

pub finds : (f : ℕ → Bool) (n : ℕ) (r : Answer ℕ) → option_map (λ x. x) r ≡ find f (range_with_len 0 n) → r ≡ found (first f (upto n))
finds f n (Some k) e = e ∙ found_from f 0 n
finds f n None e = e ∙ found_from f 0 n

-- what was found is below n
abbrev pub Below : ℕ → Option ℕ → Type 0
Below n none = Unit {0}
Below n (some k) = k < n

pub first_below : (f : ℕ → Bool) (n : ℕ) → Below n (first f (upto n))
first_below f n = go (first f (upto n)) (first_found f (upto n))
  where
    go : (o : Option ℕ) → Finds f (upto n) o → Below n o
    go none h = tt
    go (some k) h = upto_in n h.0

module _ (n : ℕ) (o : Option ℕ) (b : Below n o) where
  pub found_below : {r : Answer ℕ} → r ≡ found o → IfSome r (λ k. k < n)
  found_below e = subst (λ (r : Answer ℕ). IfSome r (λ k. k < n)) (sym e) (go o b)
    where
      go : (o : Option ℕ) → Below n o → IfSome (found o) (λ k. k < n)
      go none h = tt
      go (some k) h = h

  -- a number, or n for none
  pub number_below : {r : ℕ} → r ≡ or_else o n (λ k. k) → then_some (ltb r n) r ≡ found o
  number_below e = ap (λ (r : ℕ). then_some (ltb r n) r) e ∙ go o b
    where
      go : (o : Option ℕ) → Below n o → then_some (ltb (or_else o n (λ k. k)) n) (or_else o n (λ k. k)) ≡ found o
      go none h = ap (λ (t : Bool). then_some t n) (le-ltb n n (le_refl n))
      go (some k) h = ap (λ (t : Bool). then_some t k) (lt-ltb k n h)
