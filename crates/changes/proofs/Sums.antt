-- A sum over the numbers below n, each of whose terms is at most m. Assumes nothing.
use Prim.Native.Nat.{ℕ, ◌*◌, ◌≤◌}
use native.Mathlib.Omega.{arith}
use mathlib.Core.List.{List, [], ◌∷◌}
use lib.ListN.{length}
use Rattle.policy.specs.Lists.{upto}
use Rattle.policy.specs.ShortCheck.{sum}
use Rattle.policy.proofs.Sets.{length_from}

module _ (f : ℕ → ℕ) (m : ℕ) (h : (x : ℕ) → f x ≤ m) where
  low : (l : List ℕ) → sum f l ≤ length l * m
  low [] = omega arith
  low (x ∷ l) = omega (arith, h x, low l)

  pub sum_low : (n : ℕ) → sum f (upto n) ≤ n * m
  sum_low n = rw (length_from 0 n) at (low (upto n))
