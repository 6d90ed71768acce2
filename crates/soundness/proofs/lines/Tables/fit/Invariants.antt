-- `lines::Tables::fit` meets its contract.
use Prim.Native.Nat.{ℕ}
use mathlib.Core.Path.{◌≡◌}
use mathlib.Core.Bool.{true}
use Rattle.policy.specs.Lists.{every, upto}
use Rattle.policy.specs.Tables.{bit}
use Rattle.soundness.specs.Check.{line_fits, row_in}
use Rattle.soundness.proofs.lines.Tables.fit.Given as goal

abbrev pub invariant-loop-i : goal.invariant-loop-i
invariant-loop-i l = let s = l.self in every (λ (i : ℕ). line_fits s.img.now s.w s.n s.provs s.calls s.grants s.needs i (bit (row_in s.w s.img.now 3) i)) (upto l.i) ≡ true
