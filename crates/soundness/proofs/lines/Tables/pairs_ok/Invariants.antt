-- `lines::Tables::pairs_ok` meets its contract.
use mathlib.Core.Path.{◌≡◌}
use mathlib.Core.Bool.{true}
use Rattle.policy.specs.Lists.{every, upto}
use Rattle.soundness.specs.Check.{pair_fits}
use Rattle.soundness.proofs.lines.Tables.pairs_ok.Given as goal

abbrev pub invariant-loop-j : goal.invariant-loop-j
invariant-loop-j l = let s = l.self in every (pair_fits s.img.now s.w s.n s.provs s.calls s.grants s.needs l.i l.used) (upto l.j) ≡ true
