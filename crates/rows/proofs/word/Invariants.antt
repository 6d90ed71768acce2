-- `rows::word` meets its contract.
use Prim.Native.Nat.{◌+◌, ◌-◌, ◌^◌, ◌≤◌, ◌<◌}
use mathlib.Core.Path.{◌≡◌}
use Rattle.rows.specs.Area.{part, little}
use Rattle.rows.proofs.word.Given as goal

abbrev pub invariant-loop-k : goal.invariant-loop-k
invariant-loop-k l = (l.k ≤ 8) × (l.w < 256 ^ (8 - l.k)) × (l.w ≡ little (part (l.at + l.k) (8 - l.k) l.a))

abbrev pub decreases-loop-k : goal.decreases-loop-k
decreases-loop-k l = l.k
