-- `rows::same_all` meets its contract.
use mathlib.Core.Path.{◌≡◌}
use Prim.Native.Nat.{◌≤◌}
use lib.ListN.{length, take}
use Rattle.policy.specs.Lists.{eq_bytes}
use Rattle.rows.specs.Area.{part}
use Rattle.rows.proofs.same_all.Given as goal

abbrev pub invariant-loop-k : goal.invariant-loop-k
invariant-loop-k l = (l.k ≤ length l.b) × (l.same ≡ eq_bytes (part l.at l.k l.a) (take l.k l.b))
