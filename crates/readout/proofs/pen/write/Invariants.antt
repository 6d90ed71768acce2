-- `readout::pen::write` meets its contract.
use Prim.Native.Nat.{◌*◌}
use mathlib.Core.Path.{◌≡◌}
use lib.ListN.{take}
use Rattle.rows.specs.Area.{over}
use Rattle.readout.proofs.pen.write.Given as goal

-- the first words are copied
abbrev pub invariant-loop-k : goal.invariant-loop-k
invariant-loop-k l = l.out ≡ over l.at (take (l.k * 8) l.src) l.initial.out
