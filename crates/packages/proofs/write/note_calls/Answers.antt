-- `packages::write::note_calls` meets its contract: those so far are noted, over zeros.
use native.Mathlib.Omega.{arith}
use mathlib.Core.Path.{refl}
use Rattle.packages.proofs.Dropped.{noted_turn}
use Rattle.packages.proofs.write.note_calls.Goals as goal

pub loop-i-preserved : goal.loop-i-preserved
loop-i-preserved c = noted_turn c.loop-i.invariant c.args.img.card c.args.img.laid.room.calls_in refl (omega arith) c.entry.result c.common.result c.entry.ensures c.common.ensures
