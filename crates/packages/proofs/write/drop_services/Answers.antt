-- `packages::write::drop_services` meets its contract: those so far have gone.
use native.Mathlib.Omega.{arith}
use Rattle.packages.proofs.Dropped.{going_turn}
use Rattle.packages.proofs.write.drop_services.Goals as goal

pub loop-k-preserved : goal.loop-k-preserved
loop-k-preserved c = going_turn c.loop-k.invariant (omega arith) c.drop_one.ensures
