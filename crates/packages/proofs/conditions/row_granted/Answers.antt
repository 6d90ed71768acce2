-- `packages::conditions::row_granted` meets its contract: those so far are granted, and the search goes on among the grants.
use native.Mathlib.Omega.{arith}
use mathlib.Core.Path.{ap}
use mathlib.Core.Bool.{not}
use Rattle.image.specs.Image.{lay}
use Rattle.bits.proofs.Loops.{every_more, every_fails, every_done}
use Rattle.packages.proofs.conditions.row_granted.Goals as goal

pub returns-then-not-service_granted : goal.returns-then-not-service_granted
returns-then-not-service_granted c = (every_fails _ (lay c.args.img).services c.loop-k.k c.service_granted.ensures.0 (ap not c.if-not-service_granted.true) (omega arith), c.service_granted.ensures.1)

pub loop-k-preserved : goal.loop-k-preserved
loop-k-preserved c = record { granted = every_more _ c.loop-k.k c.loop-k.invariant.granted c.service_granted.ensures.0 (ap not c.if-not-service_granted.false); among = c.service_granted.ensures.1 }

pub returns : goal.returns
returns c = (every_done _ _ c.loop-k.k c.loop-k.invariant.granted (omega arith), c.loop-k.invariant.among)
