-- `packages::conditions::kept_rights` meets its contract: those so far are granted, and the search goes on among the grants.
use native.Mathlib.Omega.{arith}
use mathlib.Core.Path.{ap}
use mathlib.Core.Bool.{not}
use Rattle.image.specs.Image.{lay}
use Rattle.record.specs.Listed.{rows_of}
use Rattle.bits.proofs.Loops.{every_more, every_fails, every_done}
use Rattle.packages.proofs.Checks.{none_called}
use Rattle.packages.proofs.conditions.kept_rights.Goals as goal

pub returns-then-provided_row-eq0 : goal.returns-then-provided_row-eq0
returns-then-provided_row-eq0 c =
    let a = c.args in
    none_called (lay a.img) a.img.bytes.now (rows_of a.grants) a.n a.dropped c.provided_row.result c.requires.sound c.provided_row.ensures c.if-provided_row-eq0.true

pub returns-then-not-caller_granted : goal.returns-then-not-caller_granted
returns-then-not-caller_granted c = every_fails _ (lay c.args.img).packages c.loop-i.i c.caller_granted.ensures.0 (ap not c.if-not-caller_granted.true) (omega arith)

pub loop-i-preserved : goal.loop-i-preserved
loop-i-preserved c = record { granted = every_more _ c.loop-i.i c.loop-i.invariant.granted c.caller_granted.ensures.0 (ap not c.if-not-caller_granted.false); among = c.caller_granted.ensures.1 }

pub returns : goal.returns
returns c = every_done _ _ c.loop-i.i c.loop-i.invariant.granted (omega arith)
