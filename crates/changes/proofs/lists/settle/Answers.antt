-- `changes::lists::settle` meets its contract. Assumes nothing.
use native.Mathlib.Omega.{arith}
use Rattle.changes.proofs.RowsToBits.{settling_here, settling_next}
use Rattle.changes.proofs.lists.settle.Goals as goal

pub loop-r-preserved : goal.loop-r-preserved
loop-r-preserved c = settling_next _ _ _ c.loop-r.invariant (omega (arith, c.loop-r-test.true, c.count-n.ensures)) c.settle_row.ensures

pub settle_row-requires-clause-given : goal.settle_row-requires-clause-given
settle_row-requires-clause-given c = (settling_here _ _ _ c.loop-r.invariant (omega (arith, c.loop-r-test.true, c.count-n.ensures))).1
