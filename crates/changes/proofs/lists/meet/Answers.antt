-- `changes::lists::meet` meets its contract. Assumes nothing.
use native.Mathlib.Omega.{arith}
use Rattle.changes.proofs.RowsToBits.{settling_here, settling_next}
use Rattle.changes.proofs.lists.meet.Goals as goal

pub loop-r-preserved : goal.loop-r-preserved
loop-r-preserved c = settling_next _ _ _ c.loop-r.invariant (omega (arith, c.loop-r-test.true, c.count-m.ensures)) c.meet_row.ensures

pub meet_row-requires-clause-numbers : goal.meet_row-requires-clause-numbers
meet_row-requires-clause-numbers c = ((settling_here _ _ _ c.loop-r.invariant (omega (arith, c.loop-r-test.true, c.count-m.ensures))).1, c.requires.inside)
