-- `rows::close_up` meets its contract.
use Rattle.rows.proofs.Area.{Closed}
use Rattle.rows.proofs.close_up.Given as goal

abbrev pub invariant-loop-r : goal.invariant-loop-r
invariant-loop-r l = Closed l.width l.mask l.initial.area l.area l.kept l.r
