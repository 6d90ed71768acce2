-- `record::proper::all_called` meets its contract: the rows to come decide, and the search goes on among the calls.
use Rattle.std.specs.Prelude.{◌≡◌}
use Rattle.policy.specs.Lists.{every}
use Rattle.policy.specs.Contract.{has_row}
use Rattle.record.specs.Listed.{rows_of, Among}
use Rattle.record.proofs.proper.all_called.Given as goal

abbrev pub invariant-loop-need : goal.invariant-loop-need
invariant-loop-need l = (every (λ x. has_row x (rows_of l.calls)) (rows_of l.need-iterator) ≡ every (λ x. has_row x (rows_of l.calls)) (rows_of l.needs)) × Among l.calls l.from
