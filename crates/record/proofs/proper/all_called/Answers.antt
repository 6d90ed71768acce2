-- `record::proper::all_called` meets its contract: the rows to come decide, and the search goes on among the calls.
use Rattle.std.proofs.Common.{rules}
use Rattle.policy.specs.Contract.{eq_row}
use Rattle.record.specs.Listed.{row_of}
use Rattle.record.proofs.Found.{every_stop, every_next}
use Rattle.record.proofs.proper.all_called.Goals as goal

pub returns-then-not-seek : goal.returns-then-not-seek
returns-then-not-seek c =
    let s = c.seek.ensures (eq_row (row_of c.in-Some.need)) (λ r b k. search rules) c.loop-need.invariant.1 in
    every_stop _ c.loop-need.invariant.0 c.in-Some.ensures.steps s.0 c.if-not-seek.true

pub loop-need-preserved : goal.loop-need-preserved
loop-need-preserved c =
    let s = c.seek.ensures (eq_row (row_of c.in-Some.need)) (λ r b k. search rules) c.loop-need.invariant.1 in
    (every_next _ c.loop-need.invariant.0 c.in-Some.ensures.steps s.0 c.if-not-seek.false, s.1)
