-- `record::reading::new_service` meets its contract: tokens, and a list of callers after them.
use Rattle.policy.specs.Record.{a_service}
use Rattle.record.proofs.reading.new_service.Goals as goal

pub returns-in_err-tokens : goal.returns-in_err-tokens
unfolding a_service
returns-in_err-tokens c = rw (c.from_residual.ensures, ← c.in_err-tokens.ensures.reads.reads)

pub returns-in_err-callers : goal.returns-in_err-callers
unfolding a_service
returns-in_err-callers c = rw (c.from_residual-in_err-callers.ensures, ← c.in_ok-tokens.ensures.reads.reads, ← c.in_err-callers.ensures.reads)

pub returns : goal.returns
unfolding a_service
returns c = rw (← c.in_ok-tokens.ensures.reads.reads, ← c.in_ok-callers.ensures.reads)
