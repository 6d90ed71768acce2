-- `record::parts::read_row` meets its contract: an AID, and then tokens.
use Rattle.policy.specs.Record.{row_of}
use Rattle.record.proofs.parts.read_row.Goals as goal

pub returns-in_err-other : goal.returns-in_err-other
unfolding row_of
returns-in_err-other c = rw (c.from_residual.ensures, ← c.in_err-other.ensures)

pub returns-in_err-tokens : goal.returns-in_err-tokens
unfolding row_of
returns-in_err-tokens c = rw (c.from_residual-in_err-tokens.ensures, ← c.in_ok-other.ensures, ← c.in_err-tokens.ensures.reads)

pub returns : goal.returns
unfolding row_of
returns c = rw (← c.in_ok-other.ensures, ← c.in_ok-tokens.ensures.reads)
