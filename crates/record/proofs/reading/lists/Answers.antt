-- `record::reading::lists` meets its contract: four lists, each after the one before it.
use Rattle.policy.specs.Record.{a_contract}
use Rattle.record.proofs.reading.lists.Goals as goal

pub returns-in_err-provides : goal.returns-in_err-provides
unfolding a_contract
returns-in_err-provides c k = rw (c.from_residual.ensures, ← c.in_err-provides.ensures.reads)

pub returns-in_err-calls : goal.returns-in_err-calls
unfolding a_contract
returns-in_err-calls c k = rw (c.from_residual-in_err-calls.ensures, ← c.in_ok-provides.ensures.reads, ← c.in_err-calls.ensures.reads)

pub returns-in_err-grants : goal.returns-in_err-grants
unfolding a_contract
returns-in_err-grants c k = rw (c.from_residual-in_err-grants.ensures, ← c.in_ok-provides.ensures.reads, ← c.in_ok-calls.ensures.reads, ← c.in_err-grants.ensures.reads)

pub returns-in_err-needs : goal.returns-in_err-needs
unfolding a_contract
returns-in_err-needs c k =
    rw (c.from_residual-in_err-needs.ensures, ← c.in_ok-provides.ensures.reads, ← c.in_ok-calls.ensures.reads, ← c.in_ok-grants.ensures.reads, ← c.in_err-needs.ensures.reads)

pub returns : goal.returns
unfolding a_contract
returns c k = rw (← c.in_ok-provides.ensures.reads, ← c.in_ok-calls.ensures.reads, ← c.in_ok-grants.ensures.reads, ← c.in_ok-needs.ensures.reads)
