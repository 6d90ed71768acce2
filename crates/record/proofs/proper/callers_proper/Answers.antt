-- `record::proper::callers_proper` meets its contract: the callers to come decide.
use Rattle.policy.specs.Record.{proper}
use Rattle.policy.specs.Contract.{eq_aid}
use Rattle.record.proofs.Found.{no_more}
use Rattle.record.proofs.Others.{own_aid, others, own_stop, twice_stop}
use Rattle.record.proofs.proper.callers_proper.Goals as goal

pub returns-then-same_bytes : goal.returns-then-same_bytes
unfolding proper
returns-then-same_bytes c k t = own_stop (own_aid _) eq_aid c.loop-a.invariant c.in-Some.ensures.steps c.same_bytes.ensures c.if-same_bytes.true

pub returns-then-has_aid : goal.returns-then-has_aid
unfolding proper
returns-then-has_aid c k t =
    twice_stop (own_aid _) eq_aid c.loop-a.invariant c.in-Some.ensures.steps c.same_bytes.ensures c.if-same_bytes.false c.has_aid.ensures c.if-has_aid.true

pub returns : goal.returns
unfolding proper
returns c k t = no_more (others (own_aid _) eq_aid) c.loop-a.invariant c.in_default.ensures.steps.0
