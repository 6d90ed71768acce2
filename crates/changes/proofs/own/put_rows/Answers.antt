-- `changes::own::put_rows` meets its contract.
use Rattle.changes.proofs.OwnPut.{call_next, grant_next, need_next}
use Rattle.changes.proofs.own.put_rows.Goals as goal

pub loop-r-preserved : goal.loop-r-preserved
loop-r-preserved c = call_next c.loop-r.invariant c.in-Some.ensures.steps c.call.ensures

pub loop-r-2-preserved : goal.loop-r-2-preserved
loop-r-2-preserved c = grant_next c.loop-r-2.invariant c.in-Some-r.ensures.steps c.grant.ensures

pub loop-r-3-preserved : goal.loop-r-3-preserved
loop-r-3-preserved c = need_next c.loop-r-3.invariant c.in-Some-r-2.ensures.steps c.need.ensures
