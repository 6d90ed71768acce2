-- `record::proper::callers_proper` meets its contract: the callers to come decide.
use Rattle.std.specs.Prelude.{◌≡◌}
use Rattle.policy.specs.Contract.{eq_aid}
use Rattle.record.specs.Listed.{aids_of}
use Rattle.record.proofs.Others.{own_aid, others}
use Rattle.record.proofs.proper.callers_proper.Given as goal

abbrev pub invariant-loop-a : goal.invariant-loop-a
invariant-loop-a l = others (own_aid l.own) eq_aid (aids_of l.todo) ≡ others (own_aid l.own) eq_aid (aids_of l.of)
