-- `judging::add_service` meets its contract.
use mathlib.Core.Bool.{not}
use mathlib.Core.Path.{ap}
use Rattle.geometry.specs.Geometry.{tok_of}
use Rattle.judging.proofs.Judged.{improper, asked, settles}
use Rattle.judging.proofs.add_service.Goals as goal

pub returns-then-not-callers_proper : goal.returns-then-not-callers_proper
returns-then-not-callers_proper c = improper _ _ _ _ (c.callers_proper.ensures c.args.c (tok_of c.args.t)) (ap not c.if-not-callers_proper.true)

pub add_service-requires : goal.add_service-requires
add_service-requires c = asked _ _ _ _ (c.callers_proper.ensures c.args.c (tok_of c.args.t)) (ap not c.if-not-callers_proper.false) c.requires

pub returns : goal.returns
returns c = settles _ _ _ _ (c.callers_proper.ensures c.args.c (tok_of c.args.t)) (ap not c.if-not-callers_proper.false) c.add_service.ensures
