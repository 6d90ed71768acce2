-- `judging::change` meets its contract.
use mathlib.Core.Bool.{not}
use mathlib.Core.Path.{ap, refl}
use Rattle.record.specs.Listed.{row_of}
use Rattle.judging.proofs.Judged.{improper, asked, settles}
use Rattle.judging.proofs.change.Goals as goal

pub returns-then-not-other_proper : goal.returns-then-not-other_proper
returns-then-not-other_proper c = improper _ _ _ _ (c.other_proper.ensures c.args.c c.args.k (row_of c.args.r) refl) (ap not c.if-not-other_proper.true)

pub change-requires : goal.change-requires
change-requires c = asked _ _ _ _ (c.other_proper.ensures c.args.c c.args.k (row_of c.args.r) refl) (ap not c.if-not-other_proper.false) c.requires

pub returns : goal.returns
returns c = settles _ _ _ _ (c.other_proper.ensures c.args.c c.args.k (row_of c.args.r) refl) (ap not c.if-not-other_proper.false) c.change.ensures
