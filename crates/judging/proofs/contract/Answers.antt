-- `judging::contract` meets its contract.
use mathlib.Core.Bool.{not}
use mathlib.Core.Path.{ap}
use Rattle.judging.proofs.Judged.{improper, asked, settles}
use Rattle.judging.proofs.contract.Goals as goal

pub returns-then-not-contract_proper : goal.returns-then-not-contract_proper
returns-then-not-contract_proper c = improper _ _ _ _ (c.contract_proper.ensures c.args.c c.args.k) (ap not c.if-not-contract_proper.true)

pub bring-requires : goal.bring-requires
bring-requires c = asked _ _ _ _ (c.contract_proper.ensures c.args.c c.args.k) (ap not c.if-not-contract_proper.false) c.requires

pub returns : goal.returns
returns c = settles _ _ _ _ (c.contract_proper.ensures c.args.c c.args.k) (ap not c.if-not-contract_proper.false) c.bring.ensures
