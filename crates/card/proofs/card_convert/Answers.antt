-- `card::card_convert` meets its contract.
use Rattle.policy.specs.Layout.{narrow, small}
use Rattle.card.proofs.Packs.{conversion}
use Rattle.card.proofs.card_convert.Goals as goal

pub returns : goal.returns
returns c = conversion narrow small c.convert.ensures c.taken.ensures
