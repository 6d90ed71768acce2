-- `card::card_enlarge` meets its contract.
use Rattle.policy.specs.Layout.{small, large}
use Rattle.card.proofs.Packs.{conversion}
use Rattle.card.proofs.card_enlarge.Goals as goal

pub returns : goal.returns
returns c = conversion small large c.enlarge.ensures c.taken.ensures
