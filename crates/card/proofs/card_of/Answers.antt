-- `card::card_of` meets its contract.
use mathlib.Core.Path.{sym}
use Rattle.card.proofs.Cards.{sized_small, sized_large}
use Rattle.card.proofs.card_of.Goals as goal

pub returns-then-size-eq-LARGE : goal.returns-then-size-eq-LARGE
returns-then-size-eq-LARGE c = sym (sized_large c.args.size c.if-size-eq-LARGE.true)

pub returns : goal.returns
returns c = sym (sized_small c.args.size c.if-size-eq-LARGE.false)
