-- `card::card_of_record` meets its contract.
use mathlib.Core.Path.{sym, ◌∙◌}
use Rattle.geometry.specs.declared.Card.TheVariants.{Large}
use Rattle.card.proofs.Cards.{versioned_as, versioned_else, short_version}
use Rattle.card.proofs.card_of_record.Goals as goal

pub returns-then-rec-lt3 : goal.returns-then-rec-lt3
returns-then-rec-lt3 c = sym (short_version c.args.rec.now c.if-rec-lt3.true)

pub returns-then-rec-version : goal.returns-then-rec-version
returns-then-rec-version c = sym (versioned_as Large _ (c.if-rec-version.true ∙ c.version.ensures))

pub returns : goal.returns
returns c = sym (versioned_else _ (λ e. c.if-rec-version.false (e ∙ sym c.version.ensures)))
