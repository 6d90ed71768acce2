-- `card::card_empty` meets its contract.
use Rattle.geometry.specs.declared.Card.{Card}
use Rattle.geometry.specs.Geometry.{layout_of}
use Rattle.policy.specs.Judge.{write_empty}
use Rattle.card.proofs.Packs.{packs_on}
use Rattle.card.proofs.card_empty.Goals as goal

pub returns : goal.returns
returns c =
    let lent = c.args.image.now in
    packs_on (λ (k : Card). write_empty (layout_of k) lent) c.card_of-c.ensures c.write_empty-emptied.ensures c.verdict.ensures
