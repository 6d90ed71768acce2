-- `card::card_check` meets its contract.
use Rattle.geometry.specs.declared.Card.{Card}
use Rattle.geometry.specs.Geometry.{layout_of}
use Rattle.policy.specs.Judge.{check}
use Rattle.card.proofs.Packs.{packs_on}
use Rattle.card.proofs.card_check.Goals as goal

pub returns : goal.returns
returns c =
    let image = c.args.image.now in
    packs_on (λ (k : Card). check (layout_of k) image) c.card_of-c.ensures c.check_image-checked.ensures c.verdict.ensures
