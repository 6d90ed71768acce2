-- `card::card_read_out` meets its contract.
use Rattle.geometry.specs.declared.Card.{Card}
use Rattle.geometry.specs.Geometry.{layout_of}
use Rattle.policy.specs.Judge.{read_out}
use Rattle.card.proofs.Packs.{packs_on}
use Rattle.card.proofs.card_read_out.Goals as goal

pub returns : goal.returns
returns c =
    let a = c.args in
    packs_on (λ (k : Card). read_out (layout_of k) a.image.now a.number a.out.now) c.card_of-c.ensures c.read_out-read.ensures c.answer.ensures
