-- `card::card_judge` meets its contract.
use Rattle.geometry.specs.declared.Card.{Card}
use Rattle.geometry.specs.Geometry.{layout_of}
use Rattle.policy.specs.Judge.{judge}
use Rattle.card.proofs.Packs.{packs_on}
use Rattle.card.proofs.card_judge.Goals as goal

pub returns : goal.returns
returns c =
    let a = c.args in
    packs_on (λ (k : Card). judge (layout_of k) a.image.now a.rec.now) c.card_of-c.ensures c.judge-judged.ensures c.verdict.ensures
