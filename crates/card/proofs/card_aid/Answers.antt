-- `card::card_aid` meets its contract.
use native.Mathlib.Omega.{arith}
use mathlib.Core.Path.{ap, ◌∙◌}
use Rattle.geometry.specs.declared.Card.{Card}
use Rattle.geometry.specs.Geometry.{layout_of}
use Rattle.policy.specs.Record.{first_aid}
use Rattle.card.specs.Calls.{by}
use Rattle.card.proofs.Packs.{aid_short, no_aid, some_aid}
use Rattle.card.proofs.card_aid.Goals as goal

pub returns-then-n-eq0 : goal.returns-then-n-eq0
returns-then-n-eq0 c =
    let rec = c.args.rec.now in
    no_aid (by rec) rec (c.aid_part-aid.ensures ∙ ap (λ (k : Card). first_aid (layout_of k) rec) c.card_of_record-c.ensures) c.if-n-eq0.true

pub overflow_cast-n : goal.overflow_cast-n
overflow_cast-n c =
    let rec = c.args.rec.now in
    omega (arith, aid_short (by rec) rec (c.aid_part-aid.ensures ∙ ap (λ (k : Card). first_aid (layout_of k) rec) c.card_of_record-c.ensures))

pub returns : goal.returns
returns c =
    let rec = c.args.rec.now in
    some_aid (by rec) rec (c.aid_part-aid.ensures ∙ ap (λ (k : Card). first_aid (layout_of k) rec) c.card_of_record-c.ensures) c.if-n-eq0.false c.join.ensures
