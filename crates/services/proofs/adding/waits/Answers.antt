-- `services::adding::waits` meets its contract. Assumes nothing.
use Rattle.std.proofs.Common.{rules, tests, ◌≡◌, ◌&&◌, ◌∙◌, ap, ℕ, not, eqb}
use Rattle.policy.specs.Contract.{eq_aid}
use Rattle.policy.specs.Tables.{Waiting, bit}
use Rattle.image.specs.Image.{tables}
use Rattle.image.specs.Read.{waiting_row}
use Rattle.record.specs.Listed.{bytes_of}
use Rattle.changes.proofs.MaskedRows.{some_none}
use Rattle.bits.proofs.Chains.{any_below}
use Rattle.services.proofs.Added.Found.{named_row}
use Rattle.services.proofs.adding.waits.Goals as goal

pub returns-then-mask-ne0 : goal.returns-then-mask-ne0
returns-then-mask-ne0 c =
    let a = c.args in
    let t = tables a.img in
    let by = λ (w : Waiting). eq_aid w.caller (bytes_of a.a) in
    any_below c.count.result (λ r. bit a.mask r && by (waiting_row t r)) c.any.new.self c.any.ensures.ran (λ x b q k. search (rules, tests, k))
    ∙ named_row _ by a.mask t.waiting c.count.ensures

pub returns-else-mask-ne0 : goal.returns-else-mask-ne0
returns-else-mask-ne0 c =
    let a = c.args in
    let e : a.mask ≡ 0 = search rules in
    ap (λ (m : ℕ). not (eqb m 0)) e ∙ some_none (λ (w : Waiting). eq_aid w.caller (bytes_of a.a)) a.mask (tables a.img).waiting e
