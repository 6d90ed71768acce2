-- `services::adding::all_granted` meets its contract. Assumes nothing.
use Rattle.std.proofs.Common.{rules, tests, ap, Bool}
use Rattle.policy.specs.Lists.{implies, exists}
use Rattle.policy.specs.Contract.{eq_aid}
use Rattle.policy.specs.Tables.{Unmet, bit}
use Rattle.image.specs.Image.{lay, tables}
use Rattle.image.specs.Read.{unmet_row}
use Rattle.record.specs.Listed.{aids_of}
use Rattle.changes.proofs.MaskedRows.{named}
use Rattle.services.specs.Adding.{by_callers, due_to}
use Rattle.std.proofs.Common.{◌||◌, ◌∙◌}
use Rattle.bits.proofs.Chains.{all_below}
use Rattle.services.proofs.Added.Found.{every_row}
use Rattle.services.proofs.adding.all_granted.Goals as goal

pub returns : goal.returns
returns c f e =
    let a = c.args in
    let L = lay a.img in
    let t = tables a.img in
    let l = aids_of a.callers in
    let on = λ (u : Unmet). exists (eq_aid (t.aid u.caller)) l || due_to L a.due t u.caller in
    all_below c.count.result (λ r. implies (bit a.asking r) (on (unmet_row t r))) c.all.new.self c.all.ensures.ran (λ x b q k. search (rules, tests, k))
    ∙ every_row _ _ (by_callers L t l a.due f) t.unmet c.count.ensures (λ r h. ap (λ (b : Bool). implies b (on (unmet_row t r))) (named f t.unmet a.asking r _ e h))
