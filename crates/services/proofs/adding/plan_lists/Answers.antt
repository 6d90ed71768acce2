-- `services::adding::plan_lists` meets its contract. Assumes nothing.
use Rattle.geometry.specs.declared.Kept.TheVariants.{WaitingGrants}
use Rattle.image.specs.Image.{lay}
use Rattle.image.proofs.LaidImage.{is_laid}
use Rattle.image.proofs.Listed.{list_low}
use Rattle.record.specs.Listed.{aids_of}
use Rattle.services.proofs.Added.Plan.{lists_ungranted, lists_crowded, lists_add}
use Rattle.services.proofs.adding.plan_lists.Goals as goal

pub returns-then-not-all_granted : goal.returns-then-not-all_granted
returns-then-not-all_granted c =
    let a = c.args in
    lists_ungranted (lay a.img) a.img.bytes.now c.requires.is_sound a.service (aids_of a.callers) _ _ _ _ c.requires.is_own c.with_row-met.ensures c.with_service-granting.ensures
    c.due_rows-due.ensures _ c.all_granted.ensures c.if-not-all_granted.true

pub returns-then-not-callers_fit : goal.returns-then-not-callers_fit
returns-then-not-callers_fit c =
    let a = c.args in
    lists_crowded (lay a.img) a.img.bytes.now c.requires.is_sound a.service (aids_of a.callers) _ _ _ _ c.requires.is_own c.with_row-met.ensures c.with_service-granting.ensures
    c.due_rows-due.ensures _ c.all_granted.ensures c.if-not-all_granted.false _ c.room_after-room.ensures (list_low a.img.card a.img.bytes.now (is_laid a.img) WaitingGrants) _ c.callers_fit.ensures c.if-not-callers_fit.true

pub returns : goal.returns
returns c =
    let a = c.args in
    lists_add (lay a.img) a.img.bytes.now c.requires.is_sound a.service (aids_of a.callers) _ _ _ _ c.requires.is_own c.with_row-met.ensures c.with_service-granting.ensures
    c.due_rows-due.ensures _ c.all_granted.ensures c.if-not-all_granted.false _ c.room_after-room.ensures (list_low a.img.card a.img.bytes.now (is_laid a.img) WaitingGrants) _ c.callers_fit.ensures c.if-not-callers_fit.false
