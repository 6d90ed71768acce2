-- `services::adding::grant_all` meets its contract. Assumes nothing.
use Prim.Native.Nat.{ℕ, ◌+◌, ◌≤◌}
use mathlib.Core.Path.{sym, subst}
use lib.ListN.{length}
use Rattle.policy.specs.Tables.{decode}
use Rattle.policy.specs.ShortCheck.{count}
use Rattle.geometry.specs.Geometry.{layout_of, tok_of}
use Rattle.image.specs.Wrote.{Wrote}
use Rattle.record.specs.Listed.{aids_of}
use Rattle.services.specs.Adding.{of_service, is_lone, granted_to_each}
use Rattle.changes.proofs.MaskedRows.{mask_past}
use Rattle.changes.proofs.ListLoops.{turning_start, turning_here, turning_next, turning_end}
use Rattle.services.proofs.adding.grant_all.Goals as goal

pub loop-a-init : goal.loop-a-init
loop-a-init c =
    let a = c.args in
    let L = layout_of a.c in
    let t = decode L a.img.now in
    let e = c.with_service-still.ensures in
    let room = subst (λ (m : ℕ). length t.waiting + count (is_lone L m t) (aids_of a.callers) ≤ L.capacity) (sym e) c.requires.room in
    rw c.into_iter-a-iterator.ensures.into_iter_gives (turning_start _ c.requires.laid (room, mask_past (of_service a.s.provider (tok_of a.s.tokens)) t.waiting _ e))

pub grant-requires-clause-room : goal.grant-requires-clause-room
grant-requires-clause-room c = turning_here _ c.loop-a.invariant c.in-Some.ensures.steps

pub loop-a-preserved : goal.loop-a-preserved
loop-a-preserved c = turning_next _ c.loop-a.invariant c.in-Some.ensures.steps c.grant.ensures

pub returns : goal.returns
returns c =
    let a = c.args in
    let L = layout_of a.c in
    subst (λ (m : ℕ). Wrote L c.loop-a.img (granted_to_each L m a.s.provider a.s.number (tok_of a.s.tokens) (aids_of a.callers) (decode L a.img.now))) c.with_service-still.ensures
    (turning_end _ c.loop-a.invariant c.in-None.ensures.steps.0)
