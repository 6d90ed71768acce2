-- `lists::List::differ` meets its contract.
use mathlib.Core.Path.{◌≡◌, ap, refl, sym, ◌∙◌}
use mathlib.Core.Bool.{true, not}
use Rattle.bits.proofs.Loops.{every_more, every_fails}
use Rattle.soundness.specs.Check.{new_row, is_early}
use Rattle.soundness.proofs.Tests.{row_least}
use Rattle.soundness.proofs.Marks.{marked_more, rows_mark, row_low, row_met}
use Rattle.soundness.proofs.lists.List.differ.Goals as goal
use Rattle.soundness.proofs.lists.List.differ.Goals.{else-is_set-via-then-is_set+else-not-is_new, else-is_set-via-else-is_set}

pub returns-then-not-is_new : goal.returns-then-not-is_new
returns-then-not-is_new c =
    let s = c.args.self.now in every_fails (new_row s.front.img.now s.at s.w) c.args.n c.loop-r.r c.is_new.ensures (ap not c.if-not-is_new.true) c.loop-r-test.true

pub loop-r-preserved : goal.loop-r-preserved
loop-r-preserved c =
    let o = c.loop-r in let s = c.args.self.now in
    let h = rw c.place.ensures at c.row_mark-h.ensures in
    let new : true ≡ new_row s.front.img.now s.at s.w o.r = elim c.else-is_set.branch [
      | else-is_set-via-then-is_set+else-not-is_new w ↦ sym w.if-not-is_new.false ∙ w.is_new.ensures
      | else-is_set-via-else-is_set w ↦ row_met s.front.img.now s.at s.w o.seen o.r (row_least (is_early s.rules) s.k s.w s.w_is) o.invariant.marked h (sym w.if-is_set.false ∙ c.is_set.ensures) refl
    ] in
    record {
      shown = every_more (new_row s.front.img.now s.at s.w) o.r o.invariant.shown new refl;
      marked = marked_more (rows_mark s.front.img.now s.at s.w) (row_low s.front.img.now s.at s.w) o.seen c.with_mark-seen.result o.r o.invariant.marked h c.with_mark-seen.ensures;
    }
