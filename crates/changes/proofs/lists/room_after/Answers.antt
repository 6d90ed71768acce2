-- `changes::lists::room_after` meets its contract.
use native.Mathlib.Omega.{arith}
use Rattle.geometry.proofs.Bounds.{limits}
use Rattle.image.proofs.LaidImage.{is_laid}
use Rattle.changes.proofs.ListRoom.{rows_fit_lem, gone_low, sum_fits}
use Rattle.changes.proofs.lists.room_after.Goals as goal

pub overflow_add-result : goal.overflow_add-result
overflow_add-result c = sum_fits _ _ _ _ c.capacity.ensures c.mask_count.ensures (limits c.args.img.card).capacity_low (gone_low c.args.mask)

pub overflow_sub-result : goal.overflow_sub-result
overflow_sub-result c = omega (arith, c.capacity.ensures, c.count.ensures, rows_fit_lem (is_laid c.args.img).room c.args.l)
