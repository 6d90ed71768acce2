-- `image::write::drop_rows` meets its contract.
use Prim.Native.Nat.{◌-◌}
use native.Mathlib.Omega.{arith}
use Rattle.geometry.proofs.Bounds.{list_in}
use Rattle.image.proofs.Lent.{rows_area, rows_dropped}
use Rattle.image.proofs.Writes.{laid_len, items}
use Rattle.image.proofs.write.drop_rows.Goals as goal

pub slice_bounds-drop_rows-end : goal.slice_bounds-drop_rows-end
slice_bounds-drop_rows-end c = omega (arith, laid_len c.args.c c.requires, list_in c.args.c c.args.l)

pub drop_rows-requires : goal.drop_rows-requires
drop_rows-requires c =
    let at = c.list_at-at in
    rw c.row_size-width.ensures (let asked = rows_area c.args.c (items c.args.c c.requires c.args.l) at.result (c.list_end-end.result - at.result) at.ensures (omega arith) in record { area = asked.0; area_bound = asked.1 })

pub returns : goal.returns
returns c =
    let size = c.row_size-width in
    let end = c.list_end-end in
    let at = c.list_at-at in
    rows_dropped c.args.c (items c.args.c c.requires c.args.l) at.result (end.result - at.result) at.ensures (omega arith) c.args.mask
    {new = c.drop_rows.new.area} (rw (← size.ensures) c.drop_rows.ensures)
