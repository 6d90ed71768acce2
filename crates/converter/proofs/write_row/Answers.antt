-- `converter::write_row` meets its contract. Assumes nothing.
use Rattle.converter.proofs.Written.{row_made}
use Rattle.converter.proofs.write_row.Goals as goal

pub returns : goal.returns
returns c =
    let a = c.args in
    row_made a.old.now c.requires.sound a.r c.requires.row a.out.now c.requires.sized _ _ _ c.old_at-from.ensures c.named_at-tok.ensures c.place_at-to.ensures _ _
    c.copy_from_slice.ensures.after c.copy_from_slice-2.ensures.after
