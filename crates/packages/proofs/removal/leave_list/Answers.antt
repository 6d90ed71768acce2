-- `packages::removal::leave_list` meets its contract. Assumes nothing.
use Rattle.geometry.specs.Geometry.{layout_of}
use Rattle.packages.proofs.Removed.Rows.{own_dropped, left_room, list_left}
use Rattle.packages.proofs.removal.leave_list.Goals as goal

pub leave_rows-requires-clause-room : goal.leave_rows-requires-clause-room
leave_rows-requires-clause-room c =
    let mask = c.with_number-own in
    let a = c.args in
    let L = layout_of a.c in
    let w = own_dropped L a.l a.tb a.aid.now a.n a.img.now mask.result mask.ensures c.drop_rows.ensures in
    left_room L a.l a.tb a.aid.now a.n a.img.now c.requires.room w

pub returns : goal.returns
returns c =
    let mask = c.with_number-own in
    let a = c.args in
    let L = layout_of a.c in
    let w = own_dropped L a.l a.tb a.aid.now a.n a.img.now mask.result mask.ensures c.drop_rows.ensures in
    list_left L a.l a.tb a.aid.now a.n a.img.now w c.leave_rows.ensures
