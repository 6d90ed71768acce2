-- `packages::removal::leave_lists` meets its contract. Assumes nothing.
use Rattle.geometry.specs.Geometry.{layout_of}
use Rattle.packages.proofs.Removed.Rows.{waiting_room}
use Rattle.packages.proofs.removal.leave_lists.Goals as goal

pub leave_list-requires-2-clause-room : goal.leave_list-requires-2-clause-room
leave_list-requires-2-clause-room c = let a = c.args in waiting_room (layout_of a.c) a.aid.now a.n a.img.now c.leave_list.ensures c.requires.room
