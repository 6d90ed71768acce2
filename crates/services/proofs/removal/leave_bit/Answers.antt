-- `services::removal::leave_bit` meets its contract. Assumes nothing.
use Rattle.policy.specs.Tables.{decode}
use Rattle.geometry.specs.Geometry.{layout_of}
use Rattle.services.proofs.Removed.Rows.{bit_left}
use Rattle.services.proofs.removal.leave_bit.Goals as goal

pub leave_named-requires-clause-room : goal.leave_named-requires-clause-room
leave_named-requires-clause-room c =
    let a = c.args in
    rw (bit_left (layout_of a.c) a.l (decode (layout_of a.c) a.img.now) a.tb a.j a.k a.i _ _ _ c.between-row.ensures c.by_list-named.ensures c.by_list-owner.ensures c.requires.inside.2) c.requires.room

pub returns : goal.returns
returns c =
    let a = c.args in
    rw (bit_left (layout_of a.c) a.l (decode (layout_of a.c) a.img.now) a.tb a.j a.k a.i _ _ _ c.between-row.ensures c.by_list-named.ensures c.by_list-owner.ensures c.requires.inside.2)
    at c.leave_named.ensures
