-- `services::removal::leave_service` meets its contract. Assumes nothing.
use Rattle.policy.specs.Tables.{decode}
use Rattle.geometry.specs.declared.Table.TheVariants.{Calls, Grants}
use Rattle.geometry.specs.declared.Kept.TheVariants.{UnmetCalls, WaitingGrants}
use Rattle.geometry.specs.Geometry.{layout_of}
use Rattle.services.proofs.Removed.Rows.{bits_room}
use Rattle.services.proofs.removal.leave_service.Goals as goal

pub leave_bits-requires-clause-room : goal.leave_bits-requires-clause-room
leave_bits-requires-clause-room c = let a = c.args in bits_room (layout_of a.c) UnmetCalls (decode (layout_of a.c) a.img.now) Calls a.j a.k c.requires.room.0

pub leave_bits-requires-2-clause-room : goal.leave_bits-requires-2-clause-room
leave_bits-requires-2-clause-room c =
    let a = c.args in
    rw c.leave_bits.ensures.tables (bits_room (layout_of a.c) WaitingGrants (decode (layout_of a.c) a.img.now) Grants a.j a.k c.requires.room.1)
