-- `services::removal::leave_bits` meets its contract. Assumes nothing.
use native.Mathlib.Omega.{arith}
use mathlib.Core.Path.{refl}
use Rattle.policy.specs.Tables.{decode}
use Rattle.geometry.specs.Geometry.{layout_of}
use Rattle.services.specs.Removal.{left_bit}
use Rattle.changes.proofs.AppendedRows.{append_start, append_turn, append_room}
use Rattle.services.proofs.Removed.Rows.{bits_left}
use Rattle.services.proofs.removal.leave_bits.Goals as goal

pub loop-i-init : goal.loop-i-init
loop-i-init c = append_start c.requires.laid

pub leave_bit-requires-clause-room : goal.leave_bit-requires-clause-room
leave_bit-requires-clause-room c =
    let l = c.loop-i in
    let a = c.args in
    let L = layout_of a.c in
    append_room l.invariant (λ z. left_bit L a.l z a.tb a.j a.k l.i) (bits_left L a.l (decode L a.img.now) a.tb a.j a.k l.i) (omega arith) refl c.requires.room

pub loop-i-preserved : goal.loop-i-preserved
loop-i-preserved c =
    let l = c.loop-i in
    let a = c.args in
    let L = layout_of a.c in
    append_turn l.invariant (λ z. left_bit L a.l z a.tb a.j a.k l.i) (bits_left L a.l (decode L a.img.now) a.tb a.j a.k l.i) (omega arith) c.leave_bit.ensures
