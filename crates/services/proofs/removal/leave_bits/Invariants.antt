-- `services::removal::leave_bits` meets its contract. Assumes nothing.
use Rattle.policy.specs.Tables.{decode}
use Rattle.geometry.specs.Geometry.{layout_of}
use Rattle.services.specs.Removal.{left_bit}
use Rattle.changes.proofs.AppendedRows.{Appended}
use Rattle.services.proofs.removal.leave_bits.Given as goal

abbrev pub invariant-loop-i : goal.invariant-loop-i
invariant-loop-i l = let t = decode (layout_of l.c) l.initial.img in Appended (layout_of l.c) l.l t (left_bit (layout_of l.c) l.l t l.tb l.j l.k) (layout_of l.c).packages l.i l.img
