-- `changes::left::leave_row` meets its contract. Assumes nothing.
use Rattle.policy.specs.Tables.{bit, decode}
use Rattle.geometry.specs.Geometry.{layout_of}
use Rattle.changes.specs.Left.{left_one}
use Rattle.changes.proofs.AppendedRows.{Appended}
use Rattle.changes.proofs.left.leave_row.Given as goal

abbrev pub invariant-loop-k : goal.invariant-loop-k
invariant-loop-k l = let t = decode (layout_of l.c) l.initial.img in Appended (layout_of l.c) l.l t (left_one l.l t l.aid l.j l.i (bit l.row)) l.size l.k l.img
