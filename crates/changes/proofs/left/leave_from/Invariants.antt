-- `changes::left::leave_from` meets its contract. Assumes nothing.
use Rattle.policy.specs.Tables.{bit, decode}
use Rattle.geometry.specs.Geometry.{layout_of}
use Rattle.changes.specs.Left.{token_in, named_one}
use Rattle.changes.proofs.AppendedRows.{Appended}
use Rattle.changes.proofs.left.leave_from.Given as goal

abbrev pub invariant-loop-k : goal.invariant-loop-k
invariant-loop-k l = Appended (layout_of l.c) l.l (decode (layout_of l.c) l.initial.img) (named_one l.l (token_in l.tokens) l.aid l.i (bit l.row)) l.size l.k l.img
