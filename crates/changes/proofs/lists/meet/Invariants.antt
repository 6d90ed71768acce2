-- `changes::lists::meet` meets its contract. Assumes nothing.
use Rattle.policy.specs.Tables.{decode}
use Rattle.geometry.specs.Geometry.{layout_of}
use Rattle.changes.proofs.RowsToBits.{Settling}
use Rattle.changes.proofs.RowsToBits.{calls}
use Rattle.changes.proofs.lists.meet.Given as goal

abbrev pub invariant-loop-r : goal.invariant-loop-r
invariant-loop-r l = Settling (layout_of l.c) (calls (layout_of l.c) l.met l.n) (decode (layout_of l.c) l.initial.img) l.img l.r
