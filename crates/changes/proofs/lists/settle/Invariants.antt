-- `changes::lists::settle` meets its contract. Assumes nothing.
use Rattle.policy.specs.Tables.{decode}
use Rattle.geometry.specs.Geometry.{layout_of}
use Rattle.changes.proofs.RowsToBits.{Settling, grants}
use Rattle.changes.proofs.lists.settle.Given as goal

abbrev pub invariant-loop-r : goal.invariant-loop-r
invariant-loop-r l = Settling (layout_of l.c) (grants (layout_of l.c) l.due) (decode (layout_of l.c) l.initial.img) l.img l.r
