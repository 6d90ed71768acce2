-- `packages::removal::leave_rows` meets its contract: the rows of those so far are left.
use Rattle.policy.specs.Tables.{decode}
use Rattle.geometry.specs.Geometry.{layout_of}
use Rattle.image.specs.Laid.{table_of}
use Rattle.changes.specs.Left.{by_list, left_row}
use Rattle.changes.proofs.AppendedRows.{Appended}
use Rattle.packages.proofs.removal.leave_rows.Given as goal

abbrev pub invariant-loop-i : goal.invariant-loop-i
invariant-loop-i l =
    let L = layout_of l.c in
    let t = decode L l.initial.img in
    Appended L l.l t (λ x. left_row L l.l t l.aid (by_list l.l l.n x) x (table_of l.tb t x l.n)) L.packages l.i l.img
