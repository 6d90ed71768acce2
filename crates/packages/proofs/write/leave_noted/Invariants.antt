-- `packages::write::leave_noted` meets its contract: those so far are unmet.
use Rattle.policy.specs.Tables.{bit, decode}
use Rattle.geometry.specs.Geometry.{layout_of}
use Rattle.geometry.specs.declared.Kept.TheVariants.{UnmetCalls}
use lib.ListN.{get_or}
use Rattle.changes.specs.Left.{token_in, named_row}
use Rattle.changes.proofs.AppendedRows.{Appended}
use Rattle.packages.proofs.write.leave_noted.Given as goal

abbrev pub invariant-loop-i : goal.invariant-loop-i
invariant-loop-i l = let L = layout_of l.c in Appended L UnmetCalls (decode L l.initial.img) (λ x. named_row L UnmetCalls (token_in l.tokens) l.aid x (bit (get_or l.rows x 0))) L.packages l.i l.img
