-- `packages::write::leave_noted` meets its contract: those so far are unmet.
use native.Mathlib.Omega.{arith}
use mathlib.Core.Path.{refl}
use lib.ListN.{get_or}
use Rattle.policy.specs.Tables.{bit}
use Rattle.geometry.specs.Geometry.{layout_of}
use Rattle.geometry.specs.declared.Kept.TheVariants.{UnmetCalls}
use Rattle.changes.specs.Left.{token_in, named_row}
use Rattle.changes.proofs.AppendedRows.{append_turn, append_room}
use Rattle.packages.proofs.write.leave_noted.Goals as goal

pub leave_from-requires-clause-room : goal.leave_from-requires-clause-room
leave_from-requires-clause-room c =
    let a = c.args in
    append_room c.loop-i.invariant (λ z. named_row (layout_of a.c) UnmetCalls (token_in a.tokens.now) a.aid.now c.loop-i.i (bit (get_or a.rows.now c.loop-i.i 0))) (λ u w. refl) (omega arith) refl c.requires.room

pub loop-i-preserved : goal.loop-i-preserved
loop-i-preserved c =
    let a = c.args in
    append_turn c.loop-i.invariant (λ z. named_row (layout_of a.c) UnmetCalls (token_in a.tokens.now) a.aid.now c.loop-i.i (bit (get_or a.rows.now c.loop-i.i 0))) (λ u w. refl) (omega arith) c.leave_from.ensures
