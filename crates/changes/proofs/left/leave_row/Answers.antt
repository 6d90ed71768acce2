-- `changes::left::leave_row` meets its contract. Assumes nothing.
use mathlib.Core.Path.{refl}
use Rattle.policy.specs.Tables.{bit}
use Rattle.changes.specs.Left.{left_one}
use Rattle.changes.proofs.AppendedRows.{append_start, append_turn, append_room}
use Rattle.changes.proofs.left.leave_row.Goals as goal

pub loop-k-init : goal.loop-k-init
loop-k-init c = append_start c.requires.laid

pub loop-k-preserved : goal.loop-k-preserved
loop-k-preserved c =
    let l = c.loop-k in
    let a = c.args in
    append_turn l.invariant (λ z. left_one a.l z a.aid.now a.j a.i (bit a.row) l.k) (λ u w. refl) c.loop-k-test.true c.leave_one.ensures

pub leave_one-requires-clause-room : goal.leave_one-requires-clause-room
leave_one-requires-clause-room c =
    let l = c.loop-k in
    let a = c.args in
    append_room l.invariant (λ z. left_one a.l z a.aid.now a.j a.i (bit a.row) l.k) (λ u w. refl) c.loop-k-test.true c.services-size.ensures c.requires.room
