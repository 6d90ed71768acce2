-- `changes::left::leave_from` meets its contract. Assumes nothing.
use mathlib.Core.Path.{refl}
use Rattle.policy.specs.Tables.{bit}
use Rattle.changes.specs.Left.{token_in, named_one}
use Rattle.changes.proofs.AppendedRows.{append_start, append_turn, append_room}
use Rattle.changes.proofs.left.leave_from.Goals as goal

pub loop-k-init : goal.loop-k-init
loop-k-init c = append_start c.requires.laid

pub loop-k-preserved : goal.loop-k-preserved
loop-k-preserved c =
    let l = c.loop-k in
    let a = c.args in
    append_turn l.invariant (λ z. named_one a.l (token_in a.tokens.now) a.aid.now a.i (bit a.row) l.k) (λ u w. refl) c.loop-k-test.true c.leave_tokens.ensures

pub leave_tokens-requires-clause-room : goal.leave_tokens-requires-clause-room
leave_tokens-requires-clause-room c =
    let l = c.loop-k in
    let a = c.args in
    append_room l.invariant (λ z. named_one a.l (token_in a.tokens.now) a.aid.now a.i (bit a.row) l.k) (λ u w. refl) c.loop-k-test.true c.services-size.ensures c.requires.room
