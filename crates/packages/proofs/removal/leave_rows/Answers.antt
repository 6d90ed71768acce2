-- `packages::removal::leave_rows` meets its contract: the rows of those so far are left.
use native.Mathlib.Omega.{arith}
use mathlib.Core.Path.{refl}
use Rattle.policy.specs.Tables.{bit, decode}
use Rattle.geometry.specs.Geometry.{layout_of}
use Rattle.image.specs.Laid.{table_of}
use Rattle.changes.specs.Left.{left_row}
use Rattle.changes.proofs.AppendedRows.{append_start, append_apart, append_turn, append_room}
use Rattle.changes.proofs.LeftRows.{table_apart}
use Rattle.packages.proofs.Removed.Rows.{row_left}
use Rattle.packages.proofs.removal.leave_rows.Goals as goal

pub loop-i-init : goal.loop-i-init
loop-i-init c = append_start c.requires.laid

pub leave_row-requires-clause-room : goal.leave_row-requires-clause-room
leave_row-requires-clause-room c =
    let j = c.by_list-j in
    let row = c.entry-row in
    let l = c.loop-i in
    let a = c.args in
    let L = layout_of a.c in
    let t = decode L a.img.now in
    let same = append_apart l.invariant (table_of a.tb) (table_apart a.tb t) in
    append_room l.invariant (λ z. left_row L a.l z a.aid.now j.result l.i (bit row.result))
    (row_left L a.l t a.tb a.aid.now a.n l.i (decode L l.img) same row.result j.result row.ensures j.ensures) (omega arith) refl c.requires.room

pub loop-i-preserved : goal.loop-i-preserved
loop-i-preserved c =
    let j = c.by_list-j in
    let row = c.entry-row in
    let l = c.loop-i in
    let a = c.args in
    let L = layout_of a.c in
    let t = decode L a.img.now in
    let same = append_apart l.invariant (table_of a.tb) (table_apart a.tb t) in
    append_turn l.invariant (λ z. left_row L a.l z a.aid.now j.result l.i (bit row.result))
    (row_left L a.l t a.tb a.aid.now a.n l.i (decode L l.img) same row.result j.result row.ensures j.ensures) (omega arith)
    c.leave_row.ensures
