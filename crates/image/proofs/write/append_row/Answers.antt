-- `image::write::append_row` meets its contract.
use native.Mathlib.Omega.{arith}
use Rattle.geometry.specs.Geometry.{tok_of}
use Rattle.geometry.proofs.Bounds.{list_in}
use Rattle.image.proofs.Writes.{laid_len, tail_three, row_room, row_appended}
use Rattle.image.proofs.write.append_row.Goals as goal

pub slice_bounds-append-end : goal.slice_bounds-append-end
slice_bounds-append-end c = omega (arith, laid_len c.args.c c.requires.laid, list_in c.args.c c.args.l)

pub append-requires : goal.append-requires
append-requires c =
    let a = c.args in
    let e = tail_three a.l (tok_of a.t) a.number c.tail-rest.ensures in record {
      short = (c.requires.short, omega (arith, e));
      room = row_room a.c c.requires.laid a.l a.aid.now (tok_of a.t) a.number c.requires.short c.requires.room
          c.tail-rest.result c.tail-rest.ensures c.list_at-at.result c.list_end-end.result
          c.list_at-at.ensures c.list_end-end.ensures;
    }

pub returns : goal.returns
returns c =
    let a = c.args in
    let tail = c.tail-rest in
    let end = c.list_end-end in
    let at = c.list_at-at in
    row_appended a.c c.requires.laid a.l a.aid.now (tok_of a.t) a.number c.requires.short c.requires.room
    tail.result tail.ensures at.result end.result at.ensures end.ensures c.append.ensures
