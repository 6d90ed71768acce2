-- `image::write::put_bit` meets its contract.
use mathlib.Core.Path.{refl}
use Rattle.image.proofs.Writes.{writes, bit_fits, bit_wrote}
use Rattle.image.proofs.write.put_bit.Goals as goal

pub row_at-row-requires : goal.row_at-row-requires
row_at-row-requires c = search writes

pub put_row-requires : goal.put_row-requires
put_row-requires c =
    let a = c.args in
    let o = c.requires in
    record {
      inside = search writes;
      fits = bit_fits a.c o.laid a.tb a.i a.j c.entry_at-at.result o.inside.0 o.inside.1 c.entry_at-at.ensures
          a.k o.inside.2 a.v c.row_at-row.result c.row_at-row.ensures c.row_with.result _ c.row_with.ensures refl;
    }

pub returns : goal.returns
returns c =
    let a = c.args in
    let o = c.requires in
    bit_wrote a.c o.laid a.tb a.i a.j c.entry_at-at.result o.inside.0 o.inside.1 c.entry_at-at.ensures
    a.k o.inside.2 a.v c.row_at-row.result c.row_at-row.ensures c.row_with.result _ c.row_with.ensures refl c.put_row.ensures
