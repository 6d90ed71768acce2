-- `changes::left::in_entry` meets its contract.
use mathlib.Core.Path.{◌∙◌}
use Rattle.policy.specs.Tables.{bit}
use Rattle.geometry.proofs.Bounds.{limits}
use Rattle.image.specs.Image.{lay}
use Rattle.bits.proofs.Gathered.{bits_low}
use Rattle.bits.proofs.Row.{row_beside, row_count}
use Rattle.changes.proofs.left.in_entry.Goals as goal

pub returns : goal.returns
returns c =
    let a = c.args in
    let m = (limits a.img.card).services_low in
    record {
      is = row_count (lay a.img).services _ c.common.result (c.common.ensures ∙ row_beside (lay a.img).services 16 _ (bit a.d) c.entry.result m c.entry.ensures) m c.count.result c.count.ensures;
      low = bits_low c.common.result c.count.result c.count.ensures;
    }
