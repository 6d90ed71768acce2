-- `readout::package::Package::count_rows` meets its contract. Assumes nothing.
use native.Mathlib.Omega.{arith}
use Rattle.image.specs.Image.{lay, tables}
use Rattle.image.proofs.LaidImage.{is_laid}
use Rattle.image.proofs.Listed.{list_low}
use Rattle.readout.proofs.Turns.{few}
use Rattle.readout.proofs.Rows.{kept_counted}
use Rattle.readout.proofs.package.Package.count_rows.Goals as goal

pub overflow_add-result : goal.overflow_add-result
overflow_add-result c = omega (arith, c.count_bits.ensures.1, few 32 _ _ c.mask_count.ensures)

pub returns : goal.returns
returns c =
    let s = c.args.self in
    kept_counted (lay s.img) (tables s.img) s.n c.args.l _ c.table_beside.ensures _ _ _ (list_low s.img.card s.img.bytes.now (is_laid s.img) c.args.l)
    c.count_bits.ensures.0 c.with_number-mask.ensures c.mask_count.ensures
