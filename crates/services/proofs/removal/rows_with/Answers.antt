-- `services::removal::rows_with` meets its contract. Assumes nothing.
use native.Mathlib.Omega.{arith}
use Rattle.geometry.proofs.Bounds.{limits}
use Rattle.image.specs.Image.{lay, tables}
use Rattle.image.proofs.LaidImage.{is_laid}
use Rattle.image.proofs.Listed.{list_low}
use Rattle.services.specs.Removal.{between}
use Rattle.bits.proofs.Gathered.{count_le}
use Rattle.services.proofs.removal.rows_with.Goals as goal

pub overflow_add-result : goal.overflow_add-result
overflow_add-result c =
    let a = c.args in
    omega (
      arith,
      list_low a.img.card a.img.bytes.now (is_laid a.img) a.l,
      c.count.ensures,
      count_le (λ i. between a.tb (tables a.img) a.j i a.k) (lay a.img).packages,
      (limits a.img.card).packages_low,
      c.holders.ensures,
    )
