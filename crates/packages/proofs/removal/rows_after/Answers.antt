-- `packages::removal::rows_after` meets its contract.
use Prim.Native.Nat.{ℕ, ◌+◌}
use native.Mathlib.Omega.{arith}
use mathlib.Core.Path.{ap₂, ◌∙◌}
use lib.Dec.{eqb}
use Rattle.geometry.proofs.Bounds.{limits}
use Rattle.image.specs.Image.{lay, tables}
use Rattle.image.specs.Read.{items_of, item_number}
use Rattle.image.proofs.LaidImage.{is_laid}
use Rattle.image.proofs.Listed.{list_low}
use Rattle.packages.proofs.Removed.Rows.{whole_column, own_le, rest_is}
use Rattle.packages.proofs.removal.rows_after.Goals as goal

pub overflow_sub-result : goal.overflow_sub-result
overflow_sub-result c =
    let a = c.args in
    own_le (λ x. eqb (item_number a.l x) a.n) (items_of a.l (tables a.img)) c.count.result c.with_number.result c.mask_count.result
    (list_low a.img.card a.img.bytes.now (is_laid a.img) a.l) c.count.ensures c.with_number.ensures c.mask_count.ensures

pub overflow_add-result : goal.overflow_add-result
overflow_add-result c = let i = c.args.img in omega (arith, list_low i.card i.bytes.now (is_laid i) c.args.l, c.count.ensures, c.column.ensures.1)

pub returns : goal.returns
returns c =
    let a = c.args in
    ap₂ (λ (x y : ℕ). x + y)
    (rest_is (λ x. eqb (item_number a.l x) a.n) (items_of a.l (tables a.img)) c.count.result c.with_number.result c.mask_count.result
    (list_low a.img.card a.img.bytes.now (is_laid a.img) a.l) c.count.ensures c.with_number.ensures c.mask_count.ensures)
    (c.column.ensures.0 ∙ whole_column (lay a.img) (tables a.img) a.tb (limits a.img.card).services_low a.n)
