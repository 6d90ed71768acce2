-- `packages::removal::remove_cause` meets its contract.
use mathlib.Core.Path.{◌∙◌}
use Rattle.geometry.specs.declared.Table.TheVariants.{Needs}
use Rattle.geometry.proofs.Bounds.{limits}
use Rattle.image.specs.Image.{lay, tables}
use Rattle.packages.proofs.Removed.Rows.{whole_column}
use Rattle.packages.proofs.Removed.Outcome.{remove_cause}
use Rattle.packages.proofs.removal.remove_cause.Goals as goal

pub returns : goal.returns
returns c =
    let i = c.args.img in
    remove_cause (lay i) (tables i) _ c.capacity.result c.column.result c.rows_after.result c.rows_after-2.result c.first_cause.ensures c.capacity.ensures c.args.n
    (c.column.ensures.0 ∙ whole_column (lay i) (tables i) Needs (limits i.card).services_low c.args.n) c.rows_after.ensures c.rows_after-2.ensures
