-- `readout::package::Package::count_column` meets its contract. Assumes nothing.
use Rattle.geometry.proofs.Bounds.{limits}
use Rattle.image.specs.Image.{lay, tables}
use Rattle.image.specs.Laid.{table_of}
use Rattle.readout.proofs.Turns.{row_count, few}
use Rattle.readout.proofs.package.Package.count_column.Goals as goal

pub returns : goal.returns
returns c =
    let i = c.args.self.img in
    (row_count (lay i).services (table_of c.args.tb (tables i) c.args.self.n c.args.j) _ _ (limits i.card).services_low c.entry.ensures c.count.ensures, few 16 _ _ c.count.ensures)
