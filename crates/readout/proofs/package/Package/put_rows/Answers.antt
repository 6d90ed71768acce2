-- `readout::package::Package::put_rows` meets its contract. Assumes nothing.
use Rattle.image.specs.Image.{lay, tables}
use Rattle.readout.proofs.Writers.{three_put}
use Rattle.readout.proofs.Rows.{kept_are, kept_short}
use Rattle.readout.proofs.package.Package.put_rows.Goals as goal

pub put_table-requires : goal.put_table-requires
put_table-requires c = let a = c.args in (kept_short (lay a.self.img) (tables a.self.img) a.self.n a.l _ c.table_beside.ensures _ c.count_rows.ensures _ c.requires).second c.put_count.ensures

pub put_list-requires : goal.put_list-requires
put_list-requires c = let a = c.args in (kept_short (lay a.self.img) (tables a.self.img) a.self.n a.l _ c.table_beside.ensures _ c.count_rows.ensures _ c.requires).third c.put_count.ensures c.put_table.ensures

pub returns : goal.returns
returns c = let a = c.args in three_put _ _ _ _ (kept_are (lay a.self.img) (tables a.self.img) a.self.n a.l _ c.table_beside.ensures _ c.count_rows.ensures) c.put_count.ensures c.put_table.ensures c.put_list.ensures
