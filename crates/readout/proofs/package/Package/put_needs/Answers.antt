-- `readout::package::Package::put_needs` meets its contract. Assumes nothing.
use Rattle.image.specs.Image.{lay, tables}
use Rattle.readout.proofs.Writers.{two_put}
use Rattle.readout.proofs.Rows.{needs_are, needs_short}
use Rattle.readout.proofs.package.Package.put_needs.Goals as goal

pub put_table-requires : goal.put_table-requires
put_table-requires c = (needs_short (lay c.args.self.img) (tables c.args.self.img) c.args.self.n _ _ c.count_bits.ensures.0 c.requires).second c.put_count.ensures

pub returns : goal.returns
returns c = two_put _ _ _ (needs_are (lay c.args.self.img) (tables c.args.self.img) c.args.self.n _ c.count_bits.ensures.0) c.put_count.ensures c.put_table.ensures
