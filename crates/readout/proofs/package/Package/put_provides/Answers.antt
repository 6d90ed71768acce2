-- `readout::package::Package::put_provides` meets its contract. Assumes nothing.
use Rattle.geometry.proofs.Bounds.{limits}
use Rattle.image.specs.Image.{lay, tables}
use Rattle.readout.proofs.Writers.{two_put}
use Rattle.readout.proofs.Turns.{row_count, count_byte}
use Rattle.readout.proofs.Rows.{provides_are, provides_short}
use Rattle.readout.proofs.package.Package.put_provides.Goals as goal

pub put_services-requires : goal.put_services-requires
put_services-requires c =
    let k = c.count-count.ensures in
    (provides_short (lay c.args.self.img) (tables c.args.self.img) c.args.self.n _ _ (row_count _ _ _ _ (limits c.args.self.img.card).services_low c.provided_row.ensures k) (count_byte _ _ k) _ c.requires).second c.put.ensures

pub returns : goal.returns
returns c =
    let k = c.count-count.ensures in
    two_put _ _ _ (provides_are (lay c.args.self.img) (tables c.args.self.img) c.args.self.n _ _ (row_count _ _ _ _ (limits c.args.self.img.card).services_low c.provided_row.ensures k) (count_byte _ _ k)) c.put.ensures c.put_services.ensures
