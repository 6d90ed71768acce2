-- `readout::package::Package::put_body` meets its contract. Assumes nothing.
use Rattle.image.specs.Image.{lay, tables}
use Rattle.readout.proofs.Writers.{three_put}
use Rattle.readout.proofs.Records.{body_are, parts_short}
use Rattle.readout.proofs.package.Package.put_body.Goals as goal

pub put-requires : goal.put-requires
put-requires c = let s = c.args.self in (parts_short (lay s.img) (tables s.img) s.n _ c.aid.ensures c.args.pen.now c.requires).first

pub put_provides-requires : goal.put_provides-requires
put_provides-requires c = let s = c.args.self in (parts_short (lay s.img) (tables s.img) s.n _ c.aid.ensures c.args.pen.now c.requires).second c.put.ensures

pub put_lists-requires : goal.put_lists-requires
put_lists-requires c = let s = c.args.self in (parts_short (lay s.img) (tables s.img) s.n _ c.aid.ensures c.args.pen.now c.requires).third c.put.ensures c.put_provides.ensures

pub returns : goal.returns
returns c = let s = c.args.self in three_put _ _ _ _ (body_are (lay s.img) (tables s.img) s.n _ c.aid.ensures) c.put.ensures c.put_provides.ensures c.put_lists.ensures
