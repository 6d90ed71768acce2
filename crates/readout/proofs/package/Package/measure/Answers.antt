-- `readout::package::Package::measure` meets its contract. Assumes nothing.
use Rattle.image.proofs.LaidImage.{is_laid}
use Rattle.readout.proofs.Records.{body_short, measured}
use Rattle.readout.proofs.package.Package.measure.Goals as goal

pub put_body-requires : goal.put_body-requires
put_body-requires c = let s = c.args.self in body_short s.img.card s.img.bytes.now (is_laid s.img) s.n

pub returns : goal.returns
returns c = let s = c.args.self in measured s.img.card s.img.bytes.now s.n (is_laid s.img) _ c.put_body.ensures.ends
