-- `readout::package::Package::write_record` meets its contract. Assumes nothing.
use native.Mathlib.Omega.{arith}
use mathlib.Core.Path.{refl}
use borrow.Author.Rules.{rules}
use Rattle.image.proofs.LaidImage.{is_laid}
use Rattle.readout.proofs.Records.{body_short, written}
use Rattle.readout.proofs.package.Package.write_record.Goals as goal

pub put_body-requires : goal.put_body-requires
put_body-requires c = let s = c.args.self in omega (arith, body_short s.img.card s.img.bytes.now (is_laid s.img) s.n, c.put.ensures.ends)

pub returns : goal.returns
returns c = let s = c.args.self in let w = written s.img.card s.img.bytes.now s.n _ _ c.requires.0 c.version.ensures _ _ _ refl c.requires.1 c.put.ensures c.put_body.ensures in search (rules, w, c.put.ensures.lent, c.put_body.ensures.lent)
