-- `bits::others` meets its contract. Assumes nothing.
use Rattle.bits.proofs.Row.{and_others}
use Rattle.bits.proofs.others.Goals as goal

pub returns : goal.returns
returns c = and_others 16 c.args.a c.args.b c.ranges.a.fits c.ranges.b.fits
