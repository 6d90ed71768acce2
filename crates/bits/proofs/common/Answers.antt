-- `bits::common` meets its contract. Assumes nothing.
use Rattle.bits.proofs.Row.{and_both}
use Rattle.bits.proofs.common.Goals as goal

pub returns : goal.returns
returns c = and_both 16 c.args.a c.args.b c.ranges.a.fits c.ranges.b.fits
