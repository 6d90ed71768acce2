-- `bits::subset` meets its contract. Assumes nothing.
use Rattle.bits.proofs.Row.{and_subset}
use Rattle.bits.proofs.subset.Goals as goal

pub returns : goal.returns
returns c = and_subset 16 c.args.a c.args.b c.ranges.a.fits c.ranges.b.fits
