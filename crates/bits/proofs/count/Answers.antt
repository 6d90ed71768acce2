-- `bits::count` meets its contract. Assumes nothing.
use Rattle.bits.proofs.Row.{ones_count}
use Rattle.bits.proofs.count.Goals as goal

pub returns : goal.returns
returns c = ones_count 16 c.args.row c.ranges.row.fits
