-- `bits::with_bit` meets its contract. Assumes nothing.
use Rattle.bits.proofs.Row.{or_set}
use Rattle.bits.proofs.with_bit.Goals as goal

pub returns : goal.returns
returns c = or_set 16 c.args.row c.args.k c.ranges.row.fits c.requires
