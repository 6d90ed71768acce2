-- `bits::without_bit` meets its contract. Assumes nothing.
use Rattle.bits.proofs.Row.{and_clear}
use Rattle.bits.proofs.without_bit.Goals as goal

pub returns : goal.returns
returns c = and_clear 16 c.args.row c.args.k c.ranges.row.fits c.requires
