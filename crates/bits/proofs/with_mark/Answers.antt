-- `bits::with_mark` meets its contract. Assumes nothing.
use Rattle.bits.proofs.Row.{or_set}
use Rattle.bits.proofs.with_mark.Goals as goal

pub returns : goal.returns
returns c = or_set 64 c.args.seen c.args.h c.ranges.seen.fits c.requires
