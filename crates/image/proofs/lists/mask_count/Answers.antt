-- `image::lists::mask_count` meets its contract.
use Rattle.bits.proofs.Row.{ones_count}
use Rattle.image.proofs.lists.mask_count.Goals as goal

pub returns : goal.returns
returns c = ones_count 32 c.args.mask c.ranges.mask.fits
