-- `image::write::clear_cross` meets its contract.
use Rattle.image.proofs.Clears.{clears}
use Rattle.image.proofs.write.clear_cross.Goals as goal

pub loop-x-preserved : goal.loop-x-preserved
loop-x-preserved c = search clears

pub returns : goal.returns
returns c = search clears
