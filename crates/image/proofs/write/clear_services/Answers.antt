-- `image::write::clear_services` meets its contract.
use Rattle.image.proofs.Clears.{clears}
use Rattle.image.proofs.write.clear_services.Goals as goal

pub loop-k-preserved : goal.loop-k-preserved
loop-k-preserved c = search clears

pub returns : goal.returns
returns c = search clears
