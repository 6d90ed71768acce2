-- `image::Image::free_number` meets its contract.
use Rattle.image.proofs.Seen.{seen}
use Rattle.image.proofs.Image.free_number.Goals as goal

pub returns-clause-is : goal.returns-clause-is
returns-clause-is c = search seen
