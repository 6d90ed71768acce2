-- `image::Image::count` meets its contract.
use Rattle.image.proofs.Listed.{listed}
use Rattle.image.proofs.Image.count.Goals as goal

pub bounds-self-at : goal.bounds-self-at
bounds-self-at c = search listed

pub returns : goal.returns
returns c = search listed
