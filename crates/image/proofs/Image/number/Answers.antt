-- `image::Image::number` meets its contract.
use Rattle.image.proofs.Listed.{listed}
use Rattle.image.proofs.Image.number.Goals as goal

pub place_at-at-requires : goal.place_at-at-requires
place_at-at-requires c = search listed

pub overflow_add-result : goal.overflow_add-result
overflow_add-result c = search listed

pub bounds-self-at : goal.bounds-self-at
bounds-self-at c = search listed

pub returns : goal.returns
returns c = search listed
