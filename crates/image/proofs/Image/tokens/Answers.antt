-- `image::Image::tokens` meets its contract.
use Rattle.image.proofs.Listed.{listed}
use Rattle.image.proofs.Image.tokens.Goals as goal

pub place_at-at-requires : goal.place_at-at-requires
place_at-at-requires c = search listed

pub overflow_add-at : goal.overflow_add-at
overflow_add-at c = search listed

pub at-requires : goal.at-requires
at-requires c = search listed

pub returns : goal.returns
returns c = search listed
