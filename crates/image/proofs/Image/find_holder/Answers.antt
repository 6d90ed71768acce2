-- `image::Image::find_holder` meets its contract.
use Rattle.image.proofs.Listed.{listed}
use Rattle.image.proofs.Image.find_holder.Goals as goal

pub place_at-at-requires : goal.place_at-at-requires
place_at-at-requires c = search listed

pub bounds-self-at : goal.bounds-self-at
bounds-self-at c = search listed

pub slice_bounds-find_package-end : goal.slice_bounds-find_package-end
slice_bounds-find_package-end c = search listed

pub returns-clause-is : goal.returns-clause-is
returns-clause-is c = search listed
