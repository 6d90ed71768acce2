-- `image::Image::has_aid` meets its contract.
use Rattle.image.proofs.Listed.{listed}
use Rattle.image.proofs.Image.has_aid.Goals as goal

pub place_at-at-requires : goal.place_at-at-requires
place_at-at-requires c = search listed

pub aid_is-requires : goal.aid_is-requires
aid_is-requires c = search listed

pub returns : goal.returns
returns c = search listed
