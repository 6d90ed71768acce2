-- `image::Image::is_package` meets its contract.
use Rattle.image.proofs.Seen.{seen}
use Rattle.image.proofs.Image.is_package.Goals as goal

pub aid_is-requires : goal.aid_is-requires
aid_is-requires c = search seen

pub returns-then-aid_is : goal.returns-then-aid_is
returns-then-aid_is c = search seen

pub returns-else-aid_is : goal.returns-else-aid_is
returns-else-aid_is c = search seen
