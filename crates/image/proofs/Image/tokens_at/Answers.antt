-- `image::Image::tokens_at` meets its contract.
use Rattle.image.proofs.Seen.{seen}
use Rattle.image.proofs.Image.tokens_at.Goals as goal

pub at-requires : goal.at-requires
at-requires c = search seen

pub returns : goal.returns
returns c = search seen
