-- `image::Image::used_row` meets its contract.
use Rattle.image.proofs.Seen.{seen}
use Rattle.image.proofs.Image.used_row.Goals as goal

pub row_at-requires : goal.row_at-requires
row_at-requires c = search seen

pub returns : goal.returns
returns c = search seen
