-- `image::Image::aid_place` meets its contract.
use mathlib.Core.Path.{◌∙◌}
use Rattle.image.proofs.LaidImage.{is_laid}
use Rattle.image.proofs.Seen.{place_copied, seen}
use Rattle.image.proofs.Image.aid_place.Goals as goal

pub slice_bounds-copy_from_slice-end-2 : goal.slice_bounds-copy_from_slice-end-2
slice_bounds-copy_from_slice-end-2 c = search seen

pub returns : goal.returns
returns c =
    let i = c.args.self in
    c.copy_from_slice.ensures.after ∙ place_copied i.card i.bytes.now (is_laid i) c.args.n c.aid_at-at.result c.requires c.aid_at-at.ensures
