-- `image::Image::token_row` meets its contract.
use Prim.Native.Nat.{ℕ, ◌*◌}
use mathlib.Core.Path.{◌≡◌, ap}
use Rattle.image.specs.Image.{lay}
use Rattle.image.proofs.LaidImage.{is_laid}
use Rattle.image.proofs.Seen.{tokens_copied, seen}
use Rattle.image.proofs.Image.token_row.Goals as goal

pub slice_bounds-copy_from_slice-end-2 : goal.slice_bounds-copy_from_slice-end-2
slice_bounds-copy_from_slice-end-2 c = search seen

pub returns : goal.returns
returns c =
    let i = c.args.self in
    let m : c.services-size.result * 2 ≡ (lay i).services * 2 = ap (λ (k : ℕ). k * 2) c.services-size.ensures in
    tokens_copied i.card i.bytes.now (is_laid i) c.args.j c.tok_at-at.result (c.services-size.result * 2) c.requires c.tok_at-at.ensures m 32 c.copy_from_slice.ensures.after
