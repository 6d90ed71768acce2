-- `image::Image::mask` meets its contract.
use Prim.Native.Nat.{ℕ, ◌-◌, ◌^◌, ◌<◌}
use mathlib.Core.Path.{◌≡◌}
use mathlib.Core.Bool.{Bool}
use lib.ListN.{length, drop}
use Rattle.image.specs.Image.{tables}
use Rattle.image.specs.Read.{Item, items_of, item_at, mask_of}
use Rattle.image.proofs.Image.mask.Given as goal

-- the rows from r on, whatever the test is that the answers are those of
abbrev pub invariant-loop-r : goal.invariant-loop-r
invariant-loop-r g l =
    let list = items_of l.fn.l (tables l.self) in
    (l.mask < 2 ^ (length list - l.r))
    × ((f : Item l.fn.l → Bool) → ((k : ℕ) → k < length list → (b : Bool) → goal.F-post g l.passes k b → b ≡ f (item_at l.fn.l (tables l.self) k)) → l.mask ≡ mask_of f (drop l.r list))
