-- `image::write::clear_aid` meets its contract.
use Prim.Native.Nat.{◌+◌, ◌-◌}
use native.Mathlib.Omega.{arith}
use mathlib.Core.Path.{◌≡◌}
use mathlib.Core.List.{[]}
use lib.ListN.{length, replicate}
use borrow.Author.Rules.{rules}
use Rattle.image.proofs.Writes.{writes, aid_wrote, slot_cleared}
use Rattle.image.proofs.write.clear_aid.Goals as goal

pub slice_bounds-fill-end : goal.slice_bounds-fill-end
slice_bounds-fill-end c = search writes

pub returns : goal.returns
returns c =
    let a = c.args in
    let z : c.fill.new.self ≡ replicate (length c.fill.new.self) 0 = search rules in
    let l : length c.fill.new.self ≡ c.aid_at-at.result + 17 - c.aid_at-at.result = search rules in
    aid_wrote a.c c.requires.laid a.n c.aid_at-at.result [] c.requires.inside (omega arith) c.aid_at-at.ensures (slot_cleared c.aid_at-at.result a.img.now z l)
