-- `image::Image::mask` meets its contract.
use Prim.Native.Nat.{◌-◌}
use native.Mathlib.Omega.{arith}
use Rattle.image.specs.Image.{tables}
use Rattle.image.specs.Read.{items_of}
use Rattle.image.proofs.Listed.{masks, item_turn}
use Rattle.image.proofs.Image.mask.Goals as goal

pub overflow_mul-mask : goal.overflow_mul-mask
overflow_mul-mask g c = search masks

pub overflow_add-mask : goal.overflow_add-mask
overflow_add-mask g c = search masks

pub loop-r-preserved : goal.loop-r-preserved
loop-r-preserved g c =
    let a = c.args in
    let list = items_of a.l (tables a.self) in
    let l = c.loop-r in (
      search masks,
      λ f h. item_turn a.l f list l.r l.mask (l.invariant.1 f h) c.loop-r-test.true (omega arith) c.passes.result (h (l.r - 1) (omega arith) c.passes.result c.passes.ensures),
    )
