-- `image::write::put_slot` meets its contract. Assumes nothing.
use Prim.Native.Nat.{◌+◌, ◌-◌}
use native.Mathlib.Omega.{arith}
use mathlib.Core.Path.{ap, ◌∙◌}
use lib.ListN.{length, replicate, length-set}
use Rattle.rows.specs.Area.{over}
use Rattle.image.proofs.Writes.{slot_made}
use Rattle.image.proofs.write.put_slot.Goals as goal

pub put-requires : goal.put-requires
put-requires c = simp length-set (omega (arith, c.requires))

pub clear-requires : goal.clear-requires
clear-requires c = omega (arith, c.requires, c.put.auto.dst, length-set c.args.img.now c.args.at (length c.args.aid.now))

pub shape_of-img : goal.shape_of-img
shape_of-img c =
    let a = c.args in
    omega (arith, c.clear.auto.a, c.put.auto.dst, length-set a.img.now a.at (length a.aid.now))

pub returns : goal.returns
returns c =
    let a = c.args in
    let n = length a.aid.now in
    c.clear.ensures
    ∙ ap (over (a.at + 1 + n) (replicate (16 - n) 0)) c.put.ensures
    ∙ slot_made a.at a.aid.now a.img.now c.requires.1 c.requires.0
