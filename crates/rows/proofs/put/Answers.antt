-- `rows::put` meets its contract.
use mathlib.Core.Path.{refl}
use native.Mathlib.Omega.{arith}
use lib.ListN.{length}
use Rattle.rows.proofs.Over.{copied_none, copied_on, copied_all}
use Rattle.rows.proofs.put.Goals as goal

pub loop-j-init : goal.loop-j-init
loop-j-init c = copied_none c.args.dst.now c.args.at c.args.src.now (length c.args.src.now) (omega arith) refl

pub loop-j-preserved : goal.loop-j-preserved
loop-j-preserved c = copied_on c.loop-j.invariant _ c.loop-j-test.true refl

pub shape_of-dst : goal.shape_of-dst
shape_of-dst c = c.loop-j.invariant.same

pub returns : goal.returns
returns c = copied_all c.loop-j.invariant c.loop-j-test.false
