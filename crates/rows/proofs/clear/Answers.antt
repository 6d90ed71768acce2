-- `rows::clear` meets its contract.
use mathlib.Core.Path.{sym}
use native.Mathlib.Omega.{arith}
use lib.ListN.{replicate, length-replicate, get_or-replicate}
use Rattle.rows.proofs.Over.{copied_none, copied_on, copied_all}
use Rattle.rows.proofs.clear.Goals as goal

pub loop-j-init : goal.loop-j-init
loop-j-init c = copied_none c.args.a.now c.args.at (replicate c.args.n 0) c.args.n (omega arith) (length-replicate c.args.n 0)

pub loop-j-preserved : goal.loop-j-preserved
loop-j-preserved c = copied_on c.loop-j.invariant 0 c.loop-j-test.true (sym (get_or-replicate c.args.n c.loop-j.j 0 0 c.loop-j-test.true))

pub shape_of-a : goal.shape_of-a
shape_of-a c = c.loop-j.invariant.same

pub returns : goal.returns
returns c = copied_all c.loop-j.invariant c.loop-j-test.false
