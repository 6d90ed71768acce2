-- `converter::enlarge::widen_fill` meets its contract. Assumes nothing.
use Prim.Native.Nat.{◌*◌}
use native.Mathlib.Omega.{arith}
use Rattle.converter.proofs.Laid.{laid_on}
use Rattle.converter.proofs.Enlarging.{widened_made}
use Rattle.converter.proofs.enlarge.widen_fill.Goals as goal

pub loop-j-preserved : goal.loop-j-preserved
loop-j-preserved c = laid_on c.loop-j.invariant (c.loop-j.j * 2) _ c.loop-j-test.true (omega arith) c.put_number.ensures

pub returns : goal.returns
returns c = widened_made c.args.rows.now c.args.place.now _ _ _ c.loop-j.invariant c.loop-j-test.false (c.fill.ensures.after (λ y e. e))
