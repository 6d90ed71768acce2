-- `converter::carry` meets its contract. Assumes nothing.
use native.Mathlib.Omega.{arith}
use Rattle.converter.proofs.Laid.{laid_on}
use Rattle.converter.proofs.Written.{rows_none, all_made}
use Rattle.converter.proofs.carry.Goals as goal

pub loop-r-init : goal.loop-r-init
loop-r-init c = rows_none c.args.old.now c.requires.sound _ _ (omega arith) (omega arith)

pub loop-r-preserved : goal.loop-r-preserved
loop-r-preserved c = laid_on c.loop-r.invariant _ _ c.loop-r-test.true (omega arith) c.write_row.ensures

pub returns : goal.returns
returns c =
    let a = c.args in
    all_made a.old.now c.requires.sound a.out.now c.requires.sized _ c.old_count-n.ensures _ _ _ c.copy_front.ensures c.loop-r.invariant c.loop-r-test.false _ c.place_at-end.ensures _ (c.fill.ensures.after (λ y e. e))
