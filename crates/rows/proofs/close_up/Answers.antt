-- `rows::close_up` meets its contract.
use Rattle.rows.proofs.Area.{closed_skip, closed_keep, closed_stay, closed_all}
use Rattle.rows.proofs.close_up.Goals as goal
use Rattle.rows.proofs.close_up.Goals.{then-kept-r, else-kept-r}

pub loop-r-preserved-then-mask-r-eq1 : goal.loop-r-preserved-then-mask-r-eq1
loop-r-preserved-then-mask-r-eq1 c = closed_skip c.loop-r.invariant c.loop-r-test.true c.if-mask-r-eq1.true

pub loop-r-preserved : goal.loop-r-preserved
loop-r-preserved c =
    let i = c.loop-r.invariant in
    let stays = c.if-mask-r-eq1.false in
    elim c.if-kept-r.branch [
      | then-kept-r w ↦ rw (w.area-is, w.slide.ensures) (closed_keep i c.loop-r-test.true stays)
      | else-kept-r w ↦ rw w.area-is (closed_stay i c.loop-r-test.true stays w.if-kept-r.false)
    ]

pub returns : goal.returns
returns c = closed_all c.loop-r.invariant c.loop-r-test.false
