-- `record::parts::read_aid` meets its contract: the tests say whether an AID stands there.
use mathlib.Core.Path.{sym}
use native.Mathlib.Omega.{arith}
use Rattle.record.proofs.Fronts.{aid_bad}
use Rattle.record.proofs.Readers.{aid_none, aid_some}
use Rattle.record.proofs.parts.read_aid.Goals as goal

pub returns-in_err-first : goal.returns-in_err-first
returns-in_err-first c = rw c.from_residual.ensures (sym (aid_bad _ (λ f. omega (arith, f.some, c.in_err-first.ensures.cases))))

pub returns-then-n-lt5 : goal.returns-then-n-lt5
returns-then-n-lt5 c = aid_none c.in_ok-first.ensures.cases.0 (λ a b d. omega (arith, c.then-n-lt5.either))

pub returns : goal.returns
returns c =
    rw (c.split_at.ensures.front, c.split_at.ensures.back)
    (aid_some c.in_ok-first.ensures.cases.0 c.if-n-lt5.false c.if-n-gt16.false c.if-rest-n.false)
