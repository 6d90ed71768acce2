-- `record::parts::read_many` meets its contract: what follows the things to come follows all of them.
use mathlib.Core.Path.{◌≡◌, sym, ◌∙◌}
use native.Mathlib.Omega.{arith}
use Rattle.std.specs.Prelude.{◌-◌, ◌+◌}
use Rattle.record.proofs.Readers.{times_none, times_some}
use Rattle.record.proofs.parts.read_many.Goals as goal

pub loop-preserved : goal.loop-preserved
loop-preserved g c t is =
    let k : c.args.count - c.loop.counter - 1 ≡ c.args.count - (c.loop.counter + 1) = omega arith in
    rw k at (sym (times_some t (c.args.count - c.loop.counter) c.loop.rest.now (omega (arith, c.loop-test.true)) (is _ _ c.in_ok-rest.ensures)) ∙ c.loop.invariant t is)

pub returns-in_err-rest : goal.returns-in_err-rest
returns-in_err-rest g c t is =
    rw c.from_residual.ensures
    (sym (times_none t (c.args.count - c.loop.counter) c.loop.rest.now (omega (arith, c.loop-test.true)) (is _ _ c.in_err-rest.ensures)) ∙ c.loop.invariant t is)

pub returns : goal.returns
returns g c t is = let k : c.args.count - c.loop.counter ≡ 0 = omega (arith, c.loop-test.false) in rw k at (c.loop.invariant t is)
