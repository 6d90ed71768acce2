-- `record::proper::rows_proper` meets its contract: the rows before are sifted.
use native.Mathlib.Omega.{arith}
use mathlib.Core.Logic.{inl}
use Rattle.record.proofs.Sifting.{rows_low, sifting_own, sifting_twice, sifting_next, sifting_end}
use Rattle.record.proofs.proper.rows_proper.Goals as goal

-- as many rows as fit in the part
pub loop-k-init-derived : goal.loop-k-init-derived
loop-k-init-derived c =
    let of = c.args.of in
    let l = rows_low of.left of.part.now of.good in
    ((tt, tt, inl (rw (c.into_iter-k-iterator.ensures.into_iter_gives, c.enumerate-k-items.ensures.source, c.enumerate-k-items.ensures.count) (omega (arith, l, c.ranges.of)))), tt)

pub returns-then-same_bytes : goal.returns-then-same_bytes
returns-then-same_bytes c = sifting_own c.loop-k.invariant c.in-Some.ensures.steps.0 c.same_bytes.ensures c.if-same_bytes.true

pub returns-then-repeats : goal.returns-then-repeats
returns-then-repeats c =
    let g = rw c.in-Some.ensures.steps.1 at c.repeats.ensures in
    sifting_twice c.loop-k.invariant c.in-Some.ensures.steps.0 c.same_bytes.ensures g c.if-repeats.true

pub loop-k-preserved : goal.loop-k-preserved
loop-k-preserved c =
    let g = rw c.in-Some.ensures.steps.1 at c.repeats.ensures in
    rw c.in-Some.ensures.steps.2 (sifting_next c.loop-k.invariant c.in-Some.ensures.steps.0 c.same_bytes.ensures g c.if-same_bytes.false c.if-repeats.false)

pub returns : goal.returns
returns c = sifting_end c.loop-k.invariant c.in-None.ensures.steps.0.0
