-- `rows::word` meets its contract.
use Prim.Native.Nat.{◌+◌, ◌-◌}
use native.Mathlib.Omega.{arith}
use mathlib.Core.Path.{refl}
use Rattle.rows.proofs.Words.{word_turn, word_end, word_room, word_fits}
use Rattle.rows.proofs.word.Goals as goal

pub loop-k-init : goal.loop-k-init
loop-k-init c = (omega arith, omega arith, refl)

pub overflow_mul-w : goal.overflow_mul-w
overflow_mul-w c = let i = c.loop-k.invariant in omega (arith, word_room c.loop-k.k c.loop-k-test.true i.1)

pub overflow_cast-w : goal.overflow_cast-w
overflow_cast-w c = let a = c.args in omega (arith, c.type_inv.a (a.at + (c.loop-k.k - 1)))

pub overflow_add-w-in-loop-k : goal.overflow_add-w-in-loop-k
overflow_add-w-in-loop-k c =
    let a = c.args in let i = c.loop-k.invariant in
    omega (arith, word_room c.loop-k.k c.loop-k-test.true i.1, c.type_inv.a (a.at + (c.loop-k.k - 1)))

pub loop-k-preserved : goal.loop-k-preserved
loop-k-preserved c =
    let a = c.args in let o = c.loop-k in let t = c.loop-k-test.true in (
      omega arith,
      word_fits o.k t o.invariant.0 o.invariant.1 (c.type_inv.a (a.at + (o.k - 1))).fits,
      word_turn a.a.now a.at c.requires o.k t o.invariant.0 o.invariant.2,
    )

pub returns : goal.returns
returns c = let a = c.args in let o = c.loop-k in word_end a.a.now a.at c.requires o.k (omega arith) o.invariant.2
