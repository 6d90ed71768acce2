-- `readout::pen::write` meets its contract.
use Prim.Native.Nat.{ℕ, ◌*◌, ◌/◌}
use native.Mathlib.Omega.{arith}
use mathlib.Core.Path.{◌≡◌, ap, ◌∙◌}
use lib.ListN.{length, take}
use Rattle.rows.specs.Area.{over}
use Rattle.readout.proofs.Copies.{eight_more, rest_too}
use Rattle.readout.proofs.pen.write.Goals as goal

pub loop-k-preserved : goal.loop-k-preserved
loop-k-preserved c =
    let a = c.args in
    eight_more a.out.now a.src.now a.at c.loop-k.k c.requires c.loop-k.invariant (omega (arith, c.loop-k-test.true)) c.copy_from_slice.ensures.after

pub returns : goal.returns
returns c =
    let a = c.args in
    let e : c.loop-k.k ≡ length a.src.now / 8 = omega (arith, c.loop-k-test.false, c.loop-k.auto.k-end) in
    let i = c.loop-k.invariant ∙ ap (λ (k : ℕ). over a.at (take (k * 8) a.src.now) a.out.now) e in
    c.put.ensures ∙ rest_too a.out.now a.src.now a.at (length a.src.now / 8) c.requires i (omega arith)
