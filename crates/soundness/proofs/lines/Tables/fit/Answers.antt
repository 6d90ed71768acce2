-- `lines::Tables::fit` meets its contract.
use Prim.Native.Nat.{ℕ}
use mathlib.Core.Path.{ap}
use mathlib.Core.Bool.{not}
use Rattle.policy.specs.Tables.{bit}
use Rattle.bits.proofs.Loops.{early, every_fails}
use Rattle.soundness.specs.Check.{line_fits, row_in}
use Rattle.soundness.proofs.lines.Tables.fit.Goals as goal

pub loop-i-init : goal.loop-i-init
loop-i-init c = search early

pub returns-then-not-line_ok : goal.returns-then-not-line_ok
returns-then-not-line_ok c =
    let s = c.args.self.now in
    let f = λ (i : ℕ). line_fits s.img.now s.w s.n s.provs s.calls s.grants s.needs i (bit (row_in s.w s.img.now 3) i) in
    let e = rw (c.has_bit.ensures, c.row-used.ensures) at c.line_ok.ensures in
    every_fails f s.n c.loop-i.i e (ap not c.if-not-line_ok.true) c.loop-i-test.true

pub loop-i-preserved : goal.loop-i-preserved
loop-i-preserved c = search early

pub returns : goal.returns
returns c = search early
