-- `packages::Services::fit` meets its contract.
use mathlib.Core.Path.{ap}
use mathlib.Core.Bool.{not, true}
use Rattle.bits.proofs.Loops.{every_more, every_fails}
use Rattle.soundness.specs.Check.{tok_fits}
use Rattle.soundness.proofs.Marks.{marked_more, toks_mark, tok_low, tok_met}
use Rattle.soundness.proofs.packages.Services.fit.Goals as goal

pub returns-then-not-fits : goal.returns-then-not-fits
returns-then-not-fits c =
    let o = c.loop-k in let s = c.args.self.now in
    let h = rw c.place.ensures at c.tok_mark-h.ensures in
    let e = tok_met s.img.now s.toks s.line s.prov o.seen o.k o.invariant.marked h c.is_set.ensures c.fits.ensures in
    every_fails (tok_fits s.img.now s.toks s.line s.prov true) s.n o.k e (ap not c.if-not-fits.true) c.loop-k-test.true

pub loop-k-preserved : goal.loop-k-preserved
loop-k-preserved c =
    let o = c.loop-k in let s = c.args.self.now in
    let h = rw c.place.ensures at c.tok_mark-h.ensures in
    let e = tok_met s.img.now s.toks s.line s.prov o.seen o.k o.invariant.marked h c.is_set.ensures c.fits.ensures in
    record {
      shown = every_more (tok_fits s.img.now s.toks s.line s.prov true) o.k o.invariant.shown e (ap not c.if-not-fits.false);
      marked = marked_more (toks_mark s.img.now s.toks s.line s.prov) (tok_low s.img.now s.toks s.line s.prov) o.seen c.with_mark-seen.result o.k o.invariant.marked h c.with_mark-seen.ensures;
    }
