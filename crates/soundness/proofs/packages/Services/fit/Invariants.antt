-- `packages::Services::fit` meets its contract.
use mathlib.Core.Path.{◌≡◌}
use mathlib.Core.Bool.{true}
use Rattle.policy.specs.Lists.{every, upto}
use Rattle.soundness.specs.Check.{tok_fits}
use Rattle.soundness.proofs.Marks.{Marked, toks_mark, tok_low}
use Rattle.soundness.proofs.packages.Services.fit.Given as goal

abbrev pub invariant-loop-k : goal.invariant-loop-k
invariant-loop-k l =
    let s = l.self in
    record {
      shown : every (tok_fits s.img.now s.toks s.line s.prov true) (upto l.k) ≡ true;
      marked : Marked (toks_mark s.img.now s.toks s.line s.prov) (tok_low s.img.now s.toks s.line s.prov) l.seen l.k;
    }
