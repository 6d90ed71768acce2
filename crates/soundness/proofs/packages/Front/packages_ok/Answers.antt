-- `packages::Front::packages_ok` meets its contract.
use borrow.Author.Rules.{rules}
use Rattle.geometry.specs.Geometry.{layout_of}
use Rattle.soundness.specs.Check.{packages_ok, package_ok}
use Rattle.bits.proofs.Chains.{all_below}
use Rattle.soundness.proofs.packages.Front.packages_ok.Goals as goal

pub returns : goal.returns
unfolding packages_ok
returns c = let s = c.args.self.now in rw c.packages.ensures at (all_below c.packages.result (package_ok (layout_of s.c) s.img.now) _ c.all.ensures.ran (λ x b q k. search rules))
