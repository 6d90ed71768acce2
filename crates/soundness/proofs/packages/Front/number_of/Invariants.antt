-- `packages::Front::number_of` meets its contract.
use mathlib.Core.Path.{◌≡◌}
use mathlib.Core.Option.{none}
use Rattle.policy.specs.Lists.{first, upto}
use Rattle.geometry.specs.Geometry.{layout_of}
use Rattle.soundness.specs.Check.{is_aid}
use Rattle.soundness.proofs.packages.Front.number_of.Given as goal

abbrev pub invariant-loop-n : goal.invariant-loop-n
invariant-loop-n l = first (is_aid (layout_of l.self.c) l.self.img.now l.at) (upto l.n) ≡ none
