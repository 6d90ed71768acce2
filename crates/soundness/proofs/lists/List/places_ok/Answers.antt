-- `lists::List::places_ok` meets its contract.
use borrow.Author.Rules.{rules}
use Rattle.geometry.specs.Geometry.{layout_of}
use Rattle.soundness.specs.Check.{is_early, place_ok}
use Rattle.bits.proofs.Chains.{all_below}
use Rattle.soundness.proofs.lists.List.places_ok.Goals as goal

pub returns : goal.returns
returns c = let s = c.args.self.now in all_below c.args.n (place_ok (layout_of s.front.c) s.front.img.now (is_early s.rules) s.k) _ c.all.ensures.ran (λ x b q k. search rules)
