-- `lists::List::is_new` meets its contract.
use borrow.Author.Rules.{rules}
use Rattle.soundness.specs.Check.{new_row, other_row}
use Rattle.bits.proofs.Chains.{all_below}
use Rattle.soundness.proofs.lists.List.is_new.Goals as goal

pub returns : goal.returns
unfolding new_row
returns c = let s = c.args.self.now in all_below c.args.r (other_row s.front.img.now s.at s.w c.args.r) _ c.all.ensures.ran (λ x b q k. search rules)
