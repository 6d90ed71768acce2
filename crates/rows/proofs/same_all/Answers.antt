-- `rows::same_all` meets its contract.
use borrow.Author.Rules.{rules}
use Rattle.rows.proofs.Same.{same_turn, same_end}
use Rattle.rows.proofs.same_all.Goals as goal

pub loop-k-preserved : goal.loop-k-preserved
loop-k-preserved c = search (same_turn, rules)

pub returns : goal.returns
returns c = search (same_end, rules)
