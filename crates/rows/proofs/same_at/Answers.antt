-- `rows::same_at` meets its contract.
use borrow.Author.Rules.{rules}
use Rattle.rows.proofs.Same.{same_none, last_fell, head_long, same_head, same_last}
use Rattle.rows.proofs.same_at.Goals as goal

pub returns-then-n-eq0 : goal.returns-then-n-eq0
returns-then-n-eq0 c = search (same_none, rules)

pub returns-then-a-at : goal.returns-then-a-at
returns-then-a-at c = search (last_fell, rules)

pub slice_bounds-same_all-end : goal.slice_bounds-same_all-end
slice_bounds-same_all-end c = search (head_long, rules)

pub same_all-requires : goal.same_all-requires
same_all-requires c = search (same_head, rules)

pub returns : goal.returns
returns c = search (same_last, rules)
