-- `links::plan::plan_row` meets its contract.
use borrow.Author.Rules.{rules}
use Rattle.links.proofs.Found.{call_refused}
use Rattle.links.proofs.plan.plan_row.Goals as goal

pub returns-in_err-edit-in-AddCall-clause-is : goal.returns-in_err-edit-in-AddCall-clause-is
returns-in_err-edit-in-AddCall-clause-is c = search (call_refused, rules)

pub returns-in_err-edit-in-RemoveCall-clause-is : goal.returns-in_err-edit-in-RemoveCall-clause-is
returns-in_err-edit-in-RemoveCall-clause-is c = search (call_refused, rules)
