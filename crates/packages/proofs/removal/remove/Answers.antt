-- `packages::removal::remove` meets its contract.
use mathlib.Core.Path.{◌≡◌}
use Rattle.std.proofs.Common.{rules, Err}
use Rattle.image.proofs.LaidImage.{laid_on, found_none, found_some}
use Rattle.changes.proofs.Verdicts.{asked_laid}
use Rattle.packages.proofs.Removed.Outcome.{remove_absent, remove_refused, removed_room, remove_done}
use Rattle.packages.proofs.removal.remove.Goals as goal

pub invariant_of-view : goal.invariant_of-view
invariant_of-view c = record { laid = laid_on c.args.c (asked_laid _ _ _ c.requires) }

pub returns-in_default : goal.returns-in_default
returns-in_default c = remove_absent _ _ _ (found_none _ _ c.find_package.ensures.is c.in_default.is)

pub returns-in_err-remove_cause : goal.returns-in_err-remove_cause
returns-in_err-remove_cause c =
    let e : c.from_residual.result ≡ Err c.in_err-remove_cause.field-0.0 = search rules in
    rw e (remove_refused _ _ _ c.requires (found_some _ _ c.find_package.ensures.is c.in-Some.is) _ c.remove_cause.ensures c.in_err-remove_cause.was)

pub leave_lists-requires-clause-room : goal.leave_lists-requires-clause-room
leave_lists-requires-clause-room c = removed_room _ _ _ c.requires (found_some _ _ c.find_package.ensures.is c.in-Some.is) _ c.remove_cause.ensures c.in_ok-remove_cause.was

pub returns : goal.returns
returns c = remove_done _ _ _ c.requires (found_some _ _ c.find_package.ensures.is c.in-Some.is) _ c.remove_cause.ensures c.in_ok-remove_cause.was c.leave_lists.ensures c.clear_package.ensures
