-- `services::removal::remove_service` meets its contract. Assumes nothing.
use Rattle.std.proofs.Common.{rules, ◌≡◌}
use Rattle.std.specs.Prelude.{Err, Some, None}
use Rattle.answers.specs.declared.Refusal.TheVariants.{NotInstalled, Pointless}
use Rattle.geometry.proofs.Bounds.{early}
use Rattle.image.proofs.LaidImage.{laid_on}
use Rattle.changes.proofs.Verdicts.{asked_laid}
use Rattle.services.proofs.Removed.Outcome.{removal_absent, removal_missing, removal_refused, removal_done}
use Rattle.services.proofs.removal.remove_service.Goals as goal

pub invariant_of-view : goal.invariant_of-view
invariant_of-view c = record { laid = laid_on c.args.c (asked_laid _ _ _ c.requires) }

pub returns-in_err-j : goal.returns-in_err-j
returns-in_err-j c =
    let h : c.from_residual.result ≡ Err NotInstalled = search rules in
    let n : c.find_package.result ≡ None = search rules in
    rw h (removal_absent _ _ _ _ c.requires c.find_package.ensures.is n)

pub returns-in_err-k : goal.returns-in_err-k
returns-in_err-k c =
    let h : c.from_residual-in_err-k.result ≡ Err Pointless = search rules in
    let j : c.find_package.result ≡ Some c.in_ok-j.j = search rules in
    let n : c.find_service.result ≡ None = search rules in
    rw h (removal_missing _ _ _ _ c.requires c.find_package.ensures.is j c.find_service.ensures.is n)

pub returns-in_err-service_cause : goal.returns-in_err-service_cause
returns-in_err-service_cause c =
    let h : c.from_residual-in_err-service_cause.result ≡ Err c.in_err-service_cause.field-0.0 = search rules in
    let j : c.find_package.result ≡ Some c.in_ok-j.j = search rules in
    let k : c.find_service.result ≡ Some c.in_ok-k.k = search rules in
    rw h (removal_refused _ _ _ _ c.requires c.find_package.ensures.is j c.find_service.ensures.is k c.service_cause.ensures c.in_err-service_cause.was)

pub returns : goal.returns
returns c =
    let j : c.find_package.result ≡ Some c.in_ok-j.j = search rules in
    let k : c.find_service.result ≡ Some c.in_ok-k.k = search rules in
    removal_done _ _ _ _ c.requires c.find_package.ensures.is j c.find_service.ensures.is k c.service_cause.ensures c.in_ok-service_cause.was (early c.args.c) (search rules) c.leave_service.ensures
    c.clear_service.ensures
