-- `packages::decide::replace` meets its contract.
use mathlib.Core.Path.{◌≡◌}
use Rattle.std.proofs.Common.{rules, Err}
use Rattle.geometry.proofs.Bounds.{limits}
use Rattle.image.proofs.LaidImage.{found_none, found_some}
use Rattle.packages.proofs.Replaced.Decided.{decides_5, decides_8, decides_late, renews}
use Rattle.packages.proofs.decide.replace.Goals as goal

pub returns-in_default : goal.returns-in_default
returns-in_default c = decides_5 _ _ _ c.requires (found_none _ _ c.find_package.ensures.is c.in_default.is)

pub returns-then-not-kept_rights : goal.returns-then-not-kept_rights
returns-then-not-kept_rights c =
    decides_8 _ _ _ c.requires (limits c.args.img.card).capacity_low (found_some _ _ c.find_package.ensures.is c.in-Some.is) c.renewal-b.ensures c.kept_rights.ensures c.if-not-kept_rights.true

pub returns-in_err-cause : goal.returns-in_err-cause
returns-in_err-cause c =
    let e : c.from_residual.result ≡ Err c.in_err-cause.field-0.0 = search rules in
    rw e (decides_late _ _ _ c.requires (limits c.args.img.card).capacity_low (found_some _ _ c.find_package.ensures.is c.in-Some.is) c.renewal-b.ensures c.kept_rights.ensures c.if-not-kept_rights.false
    _ (c.cause.ensures c.args.own.now) c.in_err-cause.was)

pub returns : goal.returns
returns c =
    renews _ _ _ c.requires (limits c.args.img.card).capacity_low (found_some _ _ c.find_package.ensures.is c.in-Some.is) c.renewal-b.ensures c.kept_rights.ensures c.if-not-kept_rights.false
    _ (c.cause.ensures c.args.own.now) c.in_ok-cause.was
