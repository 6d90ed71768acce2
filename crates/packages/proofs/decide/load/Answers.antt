-- `packages::decide::load` meets its contract.
use mathlib.Core.Path.{◌≡◌, sym, ◌∙◌}
use Rattle.std.proofs.Common.{rules, Err}
use Rattle.geometry.proofs.Bounds.{limits}
use Rattle.image.proofs.LaidImage.{found_none, found_some}
use Rattle.changes.proofs.Tests.{found_is}
use Rattle.packages.proofs.Loaded.Decided.{decides_4, decides_7, decides_late, loads}
use Rattle.packages.proofs.decide.load.Goals as goal

pub returns-then-is_some : goal.returns-then-is_some
returns-then-is_some c = decides_4 _ _ _ c.requires (sym (found_is _ c.find_package.ensures.is) ∙ sym c.is_some.ensures ∙ c.if-is_some.true)

pub returns-in_default : goal.returns-in_default
returns-in_default c =
    let gone = sym (found_is _ c.find_package.ensures.is) ∙ sym c.is_some.ensures ∙ c.if-is_some.false in
    decides_7 _ _ _ c.requires gone (found_none _ _ c.free_number.ensures.is c.in_default.is)

pub returns-in_err-cause : goal.returns-in_err-cause
returns-in_err-cause c =
    let gone = sym (found_is _ c.find_package.ensures.is) ∙ sym c.is_some.ensures ∙ c.if-is_some.false in
    let e : c.from_residual.result ≡ Err c.in_err-cause.field-0.0 = search rules in
    rw e (decides_late _ _ _ c.requires gone (limits c.args.img.card).capacity_low (found_some _ _ c.free_number.ensures.is c.in-Some.is) c.newcomer-b.ensures _ (c.cause.ensures c.args.own.now) c.in_err-cause.was)

pub returns : goal.returns
returns c =
    let gone = sym (found_is _ c.find_package.ensures.is) ∙ sym c.is_some.ensures ∙ c.if-is_some.false in
    loads _ _ _ c.requires gone (limits c.args.img.card).capacity_low (found_some _ _ c.free_number.ensures.is c.in-Some.is) c.newcomer-b.ensures _ (c.cause.ensures c.args.own.now) c.in_ok-cause.was
