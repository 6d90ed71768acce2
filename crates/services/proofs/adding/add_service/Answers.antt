-- `services::adding::add_service` meets its contract. Assumes nothing.
use Rattle.std.proofs.Common.{rules, arith, ◌≡◌}
use Rattle.std.specs.Prelude.{Err}
use Rattle.geometry.specs.Geometry.{layout_of}
use Rattle.geometry.proofs.Bounds.{limits}
use Rattle.image.proofs.Laid.{sound_laid}
use Rattle.image.proofs.LaidImage.{laid_on}
use Rattle.services.proofs.Added.Outcome.{adding_refused, adding_fits, adding_answers}
use Rattle.services.proofs.adding.add_service.Goals as goal

pub invariant_of-view : goal.invariant_of-view
invariant_of-view c = record { laid = laid_on c.args.c (sound_laid (layout_of c.args.c) c.requires.is_sound) }

pub returns-in_err-plan : goal.returns-in_err-plan
returns-in_err-plan c =
    let h : c.from_residual.result ≡ Err c.in_err-plan.field-0.0 = search rules in
    rw h (adding_refused _ _ _ _ _ c.requires _ c.plan_adding.ensures c.in_err-plan.was)

pub serve-requires-clause-fit : goal.serve-requires-clause-fit
serve-requires-clause-fit c = adding_fits _ _ _ _ _ c.requires _ c.plan_adding.ensures c.in_ok-plan.was

pub overflow_cast-result : goal.overflow_cast-result
overflow_cast-result c =
    let fit = adding_fits _ _ _ _ _ c.requires _ c.plan_adding.ensures c.in_ok-plan.was in
    omega (arith, fit.takes_in.package_in, limits c.args.c)

pub returns : goal.returns
returns c = adding_answers _ _ _ _ _ c.requires _ c.plan_adding.ensures c.in_ok-plan.was c.serve.ensures
