-- `links::change` meets its contract.
use borrow.Author.Rules.{rules}
use Rattle.geometry.specs.Geometry.{layout_of}
use Rattle.image.proofs.LaidImage.{laid_on}
use Rattle.image.specs.Read.{asked}
use Rattle.changes.proofs.Verdicts.{asked_laid, answers_as}
use Rattle.links.proofs.Outcome.{plan_refused, plan_done}
use Rattle.links.proofs.change.Goals as goal

pub invariant_of-view : goal.invariant_of-view
invariant_of-view c = record { laid = laid_on c.args.c (asked_laid (layout_of c.args.c) c.args.img.now c.args.own.now c.requires) }

pub returns-in_err-owner : goal.returns-in_err-owner
returns-in_err-owner c =
    let a = c.args in
    answers_as _ _ c.from_residual.ensures.1 (plan_refused a.c a.img.now a.own.now (asked a.other.now a.t) a.k c.requires c.plan_row.ensures.is c.in_err-owner.was)

pub returns : goal.returns
returns c = search (plan_done, rules)
