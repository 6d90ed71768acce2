-- `services::adding::plan_adding` meets its contract. Assumes nothing.
use Rattle.std.proofs.Common.{rules, ◌≡◌}
use Rattle.std.specs.Prelude.{Some}
use Rattle.image.specs.Image.{lay}
use Rattle.services.proofs.Added.Plan.{own_aid}
use Rattle.services.proofs.adding.plan_adding.Goals as goal

pub plan_lists-requires-clause-is_own : goal.plan_lists-requires-clause-is_own
plan_lists-requires-clause-is_own c =
    let h : c.find_package.result ≡ Some c.in_ok-provider.provider = search rules in
    own_aid (lay c.args.img) c.args.img.bytes.now c.args.own.now c.requires c.find_package.ensures.is h
