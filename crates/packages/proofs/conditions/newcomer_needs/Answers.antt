-- `packages::conditions::newcomer_needs` meets its contract.
use Rattle.std.proofs.Common.{rules}
use Rattle.image.specs.Image.{lay, tables}
use Rattle.changes.specs.Own.{served}
use Rattle.record.proofs.Found.{all_is}
use Rattle.packages.proofs.conditions.newcomer_needs.Goals as goal

pub returns : goal.returns
returns c = let a = c.args in all_is (served (lay a.img) (tables a.img)) c.all.new.self c.all.ensures.ran (λ x b q k. search (rules, k))
