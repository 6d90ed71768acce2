-- `packages::conditions::others_rights` meets its contract.
use Rattle.std.proofs.Common.{rules}
use Rattle.image.specs.Image.{lay, tables}
use Rattle.record.specs.Listed.{rows_of}
use Rattle.packages.specs.Conditions.{named_granted}
use Rattle.bits.proofs.Chains.{all_below}
use Rattle.packages.proofs.conditions.others_rights.Goals as goal

pub returns : goal.returns
returns c =
    let a = c.args in
    rw c.count.ensures at (all_below c.count.result (named_granted (lay a.img) (tables a.img) (rows_of a.grants) a.met) c.all.new.self c.all.ensures.ran (λ x b q k. search rules))
