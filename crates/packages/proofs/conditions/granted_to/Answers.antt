-- `packages::conditions::granted_to` meets its contract.
use Rattle.std.proofs.Common.{rules}
use Rattle.geometry.specs.Geometry.{tok_of}
use Rattle.image.specs.Image.{lay, tables}
use Rattle.packages.specs.Conditions.{grant_fits}
use Rattle.record.proofs.Found.{any_is}
use Rattle.packages.proofs.conditions.granted_to.Goals as goal

pub returns : goal.returns
returns c = let a = c.args in any_is (grant_fits (lay a.img) (tables a.img) a.i (tok_of a.t)) c.any.new.self c.any.ensures.ran (λ x b q k. search rules)
