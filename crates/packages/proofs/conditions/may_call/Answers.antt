-- `packages::conditions::may_call` meets its contract.
use mathlib.Core.Path.{◌∙◌}
use Rattle.geometry.specs.Geometry.{tok_of}
use Rattle.image.specs.Image.{lay, tables}
use Rattle.packages.proofs.Checks.{may_bit}
use Rattle.packages.proofs.conditions.may_call.Goals as goal

pub returns-else-due-awaited-ne0 : goal.returns-else-due-awaited-ne0
returns-else-due-awaited-ne0 c =
    let a = c.args in
    may_bit (lay a.img) (tables a.img) a.due c.awaited.result a.n (tok_of a.t) (record { callee = a.p.callee; service = a.p.service })
    c.awaited.ensures c.if-due-awaited-ne0.false _ _ (c.into.ensures ∙ c.entry.ensures) c.is_set.ensures c.requires.2
