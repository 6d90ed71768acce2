-- `packages::conditions::service_granted` meets its contract.
use mathlib.Core.Path.{◌≡◌, sym}
use mathlib.Core.Bool.{true}
use Rattle.policy.specs.Tables.{bit}
use Rattle.std.proofs.Common.{rules}
use Rattle.geometry.specs.Geometry.{tok_of}
use Rattle.image.specs.Image.{lay, tables}
use Rattle.packages.specs.Conditions.{grant_fits}
use Rattle.packages.proofs.conditions.service_granted.Goals as goal

pub returns : goal.returns
returns c =
    let a = c.args in
    let s = c.seek.ensures (grant_fits (lay a.img) (tables a.img) a.i (tok_of c.tokens_at-t.result)) (λ r b k. search rules) c.requires.among in
    let on : bit a.row a.k ≡ true = rw (c.into.ensures, c.if-not-is_set.false) at (sym c.is_set.ensures) in
    (rw (on, ← c.tokens_at-t.ensures) s.0, s.1)
