-- `packages::write::is_kept` meets its contract.
use Prim.Native.Nat.{ℕ}
use mathlib.Core.Bool.{not, ◌&&◌}
use mathlib.Core.Path.{ap, ◌∙◌}
use borrow.Author.Tests.{eq-eqb}
use Rattle.std.proofs.Common.{rules}
use Rattle.policy.specs.Contract.{eq_tok}
use Rattle.policy.specs.Tables.{bit}
use Rattle.geometry.specs.Geometry.{tok_of}
use Rattle.image.specs.Image.{lay, tables}
use Rattle.bits.proofs.Chains.{any_below}
use Rattle.packages.proofs.Placed.{none_kept}
use Rattle.packages.proofs.write.is_kept.Goals as goal

pub returns-then-kept-ne0 : goal.returns-then-kept-ne0
returns-then-kept-ne0 c =
    let a = c.args in
    rw c.services.ensures at (any_below c.services.result (λ (y : ℕ). bit a.kept y && eq_tok ((tables a.img).tok a.n y) (tok_of a.t)) c.any.new.self c.any.ensures.ran (λ x b q k. search rules))

pub returns-else-kept-ne0 : goal.returns-else-kept-ne0
returns-else-kept-ne0 c =
    let a = c.args in
    let z = c.if-kept-ne0.false in
    ap not (eq-eqb a.kept 0 z) ∙ none_kept (lay a.img) a.n a.kept (tok_of a.t) (tables a.img) z
