-- `services::adding::due_rows` meets its contract. Assumes nothing.
use Rattle.std.proofs.Common.{rules, tests, ◌≡◌, ◌&&◌, ◌∙◌, refl, Bool}
use mathlib.Core.Path.{ap₂}
use Rattle.std.specs.Prelude.{is_some}
use Rattle.policy.specs.Tables.{bit}
use Rattle.policy.specs.Lookup.{number_of}
use Rattle.policy.specs.Draft.{installed_aid}
use Rattle.image.specs.Image.{lay, tables}
use Rattle.image.specs.Read.{found, waiting_row}
use Rattle.changes.proofs.MaskedRows.{named}
use Rattle.changes.proofs.Tests.{found_is}
use Rattle.services.proofs.adding.due_rows.Goals as goal

pub returns : goal.returns
returns c f e =
    let a = c.args in
    let L = lay a.img in
    let t = tables a.img in
    c.mask.ensures (λ w. f w && installed_aid L t w.caller)
    (λ r l b p.
    let h : b ≡ bit a.granting r && is_some (found (number_of L t (waiting_row t r).caller)) = search (rules, tests, p) in
    h ∙ ap₂ (λ (x y : Bool). x && y) (named f t.waiting a.granting r _ e l) (found_is (number_of L t (waiting_row t r).caller) refl))
