-- `services::adding::is_due_to` meets its contract. Assumes nothing.
use Rattle.std.proofs.Common.{rules, tests, ◌≡◌, ◌&&◌, ◌∙◌, ap, eqb, ℕ, Bool}
use Rattle.std.specs.Prelude.{Some}
use Rattle.std.specs.Option.{option_eq}
use Rattle.policy.specs.Tables.{Waiting, bit}
use Rattle.policy.specs.Lookup.{number_of}
use Rattle.image.specs.Image.{lay, tables}
use Rattle.image.specs.Read.{found, waiting_row}
use Rattle.changes.specs.Joins.{holder}
use Rattle.bits.proofs.Chains.{any_below}
use Rattle.services.proofs.Added.Found.{held_same, named_row}
use Rattle.services.proofs.adding.is_due_to.Goals as goal

pub returns : goal.returns
returns c =
    let a = c.args in
    let L = lay a.img in
    let t = tables a.img in
    let by = λ (w : Waiting). eqb (holder L t w.caller) a.n in
    let test = λ (r : ℕ). bit a.due r && by (waiting_row t r) in
    any_below c.count.result test c.any.new.self c.any.ensures.ran
    (λ x b q k.
    let h : b ≡ bit a.due x && option_eq eqb (found (number_of L t (waiting_row t x).caller)) (Some a.n) = search (rules, tests, k) in
    (search (rules, k), h ∙ ap (λ (v : Bool). bit a.due x && v) (held_same L.packages a.n (number_of L t (waiting_row t x).caller) c.requires)))
    ∙ named_row _ by a.due t.waiting c.count.ensures
