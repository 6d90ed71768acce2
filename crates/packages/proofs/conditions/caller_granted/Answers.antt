-- `packages::conditions::caller_granted` meets its contract.
use mathlib.Core.Path.{◌∙◌}
use borrow.Author.Tests.{eq-eqb}
use Rattle.geometry.proofs.Bounds.{limits}
use Rattle.image.specs.Image.{lay, tables}
use Rattle.record.specs.Listed.{rows_of}
use Rattle.packages.proofs.Checks.{kept_none, kept_by}
use Rattle.packages.proofs.conditions.caller_granted.Goals as goal

pub returns-then-kept-eq0 : goal.returns-then-kept-eq0
returns-then-kept-eq0 c =
    let a = c.args in
    let z = c.if-kept-eq0.true in
    (eq-eqb _ 0 z ∙ kept_none (lay a.img) (tables a.img) (limits a.img.card).services_low (rows_of a.grants) a.n a.i a.dropped c.entry.result c.others-kept.result c.entry.ensures c.others-kept.ensures z, c.requires.among)

pub returns-else-kept-eq0 : goal.returns-else-kept-eq0
returns-else-kept-eq0 c =
    let a = c.args in
    (c.row_granted.ensures.0 ∙ kept_by (lay a.img) (tables a.img) (limits a.img.card).services_low (rows_of a.grants) a.n a.i a.dropped c.entry.result c.others-kept.result c.entry.ensures c.others-kept.ensures, c.row_granted.ensures.1)
