-- `record::reading::read` meets its contract: the header, the first AID, and what follows it.
use native.Mathlib.Omega.{arith}
use mathlib.Core.Path.{◌∙◌}
use Rattle.record.proofs.Parsed.{short, other_length, other_version, no_aid, no_change, left_over, all_read}
use Rattle.record.proofs.reading.read.Goals as goal

pub returns-then-rec-lt4 : goal.returns-then-rec-lt4
returns-then-rec-lt4 c = short _ _ c.if-rec-lt4.true

pub returns-then-length-rec : goal.returns-then-length-rec
returns-then-length-rec c = other_length _ _ c.if-rec-lt4.false c.number_at-length.ensures c.if-length-rec.true

pub returns-then-rec-version : goal.returns-then-rec-version
returns-then-rec-version c =
    other_version _ _ c.if-rec-lt4.false c.number_at-length.ensures c.if-length-rec.false (λ e. omega (arith, c.version.ensures, c.if-rec-version.true))

pub returns-in_err-aid : goal.returns-in_err-aid
returns-in_err-aid c =
    rw c.from_residual.ensures
    (no_aid _ _ c.if-rec-lt4.false c.number_at-length.ensures c.if-length-rec.false (c.if-rec-version.false ∙ c.version.ensures) c.in_err-aid.ensures.reads)

pub returns-in_err-kind : goal.returns-in_err-kind
returns-in_err-kind c =
    rw c.from_residual-in_err-kind.ensures
    (no_change _ _ c.if-rec-lt4.false c.number_at-length.ensures c.if-length-rec.false (c.if-rec-version.false ∙ c.version.ensures) c.in_ok-aid.ensures.reads
    c.in_err-kind.ensures)

pub returns-then-r : goal.returns-then-r
returns-then-r c =
    left_over _ _ c.if-rec-lt4.false c.number_at-length.ensures c.if-length-rec.false (c.if-rec-version.false ∙ c.version.ensures) c.in_ok-aid.ensures.reads
    _ _ c.in_ok-kind.ensures c.if-r.true

pub returns : goal.returns
returns c =
    all_read _ _ c.if-rec-lt4.false c.number_at-length.ensures c.if-length-rec.false (c.if-rec-version.false ∙ c.version.ensures) c.in_ok-aid.ensures.reads
    _ _ c.in_ok-kind.ensures c.if-r.false
