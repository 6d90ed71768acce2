-- `record::parts::read_rows` meets its contract: a count, and as many rows.
use Rattle.std.proofs.Common.{rules}
use mathlib.Core.Path.{◌∙◌}
use native.Mathlib.Omega.{arith}
use Rattle.policy.specs.Record.{a_row, valid_row}
use Rattle.geometry.specs.Geometry.{layout_of}
use Rattle.geometry.proofs.Bounds.{limits}
use Rattle.record.specs.Reading.{after}
use Rattle.record.proofs.Fronts.{rows_only}
use Rattle.record.proofs.Readers.{times_many, list_none, list_bad, list_holds, list_good}
use Rattle.record.proofs.parts.read_rows.Goals as goal

pub returns-in_err-left : goal.returns-in_err-left
returns-in_err-left c = rw c.from_residual.ensures (list_none (valid_row (layout_of c.args.c)) a_row _ _ _ (rw (c.count_width.ensures, c.most_rows.ensures) at c.in_err-left.ensures))

pub returns-in_err-rest : goal.returns-in_err-rest
returns-in_err-rest c =
    let v = valid_row (layout_of c.args.c) in
    rw c.from_residual-in_err-rest.ensures
    (list_bad v a_row _ _ _ (rw (c.count_width.ensures, c.most_rows.ensures) at c.in_ok-left.ensures) (c.in_err-rest.ensures (λ s. after (v s)) (λ s r k. search rules) ∙ times_many v _ _))

pub invariant_of-result : goal.invariant_of-result
invariant_of-result c =
    let v = valid_row (layout_of c.args.c) in
    record { good = list_holds v a_row _ _ _ c.in_ok-left.ensures (rows_only (layout_of c.args.c)) (c.in_ok-rest.ensures (λ s. after (v s)) (λ s r k. search rules) ∙ times_many v _ _) }

pub returns : goal.returns
returns c =
    let v = valid_row (layout_of c.args.c) in
    list_good v a_row _ _ _ (rw (c.count_width.ensures, c.most_rows.ensures) at c.in_ok-left.ensures) (rows_only (layout_of c.args.c)) (c.in_ok-rest.ensures (λ s. after (v s)) (λ s r k. search rules) ∙ times_many v _ _)

pub read_count-requires : goal.read_count-requires
read_count-requires c = let l = limits c.args.c in (omega (arith, c.count_width.ensures, l.count_some), omega (arith, c.count_width.ensures, l.count_low))
