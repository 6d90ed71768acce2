-- `record::parts::read_services` meets its contract: a count, and as many tokens.
use Rattle.std.proofs.Common.{rules}
use mathlib.Core.Path.{◌∙◌}
use Rattle.policy.specs.Record.{tokens, valid_tokens}
use Rattle.geometry.specs.Geometry.{layout_of}
use Rattle.record.specs.Reading.{after}
use Rattle.record.proofs.Fronts.{tokens_only}
use Rattle.record.proofs.Readers.{times_many, list_none, list_bad, list_holds, list_good}
use Rattle.record.proofs.parts.read_services.Goals as goal

pub returns-in_err-left : goal.returns-in_err-left
returns-in_err-left c = rw c.from_residual.ensures (list_none (valid_tokens (layout_of c.args.c)) tokens _ _ _ (rw c.services.ensures at c.in_err-left.ensures))

pub returns-in_err-rest : goal.returns-in_err-rest
returns-in_err-rest c =
    let v = valid_tokens (layout_of c.args.c) in
    rw c.from_residual-in_err-rest.ensures
    (list_bad v tokens _ _ _ (rw c.services.ensures at c.in_ok-left.ensures) (c.in_err-rest.ensures (λ s. after (v s)) (λ s r k. search rules) ∙ times_many v _ _))

pub invariant_of-result : goal.invariant_of-result
invariant_of-result c =
    let v = valid_tokens (layout_of c.args.c) in
    record { good = list_holds v tokens _ _ _ c.in_ok-left.ensures (tokens_only (layout_of c.args.c)) (c.in_ok-rest.ensures (λ s. after (v s)) (λ s r k. search rules) ∙ times_many v _ _) }

pub returns : goal.returns
returns c =
    let v = valid_tokens (layout_of c.args.c) in
    list_good v tokens _ _ _ (rw c.services.ensures at c.in_ok-left.ensures) (tokens_only (layout_of c.args.c)) (c.in_ok-rest.ensures (λ s. after (v s)) (λ s r k. search rules) ∙ times_many v _ _)
