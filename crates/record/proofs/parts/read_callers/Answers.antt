-- `record::parts::read_callers` meets its contract: a count, and as many AIDs.
use Rattle.std.proofs.Common.{rules}
use mathlib.Core.Path.{◌∙◌}
use Rattle.policy.specs.Record.{aid}
use Rattle.record.specs.Reading.{after}
use Rattle.record.proofs.Readers.{times_many, list_none, list_bad, list_holds, list_good}
use Rattle.record.proofs.parts.read_callers.Goals as goal

pub returns-in_err-left : goal.returns-in_err-left
returns-in_err-left c = rw c.from_residual.ensures (list_none aid aid _ _ _ (rw c.most_callers.ensures at c.in_err-left.ensures))

pub returns-in_err-rest : goal.returns-in_err-rest
returns-in_err-rest c =
    rw c.from_residual-in_err-rest.ensures
    (list_bad aid aid _ _ _ (rw c.most_callers.ensures at c.in_ok-left.ensures) (c.in_err-rest.ensures (λ s. after (aid s)) (λ s r k. search rules) ∙ times_many aid _ _))

pub invariant_of-result : goal.invariant_of-result
invariant_of-result c =
    record { good = list_holds aid aid _ _ _ c.in_ok-left.ensures (λ s a u e. e) (c.in_ok-rest.ensures (λ s. after (aid s)) (λ s r k. search rules) ∙ times_many aid _ _) }

pub returns : goal.returns
returns c =
    list_good aid aid _ _ _ (rw c.most_callers.ensures at c.in_ok-left.ensures) (λ s a u e. e) (c.in_ok-rest.ensures (λ s. after (aid s)) (λ s r k. search rules) ∙ times_many aid _ _)
