-- `record::find::seek` meets its contract: the first search has found one, or the second, which looks in all of them.
use mathlib.Core.Path.{◌≡◌, sym, ◌∙◌}
use Rattle.std.proofs.Common.{rules, of_calls}
use Rattle.policy.specs.Lists.{exists}
use Rattle.policy.proofs.Sets.{T_true, true_T}
use Rattle.record.specs.Listed.{row_of, rows_of}
use Rattle.record.proofs.Found.{any_is, left_among}
use Rattle.record.proofs.find.seek.Goals as goal

pub returns-then-any : goal.returns-then-any
returns-then-any g c t is among =
    let found : c.any.result ≡ exists t (rows_of c.args.from.now) = any_is t c.any.new.self c.any.ensures.ran (λ x b q k. search (rules, of_calls, is)) in
    (sym (T_true _ (among t (true_T (sym found ∙ c.if-any.true)))), λ f p. among f (left_among row_of rows_of c.args.from.now c.any.new.self _ _ c.any.ensures.ran.3 f p))

pub returns : goal.returns
returns g c t is among =
    (any_is t c.any-2.new.self c.any-2.ensures.ran (λ x b q k. search (rules, of_calls, is)), left_among row_of rows_of c.args.all c.any-2.new.self _ _ c.any-2.ensures.ran.3)
