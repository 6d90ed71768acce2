-- `services::removal::holders` meets its contract. Assumes nothing.
use native.Mathlib.Omega.{arith}
use Rattle.std.proofs.Common.{rules, tests, ◌∙◌, ◌<◌, ℕ, ap}
use mathlib.Core.Bool.{cond}
use Rattle.std.specs.List.{range_with_len}
use Rattle.std.proofs.lemmas.List.FromFn.{length-range_with_len}
use Rattle.std.proofs.lemmas.Iterator.{YieldsList-from_map}
use Rattle.std.proofs.lemmas.Iterator.Consumers.{YieldsList-at, sum_by_from_yields_List}
use Rattle.std.proofs.lemmas.Iterator.Adapters.{at_most_from_yields_List, fits_from_length}
use Rattle.policy.specs.Lists.{upto}
use Rattle.policy.specs.Lookup.{numbers}
use Rattle.policy.specs.ShortCheck.{sum}
use Rattle.geometry.proofs.Bounds.{limits}
use Rattle.image.specs.Image.{lay, tables}
use Rattle.services.specs.Removal.{between}
use Rattle.bits.proofs.Gathered.{sum_count}
use Rattle.bits.proofs.Chains.{given_all, sum_below}
use Rattle.services.proofs.Removed.Rows.{bit_number, bit_small}
use Rattle.services.proofs.removal.holders.Goals as goal

pub sum-requires-clause-fits : goal.sum-requires-clause-fits
sum-requires-clause-fits c =
    let n = c.packages.result in
    let low : n < 17 = omega (arith, c.packages.ensures, (limits c.args.img.card).packages_low) in
    fits_from_length _ _ 16 _ (at_most_from_yields_List (YieldsList-at c.map.ensures.source (given_all n)) (omega (arith, length-range_with_len 0 n))) c.map.ensures.closure (omega arith) (λ x r q k. search (rules, tests, k, bit_small))

pub returns : goal.returns
returns c =
    let a = c.args in
    let held = λ (i : ℕ). between a.tb (tables a.img) a.j i a.k in
    sum_by_from_yields_List (λ i. cond (held i) 1 0) (range_with_len 0 c.packages.result) c.map.result _ c.sum.ensures.ran
    (YieldsList-from_map _ (λ i. cond (held i) 1 0) (YieldsList-at c.map.ensures.source (given_all c.packages.result)) c.map.ensures.closure (λ x r q k. search (rules, tests, k, bit_number)))
    ∙ sum_below (λ i. cond (held i) 1 0) c.packages.result ∙ ap (λ (n : ℕ). sum (λ i. cond (held i) 1 0) (upto n)) c.packages.ensures ∙ sum_count held (numbers (lay a.img))
