-- `changes::left::column` meets its contract.
use Prim.Native.Nat.{ℕ, ◌≤◌}
use native.Mathlib.Omega.{arith}
use mathlib.Core.Path.{ap, ◌∙◌}
use mathlib.Core.Bool.{◌&&◌}
use borrow.Author.Rules.{rules}
use Rattle.std.specs.List.{range_with_len}
use Rattle.std.proofs.lemmas.List.FromFn.{length-range_with_len}
use Rattle.std.proofs.lemmas.Iterator.{YieldsList-from_range, YieldsList-from_map}
use Rattle.std.proofs.lemmas.Iterator.Adapters.{at_most_from_yields_List, fits_from_length}
use Rattle.std.proofs.lemmas.Iterator.Consumers.{sum_by_from_yields_List}
use Rattle.policy.specs.Lookup.{places}
use Rattle.policy.specs.ShortCheck.{count, sum}
use Rattle.policy.specs.Lists.{upto}
use Rattle.policy.specs.Tables.{bit}
use Rattle.geometry.proofs.Bounds.{limits}
use Rattle.image.specs.Image.{lay, tables}
use Rattle.image.specs.Laid.{table_of}
use Rattle.bits.proofs.Gathered.{count_le}
use Rattle.bits.proofs.Chains.{sum_below}
use Rattle.changes.proofs.Sums.{sum_low}
use Rattle.changes.proofs.left.column.Goals as goal

pub sum-requires-clause-fits : goal.sum-requires-clause-fits
sum-requires-clause-fits c =
    let n = c.packages-size.result in
    fits_from_length _ _ 16 _
    (at_most_from_yields_List (YieldsList-from_range 0 n n (cc) (omega arith)) (omega (arith, length-range_with_len 0 n, limits c.args.img.card, c.packages-size.ensures)))
    c.map.ensures.closure (omega arith) (λ x r q k. search rules)

pub returns : goal.returns
returns c =
    let a = c.args in
    let on = λ (i k : ℕ). table_of a.tb (tables a.img) i a.n k && bit a.d k in
    let f = λ (i : ℕ). count (on i) (places (lay a.img)) in
    let n = c.packages-size.result in
    let total = sum_by_from_yields_List f (range_with_len 0 n) c.map.result c.sum.result c.sum.ensures.ran
    (YieldsList-from_map _ f (YieldsList-from_range 0 n n (cc) (omega arith)) c.map.ensures.closure (λ x r q k. search rules)) ∙ sum_below f n in
    let m = limits a.img.card in
    let each = λ (i : ℕ). (let h = count_le (on i) (lay a.img).services in let q : f i ≤ 16 = omega (arith, h, m) in q) in
    (total ∙ ap (λ k. sum f (upto k)) c.packages-size.ensures, omega (arith, total, sum_low f 16 each n, m, c.packages-size.ensures))
