-- `readout::package::Package::count_bits` meets its contract. Assumes nothing.
use Prim.Native.Nat.{ℕ, ◌≤◌}
use native.Mathlib.Omega.{arith}
use mathlib.Core.Path.{◌≡◌, sym, ap, ◌∙◌}
use mathlib.Core.List.{map}
use lib.ListN.{length, length-map}
use borrow.Author.Rules.{rules}
use Rattle.std.specs.List.{range_with_len}
use Rattle.std.proofs.lemmas.List.FromFn.{length-range_with_len}
use Rattle.std.proofs.lemmas.Iterator.{YieldsList-from_range, YieldsList-from_map}
use Rattle.std.proofs.lemmas.Iterator.Adapters.{at_most_from_yields_List, fits_from_length}
use Rattle.std.proofs.lemmas.Iterator.Consumers.{sum_by_from_yields_List}
use Rattle.policy.specs.Lists.{keep, flat, upto}
use Rattle.policy.proofs.Sets.{length_keep, length_from}
use Rattle.geometry.proofs.Bounds.{limits}
use Rattle.image.specs.Image.{lay, tables}
use Rattle.image.specs.Laid.{table_of}
use Rattle.readout.specs.Parts.{bit_row}
use Rattle.readout.proofs.Turns.{counted, counted_low}
use Rattle.readout.proofs.package.Package.count_bits.Goals as goal

pub sum-requires-clause-fits : goal.sum-requires-clause-fits
sum-requires-clause-fits c =
    let n = c.packages.result in
    fits_from_length _ _ 16 _
    (at_most_from_yields_List (YieldsList-from_range 0 n n (cc) (omega arith)) (omega (arith, length-range_with_len 0 n, limits c.args.self.img.card, c.packages.ensures)))
    c.map.ensures.closure (omega arith) (λ x r q k. search rules)

pub returns : goal.returns
returns c =
    let s = c.args.self in
    let i = s.img in
    let kept = λ (j : ℕ). keep (table_of c.args.tb (tables i) s.n j) (upto (lay i).services) in
    let f = λ (j : ℕ). length (kept j) in
    let g = λ (j : ℕ). map (bit_row (lay i) (tables i) s.n c.args.tb j) (kept j) in
    let h = λ (j : ℕ). (let e = length-map (kept j) (bit_row (lay i) (tables i) s.n c.args.tb j) in let q : f j ≡ length (g j) = sym e in q) in
    let n = c.packages.result in
    let total = sum_by_from_yields_List f (range_with_len 0 n) c.map.result c.sum.result c.sum.ensures.ran
    (YieldsList-from_map _ f (YieldsList-from_range 0 n n (cc) (omega arith)) c.map.ensures.closure (λ x r q k. search rules)) ∙ counted g f h n in
    let m = limits i.card in
    let each = λ (j : ℕ). (let l = length_keep (table_of c.args.tb (tables i) s.n j) (upto (lay i).services) in let q : f j ≤ 16 = omega (arith, l, length_from 0 (lay i).services, m) in q) in
    (total ∙ ap (λ (k : ℕ). length (flat g (upto k))) c.packages.ensures, omega (arith, total, counted_low g f h 16 each (upto n), length_from 0 n, m, c.packages.ensures))
