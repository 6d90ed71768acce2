-- `packages::decide::waiters_fit` meets its contract.
use mathlib.Core.Path.{ap}
use mathlib.Core.Bool.{not}
use Rattle.std.proofs.Common.{rules}
use Rattle.std.proofs.lemmas.Iterator.Consumers.{YieldsList-from_first, YieldsList-from_filter}
use Rattle.policy.specs.Contract.{Row}
use Rattle.image.specs.Image.{lay, tables}
use Rattle.record.specs.Listed.{row_of, toks_of, rows_of}
use Rattle.packages.specs.Decides.{both_there}
use Rattle.packages.proofs.Checks.{none_after}
use Rattle.packages.proofs.decide.waiters_fit.Goals as goal

pub returns : goal.returns
returns c =
    let a = c.args in
    let test = λ (x : Row). not (both_there (lay a.img) (tables a.img) (toks_of a.provides) x) in
    none_after {v = row_of} {s = c.filter.result} test (rows_of a.grants) c.nth.result c.nth.new.self a.room c.nth.ensures.ran
    (YieldsList-from_filter _ test (YieldsList-from_first row_of rows_of (rows_of a.grants) (ap rows_of c.filter.ensures.source)) c.filter.ensures.closure (λ x b q k. search (rules, k)))
    c.is_none.ensures
