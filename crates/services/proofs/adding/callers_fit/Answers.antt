-- `services::adding::callers_fit` meets its contract. Assumes nothing.
use Rattle.std.proofs.Common.{rules, tests, refl, ◌≡◌, ◌∙◌}
use Rattle.std.proofs.lemmas.Iterator.Consumers.{nth_from_yields_List, YieldsList-at, YieldsList-from_filter, YieldsList-from_first}
use Rattle.std.specs.Prelude.{is_none}
use Rattle.image.specs.Image.{lay, tables}
use Rattle.record.specs.Listed.{bytes_of, aids_of}
use Rattle.services.specs.Adding.{is_lone}
use Rattle.services.proofs.Added.Found.{nth_none}
use Rattle.services.proofs.adding.callers_fit.Goals as goal

pub returns : goal.returns
returns c =
    let a = c.args in
    let e : c.is_none.result ≡ is_none c.nth.result = search rules in
    e
    ∙ nth_none bytes_of _ a.room _
    (nth_from_yields_List _ c.nth.new.self a.room c.nth.ensures.ran
    (YieldsList-from_filter _ (is_lone (lay a.img) a.granting (tables a.img)) (YieldsList-at c.filter.ensures.source (YieldsList-from_first bytes_of aids_of {s = a.callers} _ refl)) c.filter.ensures.closure
    (λ x b q k. search (rules, tests, k))))
