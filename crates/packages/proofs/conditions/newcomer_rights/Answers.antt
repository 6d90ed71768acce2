-- `packages::conditions::newcomer_rights` meets its contract: the calls to come decide.
use native.Mathlib.Omega.{arith}
use mathlib.Core.Bool.{not}
use Rattle.image.specs.Image.{lay, tables}
use Rattle.record.specs.Listed.{row_of}
use Rattle.changes.specs.Own.{served}
use Rattle.packages.proofs.Checks.{one_counted, unserved_at}
use Rattle.packages.proofs.conditions.newcomer_rights.Goals as goal

pub overflow_add-unserved : goal.overflow_add-unserved
overflow_add-unserved c =
    let a = c.args in
    let q = unserved_at (lay a.img) (tables a.img) (row_of c.in-Some.r) c.find_server.result c.find_server.ensures.is c.in-None-find_server.is in
    omega (arith, one_counted (λ x. not (served (lay a.img) (tables a.img) x)) a.calls c.loop-r.unserved c.loop-r.invariant.counted c.in-Some.ensures.steps q)
