-- `packages::conditions::newcomer_rights` meets its contract: the calls to come decide.
use Rattle.std.specs.Prelude.{◌≡◌, ◌+◌, not}
use Rattle.policy.specs.ShortCheck.{count}
use Rattle.image.specs.Image.{lay, tables}
use Rattle.record.specs.Listed.{rows_of}
use Rattle.changes.specs.Own.{served}
use Rattle.packages.specs.Conditions.{own_granted}
use Rattle.packages.proofs.conditions.newcomer_rights.Given as goal

abbrev pub invariant-loop-r : goal.invariant-loop-r
invariant-loop-r l = record {
  granted : own_granted (lay l.img) (tables l.img) l.due l.n (rows_of l.r-iterator) ≡ own_granted (lay l.img) (tables l.img) l.due l.n (rows_of l.calls);
  counted : l.unserved + count (λ x. not (served (lay l.img) (tables l.img) x)) (rows_of l.r-iterator) ≡ count (λ x. not (served (lay l.img) (tables l.img) x)) (rows_of l.calls);
}
