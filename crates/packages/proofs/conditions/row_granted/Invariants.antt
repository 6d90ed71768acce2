-- `packages::conditions::row_granted` meets its contract: those so far are granted, and the search goes on among the grants.
use Rattle.std.specs.Prelude.{◌≡◌, true}
use Rattle.policy.specs.Lists.{every, upto}
use Rattle.policy.specs.Tables.{bit}
use Rattle.image.specs.Image.{lay, tables}
use Rattle.record.specs.Listed.{rows_of, Among}
use Rattle.packages.specs.Conditions.{service_granted}
use Rattle.packages.proofs.conditions.row_granted.Given as goal

abbrev pub invariant-loop-k : goal.invariant-loop-k
invariant-loop-k l = record {
  granted : every (service_granted (lay l.img) (tables l.img) (rows_of l.grants) l.n l.i (bit l.row)) (upto l.k) ≡ true;
  among : Among l.grants l.from;
}
