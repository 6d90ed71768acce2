-- `packages::conditions::kept_rights` meets its contract: those so far are granted, and the search goes on among the grants.
use Rattle.std.specs.Prelude.{◌≡◌, true}
use Rattle.policy.specs.Lists.{every, upto}
use Rattle.image.specs.Image.{lay, tables}
use Rattle.record.specs.Listed.{rows_of, Among}
use Rattle.packages.specs.Conditions.{caller_granted}
use Rattle.packages.proofs.conditions.kept_rights.Given as goal

abbrev pub invariant-loop-i : goal.invariant-loop-i
invariant-loop-i l = record {
  granted : every (caller_granted (lay l.img) (tables l.img) (rows_of l.grants) l.n l.dropped) (upto l.i) ≡ true;
  among : Among l.grants l.from;
}
