-- `lists::List::differ` meets its contract.
use mathlib.Core.Path.{◌≡◌}
use mathlib.Core.Bool.{true}
use Rattle.policy.specs.Lists.{every, upto}
use Rattle.soundness.specs.Check.{new_row}
use Rattle.soundness.proofs.Marks.{Marked, rows_mark, row_low}
use Rattle.soundness.proofs.lists.List.differ.Given as goal

abbrev pub invariant-loop-r : goal.invariant-loop-r
invariant-loop-r l =
    let s = l.self in
    record {
      shown : every (new_row s.front.img.now s.at s.w) (upto l.r) ≡ true;
      marked : Marked (rows_mark s.front.img.now s.at s.w) (row_low s.front.img.now s.at s.w) l.seen l.r;
    }
