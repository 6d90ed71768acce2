-- `record::proper::mark` meets its contract.
use mathlib.Core.Path.{ap}
use Prim.Native.Nat.{ℕ, ◌/◌}
use lib.ListN.{set}
use Rattle.record.specs.Marks.{marked, with_mark}
use Rattle.record.proofs.proper.mark.Goals as goal

pub returns : goal.returns
unfolding marked with_mark
returns c =
    let a = c.args in
    (c.is_set.ensures, ap (λ (w : ℕ). set a.seen.now (a.h / 64) w) c.with_mark.ensures)
