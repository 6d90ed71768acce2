-- The line and the image of a record that was judged. Assumes nothing.
use Prim.Native.Nat.{ℕ}
use mathlib.Core.Path.{◌≡◌, sym, subst}
use mathlib.Core.List.{List}
use Rattle.policy.specs.Judge.{Out}
use Rattle.policy.specs.Settled.{Gives}
use Rattle.lines.specs.Lines.{record_line, Printed}

pub answered :
    (n k : ℕ) {o : Out} {number second r : ℕ} {bytes lent left : List ℕ}
    → Gives o number second bytes → Printed (record_line n k number second) lent r left
    → Printed (record_line n k o.answered o.second) lent r left × (bytes ≡ o.bytes)
answered n k {o = o} {second = second} {r = r} {lent = lent} {left = left} g h = (
  subst (λ (z : ℕ). Printed (record_line n k o.answered z) lent r left) (sym g.second_is)
      (subst (λ (z : ℕ). Printed (record_line n k z second) lent r left) (sym g.answered) h),
  sym g.bytes_are,
)
