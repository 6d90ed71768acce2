-- `converter::enlarge::carry_lines` meets its contract. Assumes nothing.
use Prim.Native.Nat.{ℕ, ◌*◌, ◌/◌}
use mathlib.Core.List.{List}
use lib.ListN.{length}
use Rattle.rows.specs.Area.{part}
use Rattle.converter.specs.Enlarged.{Puts}
use Rattle.converter.proofs.Laid.{Laid}
use Rattle.converter.proofs.enlarge.carry_lines.Given as goal

abbrev pub invariant-loop-i : goal.invariant-loop-i
invariant-loop-i g l =
    (f : List ℕ → List ℕ) → Puts (goal.F-post g l.put) (length l.lines / 8) f
    → Laid (λ i. f (part (i * (length l.lines / 8)) (length l.lines / 8) l.lines)) 32 0 8 l.initial.place l.place l.i
