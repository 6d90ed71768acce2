-- `converter::enlarge::widen_fill` meets its contract. Assumes nothing.
use lib.ListN.{length}
use Rattle.converter.proofs.Enlarging.{row_wide}
use Rattle.converter.proofs.Laid.{Laid}
use Rattle.converter.proofs.enlarge.widen_fill.Given as goal

abbrev pub invariant-loop-j : goal.invariant-loop-j
invariant-loop-j l = Laid (row_wide l.rows) 2 0 (length l.rows) l.initial.place l.place l.j
