-- `rows::clear` meets its contract.
use lib.ListN.{replicate}
use Rattle.rows.proofs.Over.{Copied}
use Rattle.rows.proofs.clear.Given as goal

abbrev pub invariant-loop-j : goal.invariant-loop-j
invariant-loop-j l = Copied l.initial.a l.at (replicate l.n 0) l.n l.a l.j
