-- `rows::put` meets its contract.
use lib.ListN.{length}
use Rattle.rows.proofs.Over.{Copied}
use Rattle.rows.proofs.put.Given as goal

abbrev pub invariant-loop-j : goal.invariant-loop-j
invariant-loop-j l = Copied l.initial.dst l.at l.src (length l.src) l.dst l.j
