-- `converter::carry` meets its contract. Assumes nothing.
use Rattle.converter.specs.Converted.{new_row}
use Rattle.converter.proofs.Laid.{Laid}
use Rattle.converter.proofs.carry.Given as goal

abbrev pub invariant-loop-r : goal.invariant-loop-r
invariant-loop-r l = Laid (new_row l.old) 20 790 l.n l.initial.out l.out l.r
