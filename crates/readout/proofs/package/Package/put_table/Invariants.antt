-- `readout::package::Package::put_table` meets its contract. Assumes nothing.
use Rattle.policy.specs.Lists.{flat, upto}
use Rattle.readout.specs.Parts.{Put, of, column_bytes}
use Rattle.readout.proofs.package.Package.put_table.Given as goal

abbrev pub invariant-loop-j : goal.invariant-loop-j
invariant-loop-j l = Put l.initial.pen (flat (of column_bytes l.self l.tb) (upto l.j)) l.pen
