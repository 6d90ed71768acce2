-- `readout::package::Package::put_column` meets its contract. Assumes nothing.
use Rattle.policy.specs.Lists.{flat, upto}
use Rattle.readout.specs.Parts.{Put, of, bit_bytes}
use Rattle.readout.proofs.package.Package.put_column.Given as goal

abbrev pub invariant-loop-k : goal.invariant-loop-k
invariant-loop-k l = Put l.initial.pen (flat (of bit_bytes l.self l.tb l.j) (upto l.k)) l.pen
