-- `readout::package::Package::put_list` meets its contract. Assumes nothing.
use Rattle.policy.specs.Lists.{flat, upto}
use Rattle.readout.specs.Parts.{Put, of, item_bytes}
use Rattle.readout.proofs.package.Package.put_list.Given as goal

abbrev pub invariant-loop-r : goal.invariant-loop-r
invariant-loop-r l = Put l.initial.pen (flat (of item_bytes l.self l.l) (upto l.r)) l.pen
