-- `readout::package::Package::put_services` meets its contract. Assumes nothing.
use Rattle.policy.specs.Lists.{flat, upto}
use Rattle.readout.specs.Parts.{Put, of, tok_bytes}
use Rattle.readout.proofs.package.Package.put_services.Given as goal

abbrev pub invariant-loop-k : goal.invariant-loop-k
invariant-loop-k l = Put l.initial.pen (flat (of tok_bytes l.self) (upto l.k)) l.pen
