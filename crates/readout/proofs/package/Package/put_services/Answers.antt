-- `readout::package::Package::put_services` meets its contract. Assumes nothing.
use native.Mathlib.Omega.{arith}
use Rattle.readout.specs.Parts.{of, tok_bytes}
use Rattle.readout.proofs.Writers.{turn_short, turn_on, turn_all}
use Rattle.readout.proofs.package.Package.put_services.Goals as goal

pub put_service-requires-clause-short : goal.put_service-requires-clause-short
put_service-requires-clause-short c = turn_short (of tok_bytes c.args.self) _ c.loop-k.invariant _ (omega arith) c.requires

pub loop-k-preserved : goal.loop-k-preserved
loop-k-preserved c = turn_on (of tok_bytes c.args.self) _ c.loop-k.invariant c.put_service.ensures

pub returns : goal.returns
returns c = turn_all (of tok_bytes c.args.self) _ c.loop-k.invariant _ (omega arith)
