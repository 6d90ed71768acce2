-- `readout::package::Package::put_column` meets its contract. Assumes nothing.
use native.Mathlib.Omega.{arith}
use Rattle.readout.specs.Parts.{of, bit_bytes}
use Rattle.readout.proofs.Writers.{turn_short, turn_on, turn_all}
use Rattle.readout.proofs.package.Package.put_column.Goals as goal

pub put_bit-requires-clause-short : goal.put_bit-requires-clause-short
put_bit-requires-clause-short c = turn_short (of bit_bytes c.args.self c.args.tb c.args.j) _ c.loop-k.invariant _ (omega arith) c.requires.short

pub loop-k-preserved : goal.loop-k-preserved
loop-k-preserved c = turn_on (of bit_bytes c.args.self c.args.tb c.args.j) _ c.loop-k.invariant c.put_bit.ensures

pub returns : goal.returns
returns c = turn_all (of bit_bytes c.args.self c.args.tb c.args.j) _ c.loop-k.invariant _ (omega arith)
