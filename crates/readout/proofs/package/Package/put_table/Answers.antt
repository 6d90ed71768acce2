-- `readout::package::Package::put_table` meets its contract. Assumes nothing.
use native.Mathlib.Omega.{arith}
use Rattle.readout.specs.Parts.{of, column_bytes}
use Rattle.readout.proofs.Writers.{turn_short, turn_on, turn_all}
use Rattle.readout.proofs.package.Package.put_table.Goals as goal

pub put_column-requires-clause-short : goal.put_column-requires-clause-short
put_column-requires-clause-short c = turn_short (of column_bytes c.args.self c.args.tb) _ c.loop-j.invariant _ (omega arith) c.requires

pub loop-j-preserved : goal.loop-j-preserved
loop-j-preserved c = turn_on (of column_bytes c.args.self c.args.tb) _ c.loop-j.invariant c.put_column.ensures

pub returns : goal.returns
returns c = turn_all (of column_bytes c.args.self c.args.tb) _ c.loop-j.invariant _ (omega arith)
