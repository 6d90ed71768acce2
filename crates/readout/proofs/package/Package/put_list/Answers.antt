-- `readout::package::Package::put_list` meets its contract. Assumes nothing.
use native.Mathlib.Omega.{arith}
use Rattle.readout.specs.Parts.{of, item_bytes}
use Rattle.readout.proofs.Writers.{turn_short, turn_on, turn_all}
use Rattle.readout.proofs.package.Package.put_list.Goals as goal

pub put_item-requires-clause-short : goal.put_item-requires-clause-short
put_item-requires-clause-short c = turn_short (of item_bytes c.args.self c.args.l) _ c.loop-r.invariant _ (omega arith) c.requires

pub loop-r-preserved : goal.loop-r-preserved
loop-r-preserved c = turn_on (of item_bytes c.args.self c.args.l) _ c.loop-r.invariant c.put_item.ensures

pub returns : goal.returns
returns c = turn_all (of item_bytes c.args.self c.args.l) _ c.loop-r.invariant _ (omega arith)
