-- `readout::pen::Pen::put_row` meets its contract. Assumes nothing.
use Rattle.readout.proofs.Writers.{after}
use Rattle.readout.proofs.pen.Pen.put_row.Goals as goal

pub returns : goal.returns
returns c = after c.put.ensures c.put_tokens.ensures
