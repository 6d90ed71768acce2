-- `rows::append_row` meets its contract.
use Rattle.rows.proofs.Area.{append_is}
use Rattle.rows.proofs.append_row.Goals as goal

pub returns : goal.returns
returns c = rw c.put.ensures (append_is c.args.width c.args.area.now c.requires.area c.args.row.now c.requires.wide c.requires.room)
