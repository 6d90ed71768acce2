-- `image::write::set_entry` meets its contract.
use Rattle.image.proofs.Writes.{writes}
use Rattle.image.proofs.write.set_entry.Goals as goal

pub put_row-requires-clause-inside : goal.put_row-requires-clause-inside
put_row-requires-clause-inside c = search writes

pub returns : goal.returns
returns c = search writes
