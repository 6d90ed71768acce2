-- `image::write::put_aid` meets its contract.
use Rattle.image.proofs.Writes.{writes}
use Rattle.image.proofs.write.put_aid.Goals as goal

pub put_slot-requires : goal.put_slot-requires
put_slot-requires c = search writes

pub returns : goal.returns
returns c = search writes
