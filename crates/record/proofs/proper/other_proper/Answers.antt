-- `record::proper::other_proper` meets its contract, alike for each of the four kinds.
use Rattle.record.proofs.Others.{row_proper}
use Rattle.record.proofs.proper.other_proper.Goals as goal

pub returns : goal.returns
returns c = row_proper _ _ c.same_bytes.ensures
