-- `record::proper::row_mark` meets its contract.
use mathlib.Core.Path.{refl}
use Rattle.record.specs.Marks.{row_mark}
use Rattle.record.proofs.proper.row_mark.Goals as goal

pub returns : goal.returns
unfolding row_mark
returns c = refl
