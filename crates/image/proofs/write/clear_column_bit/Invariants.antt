-- `image::write::clear_column_bit` meets its contract. Assumes nothing.
use Rattle.policy.specs.Tables.{decode}
use Rattle.geometry.specs.Geometry.{layout_of}
use Rattle.image.specs.Laid.{table_of, with_table}
use Rattle.image.specs.Wrote.{Wrote}
use Rattle.image.proofs.Clears.{cleared_by, service}
use Rattle.image.proofs.write.clear_column_bit.Given as goal

abbrev pub invariant-loop-x : goal.invariant-loop-x
invariant-loop-x l = Wrote (layout_of l.c) l.img (with_table l.tb (cleared_by (service l.tb l.j l.k) l.x (table_of l.tb (decode (layout_of l.c) l.initial.img))) (decode (layout_of l.c) l.initial.img))
