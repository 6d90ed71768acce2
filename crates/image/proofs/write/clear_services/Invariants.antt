-- `image::write::clear_services` meets its contract. Assumes nothing.
use Rattle.policy.specs.Tables.{decode}
use Rattle.geometry.specs.Geometry.{layout_of}
use Rattle.image.specs.Wrote.{Wrote}
use Rattle.image.proofs.Clears.{without_toks}
use Rattle.image.proofs.write.clear_services.Given as goal

abbrev pub invariant-loop-k : goal.invariant-loop-k
invariant-loop-k l = Wrote (layout_of l.c) l.img (without_toks l.n l.k (decode (layout_of l.c) l.initial.img))
