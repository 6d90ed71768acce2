-- `packages::write::place_all` meets its contract: those to come decide.
use Rattle.policy.specs.Tables.{decode}
use Rattle.geometry.specs.Geometry.{layout_of}
use Rattle.record.specs.Listed.{toks_of}
use Rattle.changes.proofs.ListLoops.{Turning}
use Rattle.packages.proofs.Placed.{placing}
use Rattle.packages.proofs.write.place_all.Given as goal

abbrev pub invariant-loop-t : goal.invariant-loop-t
invariant-loop-t l = let L = layout_of l.c in Turning L (placing L l.n l.kept) (decode L l.fn.img) (toks_of l.fn.provides) l.img (toks_of l.t-iterator)
