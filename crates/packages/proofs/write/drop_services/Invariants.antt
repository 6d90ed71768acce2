-- `packages::write::drop_services` meets its contract: those so far have gone.
use Rattle.policy.specs.Tables.{decode}
use Rattle.geometry.specs.Geometry.{layout_of}
use Rattle.packages.proofs.Dropped.{GoingOff}
use Rattle.packages.proofs.write.drop_services.Given as goal

abbrev pub invariant-loop-k : goal.invariant-loop-k
invariant-loop-k l = let L = layout_of l.c in GoingOff L l.n l.dropped (decode L l.initial.img) L.services l.k l.img
