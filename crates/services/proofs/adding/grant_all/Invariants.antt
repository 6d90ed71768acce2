-- `services::adding::grant_all` meets its contract. Assumes nothing.
use Rattle.policy.specs.Tables.{decode}
use Rattle.geometry.specs.Geometry.{layout_of, tok_of}
use Rattle.record.specs.Listed.{aids_of}
use Rattle.changes.proofs.ListLoops.{Turning}
use Rattle.services.proofs.Added.Grants.{grants}
use Rattle.services.proofs.adding.grant_all.Given as goal

abbrev pub invariant-loop-a : goal.invariant-loop-a
invariant-loop-a l =
    Turning (layout_of l.c) (grants (layout_of l.c) l.still l.s.provider l.s.number (tok_of l.s.tokens)) (decode (layout_of l.c) l.fn.img) (aids_of l.fn.callers) l.img (aids_of l.a-iterator)
