-- `packages::write::note_calls` meets its contract: those so far are noted, over zeros.
use Rattle.image.specs.Image.{lay, tables}
use Rattle.packages.proofs.Dropped.{Noted}
use Rattle.packages.proofs.write.note_calls.Given as goal

abbrev pub invariant-loop-i : goal.invariant-loop-i
invariant-loop-i l = Noted (tables l.img) l.n l.dropped (lay l.img).packages l.i l.rows
