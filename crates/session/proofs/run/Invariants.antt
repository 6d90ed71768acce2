-- `session::run` meets its contract: turn by turn, until one calls for nothing more. Assumes nothing.
use mathlib.Core.Path.{◌≡◌}
use lib.ListN.{length}
use Rattle.session.proofs.Running.{Runs, left_over_lem}
use Rattle.session.proofs.run.Given as goal

abbrev pub invariant-loop-p : goal.invariant-loop-p
invariant-loop-p l = (length l.image ≡ length l.initial.image) × (length l.buf ≡ length l.initial.buf) × Runs l.p l.image l.buf

abbrev pub decreases-loop-p : goal.decreases-loop-p
decreases-loop-p l = left_over_lem l.p
