-- `packages::decide::dropped_services` meets its contract: the services so far that go.
use Rattle.std.specs.Prelude.{not, ◌&&◌}
use Rattle.policy.specs.Contract.{has_tok}
use Rattle.image.specs.Image.{lay, tables}
use Rattle.record.specs.Listed.{toks_of}
use Rattle.bits.proofs.Gathered.{Gathers}
use Rattle.packages.proofs.decide.dropped_services.Given as goal

abbrev pub invariant-loop-k : goal.invariant-loop-k
invariant-loop-k l = Gathers (λ z. (tables l.img).provides l.n z && not (has_tok ((tables l.img).tok l.n z) (toks_of l.provides))) (lay l.img).services l.k l.mask
