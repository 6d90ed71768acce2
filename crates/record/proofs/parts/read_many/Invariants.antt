-- `record::parts::read_many` meets its contract: what follows the things to come follows all of them.
use Rattle.std.specs.Prelude.{◌≡◌, ◌-◌, ℕ, List, Option}
use Rattle.record.specs.Reading.{rest_of, times}
use Rattle.record.proofs.parts.read_many.Given as goal

abbrev pub invariant-loop : goal.invariant-loop
invariant-loop g l =
    (t : List ℕ → Option (List ℕ)) → ((s r : _) → goal.F-post g l.item s r → rest_of r ≡ t s.now)
    → times t (l.count - l.counter) l.rest ≡ times t l.count l.part
