-- `record::proper::rows_proper` meets its contract: the rows before are sifted.
use Rattle.record.specs.Listed.{rows_of}
use Rattle.record.proofs.Sifting.{Sifting}
use Rattle.record.proofs.proper.rows_proper.Given as goal

abbrev pub invariant-loop-k : goal.invariant-loop-k
invariant-loop-k l = Sifting l.own (rows_of l.of) (rows_of l.k-iterator.iter) l.k-iterator.count l.seen
