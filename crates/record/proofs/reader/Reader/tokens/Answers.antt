-- `record::reader::Reader::tokens` meets its contract: what was read ends where the rest begins.
use Rattle.geometry.specs.Geometry.{layout_of}
use Rattle.record.proofs.Fronts.{rest}
use Rattle.record.proofs.Tails.{ends_tokens, end_low, end_here}
use Rattle.record.proofs.reader.Reader.tokens.Goals as goal

pub overflow_sub-self : goal.overflow_sub-self
overflow_sub-self c =
    let L = layout_of c.args.c in
    let s = c.args.self.now in
    end_low (ends_tokens L) s.src.now s.inside (rw (rest s.at s.src.now) at c.in_ok-tokens.ensures.reads)

pub returns-clause-reads : goal.returns-clause-reads
returns-clause-reads c =
    let L = layout_of c.args.c in
    let s = c.args.self.now in
    let e = rw (rest s.at s.src.now) at c.in_ok-tokens.ensures.reads in
    record { reads = rw (end_here (ends_tokens L) s.src.now s.inside e) e; in_range = c.in_ok-tokens.ensures.in_range }
