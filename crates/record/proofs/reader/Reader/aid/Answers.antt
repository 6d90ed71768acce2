-- `record::reader::Reader::aid` meets its contract: what was read ends where the rest begins.
use Rattle.record.proofs.Fronts.{rest}
use Rattle.record.proofs.Tails.{ends_aid, end_low, end_here}
use Rattle.record.proofs.reader.Reader.aid.Goals as goal

pub overflow_sub-self : goal.overflow_sub-self
overflow_sub-self c =
    let s = c.args.self.now in
    end_low ends_aid s.src.now s.inside (rw (rest s.at s.src.now) at c.in_ok-aid.ensures)

pub returns-clause-reads : goal.returns-clause-reads
returns-clause-reads c =
    let s = c.args.self.now in
    let e = rw (rest s.at s.src.now) at c.in_ok-aid.ensures in
    rw (end_here ends_aid s.src.now s.inside e) e
