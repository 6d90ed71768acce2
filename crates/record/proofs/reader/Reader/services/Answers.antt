-- `record::reader::Reader::services` meets its contract: what was read ends where the rest begins.
use Rattle.geometry.specs.Geometry.{layout_of}
use Rattle.record.proofs.Fronts.{rest}
use Rattle.record.proofs.Tails.{ends_services, end_low, end_here}
use Rattle.record.proofs.reader.Reader.services.Goals as goal

pub overflow_sub-self : goal.overflow_sub-self
overflow_sub-self c =
    let L = layout_of c.args.c in
    let s = c.args.self.now in
    end_low (ends_services L) s.src.now s.inside (rw (rest s.at s.src.now) at c.in_ok-services.ensures)

pub returns-clause-reads : goal.returns-clause-reads
returns-clause-reads c =
    let L = layout_of c.args.c in
    let s = c.args.self.now in
    let e = rw (rest s.at s.src.now) at c.in_ok-services.ensures in
    rw (end_here (ends_services L) s.src.now s.inside e) e
