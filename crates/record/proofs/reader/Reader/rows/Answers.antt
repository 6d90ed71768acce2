-- `record::reader::Reader::rows` meets its contract: what was read ends where the rest begins.
use Rattle.geometry.specs.Geometry.{layout_of}
use Rattle.record.proofs.Fronts.{rest}
use Rattle.record.proofs.Tails.{ends_rows, end_low, end_here}
use Rattle.record.proofs.reader.Reader.rows.Goals as goal

pub overflow_sub-self : goal.overflow_sub-self
overflow_sub-self c =
    let L = layout_of c.args.c in
    let s = c.args.self.now in
    end_low (ends_rows L) s.src.now s.inside (rw (rest s.at s.src.now) at c.in_ok-rows.ensures)

pub returns-clause-reads : goal.returns-clause-reads
returns-clause-reads c =
    let L = layout_of c.args.c in
    let s = c.args.self.now in
    let e = rw (rest s.at s.src.now) at c.in_ok-rows.ensures in
    rw (end_here (ends_rows L) s.src.now s.inside e) e
