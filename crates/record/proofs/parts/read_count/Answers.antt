-- `record::parts::read_count` meets its contract.
use Rattle.record.proofs.Fronts.{rest}
use Rattle.record.proofs.Readers.{count_none, count_over, count_some}
use Rattle.record.proofs.parts.read_count.Goals as goal

pub returns-then-part-w : goal.returns-then-part-w
returns-then-part-w c = count_none _ _ _ c.if-part-w.true

pub returns-then-most-count : goal.returns-then-most-count
returns-then-most-count c = count_over _ _ _ c.if-part-w.false c.number_at-count.ensures c.if-most-count.true

pub returns : goal.returns
returns c = rw (rest c.args.w c.args.part.now) (count_some _ _ _ c.if-part-w.false c.number_at-count.ensures c.if-most-count.false)
