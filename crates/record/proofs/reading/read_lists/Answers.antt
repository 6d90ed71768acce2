-- `record::reading::read_lists` meets its contract: where bytes are left over there is nothing.
use Rattle.record.proofs.Parsed.{not_all}
use Rattle.record.proofs.reading.read_lists.Goals as goal

pub returns-then-r : goal.returns-then-r
returns-then-r c k = not_all _ _ c.lists.new.r.inside c.if-r.true (c.in_ok-read.ensures k)
