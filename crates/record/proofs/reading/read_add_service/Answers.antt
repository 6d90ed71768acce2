-- `record::reading::read_add_service` meets its contract: where bytes are left over there is nothing.
use Rattle.record.proofs.Parsed.{not_all}
use Rattle.record.proofs.reading.read_add_service.Goals as goal

pub returns-then-r : goal.returns-then-r
returns-then-r c = not_all _ _ c.new_service.new.r.inside c.if-r.true c.in_ok-read.ensures
