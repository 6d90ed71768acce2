-- `record::aid_part` meets its contract: the AID that was read.
use Rattle.record.proofs.Parsed.{first_none, first_some}
use Rattle.record.proofs.aid_part.Goals as goal

pub returns-in-Some : goal.returns-in-Some
returns-in-Some c = first_some _ _ c.in-Some.ensures

pub returns-in-None : goal.returns-in-None
returns-in-None c = first_none _ _ c.in-None.ensures
