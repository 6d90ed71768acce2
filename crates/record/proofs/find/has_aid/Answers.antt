-- `record::find::has_aid` meets its contract.
use Rattle.std.proofs.Common.{rules}
use Rattle.record.proofs.Found.{any_is}
use Rattle.record.proofs.find.has_aid.Goals as goal

pub returns : goal.returns
returns c = any_is _ c.any.new.self c.any.ensures.ran (λ x b q k. search rules)
