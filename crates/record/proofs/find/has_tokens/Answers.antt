-- `record::find::has_tokens` meets its contract.
use Rattle.std.proofs.Common.{rules}
use Rattle.record.proofs.Found.{any_is}
use Rattle.record.proofs.find.has_tokens.Goals as goal

pub returns : goal.returns
returns c = any_is _ c.any.new.self c.any.ensures.ran (λ x b q k. search rules)
