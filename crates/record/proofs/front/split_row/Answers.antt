-- `record::front::split_row` meets its contract.
use Rattle.record.proofs.Split.{row_aid, row_tokens, row_read}
use Rattle.record.proofs.front.split_row.Goals as goal

pub split_aid-requires : goal.split_aid-requires
split_aid-requires c = row_aid c.args.part.now c.requires

pub split_tokens-requires : goal.split_tokens-requires
split_tokens-requires c = row_tokens c.args.part.now c.split_aid.ensures c.requires

pub returns : goal.returns
returns c = row_read c.args.part.now c.split_aid.ensures c.split_tokens.ensures
