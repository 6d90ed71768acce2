-- `record::front::split_tokens` meets its contract.
use native.Mathlib.Omega.{arith}
use Rattle.record.proofs.Fronts.{rest, tokens_good}
use Rattle.record.proofs.Split.{tokens_front}
use Rattle.record.proofs.front.split_tokens.Goals as goal

pub bounds-part-0 : goal.bounds-part-0
bounds-part-0 c = omega (arith, (tokens_front c.args.part.now c.requires).long)

pub bounds-part-1 : goal.bounds-part-1
bounds-part-1 c = omega (arith, (tokens_front c.args.part.now c.requires).long)

pub slice_bounds-result-count : goal.slice_bounds-result-count
slice_bounds-result-count c = (tokens_front c.args.part.now c.requires).long

pub slice_bounds-result-start : goal.slice_bounds-result-start
slice_bounds-result-start c = (tokens_front c.args.part.now c.requires).long

pub returns : goal.returns
returns c = rw (rest 2 c.args.part.now) (tokens_good c.args.part.now (tokens_front c.args.part.now c.requires))
