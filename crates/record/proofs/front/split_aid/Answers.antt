-- `record::front::split_aid` meets its contract.
use native.Mathlib.Omega.{arith}
use Rattle.record.proofs.Split.{aid_front, aid_long, aid_split}
use Rattle.record.proofs.front.split_aid.Goals as goal

pub bounds-part-0 : goal.bounds-part-0
bounds-part-0 c = (aid_front c.args.part.now c.requires).some

pub slice_bounds-bytes-end : goal.slice_bounds-bytes-end
slice_bounds-bytes-end c = omega (arith, (aid_front c.args.part.now c.requires).long)

pub slice_bounds-result-count : goal.slice_bounds-result-count
slice_bounds-result-count c = omega (arith, (aid_front c.args.part.now c.requires).long)

pub slice_bounds-result-start : goal.slice_bounds-result-start
slice_bounds-result-start c = omega (arith, (aid_front c.args.part.now c.requires).long)

pub invariant_of-result : goal.invariant_of-result
invariant_of-result c = record { valid = aid_long c.args.part.now c.requires }

pub returns : goal.returns
returns c = aid_split c.args.part.now c.requires
