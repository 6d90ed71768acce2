-- `count_used` meets its contract.
use Rattle.geometry.proofs.Bounds.{geo}
use Rattle.soundness.proofs.Agree.{used_count}
use Rattle.soundness.proofs.count_used.Goals as goal

pub row_at-requires : goal.row_at-requires
row_at-requires c = search geo

pub count-requires : goal.count-requires
count-requires c = search geo

pub returns : goal.returns
returns c = let a = c.args in used_count a.c a.img.now (λ k. (c.type_inv.img k).fits) c.requires c.row_at.ensures c.count.ensures
