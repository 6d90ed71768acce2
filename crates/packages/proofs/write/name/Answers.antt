-- `packages::write::name` meets its contract.
use Rattle.packages.proofs.Placed.{used_fits, named_wrote}
use Rattle.packages.proofs.write.name.Goals as goal

pub set_used-requires-clause-fits : goal.set_used-requires-clause-fits
set_used-requires-clause-fits c = let a = c.args in used_fits a.c c.requires.laid a.n c.requires.inside _ _ c.used_row-row.ensures c.with_bit.ensures

pub returns : goal.returns
returns c = let a = c.args in named_wrote a.c c.requires.laid a.n c.requires.inside _ _ c.used_row-row.ensures c.with_bit.ensures a.aid.now c.set_used.ensures c.put_aid.ensures
