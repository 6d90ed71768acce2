-- `packages::removal::free_number` meets its contract.
use Rattle.packages.proofs.Removed.Cleared.{number_fits, number_freed}
use Rattle.packages.proofs.removal.free_number.Goals as goal

pub set_used-requires-clause-fits : goal.set_used-requires-clause-fits
set_used-requires-clause-fits c = number_fits c.args.c c.requires.laid c.args.n c.requires.inside _ _ c.used_row-row.ensures c.without_bit.ensures

pub returns : goal.returns
returns c = number_freed c.args.c c.requires.laid c.args.n c.requires.inside _ _ c.used_row-row.ensures c.without_bit.ensures c.set_used.ensures
