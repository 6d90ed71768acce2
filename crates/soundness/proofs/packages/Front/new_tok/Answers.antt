-- `packages::Front::new_tok` meets its contract.
use Rattle.soundness.specs.Check.{new_tok}
use Rattle.soundness.proofs.packages.Front.new_tok.Goals as goal

pub returns-in-Small : goal.returns-in-Small
unfolding new_tok
returns-in-Small c = let t = c.in-Small.is in let e = rw c.prov_row-prov.ensures at c.is_new.ensures in let f = rw t at e in rw t f

pub returns-in-Large : goal.returns-in-Large
unfolding new_tok
returns-in-Large c = let t = c.in-Large.is in let e = rw c.prov_row-prov.ensures at c.is_new-in-Large.ensures in let f = rw t at e in rw t f
