-- `packages::Front::toks_ok` meets its contract.
use Rattle.soundness.specs.Check.{toks_ok, tok_ok}
use Rattle.soundness.proofs.packages.Front.toks_ok.Goals as goal

pub returns-in-Small : goal.returns-in-Small
unfolding toks_ok tok_ok
returns-in-Small c = let t = c.in-Small.is in let e = rw c.prov_row-prov.ensures at c.fit.ensures in let f = rw t at e in rw t f

pub returns-in-Large : goal.returns-in-Large
unfolding toks_ok tok_ok
returns-in-Large c = let t = c.in-Large.is in let e = rw c.prov_row-prov.ensures at c.fit-in-Large.ensures in let f = rw t at e in rw t f
