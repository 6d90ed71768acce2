-- `packages::Front::lines_ok` meets its contract.
use Rattle.soundness.specs.Check.{lines_ok, line_ok}
use Rattle.soundness.proofs.packages.Front.lines_ok.Goals as goal

pub returns-in-Small : goal.returns-in-Small
unfolding lines_ok line_ok
returns-in-Small c = rw c.in-Small.is c.fit.ensures

pub returns-in-Large : goal.returns-in-Large
unfolding lines_ok line_ok
returns-in-Large c = rw c.in-Large.is c.fit-in-Large.ensures
