-- `packages::decide::bits_on` meets its contract.
use native.Mathlib.Omega.{arith}
use Rattle.image.specs.Image.{lay, tables}
use Rattle.packages.proofs.Checks.{column_off}
use Rattle.packages.proofs.decide.bits_on.Goals as goal

pub returns-then-d-eq0 : goal.returns-then-d-eq0
returns-then-d-eq0 c = let a = c.args in (column_off (lay a.img) a.tb (tables a.img) a.n a.d c.if-d-eq0.true, omega arith)
