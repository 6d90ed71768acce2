-- `bits::lowest_clear` meets its contract. Assumes nothing.
use native.Mathlib.Omega.{arith}
use Prim.Native.Nat.{◌-◌}
use lib.Count.{trailing_le}
use Rattle.bits.proofs.Row.{lowest_clear}
use Rattle.bits.proofs.lowest_clear.Goals as goal

pub overflow_cast-result : goal.overflow_cast-result
overflow_cast-result c = omega (arith, trailing_le 16 (65535 - c.args.row))

pub returns : goal.returns
returns c = lowest_clear 16 c.args.row c.ranges.row.fits
