-- `lines::write_byte` meets its contract. Assumes nothing.
use native.Mathlib.Omega.{arith}
use Rattle.lines.proofs.Columns.{byte_digits}
use Rattle.lines.proofs.write_byte.Goals as goal

pub write_number-requires : goal.write_number-requires
write_number-requires c = omega (arith, byte_digits c.args.n c.ranges.n.fits, c.requires)

pub returns-clause-short : goal.returns-clause-short
returns-clause-short c = omega (arith, byte_digits c.args.n c.ranges.n.fits, c.write_number.ensures.ends)
