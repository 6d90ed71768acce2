-- `changes::left::leave_one` meets its contract.
use native.Mathlib.Omega.{arith}
use Rattle.geometry.proofs.Bounds.{limits}
use Rattle.changes.proofs.left.leave_one.Goals as goal

pub has_bit-requires : goal.has_bit-requires
has_bit-requires c = omega (arith, (limits c.args.c).services_low, c.requires.inside.2)
