-- `bits::has_bit` meets its contract. Assumes nothing.
use mathlib.Core.Path.{ap}
use Prim.Native.Nat.{ℕ, ◌/◌, ◌^◌}
use lib.Bits.{and_mask}
use lib.Dec.{eqb}
use Rattle.policy.specs.Tables.{bit}
use Rattle.bits.proofs.has_bit.Goals as goal

pub returns : goal.returns
unfolding bit
returns c = ap (λ (x : ℕ). eqb x 1) (and_mask (c.args.row / 2 ^ c.args.k) 1)
