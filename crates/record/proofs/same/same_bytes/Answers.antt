-- `record::same::same_bytes` meets its contract.
use mathlib.Core.Path.{sym}
use native.Mathlib.Omega.{arith}
use Rattle.record.proofs.Alike.{unequal_lengths, all_alike}
use Rattle.record.proofs.same.same_bytes.Goals as goal

pub returns-then-a-b : goal.returns-then-a-b
returns-then-a-b c = let a = c.args in sym (unequal_lengths a.a.now a.b.now c.if-a-b.true)

pub same_at-requires : goal.same_at-requires
same_at-requires c = omega (arith, c.if-a-b.false)

pub returns : goal.returns
returns c = let a = c.args in all_alike a.a.now a.b.now c.if-a-b.false c.same_at.ensures
