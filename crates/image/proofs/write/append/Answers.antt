-- `image::write::append` meets its contract.
use Prim.Native.Nat.{ℕ, ◌+◌}
use native.Mathlib.Omega.{arith}
use mathlib.Core.Path.{ap, ◌∙◌}
use mathlib.Core.List.{List}
use lib.ListN.{length, replicate}
use Rattle.rows.specs.Area.{appended}
use Rattle.image.proofs.Writes.{row_put}
use Rattle.image.proofs.write.append.Goals as goal

pub returns : goal.returns
returns c =
    let a = c.args in
    c.append_row.ensures
    ∙ ap (λ (z : List ℕ). appended (17 + length a.tail.now) z a.area.now)
    (row_put a.aid.now a.tail.now (replicate 20 0) c.requires.short.0 (omega arith) c.put_slot.ensures c.copy_from_slice.ensures.after)
