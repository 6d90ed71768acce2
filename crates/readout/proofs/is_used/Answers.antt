-- `readout::is_used` meets its contract. Assumes nothing.
use native.Mathlib.Omega.{arith}
use mathlib.Core.Path.{sym, ap, ◌∙◌}
use mathlib.Core.Bool.{Bool, ◌&&◌}
use borrow.Author.Tests.{lt-ltb}
use Rattle.image.specs.Image.{lay, tables}
use Rattle.bits.proofs.Row.{bit_seen}
use Rattle.readout.proofs.is_used.Goals as goal

pub returns-then-n-packages : goal.returns-then-n-packages
returns-then-n-packages c =
    let i = c.args.img in
    bit_seen (lay i).packages (tables i).used _ c.args.n _ c.has_bit.ensures c.used_row.ensures (omega arith)
    ∙ sym (ap (λ (x : Bool). x && (tables i).used c.args.n) (lt-ltb c.args.n (lay i).packages (omega arith)))
