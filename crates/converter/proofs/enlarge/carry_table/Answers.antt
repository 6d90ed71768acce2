-- `converter::enlarge::carry_table` meets its contract. Assumes nothing.
use native.Mathlib.Omega.{arith}
use mathlib.Core.Path.{refl}
use borrow.Author.Rules.{rules}
use Rattle.converter.proofs.Enlarging.{table_in, eighth, wider, wider_puts, table_made}
use Rattle.converter.proofs.enlarge.carry_table.Goals as goal

pub returns : goal.returns
returns c =
    let a = c.args in
    table_made a.img.now c.requires.0 a.out.now c.requires.1 _ _ _ a.t c.table_at-from.ensures c.table_at-to.ensures (c.carry_lines.ensures wider (wider_puts _ _ (eighth c.table_at-from.result 64 8 a.img.now (omega (arith, table_in a.t)) refl) (λ x p q k. search rules)))
