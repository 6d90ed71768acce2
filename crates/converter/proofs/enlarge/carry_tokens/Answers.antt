-- `converter::enlarge::carry_tokens` meets its contract. Assumes nothing.
use native.Mathlib.Omega.{arith}
use mathlib.Core.Path.{refl}
use borrow.Author.Rules.{rules}
use Rattle.converter.proofs.Enlarging.{eighth, copied, copied_puts, tokens_made}
use Rattle.converter.proofs.enlarge.carry_tokens.Goals as goal

pub returns : goal.returns
returns c =
    let a = c.args in
    tokens_made a.img.now c.requires.0 a.out.now c.requires.1 _ _ _ c.tok_at-from.ensures c.tok_at-to.ensures (c.carry_lines.ensures copied (copied_puts _ _ (eighth c.tok_at-from.result 128 16 a.img.now (omega arith) refl) (λ x p q k. search rules)))
