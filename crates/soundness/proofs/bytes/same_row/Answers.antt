-- `bytes::same_row` meets its contract.
use Rattle.soundness.proofs.Words.{row_same}
use Rattle.soundness.proofs.bytes.same_row.Goals as goal

pub returns : goal.returns
returns c =
    let a = c.args in
    row_same a.img.now (λ k. (c.type_inv.img k).fits) a.a a.b c.word.ensures c.word-2.ensures c.word-3.ensures c.word-4.ensures
    a.n c.requires.0 c.requires.1 c.requires.2 c.requires.3 c.quad.ensures c.quad-2.ensures
