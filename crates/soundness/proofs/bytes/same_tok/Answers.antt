-- `bytes::same_tok` meets its contract.
use Rattle.soundness.proofs.Words.{same_number}
use Rattle.soundness.proofs.bytes.same_tok.Goals as goal

pub returns : goal.returns
returns c = let a = c.args in same_number a.img.now (λ k. (c.type_inv.img k).fits) a.a a.b 2 c.requires.0 c.requires.1 c.pair.ensures c.pair-2.ensures
