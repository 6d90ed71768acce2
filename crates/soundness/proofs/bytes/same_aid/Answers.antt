-- `bytes::same_aid` meets its contract.
use Rattle.soundness.proofs.Words.{aid_same}
use Rattle.soundness.proofs.bytes.same_aid.Goals as goal

pub returns : goal.returns
returns c =
    let a = c.args in
    aid_same a.img.now (λ k. (c.type_inv.img k).fits) a.a a.b c.word.ensures c.word-2.ensures c.word-3.ensures c.word-4.ensures c.requires.0 c.requires.1
