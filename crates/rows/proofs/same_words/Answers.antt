-- `rows::same_words` meets its contract.
use Rattle.rows.proofs.Words.{ends_same}
use Rattle.rows.proofs.same_words.Goals as goal

pub returns : goal.returns
returns c =
    let a = c.args in
    ends_same a.a.now a.at a.b.now (λ i. (c.type_inv.a i).fits) (λ i. (c.type_inv.b i).fits) 8 c.requires.0 c.requires.1 c.requires.2
    c.word.ensures c.word-2.ensures c.word-3.ensures c.word-4.ensures
