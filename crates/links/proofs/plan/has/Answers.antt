-- `links::plan::has` meets its contract.
use borrow.Author.Rules.{rules}
use Rattle.bits.proofs.Row.{bit_seen}
use Rattle.image.specs.Image.{lay, tables}
use Rattle.image.specs.Laid.{table_of}
use Rattle.links.proofs.plan.has.Goals as goal

pub returns : goal.returns
returns c =
    let a = c.args in
    bit_seen (lay a.img).services (table_of a.tb (tables a.img) a.i a.j) c.entry.result a.k _ (search rules) c.entry.ensures c.requires.2
