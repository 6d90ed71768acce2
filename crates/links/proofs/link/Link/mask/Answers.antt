-- `links::plan::Link::mask` meets its contract.
use Rattle.image.specs.Image.{tables}
use Rattle.links.specs.Plans.{row}
use Rattle.links.proofs.Found.{row_marked}
use Rattle.links.proofs.link.Link.mask.Goals as goal

pub returns : goal.returns
returns c = let s = c.args.self in row_marked c.args.l (tables s.img) s.owner (row s) _ _ c.with_row-alike.ensures c.with_number-own.ensures
