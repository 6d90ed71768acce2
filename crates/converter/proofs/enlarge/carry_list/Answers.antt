-- `converter::enlarge::carry_list` meets its contract. Assumes nothing.
use Rattle.converter.proofs.Enlarging.{list_made}
use Rattle.converter.proofs.enlarge.carry_list.Goals as goal

pub returns : goal.returns
returns c = let a = c.args in list_made a.img.now c.requires.0 a.out.now c.requires.1 a.l _ _ _ c.list_at-from.ensures c.list_at-to.ensures c.copy_fill.ensures
