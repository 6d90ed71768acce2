-- `converter::enlarge::carry_tables` meets its contract. Assumes nothing.
use Rattle.converter.proofs.Enlarging.{tables_made}
use Rattle.converter.proofs.enlarge.carry_tables.Goals as goal

pub returns : goal.returns
returns c = let a = c.args in tables_made a.img.now c.requires.0 a.out.now c.requires.1 _ _ _ c.carry_table.ensures c.carry_table-2.ensures c.carry_table-3.ensures
