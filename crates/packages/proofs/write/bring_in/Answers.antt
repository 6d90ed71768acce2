-- `packages::write::bring_in` meets its contract.
use mathlib.Core.List.{[]}
use Rattle.geometry.specs.Geometry.{layout_of, tables_of}
use Rattle.record.specs.Listed.{contract_by}
use Rattle.packages.proofs.Placed.{placed_takes, taken_fits}
use Rattle.packages.proofs.write.bring_in.Goals as goal

pub place_all-requires-clause-inside : goal.place_all-requires-clause-inside
place_all-requires-clause-inside c = (c.requires.fit []).package_in

pub take_in-requires-clause-fit : goal.take_in-requires-clause-fit
take_in-requires-clause-fit c = let a = c.args in placed_takes (layout_of a.c) (contract_by [] a.l) a.b (tables_of a.c a.img.now) (c.requires.fit []) c.place_all.ensures

pub put_rows-requires-clause-fit : goal.put_rows-requires-clause-fit
put_rows-requires-clause-fit c = let a = c.args in taken_fits (layout_of a.c) (contract_by [] a.l) a.b (tables_of a.c a.img.now) (c.requires.fit []) c.place_all.ensures c.take_in.ensures
