-- `image::read::find_aid` meets its contract.
use native.Mathlib.Omega.{arith}
use mathlib.Core.Path.{refl}
use Rattle.std.proofs.Common.{rules, tests}
use Rattle.std.proofs.lemmas.Iterator.{YieldsList-from_range}
use Rattle.std.proofs.lemmas.Iterator.Search.{find_from_yields_List}
use Rattle.image.specs.Read.{aid_held}
use Rattle.image.proofs.Finds.{finds}
use Rattle.image.proofs.read.find_aid.Goals as goal

pub returns : goal.returns
returns c =
    let a = c.args in
    let held = aid_held a.img.now a.at a.row a.aid.now in
    finds held a.n c.find.result
    (find_from_yields_List held _ _ c.find.result c.find.ensures.ran (YieldsList-from_range 0 a.n a.n refl (omega arith)) (λ x b q k. search (rules, tests)))
