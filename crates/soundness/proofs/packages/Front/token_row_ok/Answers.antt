-- `packages::Front::token_row_ok` meets its contract.
use mathlib.Core.Path.{ap}
use mathlib.Core.Bool.{not}
use Rattle.geometry.specs.Geometry.{layout_of}
use Rattle.soundness.proofs.Tests.{places, used_in, number_in}
use Rattle.soundness.proofs.packages.Front.token_row_ok.Goals as goal

pub unserved-requires : goal.unserved-requires
unserved-requires c =
    let s = c.args.self.now in (
      search places,
      used_in (layout_of s.c) s.img.now _ c.is_used.ensures (ap not c.if-not-is_used.false),
      number_in s.c s.img.now c.args.at c.number_of.ensures,
    )
