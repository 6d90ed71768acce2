-- `judging::empty::write_empty` meets its contract.
use Rattle.std.proofs.Common.{rules}
use Rattle.geometry.specs.Geometry.{layout_of}
use Rattle.judging.proofs.EmptyImage.{not_written, written}
use Rattle.judging.proofs.empty.write_empty.Goals as goal

pub returns-then-img-size : goal.returns-then-img-size
returns-then-img-size c = not_written (layout_of c.args.c) c.args.img.now _ c.if-img-size.true c.size.ensures

pub returns : goal.returns
returns c =
    written (layout_of c.args.c) c.args.img.now _ c.copy_from_slice.new.self c.fill.new.self c.if-img-size.false c.size.ensures
    (search rules) (search rules)
