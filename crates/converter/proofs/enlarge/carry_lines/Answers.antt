-- `converter::enlarge::carry_lines` meets its contract. Assumes nothing.
use mathlib.Core.Path.{refl}
use Rattle.converter.proofs.Enlarging.{lines_none, lines_on, lines_made}
use Rattle.converter.proofs.enlarge.carry_lines.Goals as goal

pub loop-i-init : goal.loop-i-init
loop-i-init g c = λ f h. lines_none _ f c.args.lines.now c.args.place.now h c.requires.sized.1

pub loop-i-preserved : goal.loop-i-preserved
loop-i-preserved g c = λ f h. lines_on _ f c.args.lines.now c.args.place.now h c.requires.sized.1 _ _ (c.loop-i.invariant f h) c.loop-i-test.true _ _ _ refl refl c.put.ensures

pub returns : goal.returns
returns g c = λ f h. lines_made _ f c.args.lines.now c.args.place.now h c.requires.sized.1 _ _ _ (c.loop-i.invariant f h) c.loop-i-test.false (c.fill.ensures.after (λ y e. e))
