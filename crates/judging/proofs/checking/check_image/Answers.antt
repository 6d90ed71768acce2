-- `judging::checking::check_image` meets its contract.
use native.Mathlib.Omega.{arith}
use Rattle.judging.proofs.Checked.{sound_size, count_low, passes, fails}
use Rattle.judging.proofs.checking.check_image.Goals as goal

pub returns-then-not-is_sound : goal.returns-then-not-is_sound
returns-then-not-is_sound c = fails c.args.c c.args.img.now _ c.is_sound.ensures c.if-not-is_sound.true

pub count_used-requires : goal.count_used-requires
count_used-requires c = sound_size c.args.c c.args.img.now _ c.is_sound.ensures c.if-not-is_sound.false

pub overflow_cast-result : goal.overflow_cast-result
overflow_cast-result c = omega (arith, count_low c.args.c c.args.img.now _ c.count_used.ensures)

pub returns : goal.returns
returns c = passes c.args.c c.args.img.now _ _ c.is_sound.ensures c.if-not-is_sound.false c.count_used.ensures
