-- `readout::read_out` meets its contract. Assumes nothing.
use mathlib.Core.Path.{ap}
use mathlib.Core.Bool.{not}
use Rattle.image.proofs.LaidImage.{laid_on}
use Rattle.readout.proofs.Records.{gives_unsound, sound_is_laid, gives_absent, gives_no_room, gives_record}
use Rattle.readout.proofs.read_out.Goals as goal

pub returns-then-not-is_sound : goal.returns-then-not-is_sound
returns-then-not-is_sound c = let a = c.args in gives_unsound a.c a.img.now a.n _ _ c.is_sound.ensures (ap not c.if-not-is_sound.true)

pub invariant_of-img : goal.invariant_of-img
invariant_of-img c = let a = c.args in record { laid = laid_on a.c (sound_is_laid a.c a.img.now a.n a.out.now _ c.is_sound.ensures (ap not c.if-not-is_sound.false)) }

pub returns-then-not-is_used : goal.returns-then-not-is_used
returns-then-not-is_used c = let a = c.args in gives_absent a.c a.img.now a.n _ _ c.is_sound.ensures _ c.is_used.ensures (ap not c.if-not-is_sound.false) (ap not c.if-not-is_used.true)

pub returns-then-out-len : goal.returns-then-out-len
returns-then-out-len c = let a = c.args in gives_no_room a.c a.img.now a.n _ _ c.is_sound.ensures _ c.is_used.ensures (ap not c.if-not-is_sound.false) (ap not c.if-not-is_used.false) _ c.measure-len.ensures.0 c.if-out-len.true

pub returns : goal.returns
returns c =
    let a = c.args in
    gives_record a.c a.img.now a.n _ _ c.is_sound.ensures _ c.is_used.ensures (ap not c.if-not-is_sound.false) (ap not c.if-not-is_used.false) _ c.measure-len.ensures.0 c.if-out-len.false _ c.write_record.ensures
