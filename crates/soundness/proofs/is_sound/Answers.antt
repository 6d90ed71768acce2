-- `is_sound` meets its contract.
use Rattle.soundness.proofs.Agree.{sound_of}
use Rattle.soundness.proofs.is_sound.Goals as goal

pub returns : goal.returns
returns c = let a = c.args in sound_of a.c a.img.now (λ k. (c.type_inv.img k).fits) c.size.ensures c.header.ensures c.check_ok.ensures
