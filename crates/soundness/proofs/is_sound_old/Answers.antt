-- `is_sound_old` meets its contract.
use Rattle.soundness.proofs.Agree.{old_sound_of}
use Rattle.soundness.proofs.is_sound_old.Goals as goal

pub returns : goal.returns
returns c = let a = c.args in old_sound_of a.img.now (λ k. (c.type_inv.img k).fits) c.old_size.ensures c.old_header.ensures c.check_ok.ensures
