-- `converter::enlarge::carry` meets its contract. Assumes nothing.
use Rattle.policy.specs.Layout.{small}
use Rattle.policy.proofs.SoundFacts.{sound_sized}
use Rattle.converter.proofs.Enlarging.{all_made}
use Rattle.converter.proofs.enlarge.carry.Goals as goal

pub returns : goal.returns
returns c =
    let img = c.args.img.now in
    all_made img (sound_sized small img c.requires.sound) c.args.out.now c.requires.sized _ _ _ c.requires.sound
    c.carry_front.ensures c.carry_tables.ensures c.carry_list.ensures _ c.carry_list-2.ensures
