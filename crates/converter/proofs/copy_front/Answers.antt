-- `converter::copy_front` meets its contract. Assumes nothing.
use mathlib.Core.Path.{◌∙◌}
use Rattle.converter.proofs.Written.{front_made}
use Rattle.converter.proofs.copy_front.Goals as goal

pub returns : goal.returns
returns c =
    let a = c.args in
    front_made a.old.now c.requires.sound a.out.now c.requires.sized _ c.place_at-end.ensures _ _ (c.copy_from_slice.ensures.after ∙ c.header.ensures) c.put.ensures
