-- `converter::enlarge::carry_names` meets its contract. Assumes nothing.
use mathlib.Core.Path.{◌∙◌}
use Rattle.converter.proofs.Enlarging.{names_made}
use Rattle.converter.proofs.enlarge.carry_names.Goals as goal

pub returns : goal.returns
returns c =
    let a = c.args in
    names_made a.img.now c.requires.0 a.out.now c.requires.1 _ _ _ _ _ (c.copy_from_slice.ensures.after ∙ c.header.ensures) c.widen_fill.ensures c.aid_at-from.ensures c.aid_at-to.ensures c.copy_fill.ensures
