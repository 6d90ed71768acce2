-- `converter::enlarge::carry_front` meets its contract. Assumes nothing.
use Rattle.converter.proofs.Enlarging.{front_made}
use Rattle.converter.proofs.enlarge.carry_front.Goals as goal

pub returns : goal.returns
returns c =
    let a = c.args in
    front_made a.img.now c.requires.0 a.out.now c.requires.1 _ _ _ _ _ c.prov_at-from.ensures c.prov_at-to.ensures c.carry_names.ensures c.carry_tokens.ensures c.widen_fill.ensures
