-- `packages::conditions::named_granted` meets its contract.
use Rattle.image.specs.Image.{lay}
use Rattle.changes.proofs.SoundRows.{caller_in}
use Rattle.packages.proofs.conditions.named_granted.Goals as goal

pub granted_to-requires : goal.granted_to-requires
granted_to-requires c = let a = c.args in rw c.number.ensures (caller_in (lay a.img) a.img.bytes.now a.r c.requires.sound c.requires.inside)
