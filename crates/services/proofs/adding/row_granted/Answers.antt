-- `services::adding::row_granted` meets its contract. Assumes nothing.
use Rattle.image.specs.Image.{lay}
use Rattle.changes.proofs.SoundRows.{caller_used}
use Rattle.services.proofs.adding.row_granted.Goals as goal

pub is_among-requires : goal.is_among-requires
is_among-requires c = caller_used (lay c.args.img) c.args.img.bytes.now c.requires.is_sound c.args.r _ c.requires.inside c.number-n.ensures

pub is_due_to-requires : goal.is_due_to-requires
is_due_to-requires c = (caller_used (lay c.args.img) c.args.img.bytes.now c.requires.is_sound c.args.r _ c.requires.inside c.number-n.ensures).0
