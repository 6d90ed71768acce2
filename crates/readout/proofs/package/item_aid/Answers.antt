-- `readout::package::item_aid` meets its contract. Assumes nothing.
use mathlib.Core.Path.{ap, ◌∙◌}
use Rattle.policy.specs.Judge.{aid_bytes}
use Rattle.image.proofs.LaidImage.{is_laid}
use Rattle.image.proofs.Listed.{row_lt, row_aid, aid_short, aid_seen}
use Rattle.readout.proofs.package.item_aid.Goals as goal

pub place_at-requires : goal.place_at-requires
place_at-requires c = let i = c.args.img in row_lt i.card i.bytes.now (is_laid i) c.args.l _ c.requires

pub aid_at-requires : goal.aid_at-requires
aid_at-requires c =
    let i = c.args.img in
    let q = c.place_at.ensures in
    (row_aid i.card i.bytes.now (is_laid i) c.args.l _ c.requires _ q, aid_short i.card i.bytes.now (is_laid i) c.args.l _ c.requires _ q)

pub returns : goal.returns
returns c = let i = c.args.img in c.aid_at.ensures ∙ ap aid_bytes (aid_seen i.card i.bytes.now (is_laid i) c.args.l _ c.requires _ c.place_at.ensures)
