-- `readout::package::aid` meets its contract. Assumes nothing.
use native.Mathlib.Omega.{arith}
use mathlib.Core.Path.{ap, ◌∙◌}
use Rattle.policy.specs.Judge.{aid_bytes}
use Rattle.geometry.proofs.Bounds.{aid_in_lem}
use Rattle.image.proofs.LaidImage.{is_laid}
use Rattle.image.proofs.Seen.{laid_size, aid_seen, aid_short}
use Rattle.readout.proofs.package.aid.Goals as goal

pub aid_at-requires-2 : goal.aid_at-requires-2
aid_at-requires-2 c =
    let i = c.args.img in
    (omega (arith, laid_size i.card i.bytes.now (is_laid i), aid_in_lem i.card c.args.n c.requires), aid_short i.card i.bytes.now (is_laid i) c.args.n _ c.requires c.aid_at.ensures)

pub returns : goal.returns
returns c = let i = c.args.img in c.aid_at-2.ensures ∙ ap aid_bytes (aid_seen i.card i.bytes.now (is_laid i) c.args.n _ c.requires c.aid_at.ensures)
