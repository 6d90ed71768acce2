-- `image::read::holds` meets its contract.
use Rattle.std.proofs.Common.{rules, tests}
use Rattle.image.proofs.Seen.{aid_other, aid_long, aid_last}
use Rattle.image.proofs.read.holds.Goals as goal

pub returns-else-img-at-2 : goal.returns-else-img-at-2
returns-else-img-at-2 c = search (aid_other, aid_long, aid_last, tests, rules)
