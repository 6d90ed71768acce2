-- `packages::decide::due_rows` meets its contract.
use Rattle.std.proofs.Common.{rules}
use Rattle.policy.proofs.Sets.{in_row}
use Rattle.image.specs.Image.{tables}
use Rattle.image.specs.Read.{waiting_row}
use Rattle.packages.proofs.decide.due_rows.Goals as goal

pub mask-requires : goal.mask-requires
mask-requires c = λ r h. let t = tables c.args.img in let p = c.requires (waiting_row t r) (in_row t.waiting r _ h) in search (rules, p)
