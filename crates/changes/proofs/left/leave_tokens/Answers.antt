-- `changes::left::leave_tokens` meets its contract: nothing is left where the row has no bit.
use mathlib.Core.Path.{ap}
use mathlib.Core.Bool.{not}
use borrow.Author.Rules.{rules}
use native.Mathlib.Omega.{arith}
use Rattle.geometry.proofs.Bounds.{limits}
use Rattle.changes.specs.Left.{token_in}
use Rattle.changes.proofs.LeftRows.{named_none}
use Rattle.changes.proofs.left.leave_tokens.Goals as goal

pub has_bit-requires : goal.has_bit-requires
has_bit-requires c = omega (arith, (limits c.args.c).services_low, c.requires.inside.1)

pub returns-else-has_bit : goal.returns-else-has_bit
returns-else-has_bit c =
    let a = c.args in
    named_none a.c a.l a.img.now c.requires.laid (token_in a.tokens.now) a.aid.now a.i a.row a.k _ (search rules) (ap not c.if-has_bit.false)
