-- `readout::package::Package::put_service` meets its contract. Assumes nothing.
use mathlib.Core.Path.{ap}
use Rattle.policy.specs.Tables.{write_tok}
use Rattle.image.specs.Image.{lay, tables}
use Rattle.readout.specs.Parts.{of, tok_bytes}
use Rattle.readout.proofs.Writers.{short_as, put_as, bit_on, bit_off}
use Rattle.readout.proofs.package.Package.put_service.Goals as goal

pub put_tokens-requires : goal.put_tokens-requires
put_tokens-requires c =
    let a = c.args in
    let i = a.self.img in
    short_as a.pen.now _ (of tok_bytes a.self a.k) (bit_on (lay i).services ((tables i).provides a.self.n) _ _ _ c.provided_row.ensures c.requires.inside c.has_bit.ensures c.if-has_bit.true _ _ (ap write_tok c.tokens_at.ensures)) c.requires.short

pub returns-then-has_bit : goal.returns-then-has_bit
returns-then-has_bit c =
    let a = c.args in
    let i = a.self.img in
    put_as _ _ (bit_on (lay i).services ((tables i).provides a.self.n) _ _ _ c.provided_row.ensures c.requires.inside c.has_bit.ensures c.if-has_bit.true _ _ (ap write_tok c.tokens_at.ensures)) c.put_tokens.ensures

pub returns-else-has_bit : goal.returns-else-has_bit
returns-else-has_bit c =
    let a = c.args in
    let i = a.self.img in
    bit_off (lay i).services ((tables i).provides a.self.n) _ _ _ c.provided_row.ensures c.requires.inside c.has_bit.ensures c.if-has_bit.false _ _
