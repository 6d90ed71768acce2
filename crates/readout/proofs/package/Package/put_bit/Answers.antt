-- `readout::package::Package::put_bit` meets its contract. Assumes nothing.
use Prim.Native.Nat.{ℕ}
use mathlib.Core.Path.{◌≡◌, ap, ◌∙◌}
use mathlib.Core.List.{◌++◌}
use Rattle.policy.specs.Tables.{write_tok}
use Rattle.policy.specs.Judge.{row_bytes}
use Rattle.geometry.specs.Geometry.{tok_of}
use Rattle.image.specs.Image.{lay, tables}
use Rattle.image.specs.Laid.{table_of}
use Rattle.readout.specs.Parts.{of, bit_row, bit_bytes}
use Rattle.readout.proofs.Writers.{short_as, put_as, bit_on, bit_off}
use Rattle.readout.proofs.package.Package.put_bit.Goals as goal

pub put_row-requires : goal.put_row-requires
put_row-requires c =
    let a = c.args in
    let i = a.self.img in
    let t = tables i in
    let row : c.aid.result.now ++ write_tok (tok_of c.tokens_at-tokens.result) ≡ row_bytes (bit_row (lay i) t a.self.n a.tb a.j a.k) =
    λ x. c.aid.ensures x ++ write_tok ((c.tokens_at-tokens.ensures ∙ ap (λ (s : ℕ). t.tok s a.k) c.serving.ensures) x) in
    short_as a.pen.now _ (of bit_bytes a.self a.tb a.j a.k) (bit_on (lay i).services (table_of a.tb t a.self.n a.j) _ _ _ c.requires.known c.requires.inside.1 c.has_bit.ensures c.if-has_bit.true _ _ row) c.requires.short

pub returns-then-has_bit : goal.returns-then-has_bit
returns-then-has_bit c =
    let a = c.args in
    let i = a.self.img in
    let t = tables i in
    let row : c.aid.result.now ++ write_tok (tok_of c.tokens_at-tokens.result) ≡ row_bytes (bit_row (lay i) t a.self.n a.tb a.j a.k) =
    λ x. c.aid.ensures x ++ write_tok ((c.tokens_at-tokens.ensures ∙ ap (λ (s : ℕ). t.tok s a.k) c.serving.ensures) x) in
    put_as _ _ (bit_on (lay i).services (table_of a.tb t a.self.n a.j) _ _ _ c.requires.known c.requires.inside.1 c.has_bit.ensures c.if-has_bit.true _ _ row) c.put_row.ensures

pub returns-else-has_bit : goal.returns-else-has_bit
returns-else-has_bit c =
    let a = c.args in
    let i = a.self.img in
    bit_off (lay i).services (table_of a.tb (tables i) a.self.n a.j) _ _ _ c.requires.known c.requires.inside.1 c.has_bit.ensures c.if-has_bit.false _ _
