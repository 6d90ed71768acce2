-- `packages::decide::dropped_services` meets its contract.
use native.Mathlib.Omega.{arith}
use mathlib.Core.Path.{sym, ap, ◌∙◌}
use mathlib.Core.Bool.{Bool, not, ◌&&◌}
use Rattle.policy.specs.Contract.{has_tok}
use Rattle.policy.proofs.Sets.{T_false}
use Rattle.geometry.proofs.Bounds.{limits}
use Rattle.bits.proofs.Row.{row_bit}
use Rattle.bits.proofs.Gathered.{gathers_start, gathers_on, gathers_off, gathers_end}
use Rattle.image.specs.Image.{lay, tables}
use Rattle.record.specs.Listed.{toks_of}
use Rattle.packages.proofs.decide.dropped_services.Goals as goal
use Rattle.packages.proofs.decide.dropped_services.Goals.{then-is_dropped, else-is_dropped}

pub loop-k-init : goal.loop-k-init
loop-k-init c = gathers_start _

pub loop-k-preserved : goal.loop-k-preserved
loop-k-preserved c =
    let a = c.args in
    let t = tables a.img in
    let k = c.loop-k.k in
    let same = ap (λ (b : Bool). b && not (has_tok (t.tok a.n k) (toks_of a.provides)))
    (row_bit (lay a.img).services (t.provides a.n) c.provided_row-row.result c.provided_row-row.ensures k (omega arith)) in
    let is = sym same ∙ sym c.is_dropped.ensures in
    let low = (limits a.img.card).services_low in
    elim c.if-is_dropped.branch [
      | then-is_dropped w ↦ gathers_on c.loop-k.invariant (omega arith) low _ (w.mask-is ∙ w.with_bit-mask.ensures) (is ∙ w.if-is_dropped.true)
      | else-is_dropped w ↦ rw w.mask-is (gathers_off c.loop-k.invariant (omega arith) low (is ∙ w.if-is_dropped.false))
    ]

pub returns : goal.returns
returns c =
    let a = c.args in
    let t = tables a.img in
    gathers_end c.loop-k.invariant (omega arith) (λ z h.
    ap (λ (b : Bool). b && not (has_tok (t.tok a.n z) (toks_of a.provides))) (T_false (t.provides a.n z) (λ q. let w = (a.img.laid.room.provides_in a.n z q).1 in absurd (omega arith))))
