-- `packages::Front::number_of` meets its contract.
use native.Mathlib.Omega.{arith}
use mathlib.Core.Path.{refl, sym, ap, ◌∙◌}
use Rattle.policy.specs.Lists.{upto}
use Rattle.bits.proofs.Loops.{first_found, first_missed, first_more}
use Rattle.geometry.specs.Geometry.{layout_of}
use Rattle.soundness.specs.Check.{number_at, is_aid}
use Rattle.soundness.proofs.Lookup.{rust_of, find_first}
use Rattle.soundness.proofs.packages.Front.number_of.Goals as goal

pub loop-n-init : goal.loop-n-init
loop-n-init c = refl

pub returns-then-same_aid : goal.returns-then-same_aid
unfolding number_at
returns-then-same_aid c =
    let s = c.args.self.now in let m = (layout_of s.c).packages in let f = is_aid (layout_of s.c) s.img.now c.args.at in
    let e = rw c.aid_at.ensures at c.same_aid.ensures in
    sym (find_first f (upto m) ∙ ap rust_of (first_found f m c.loop-n.n c.loop-n.invariant e c.if-same_aid.true (omega arith)))

pub loop-n-preserved : goal.loop-n-preserved
loop-n-preserved c =
    let s = c.args.self.now in let e = rw c.aid_at.ensures at c.same_aid.ensures in
    first_more (is_aid (layout_of s.c) s.img.now c.args.at) c.loop-n.n c.loop-n.invariant e c.if-same_aid.false

pub returns : goal.returns
unfolding number_at
returns c =
    let s = c.args.self.now in let m = (layout_of s.c).packages in let f = is_aid (layout_of s.c) s.img.now c.args.at in
    sym (find_first f (upto m) ∙ ap rust_of (first_missed f m c.loop-n.n c.loop-n.invariant (omega arith) (omega arith)))
