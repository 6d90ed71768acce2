-- `packages::methods_ok` meets its contract.
use Prim.Native.Nat.{ℕ}
use borrow.Author.Rules.{rules}
use lib.Bits.{bit_or}
use Rattle.geometry.proofs.Bounds.{front}
use Rattle.geometry.specs.Geometry.{layout_of, tok_at}
use Rattle.rows.specs.Area.{little}
use Rattle.soundness.specs.Check.{part_at}
use Rattle.bits.proofs.Chains.{fold_below}
use Rattle.soundness.proofs.Words.{methods_of}
use Rattle.soundness.proofs.Tests.{methods_top}
use Rattle.soundness.proofs.packages.methods_ok.Goals as goal

pub returns : goal.returns
returns c =
    let a = c.args in
    let h = λ (all k : ℕ). bit_or all (little (part_at a.img.now (tok_at (layout_of a.c) a.j k) 2)) in
    let e = fold_below c.services-n.result h _ c.fold-all.ensures.ran (λ p x b q k. search rules) in
    rw c.methods.ensures (methods_of (layout_of a.c) (methods_top a.c) a.img.now (λ k. (c.type_inv.img k).fits) a.j c.services-n.result c.services-n.ensures (λ k i. search front) e)
