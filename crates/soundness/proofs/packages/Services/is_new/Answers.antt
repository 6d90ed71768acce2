-- `packages::Services::is_new` meets its contract.
use Prim.Native.Nat.{ℕ}
use borrow.Author.Rules.{rules}
use mathlib.Core.Bool.{not}
use Rattle.soundness.specs.Check.{has_tok}
use Rattle.bits.proofs.Chains.{all_below}
use Rattle.soundness.proofs.packages.Services.is_new.Goals as goal

pub returns : goal.returns
returns c =
    let s = c.args.self.now in
    all_below c.args.n (λ (k : ℕ). not (has_tok s.img.now s.toks s.line s.prov c.args.at k)) _ c.all.ensures.ran (λ x b q k. search rules)
