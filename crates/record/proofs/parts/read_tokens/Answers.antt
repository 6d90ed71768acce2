-- `record::parts::read_tokens` meets its contract: the tests say whether tokens of the card stand there.
use mathlib.Core.Path.{sym, ap}
use native.Mathlib.Omega.{arith}
use Rattle.policy.specs.Contract.{Tok}
use Rattle.geometry.specs.Geometry.{layout_of}
use Rattle.record.proofs.Fronts.{rest, valid_good, valid_bad}
use Rattle.record.proofs.parts.read_tokens.Goals.{then-part-lt2-via-then-part-lt2, then-part-lt2-via-else-part-lt2+then-methods-part}
use Rattle.record.proofs.parts.read_tokens.Goals as goal

pub returns-then-part-lt2 : goal.returns-then-part-lt2
returns-then-part-lt2 c =
    record {
      reads = sym (valid_bad (layout_of c.args.c) _ (λ f. elim c.then-part-lt2.branch [
        | then-part-lt2-via-then-part-lt2 w ↦ omega (arith, f.long, w.if-part-lt2.true)
        | then-part-lt2-via-else-part-lt2+then-methods-part w ↦ omega (arith, f.in_range, w.methods.ensures, w.if-methods-part.true)
      ]));
      in_range = tt;
    }

pub returns : goal.returns
returns c =
    record {
      reads = rw (c.at.ensures, rest 2 c.args.part.now) (sym (valid_good (layout_of c.args.c) _ (record { long = c.if-part-lt2.false; in_range = omega (arith, c.methods.ensures, c.if-methods-part.false) })));
      in_range = omega (arith, ap (λ (k : Tok). k.mth) c.at.ensures, c.methods.ensures, c.if-methods-part.false);
    }
