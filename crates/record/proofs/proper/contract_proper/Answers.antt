-- `record::proper::contract_proper` meets its contract: the answers so far decide.
use mathlib.Core.Path.{◌≡◌, refl, ◌∙◌}
use Rattle.std.specs.Prelude.{◌&&◌}
use Rattle.policy.specs.Lists.{distinct}
use Rattle.policy.specs.Contract.{eq_tok}
use Rattle.record.specs.Listed.{toks_of, rows_of}
use Rattle.record.proofs.Others.{rows, and_yes, and_no, contract_form}
use Rattle.record.proofs.proper.contract_proper.Goals.{then-tokens_once, else-tokens_once, then-rows_proper, else-rows_proper, then-rows_proper-2, else-rows_proper-2}
use Rattle.record.proofs.proper.contract_proper.Goals as goal

pub returns-then-rows_proper-3 : goal.returns-then-rows_proper-3
returns-then-rows_proper-3 c k w =
    let l = c.args.l in
    let R = rows c.args.own.now in
    let P = distinct eq_tok (toks_of l.provides) in
    let v1 : c.if-tokens_once.value ≡ (P && R (rows_of l.calls)) = elim c.if-tokens_once.branch [
      | then-tokens_once w ↦ and_yes c.tokens_once.ensures w.if-tokens_once.true (w.value-is ∙ w.rows_proper.ensures)
      | else-tokens_once w ↦ and_no c.tokens_once.ensures _ w.if-tokens_once.false w.value-is
    ] in
    let v2 : c.if-rows_proper.value ≡ ((P && R (rows_of l.calls)) && R (rows_of l.grants)) = elim c.if-rows_proper.branch [
      | then-rows_proper w ↦ and_yes v1 w.if-rows_proper.true (w.value-is ∙ w.rows_proper-then-rows_proper.ensures)
      | else-rows_proper w ↦ and_no v1 _ w.if-rows_proper.false w.value-is
    ] in
    let v3 : c.if-rows_proper-2.value ≡ (((P && R (rows_of l.calls)) && R (rows_of l.grants)) && R (rows_of l.needs)) = elim c.if-rows_proper-2.branch [
      | then-rows_proper-2 w ↦ and_yes v2 w.if-rows_proper-2.true (w.value-is ∙ w.rows_proper-then-rows_proper-2.ensures)
      | else-rows_proper-2 w ↦ and_no v2 _ w.if-rows_proper-2.false w.value-is
    ] in
    let all = contract_form c.args.own.now (toks_of l.provides) (rows_of l.calls) (rows_of l.grants) (rows_of l.needs) k w in
    and_yes v3 c.if-rows_proper-3.true c.all_called.ensures ∙ all

pub returns-else-rows_proper-3 : goal.returns-else-rows_proper-3
returns-else-rows_proper-3 c k w =
    let l = c.args.l in
    let R = rows c.args.own.now in
    let P = distinct eq_tok (toks_of l.provides) in
    let v1 : c.if-tokens_once.value ≡ (P && R (rows_of l.calls)) = elim c.if-tokens_once.branch [
      | then-tokens_once w ↦ and_yes c.tokens_once.ensures w.if-tokens_once.true (w.value-is ∙ w.rows_proper.ensures)
      | else-tokens_once w ↦ and_no c.tokens_once.ensures _ w.if-tokens_once.false w.value-is
    ] in
    let v2 : c.if-rows_proper.value ≡ ((P && R (rows_of l.calls)) && R (rows_of l.grants)) = elim c.if-rows_proper.branch [
      | then-rows_proper w ↦ and_yes v1 w.if-rows_proper.true (w.value-is ∙ w.rows_proper-then-rows_proper.ensures)
      | else-rows_proper w ↦ and_no v1 _ w.if-rows_proper.false w.value-is
    ] in
    let v3 : c.if-rows_proper-2.value ≡ (((P && R (rows_of l.calls)) && R (rows_of l.grants)) && R (rows_of l.needs)) = elim c.if-rows_proper-2.branch [
      | then-rows_proper-2 w ↦ and_yes v2 w.if-rows_proper-2.true (w.value-is ∙ w.rows_proper-then-rows_proper-2.ensures)
      | else-rows_proper-2 w ↦ and_no v2 _ w.if-rows_proper-2.false w.value-is
    ] in
    let all = contract_form c.args.own.now (toks_of l.provides) (rows_of l.calls) (rows_of l.grants) (rows_of l.needs) k w in
    and_no v3 _ c.if-rows_proper-3.false refl ∙ all
