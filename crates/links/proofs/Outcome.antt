-- The kinds 5 to 8: their plan comes to the outcome, as an answer. Assumes nothing.
use Prim.Native.Nat.{ℕ}
use mathlib.Core.Path.{◌≡◌, refl, sym, ap, ◌∙◌, subst}
use mathlib.Core.List.{List}
use Rattle.std.specs.Prelude.{Result, Ok, Err}
use Rattle.policy.specs.Contract.{Aid, Row}
use Rattle.policy.specs.Layout.{Layout}
use Rattle.policy.specs.Tables.{Tables}
use Rattle.policy.specs.Judge.{Out}
use Rattle.policy.specs.Settled.{settled}
use Rattle.record.specs.Meaning.{change_of}
use Rattle.record.specs.declared.RowKind.{RowKind}
use Rattle.record.specs.declared.RowKind.TheVariants.{AddCall, RemoveCall, AddGrant, RemoveGrant}
use Rattle.geometry.specs.Geometry.{layout_of, tables_of}
use Rattle.geometry.specs.declared.Card.{Card}
use Rattle.geometry.proofs.Bounds.{early}
use Rattle.image.specs.Wrote.{Wrote}
use Rattle.answers.specs.Numbers.{Answers}
use Rattle.answers.specs.declared.Refusal.{Refusal}
use Rattle.changes.specs.Asked.{Asked}
use Rattle.changes.proofs.Verdicts.{accepted_answers}
use Rattle.links.specs.Plans.{edited, done, plan_of}
use Rattle.links.specs.declared.plan.Plan.{Plan}
use Rattle.links.proofs.Planned.{add_call_planned, remove_call_planned, add_grant_planned, remove_grant_planned}

module _ (c : Card) (img : List ℕ) (a : Aid) (r : Row) where
  abbrev L : Layout
  L = layout_of c

  abbrev t : Tables
  t = tables_of c img

  abbrev asked_of : RowKind → Type 0
  asked_of k = Asked L img a (change_of k r)

  planned : (k : RowKind) → asked_of k → settled L img a (change_of k r) ≡ done L img r (plan_of L t a r k)
  planned AddCall ask = add_call_planned L img a r ask
  planned RemoveCall ask = remove_call_planned L img a r ask
  planned AddGrant ask = add_grant_planned L img a r (early c) ask
  planned RemoveGrant ask = remove_grant_planned L img a r ask

  module _ (k : RowKind) (ask : Asked (layout_of c) img a (change_of k r)) {p : Result Plan Refusal} (e : p ≡ plan_of (layout_of c) (tables_of c img) a r k) where
    came : settled L img a (change_of k r) ≡ done L img r p
    came = planned k ask ∙ ap (done L img r) (sym e)

    pub plan_refused : {x : Refusal} → p ≡ Err x → Answers (settled (layout_of c) img a (change_of k r)) (Err x) img
    plan_refused {x} q = subst (λ (o : Out). Answers o (Err x) img) (sym (came ∙ ap (done L img r) q)) (record { answered = refl; second_is = refl; bytes_are = refl })

    pub plan_done : {x : Plan} → p ≡ Ok x → {img' : List ℕ} → Wrote (layout_of c) img' (edited (tables_of c img) r x.owner x.edit) → Answers (settled (layout_of c) img a (change_of k r)) (Ok x.owner) img'
    plan_done {x} q {img'} w = subst (λ (o : Out). Answers o (Ok x.owner) img') (sym (came ∙ ap (done L img r) q)) (accepted_answers L w x.owner)
