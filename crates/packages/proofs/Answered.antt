-- Kinds 1 and 11: the answer, by what was decided and written. Assumes nothing.
use Prim.Native.Nat.{ℕ, ◌<◌}
use mathlib.Core.Path.{◌≡◌, refl, sym, subst}
use mathlib.Core.List.{List}
use Rattle.std.specs.Prelude.{Result, Ok, Err}
use Rattle.policy.specs.Contract.{Contract}
use Rattle.policy.specs.Layout.{Layout}
use Rattle.policy.specs.Record.{Change}
use Rattle.policy.specs.Tables.{decode, encode}
use Rattle.policy.specs.Judge.{Out}
use Rattle.policy.specs.Settled.{settled}
use Rattle.answers.specs.Numbers.{Answers}
use Rattle.answers.specs.declared.Refusal.{Refusal}
use Rattle.image.specs.Wrote.{Wrote}
use Rattle.record.specs.Meaning.{whole_of}
use Rattle.record.specs.declared.ContractKind.{ContractKind}
use Rattle.record.specs.declared.ContractKind.TheVariants.{Load, Replace}
use Rattle.changes.specs.Asked.{Asked}
use Rattle.changes.proofs.Verdicts.{accepted_answers}
use Rattle.packages.specs.Decides.{AcceptedAs, drafted_as, Decides}
use Rattle.packages.specs.declared.decide.Bring.{Bring}
use Rattle.packages.proofs.Loaded.Written.{number_in_lem as load_in}
use Rattle.packages.proofs.Replaced.Written.{number_in_lem as replace_in}

abbrev change_as : ContractKind → Contract → Change
change_as w k = whole_of w k.provides k.calls k.grants k.needs

module _ (w : ContractKind) (L : Layout) (img : List ℕ) (k : Contract) where
  pub answers_refused : {r : Result Bring Refusal} {e : Refusal} → Decides L img k (change_as w k) (AcceptedAs w L img k) r → r ≡ Err e → Answers (settled L img k.aid (change_as w k)) (Err e) img
  answers_refused {e = e} says p = go (subst (Decides L img k (change_as w k) (AcceptedAs w L img k)) p says)
    where
      go : Decides L img k (change_as w k) (AcceptedAs w L img k) (Err e) → Answers (settled L img k.aid (change_as w k)) (Err e) img
      go h = subst (λ (o : Out). Answers o (Err e) img) (sym h) (record { answered = refl; second_is = refl; bytes_are = refl })

  module _ {r : Result Bring Refusal} {b : Bring} (says : Decides L img k (change_as w k) (AcceptedAs w L img k) r) (p : r ≡ Ok b) where
    pub accepted_as : AcceptedAs w L img k b
    accepted_as = subst (Decides L img k (change_as w k) (AcceptedAs w L img k)) p says

    pub number_in_as : Asked L img k.aid (change_as w k) → b.at < L.packages
    number_in_as ask = go w ask accepted_as
      where
        go : (w : ContractKind) → Asked L img k.aid (change_as w k) → AcceptedAs w L img k b → b.at < L.packages
        go Load ask h = load_in L img k ask b h
        go Replace ask h = replace_in L img k ask b h

    pub answers_accepted : {after : List ℕ} → Wrote L after (drafted_as w L (decode L img) b.at k).tables → Answers (settled L img k.aid (change_as w k)) (Ok b.at) after
    answers_accepted {after} v = subst (λ (o : Out). Answers o (Ok b.at) after) (sym (go w accepted_as)) (accepted_answers L v b.at)
      where
        go : (w : ContractKind) → AcceptedAs w L img k b
            → settled L img k.aid (change_as w k) ≡ record { answered = 0; second = b.at; bytes = encode L (drafted_as w L (decode L img) b.at k).tables }
        go Load h = h.outcome
        go Replace h = h.outcome
