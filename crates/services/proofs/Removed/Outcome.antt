-- Kind 4: the outcome by what is found and by the short check. Assumes nothing.
use Prim.Native.Nat.{ℕ, ◌<◌}
use mathlib.Core.Path.{◌≡◌, ap, ◌∙◌}
use mathlib.Core.Bool.{Bool, true, false, not}
use mathlib.Core.List.{List, [], ◌∷◌}
use mathlib.Core.Option.{Option, some}
use Rattle.std.specs.Prelude.{Result, Ok, Err, Some, None, Option as Answer}
use Rattle.policy.specs.Layout.{Layout}
use Rattle.policy.specs.Lists.{is_some, or_else}
use Rattle.policy.specs.Contract.{Aid, Tok, has_tok}
use Rattle.policy.specs.Record.{remove_service}
use Rattle.policy.specs.Causes.{answer, ◌when◌}
use Rattle.policy.specs.Tables.{Tables, decode}
use Rattle.policy.specs.Lookup.{number_of, service_of, contract_at}
use Rattle.policy.specs.Draft.{kept, draft, remove_service_at, at_service}
use Rattle.policy.specs.ShortCheck.{short_remove_service, fine, short_look, short_service}
use Rattle.policy.specs.Judge.{look_causes, table_causes}
use Rattle.policy.specs.Settled.{settled}
use Rattle.policy.proofs.SoundFacts.{sound_formed}
use Rattle.policy.proofs.HasRow.{has_tok_is}
use Rattle.answers.specs.Numbers.{answered, Answers}
use Rattle.answers.specs.declared.Refusal.{Refusal}
use Rattle.answers.specs.declared.Refusal.TheVariants.{NotInstalled, Pointless}
use Rattle.image.specs.Read.{found}
use Rattle.image.specs.Wrote.{Wrote}
use Rattle.image.proofs.LaidImage.{found_none, found_some}
use Rattle.image.proofs.Clears.{wrote_then}
use Rattle.changes.specs.Asked.{Asked}
use Rattle.changes.specs.Places.{tables_without_service}
use Rattle.changes.proofs.AppendedRows.{wrote_as}
use Rattle.changes.proofs.Verdicts.{answers_early, answers_late, answers_done, number_for_lem}
use Rattle.services.specs.Removal.{lists_without_service}
use Rattle.services.proofs.Removed.Tables.{service_is}

-- ---- by what is found; g and h are what the searches answered
module _ (L : Layout) (img : List ℕ) (a : Aid) (s : Tok) (ask : Asked L img a (remove_service s)) where
  abbrev t : Tables
  t = decode L img

  abbrev six : Option ℕ → Bool
  six o = not (or_else o false (λ j. has_tok s (contract_at L t j).provides))

  module _ {g : Answer ℕ} (is : g ≡ found (number_of L (decode L img) a)) where
    pub removal_absent : g ≡ None → Answers (settled L img a (remove_service s)) (Err NotInstalled) img
    removal_absent z = answers_early L img a (remove_service s) NotInstalled (ap (λ (o : Option ℕ). answer (5 when not (is_some o) ∷ 6 when six o ∷ [])) (found_none _ g is z))

    module _ {j : ℕ} (at : g ≡ Some j) where
      e : number_of L t a ≡ some j
      e = found_some _ g is at

      causes_at : answer (table_causes L t a (remove_service s)) ≡ answer (6 when not (is_some (service_of L t j s)) ∷ [])
      causes_at =
          ap (λ (o : Option ℕ). answer (5 when not (is_some o) ∷ 6 when six o ∷ [])) e
          ∙ ap (λ (b : Bool). answer (6 when not b ∷ [])) (has_tok_is L t (sound_formed L img ask.is_sound) j s)

      module _ {h : Answer ℕ} (is' : h ≡ found (service_of L (decode L img) j s)) where
        pub removal_missing : h ≡ None → Answers (settled L img a (remove_service s)) (Err Pointless) img
        removal_missing z =
            answers_early L img a (remove_service s) Pointless (causes_at ∙ ap (λ (o : Option ℕ). answer (6 when not (is_some o) ∷ [])) (found_none _ h is' z))

        module _ {k : ℕ} (at' : h ≡ Some k) where
          q : service_of L t j s ≡ some k
          q = found_some _ h is' at'

          service_early : answer (table_causes L t a (remove_service s)) ≡ 0
          service_early = causes_at ∙ ap (λ (o : Option ℕ). answer (6 when not (is_some o) ∷ [])) q

          service_short : short_look L t a (remove_service s) ≡ short_remove_service L t j k
          unfolding short_look
          service_short =
              ap (λ (o : Option ℕ). or_else o fine (λ i. short_service L t i s (short_remove_service L t i))) e
              ∙ ap (λ (o : Option ℕ). or_else o fine (short_remove_service L t j)) q

          service_draft : draft L t a (remove_service s) ≡ remove_service_at L t j k
          unfolding draft
          service_draft =
              ap (λ (o : Option ℕ). or_else o (kept t) (λ i. at_service L t i s (remove_service_at L t i))) e
              ∙ ap (λ (o : Option ℕ). or_else o (kept t) (remove_service_at L t j)) q

          -- r is what the check gave
          module _ {A : Type 0} {r : Result A Refusal} (by : answered r ≡ answer (look_causes (short_remove_service L (decode L img) j k))) where
            pub removal_refused : {c : Refusal} → r ≡ Err c → Answers (settled L img a (remove_service s)) (Err c) img
            removal_refused = answers_late L img a (remove_service s) ask j (short_remove_service L t j k) (remove_service_at L t j k) service_early service_short service_draft (number_for_lem L t a j e) by

            -- the lists written, then the places
            pub removal_done : {x : A} → r ≡ Ok x → L.early ≡ true → k < L.services → {img1 img2 : List ℕ} → Wrote L img1 (lists_without_service L (decode L img) j k)
                → Wrote L img2 (tables_without_service j k (decode L img1)) → Answers (settled L img a (remove_service s)) (Ok j) img2
            removal_done z ey l w1 w2 =
                answers_done L img a (remove_service s) ask j (short_remove_service L t j k) (remove_service_at L t j k) service_early service_short service_draft (number_for_lem L t a j e) by z
                (wrote_as L (service_is L t ey j k l) (wrote_then L (tables_without_service j k) w1 w2))
