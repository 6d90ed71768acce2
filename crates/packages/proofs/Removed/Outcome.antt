-- Kind 2: the outcome by what is found and by the short check, and the answer. Assumes nothing.
use Prim.Native.Nat.{ℕ}
use mathlib.Core.Path.{◌≡◌, sym, ap, ◌∙◌}
use mathlib.Core.Bool.{not}
use mathlib.Core.List.{List, [], ◌∷◌}
use mathlib.Core.Option.{Option, none, some}
use lib.Dec.{eqb, leb, leb→le}
use Rattle.std.specs.Prelude.{Result, Ok, Err}
use Rattle.policy.specs.Lists.{is_some, or_else}
use Rattle.policy.specs.Contract.{Aid}
use Rattle.policy.specs.Layout.{Layout}
use Rattle.policy.specs.Causes.{answer, ◌when◌}
use Rattle.policy.specs.Record.{remove}
use Rattle.policy.specs.Tables.{Tables, decode}
use Rattle.policy.specs.Lookup.{numbers, places, number_of}
use Rattle.policy.specs.Draft.{kept, draft, remove_at}
use Rattle.policy.specs.ShortCheck.{ones, short_remove, fine, short_look}
use Rattle.policy.specs.Judge.{look_causes, table_causes}
use Rattle.policy.specs.Settled.{settled}
use Rattle.policy.proofs.Short.{none_pairs}
use Rattle.answers.specs.Numbers.{answered, Answers}
use Rattle.answers.specs.declared.Refusal.{Refusal}
use Rattle.answers.specs.declared.Refusal.TheVariants.{NotInstalled}
use Rattle.geometry.specs.declared.Table.TheVariants.{Calls, Grants}
use Rattle.geometry.specs.declared.Kept.TheVariants.{UnmetCalls, WaitingGrants}
use Rattle.image.specs.Wrote.{Wrote}
use Rattle.image.proofs.Clears.{wrote_then}
use Rattle.changes.specs.Asked.{Asked}
use Rattle.changes.proofs.AppendedRows.{wrote_as}
use Rattle.changes.proofs.RemovalCauses.{found, both_fit}
use Rattle.changes.proofs.Verdicts.{answers_early, answers_late, answers_done, aid_at_lem, number_for_lem}
use Rattle.packages.specs.Removal.{rows_without, RoomWithout, lists_without, tables_without}
use Rattle.packages.proofs.Removed.Tables.{removed_is}

-- ---- the short check: r is the number that `first_cause` gave
module _ (L : Layout) (t : Tables) (r most x u w : ℕ) (found_is : r ≡ found (eqb x 0) (leb u most) (leb w most)) (cap : most ≡ L.capacity) where
  pub remove_cause : (n : ℕ) → x ≡ ones L t (λ i k. t.needs i n k) → u ≡ rows_without L UnmetCalls t Calls n → w ≡ rows_without L WaitingGrants t Grants n
      → r ≡ answer (look_causes (short_remove L t n))
  remove_cause n p q s = found_is ∙ (λ i. found ((ap (λ (z : ℕ). eqb z 0) p ∙ none_pairs (λ i k. t.needs i n k) (places L) (numbers L)) i) (leb (q i) (cap i)) (leb (s i) (cap i)))

-- ---- kind 2
module _ (L : Layout) (img : List ℕ) (a : Aid) where
  abbrev on : Tables
  on = decode L img

  pub remove_absent : number_of L (decode L img) a ≡ none → Answers (settled L img a remove) (Err NotInstalled) img
  remove_absent e = answers_early L img a remove NotInstalled (ap (λ (o : Option ℕ). answer (5 when not (is_some o) ∷ [])) e)

  -- package n, and r whether it may go
  module _ (ask : Asked L img a remove) {n : ℕ} (e : number_of L (decode L img) a ≡ some n) (r : Result Unit Refusal)
      (h : answered r ≡ answer (look_causes (short_remove L (decode L img) n))) where
    remove_early : answer (table_causes L on a remove) ≡ 0
    remove_early = ap (λ (o : Option ℕ). answer (5 when not (is_some o) ∷ [])) e

    remove_short : short_look L on a remove ≡ short_remove L on n
    unfolding short_look
    remove_short = ap (λ (o : Option ℕ). or_else o fine (short_remove L on)) e

    remove_draft : draft L on a remove ≡ remove_at L on n
    unfolding draft
    remove_draft = ap (λ (o : Option ℕ). or_else o (kept on) (remove_at L on)) e

    pub remove_refused : {x : Refusal} → r ≡ Err x → Answers (settled L img a remove) (Err x) img
    remove_refused = answers_late L img a remove ask n (short_remove L on n) (remove_at L on n) remove_early remove_short remove_draft (number_for_lem L on a n e) h

    module _ {x : Unit} (p : r ≡ Ok x) where
      -- an accepted removal has room
      pub removed_room : RoomWithout L (decode L img) n
      removed_room =
          let k = short_remove L on n in
          let f = both_fit k.needed k.unmet_fits k.waiting_fits (sym (ap answered p) ∙ h) in
          (leb→le (rows_without L UnmetCalls on Calls n) L.capacity f.0, leb→le (rows_without L WaitingGrants on Grants n) L.capacity f.1)

      -- the lists written, then the places
      pub remove_done : {img1 img2 : List ℕ} → Wrote L img1 (lists_without L (decode L img) a n) → Wrote L img2 (tables_without n (decode L img1)) → Answers (settled L img a remove) (Ok n) img2
      remove_done w1 w2 =
          answers_done L img a remove ask n (short_remove L on n) (remove_at L on n) remove_early remove_short remove_draft (number_for_lem L on a n e) h p
          (wrote_as L (removed_is L on n a (aid_at_lem L img a ask n e)) (wrote_then L (tables_without n) w1 w2))
