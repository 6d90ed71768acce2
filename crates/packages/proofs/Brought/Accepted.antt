-- Kinds 1 and 11: the writes of a contract on the tables that it finds, one after another. Assumes nothing.
use Prim.Native.Nat.{ℕ, zero, suc}
use native.Mathlib.Omega.{arith}
use mathlib.Core.Path.{◌≡◌, refl, sym, ap, ◌∙◌, subst}
use mathlib.Core.List.{List, []}
use lib.Dec.{T}
use Rattle.policy.specs.Contract.{Contract, valid_aid}
use Rattle.policy.specs.Layout.{Layout}
use Rattle.policy.specs.Record.{Change}
use Rattle.policy.specs.Causes.{answer}
use Rattle.policy.specs.Tables.{Tables, decode}
use Rattle.policy.specs.Sound.{sound}
use Rattle.policy.specs.Draft.{Draft, Look, Services, new_services, draft}
use Rattle.policy.specs.ShortCheck.{short_look}
use Rattle.policy.specs.Judge.{Out, table_causes, look_causes}
use Rattle.policy.specs.Settled.{settled}
use Rattle.policy.proofs.Formed.{Fitting}
use Rattle.policy.proofs.SoundFacts.{sound_formed, sound_lawful, sound_fitting}
use Rattle.policy.proofs.BroughtNames.{Coming, brought_at}
use Rattle.policy.proofs.AllKinds.{kinds}
use Rattle.policy.proofs.Step.{accepted}
use Rattle.policy.proofs.Settled.{settled_short, accepted_formed}
use Rattle.changes.specs.Asked.{Asked}
use Rattle.changes.specs.Joins.{taken_in, TakesIn}
use Rattle.changes.specs.Own.{OwnFits, own_rows}
use Rattle.changes.proofs.SoundRows.{callers_in, given_in}
use Rattle.packages.specs.Decides.{Comes}
use Rattle.packages.specs.Writes.{placed, taken, brought_in, BringsIn}
use Rattle.packages.specs.declared.decide.Bring.{Bring}
use Rattle.packages.proofs.Brought.Readied.{readied, readied_with}
use Rattle.packages.proofs.Brought.Services.{services_placed}
use Rattle.packages.proofs.Brought.Joined.{joined, takes_in, taken_joined}
use Rattle.packages.proofs.Brought.OwnRows.{own_done, own_is, own_fits}

-- the contract k comes to number n with the services now, as b found it; no need is lost, and the lists fit
pub record Accepted (L : Layout) (img : List ℕ) (k : Contract) (b : Bring) : Type 0 where
  pub is_sound : T (sound L img)
  pub valid : T (valid_aid k.aid)
  pub found : Comes L (decode L img) k b.at b
  pub coming : Coming L (decode L img) b.at k (new_services L (decode L img) b.at k)
  pub fits : Fitting L (brought_at L (decode L img) b.at k (new_services L (decode L img) b.at k)).tables
  pub none_lost : (brought_at L (decode L img) b.at k (new_services L (decode L img) b.at k)).lost ≡ []

-- a record brings its contract where it is accepted, and its draft is that of a contract that comes
module _ (L : Layout) (img : List ℕ) (k : Contract) (b : Bring) (c : Change) (ask : Asked L img k.aid c)
    (none_early : answer (table_causes L (decode L img) k.aid c) ≡ 0) (taken : (settled L img k.aid c).answered ≡ 0) where
  abbrev t' : Tables
  t' = decode L img

  none_late : answer (look_causes (short_look L t' k.aid c)) ≡ 0
  none_late = go (answer (look_causes (short_look L t' k.aid c))) refl
    where
      go : (x : ℕ) → answer (look_causes (short_look L t' k.aid c)) ≡ x → answer (look_causes (short_look L t' k.aid c)) ≡ 0
      go zero e = e
      go (suc x) e =
          let q : suc x ≡ 0 = ap (λ (o : Out). o.answered) (sym (settled_short L img k.aid c ask.is_sound ask.within ask.is_proper none_early x e)) ∙ taken in
          absurd (omega (arith, q))

  pub accepts : Comes L (decode L img) k b.at b → Coming L (decode L img) b.at k (new_services L (decode L img) b.at k)
      → draft L (decode L img) k.aid c ≡ brought_at L (decode L img) b.at k (new_services L (decode L img) b.at k) → Accepted L img k b
  accepts found coming drafted =
      let done = accepted_formed L img k.aid c ask.is_sound ask.first_valid ask.within ask.is_proper none_early none_late in
      let looks = (kinds c).1 L t' k.aid (sound_formed L img ask.is_sound) (sound_lawful L img ask.is_sound) (sound_fitting L img ask.is_sound) ask.within ask.is_proper none_early in
      record {
        is_sound = ask.is_sound;
        valid = ask.first_valid;
        found = found;
        coming = coming;
        fits = subst (λ (d : Draft). Fitting L d.tables) drafted done.2;
        none_lost = subst (λ (d : Draft). d.lost ≡ []) drafted (accepted L (draft L t' k.aid c) done.0 (ap (λ (l : Look). answer (look_causes l)) looks ∙ none_late)).2;
      }

module _ (L : Layout) (img : List ℕ) (k : Contract) (b : Bring) (ok : Accepted L img k b) where
  abbrev t : Tables
  t = decode L img

  abbrev n : ℕ
  n = b.at

  abbrev now : Services
  now = new_services L t n k

  module _ (v : Tables) (e : v ≡ readied L (decode L img) b.at k) where
    placed_is : placed L n k.provides v ≡ readied_with L t n k now
    placed_is = ap (placed L n k.provides) e ∙ services_placed L t n k ok.coming.formed ok.coming.lists.sets.provides

    taken_is : taken L k b v ≡ joined L t n k now
    taken_is = ap (taken_in L n b.met b.due b.calls b.grants) placed_is ∙ taken_joined L t n k now ok.coming ok.valid b ok.found

    pub brings_in : BringsIn L k b v
    brings_in = record {
      package_in = ok.coming.number_lt;
      takes_in = subst (TakesIn L n b.met b.due) (sym placed_is)
          (takes_in L t n k now ok.coming ok.valid b ok.found (callers_in L img ok.is_sound) (given_in L img ok.is_sound));
      own_fits = subst (OwnFits L n k.calls k.grants k.needs) (sym taken_is) (own_fits L t n k now ok.coming ok.valid ok.fits ok.none_lost);
    }

    pub brought_own : brought_in L k b v ≡ own_done L (decode L img) b.at k (new_services L (decode L img) b.at k)
    brought_own = ap (own_rows L n k.calls k.grants k.needs) taken_is ∙ own_is L t n k now ok.coming ok.valid
