-- Kind 11: the writes of a whole contract, one after another, leave its tables. Assumes nothing.
use Prim.Native.Nat.{ℕ, ◌≤◌, ◌<◌}
use mathlib.Core.Path.{◌≡◌, sym, ap, ◌∙◌, subst}
use mathlib.Core.List.{List}
use mathlib.Core.Option.{Option, some}
use lib.ListN.{length}
use Rattle.policy.specs.Lists.{or_else}
use Rattle.policy.specs.Contract.{Contract}
use Rattle.policy.specs.Layout.{Layout}
use Rattle.policy.specs.Causes.{answer}
use Rattle.policy.specs.Tables.{Tables, decode}
use Rattle.policy.specs.Draft.{Draft, Services, kept, replace_at, new_services, draft}
use Rattle.policy.specs.Judge.{Out, table_causes}
use Rattle.policy.proofs.Pieces.{valid_short}
use Rattle.policy.proofs.Formed.{Formed}
use Rattle.policy.proofs.Found.{NumberIs, number_is}
use Rattle.policy.proofs.SoundFacts.{sound_formed}
use Rattle.policy.proofs.BroughtNames.{Coming, brought_at}
use Rattle.policy.proofs.KindReplace.{replace_is, renewal}
use Rattle.geometry.specs.declared.Kept.TheVariants.{UnmetCalls}
use Rattle.image.specs.Wrote.{Wrote}
use Rattle.changes.specs.Asked.{Asked}
use Rattle.changes.specs.Left.{behind, RoomBehind, token_in}
use Rattle.packages.specs.Decides.{replace_of, Renews}
use Rattle.packages.specs.Writes.{stripped, brought_in, BringsIn, noted_rows, NotedIn}
use Rattle.packages.specs.declared.decide.Bring.{Bring}
use Rattle.packages.proofs.Brought.Readied.{readied, stripped_readied}
use Rattle.packages.proofs.Brought.OwnRows.{own_done}
use Rattle.packages.proofs.Brought.Left.{noted_room, noted_behind}
use Rattle.packages.proofs.Brought.Accepted.{Accepted, accepts, brings_in, brought_own}
use Rattle.packages.proofs.Replaced.Decided.{absent_or}

module _ (L : Layout) (img : List ℕ) (k : Contract) (ask : Asked L img k.aid (replace_of k)) (b : Bring) (ok : Renews L img k b) where
  abbrev t : Tables
  t = decode L img

  abbrev n : ℕ
  n = b.at

  abbrev now : Services
  now = new_services L t n k

  formed : Formed L t
  formed = sound_formed L img ask.is_sound

  its : NumberIs t k.aid (some n)
  its = subst (NumberIs t k.aid) ok.here (number_is L t formed.names k.aid)

  coming : Coming L t n k now
  coming = renewal L t k.aid k.provides k.calls k.grants k.needs formed ask.within.0.0 ask.is_proper n its.0 its.1

  draft_is : replace_at L t n k ≡ brought_at L t n k now
  draft_is = replace_is L t n k now formed its.0 its.1

  -- no cause before 8 applies
  none_early : answer (table_causes L t k.aid (replace_of k)) ≡ 0
  none_early = absent_or L img k ask (some n) ok.here

  drafted : draft L t k.aid (replace_of k) ≡ brought_at L t n k now
  unfolding draft
  drafted = ap (λ (o : Option ℕ). or_else o (kept t) (λ m. replace_at L t m k)) ok.here ∙ draft_is

  accepted : Accepted L img k b
  accepted = accepts L img k b (replace_of k) ask none_early (ap (λ (o : Out). o.answered) ok.outcome) ok.found coming drafted

  pub number_in_lem : b.at < L.packages
  number_in_lem = coming.number_lt

  pub aid_short : length k.aid ≤ 16
  aid_short = valid_short k.aid ask.first_valid

  -- the old contract off the card, then the new one, and behind it the calls that were noted
  module _ {i₁ : List ℕ} (w₁ : Wrote L i₁ (stripped L b.at b.dropped (decode L img))) where
    stripped_is : decode L i₁ ≡ readied L t n k
    stripped_is = w₁.tables ∙ stripped_readied L t n k formed its.0 its.1 b.dropped ok.found.dropped_is

    pub replace_brings : BringsIn L k b (decode L i₁)
    replace_brings = brings_in L img k b accepted (decode L i₁) stripped_is

    module _ {i₂ : List ℕ} (w₂ : Wrote L i₂ (brought_in L k b (decode L i₁))) (rows tokens : List ℕ) (noted : NotedIn L (decode L img) b.at b.dropped rows)
        (toks : (z : ℕ) → z < L.services → token_in tokens z ≡ (decode L img).tok b.at z) where
      own_is : decode L i₂ ≡ own_done L t n k now
      own_is = w₂.tables ∙ brought_own L img k b accepted (decode L i₁) stripped_is

      pub replace_room : RoomBehind UnmetCalls L (noted_rows L k.aid rows tokens) (decode L i₂)
      replace_room = subst (RoomBehind UnmetCalls L (noted_rows L k.aid rows tokens)) (sym own_is)
          (noted_room L t n k now formed its.1 b.dropped ok.found.dropped_is rows tokens noted toks accepted.fits)

      pub replace_written : {i₃ : List ℕ} → Wrote L i₃ (behind UnmetCalls (noted_rows L k.aid rows tokens) (decode L i₂)) → Wrote L i₃ (replace_at L (decode L img) b.at k).tables
      replace_written w₃ = record {
        laid = w₃.laid;
        tables = w₃.tables ∙ ap (behind UnmetCalls (noted_rows L k.aid rows tokens)) own_is
            ∙ noted_behind L t n k now formed its.1 b.dropped ok.found.dropped_is rows tokens noted toks ∙ ap (λ (d : Draft). d.tables) (sym draft_is);
      }
