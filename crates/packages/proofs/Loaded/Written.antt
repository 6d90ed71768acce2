-- Kind 1: the writes of a load, one after another, leave its tables. Assumes nothing.
use Prim.Native.Nat.{ℕ, ◌≤◌, ◌<◌}
use mathlib.Core.Path.{◌≡◌, sym, ap, ◌∙◌, subst}
use mathlib.Core.List.{List, [], ◌++◌, append-nil}
use mathlib.Core.Option.{Option, none, some}
use lib.ListN.{length}
use Rattle.policy.specs.Lists.{keep, or_else}
use Rattle.policy.specs.Contract.{Contract}
use Rattle.policy.specs.Layout.{Layout}
use Rattle.policy.specs.Causes.{answer}
use Rattle.policy.specs.Tables.{Tables, Unmet, decode}
use Rattle.policy.specs.Draft.{Draft, Services, kept, load_at, left_by, new_services, draft}
use Rattle.policy.specs.Judge.{Out, table_causes}
use Rattle.policy.proofs.Sets.{no_members}
use Rattle.policy.proofs.Pieces.{valid_short}
use Rattle.policy.proofs.Formed.{Formed}
use Rattle.policy.proofs.Found.{FreeIs, NumberIs, free_number_is, number_is}
use Rattle.policy.proofs.SoundFacts.{sound_formed}
use Rattle.policy.proofs.Dropped.{left_in}
use Rattle.policy.proofs.BroughtNames.{Coming, dropped, unmet_still, left_off, brought_at}
use Rattle.policy.proofs.KindLoad.{in_order, load_is, newcomer}
use Rattle.policy.proofs.InOrder.{placed_in_order}
use Rattle.image.specs.Wrote.{Wrote}
use Rattle.changes.specs.Asked.{Asked}
use Rattle.packages.specs.Decides.{load_of, Loads}
use Rattle.packages.specs.Writes.{named, brought_in, BringsIn}
use Rattle.packages.specs.declared.decide.Bring.{Bring}
use Rattle.packages.proofs.Brought.Readied.{readied, named_readied}
use Rattle.packages.proofs.Brought.OwnRows.{own_done}
use Rattle.packages.proofs.Brought.Accepted.{Accepted, accepts, brings_in, brought_own}
use Rattle.packages.proofs.Loaded.Decided.{early}

module _ (L : Layout) (img : List ℕ) (k : Contract) (ask : Asked L img k.aid (load_of k)) (b : Bring) (ok : Loads L img k b) where
  abbrev t : Tables
  t = decode L img

  abbrev n : ℕ
  n = b.at

  abbrev now : Services
  now = new_services L t n k

  formed : Formed L t
  formed = sound_formed L img ask.is_sound

  free : FreeIs L.packages t.used (some n)
  free = subst (FreeIs L.packages t.used) ok.free (free_number_is L t)

  away : NumberIs t k.aid none
  away = subst (NumberIs t k.aid) ok.away (number_is L t formed.names k.aid)

  in_order_lem : Coming L t n k (in_order k.provides)
  in_order_lem = newcomer L t k.aid k.provides k.calls k.grants k.needs formed ask.within.0.0 ask.is_proper n away free

  places_are : new_services L t n k ≡ in_order k.provides
  places_are = placed_in_order L t n k formed free.1 in_order_lem.lists.sets.provides ask.within.0.0

  -- the load's draft is that of a contract that comes
  draft_is : load_at L t n k ≡ brought_at L t n k now
  draft_is = load_is L t n k formed free.1 ∙ ap (brought_at L t n k) (sym places_are)

  -- no cause before 8 applies
  none_early : answer (table_causes L t k.aid (load_of k)) ≡ 0
  none_early = early L img k ask none (some n) ok.away ok.free

  drafted : draft L t k.aid (load_of k) ≡ brought_at L t n k now
  unfolding draft
  drafted = ap (λ (o : Option ℕ). or_else o (kept t) (λ m. load_at L t m k)) ok.free ∙ draft_is

  accepted : Accepted L img k b
  accepted = accepts L img k b (load_of k) ask none_early (ap (λ (o : Out). o.answered) ok.outcome) ok.found (subst (Coming L t n k) (sym places_are) in_order_lem) drafted

  pub number_in_lem : b.at < L.packages
  number_in_lem = free.0

  pub aid_short : length k.aid ≤ 16
  aid_short = valid_short k.aid ask.first_valid

  -- no others' call was on a service of the number
  none_left : left_by L t t.calls n (dropped L t n k now) ≡ []
  none_left = no_members (left_by L t t.calls n (dropped L t n k now))
      (λ u i. let p = left_in L t formed.names n (dropped L t n k now) t.calls formed.calls i in free.1 (formed.names.prov_used n p.1 (formed.calls.of_prov p.0 n p.1 p.2)))

  own_all : own_done L t n k now ≡ (load_at L t n k).tables
  own_all = (λ i. record {
    used = (own_done L t n k now).used;
    aid = (own_done L t n k now).aid;
    tok = (own_done L t n k now).tok;
    provides = (own_done L t n k now).provides;
    calls = (own_done L t n k now).calls;
    grants = (own_done L t n k now).grants;
    needs = (own_done L t n k now).needs;
    unmet = keep (unmet_still L t n k now) t.unmet ++ (sym (append-nil (left_off L t n k now k.calls)) ∙ ap (λ (m : List Unmet). left_off L t n k now k.calls ++ m) (sym none_left)) i;
    waiting = (own_done L t n k now).waiting;
  }) ∙ ap (λ (d : Draft). d.tables) (sym draft_is)

  -- the package named, then its contract
  module _ {i₁ : List ℕ} (w₁ : Wrote L i₁ (named b.at k.aid (decode L img))) where
    named_is : decode L i₁ ≡ readied L t n k
    named_is = w₁.tables ∙ named_readied L t n k formed free.1

    pub load_brings : BringsIn L k b (decode L i₁)
    load_brings = brings_in L img k b accepted (decode L i₁) named_is

    pub load_written : {i₂ : List ℕ} → Wrote L i₂ (brought_in L k b (decode L i₁)) → Wrote L i₂ (load_at L (decode L img) b.at k).tables
    load_written w₂ = record { laid = w₂.laid; tables = w₂.tables ∙ brought_own L img k b accepted (decode L i₁) named_is ∙ own_all }
