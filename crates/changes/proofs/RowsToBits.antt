-- Rows of a list that become bits where a mask names them, row by row: waiting grants, and unmet calls. Assumes nothing.
use Prim.Native.Nat.{ℕ, suc, ◌+◌, ◌≤◌, ◌<◌}
use native.Mathlib.Numerals.{add-one}
use mathlib.Core.Path.{◌≡◌, refl, sym, ap, ◌∙◌, subst}
use mathlib.Core.List.{List}
use mathlib.Core.Option.{Option, none, some}
use lib.Dec.{T}
use lib.ListN.{length, drop, drop_of_length-le}
use lib.Seq.{drop-cons}
use Rattle.policy.specs.Lists.{is_some, or_else}
use Rattle.policy.specs.Contract.{Row}
use Rattle.policy.specs.Layout.{Layout}
use Rattle.policy.specs.Tables.{Tables, Unmet, Waiting, decode}
use Rattle.policy.specs.Lookup.{Spot, number_of, service_of, spot_of}
use Rattle.policy.proofs.Sets.{in_row}
use Rattle.image.specs.Laid.{Laid}
use Rattle.image.specs.Wrote.{Wrote}
use Rattle.image.specs.Read.{found, unmet_row, waiting_row}
use Rattle.std.specs.Prelude.{IsSome}
use Rattle.std.specs.Prelude.{Option as Answer}
use Rattle.changes.specs.Joins.{CallersIn, met_rows, met_one, GivenIn, settled_rows, settled_one, DueAt, CallOn, met_all, TakesIn}

-- the caller and the service of a grant that is a bit are found
module _ (L : Layout) (t : Tables) (j : ℕ) (r : Row) (h : T (is_some (spot_of L t j r))) where
  pub caller_there : {x : Answer ℕ} → x ≡ found (number_of L t r.aid) → IsSome x
  unfolding spot_of
  caller_there {x} e = go (number_of L t r.aid) h e
    where
      go : (o : Option ℕ) → T (is_some {A = Spot} (or_else o none (λ i. or_else (service_of L t j r.tok) none (λ k. some (record { caller = i; service = k }))))) → x ≡ found o → IsSome x
      go none q p = absurd q
      go (some i) q p = subst IsSome (sym p) refl

  pub service_there : {x : Answer ℕ} → x ≡ found (service_of L t j r.tok) → IsSome x
  unfolding spot_of
  service_there {x} e = go (number_of L t r.aid) (service_of L t j r.tok) h e
    where
      go : (o u : Option ℕ) → T (is_some {A = Spot} (or_else o none (λ i. or_else u none (λ k. some (record { caller = i; service = k }))))) → x ≡ found u → IsSome x
      go none u q p = absurd q
      go (some i) none q p = absurd q
      go (some i) (some k) q p = subst IsSome (sym p) refl

-- ---- what row r does to the tables and asks of them, what those from r on do, and what all ask
pub record ListTurns : Type 1 where
  pub count : Tables → ℕ
  pub one : ℕ → Tables → Tables
  pub from : ℕ → Tables → Tables
  pub Asks : ℕ → Tables → Type 0
  pub AllAsk : Tables → Type 0
  pub none_is : (r : ℕ) (t : Tables) → count t ≤ r → from r t ≡ t
  pub first_is : (r : ℕ) (t : Tables) → r < count t → from r t ≡ from (suc r) (one r t)
  pub count_is : (r : ℕ) (t : Tables) → count (one r t) ≡ count t
  pub here : (r : ℕ) (t : Tables) → r < count t → AllAsk t → Asks r t
  pub still : (r : ℕ) (t : Tables) → AllAsk t → AllAsk (one r t)

-- the rows from r on are to come, of those that were to go into the tables t
pub record Settling (L : Layout) (s : ListTurns) (t : Tables) (img : List ℕ) (r : ℕ) : Type 0 where
  pub laid : Laid L img
  pub counts : s.count (decode L img) ≡ s.count t
  pub asks : s.AllAsk (decode L img)
  pub rest : s.from r (decode L img) ≡ s.from 0 t

module _ (L : Layout) (s : ListTurns) where
  module _ (t : Tables) {img : List ℕ} {r : ℕ} (g : Settling L s t img r) where
    module _ (h : r < s.count t) where
      inside : r < s.count (decode L img)
      inside = subst (λ (m : ℕ). r < m) (sym g.counts) h

      pub settling_here : s.Asks r (decode L img)
      settling_here = s.here r (decode L img) inside g.asks

      pub settling_next : {img' : List ℕ} → Wrote L img' (s.one r (decode L img)) → Settling L s t img' (r + 1)
      settling_next {img'} w = subst (Settling L s t img') (sym (add-one r)) (record {
        laid = w.laid;
        counts = ap s.count w.tables ∙ s.count_is r (decode L img) ∙ g.counts;
        asks = subst s.AllAsk (sym w.tables) (s.still r (decode L img) g.asks);
        rest = ap (s.from (suc r)) w.tables ∙ sym (s.first_is r (decode L img) inside) ∙ g.rest;
      })

-- ---- the two lists
module _ (L : Layout) (mask : ℕ) where
  -- a bit changes no number
  abbrev pub GrantsDue : Tables → Type 0
  GrantsDue t = GivenIn L t.waiting × ((r : ℕ) → r < length t.waiting → DueAt L mask t r)

  pub due_first : (r : ℕ) (t : Tables) → r < length t.waiting → settled_rows L mask r (drop r t.waiting) t ≡ settled_rows L mask (suc r) (drop (suc r) t.waiting) (settled_one L mask r t)
  unfolding number_of service_of
  due_first r t h = ap (λ (l : List Waiting). settled_rows L mask r l t) (drop-cons t.waiting r _ h)

  pub due_still : (r : ℕ) (t : Tables) → GrantsDue t → GrantsDue (settled_one L mask r t)
  unfolding spot_of
  due_still r t q = q

  abbrev pub grants : ListTurns
  grants = record {
    count = λ t. length t.waiting;
    one = settled_one L mask;
    from = λ r t. settled_rows L mask r (drop r t.waiting) t;
    Asks = λ r t. (r < length t.waiting) × ((waiting_row t r).callee < L.packages) × DueAt L mask t r;
    AllAsk = GrantsDue;
    none_is = λ r t h. ap (λ (l : List Waiting). settled_rows L mask r l t) (drop_of_length-le t.waiting {i = r} h);
    first_is = due_first;
    count_is = λ r t. refl;
    here = λ r t h q. (h, q.0 (waiting_row t r) (in_row t.waiting r _ h), q.1 r h);
    still = due_still;
  }

module _ (L : Layout) (mask n : ℕ) where
  -- the callers are in range, and package n has the services of the calls that the mask names: call bits change neither
  abbrev pub CallsOn : Tables → Type 0
  CallsOn t = CallersIn L t.unmet × ((r : ℕ) → r < length t.unmet → CallOn L mask n t r)

  pub met_first : (r : ℕ) (t : Tables) → r < length t.unmet → met_rows L mask n r (drop r t.unmet) t ≡ met_rows L mask n (suc r) (drop (suc r) t.unmet) (met_one L mask n r t)
  unfolding service_of
  met_first r t h = ap (λ (l : List Unmet). met_rows L mask n r l t) (drop-cons t.unmet r _ h)

  pub calls_still : (r : ℕ) (t : Tables) → CallsOn t → CallsOn (met_one L mask n r t)
  unfolding service_of
  calls_still r t q = q

  abbrev pub calls : ListTurns
  calls = record {
    count = λ t. length t.unmet;
    one = met_one L mask n;
    from = λ r t. met_rows L mask n r (drop r t.unmet) t;
    Asks = λ r t. (r < length t.unmet) × ((unmet_row t r).caller < L.packages) × CallOn L mask n t r;
    AllAsk = CallsOn;
    none_is = λ r t h. ap (λ (l : List Unmet). met_rows L mask n r l t) (drop_of_length-le t.unmet {i = r} h);
    first_is = met_first;
    count_is = λ r t. refl;
    here = λ r t h q. (h, q.0 (unmet_row t r) (in_row t.unmet r _ h), q.1 r h);
    still = calls_still;
  }

-- ---- `take_in`: calls met, grants settled, then both lists closed up
module _ (L : Layout) (t : Tables) (n met due : ℕ) (fit : TakesIn L n met due t) {i₁ : List ℕ} (w₁ : Wrote L i₁ (met_all L met n t)) where
  pub met_dues : (r : ℕ) → r < length (decode L i₁).waiting → DueAt L due (decode L i₁) r
  unfolding number_of service_of spot_of
  met_dues = subst (λ (v : Tables). (r : ℕ) → r < length v.waiting → DueAt L due v r) (sym w₁.tables) fit.dues_on
