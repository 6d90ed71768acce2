-- Kinds 5 to 10, one call, grant or need: the short check says what the full look at the draft says.
use Prim.Native.Nat.{ℕ, ◌≤◌}
use native.Mathlib.Nat.{le_trans}
use mathlib.Core.Path.{◌≡◌, refl, sym}
use mathlib.Core.Logic.{◌⊎◌, inl, inr}
use mathlib.Core.Bool.{Bool, true, false, not}
use mathlib.Core.Option.{Option, none, some}
use lib.Dec.{T}
use lib.ListN.{length}
use Rattle.policy.specs.Lists.{is_nil}
use Rattle.policy.specs.Contract.{Row}
use Rattle.policy.specs.Layout.{Layout}
use Rattle.policy.specs.Record.{add_call, remove_call, add_grant, remove_grant, add_need, remove_need}
use Rattle.policy.specs.Tables.{Tables}
use Rattle.policy.specs.Lookup.{Place, Spot}
use Rattle.policy.specs.Sound.{eq_unmet, eq_waiting}
use Rattle.policy.specs.Draft.{Draft, call_row, grant_row, put3, add_call_at, remove_call_at, add_grant_at, remove_grant_at, add_need_at, remove_need_at, look}
use Rattle.policy.specs.ShortCheck.{fine, short_add_call, short_add_grant, short_remove_grant, short_add_need}
use Rattle.policy.proofs.Sets.{T_eq, not_i, not_e, length_keep, length_snoc}
use Rattle.policy.proofs.Put.{At, put3_new, put3_keep, put3_cases, put3_less}
use Rattle.policy.proofs.EveryBit.{among, among_to, among_back}
use Rattle.policy.proofs.Formed.{grant_bit, Formed, Lawful, Fitting, KindShort}
use Rattle.policy.proofs.Found.{ServerIs}
use Rattle.policy.proofs.Facts.{place_in, bit_in}
use Rattle.policy.proofs.Reach.{reach_5, reach_6, reach_7, reach_8, reach_9, reach_10}
use Rattle.policy.proofs.Short.{look_is, fits, fits_as, granted}

module _ (L : Layout) (t : Tables) (fo : Formed L t) (law : Lawful t) (fit : Fitting L t) where
  -- lawful tables whose lists fit
  look_fine : (d : Draft) {n : Bool} → Lawful d.tables → is_nil d.lost ≡ n → length d.tables.unmet ≤ L.capacity → length d.tables.waiting ≤ L.capacity
      → look L d ≡ record { granted = true; needed = n; unmet_fits = true; waiting_fits = true }
  look_fine d l en hu hw = look_is L d (granted L d.tables l) en (fits L (length d.tables.unmet) hu) (fits L (length d.tables.waiting) hw)

  -- ---- the grants of one call more, and of one grant less
  -- one call more is granted where its bit is
  one_more : (i j k : ℕ) → T (t.used i) → T (t.provides j k) → among L (put3 i j k true t.calls) (grant_bit t) ≡ t.grants j i k
  one_more i j k ui p = T_eq (among L c (grant_bit t)) (t.grants j i k)
      (λ h. let l = place_in L t fo.names j k p in among_to L c (grant_bit t) h i j k (fo.names.used_lt i ui, l.0, l.1) (put3_new i j k t.calls))
      (λ g. among_back L c (grant_bit t) (λ x y z m. go x y z g (put3_cases i j k t.calls x y z m)))
    where
      c : ℕ → ℕ → ℕ → Bool
      c = put3 i j k true t.calls

      go : (x y z : ℕ) → T (t.grants j i k) → At i j k x y z ⊎ T (t.calls x y z) → T (t.grants y x z)
      go x y z g (inl e) = rw (e.0, e.1, e.2) g
      go x y z g (inr m) = law x y z m

  -- one grant less is missed where it was called
  one_less : (i j k : ℕ) → among L t.calls (λ x y z. put3 j i k false t.grants y x z) ≡ not (t.calls i j k)
  one_less i j k = T_eq (among L t.calls g) (not (t.calls i j k))
      (λ h. not_i (t.calls i j k) (λ m. ((put3_less j i k t.grants j i k).0 (among_to L t.calls g h i j k (bit_in L t fo.names fo.calls i j k m) m)).1 (refl, refl, refl)))
      (λ h. among_back L t.calls g (λ x y z m.
      (put3_less j i k t.grants y x z).1 (law x y z m, λ e. not_e (t.calls i j k) h (rw (sym e.1, sym e.0, sym e.2) m))))
    where
      g : ℕ → ℕ → ℕ → Bool
      g x y z = put3 j i k false t.grants y x z

  -- ---- kinds 5 and 6
  look_add_call : (r : Row) (i : ℕ) → T (t.used i) → (o : Option Place) → ServerIs t r o → look L (add_call_at L t i r o) ≡ short_add_call L t i o
  look_add_call r i ui none s =
      look_is L (add_call_at L t i r none) (granted L t law) refl (fits_as L (length_snoc t.unmet (call_row i r))) (fits L (length t.waiting) fit.waiting_fits)
  look_add_call r i ui (some p) s =
      look_is L (add_call_at L t i r (some p)) (one_more i p.callee p.service ui s.0) refl
      (fits L (length t.unmet) fit.unmet_fits) (fits L (length t.waiting) fit.waiting_fits)

  look_remove_call : (r : Row) (i : ℕ) (o : Option Place) → look L (remove_call_at L t i r o) ≡ fine
  look_remove_call r i none =
      look_fine (remove_call_at L t i r none) law refl (le_trans (length_keep (λ u. not (eq_unmet (call_row i r) u)) t.unmet) fit.unmet_fits) fit.waiting_fits
  look_remove_call r i (some p) =
      look_fine (remove_call_at L t i r (some p)) (λ x y z m. law x y z ((put3_less i p.callee p.service t.calls x y z).0 m).0) refl fit.unmet_fits fit.waiting_fits

  -- ---- kinds 7 and 8: a grant r of package j
  look_add_grant : (j : ℕ) (r : Row) (o : Option Spot) → look L (add_grant_at L t j r o) ≡ short_add_grant L t o
  look_add_grant j r none =
      look_is L (add_grant_at L t j r none) (granted L t law) refl (fits L (length t.unmet) fit.unmet_fits) (fits_as L (length_snoc t.waiting (grant_row j r)))
  look_add_grant j r (some p) =
      look_fine (add_grant_at L t j r (some p)) (λ x y z m. put3_keep j p.caller p.service t.grants y x z (law x y z m)) refl fit.unmet_fits fit.waiting_fits

  look_remove_grant : (j : ℕ) (r : Row) (o : Option Spot) → look L (remove_grant_at L t j r o) ≡ short_remove_grant L t j o
  look_remove_grant j r none =
      look_fine (remove_grant_at L t j r none) law refl fit.unmet_fits (le_trans (length_keep (λ w. not (eq_waiting (grant_row j r) w)) t.waiting) fit.waiting_fits)
  look_remove_grant j r (some p) =
      look_is L (remove_grant_at L t j r (some p)) (one_less p.caller j p.service) refl
      (fits L (length t.unmet) fit.unmet_fits) (fits L (length t.waiting) fit.waiting_fits)

  -- ---- kinds 9 and 10: calls, grants and lists stay
  look_add_need : (r : Row) (i : ℕ) (o : Option Place) → look L (add_need_at L t i r o) ≡ short_add_need L t o
  look_add_need r i none = look_fine (add_need_at L t i r none) law refl fit.unmet_fits fit.waiting_fits
  look_add_need r i (some p) = look_fine (add_need_at L t i r (some p)) law refl fit.unmet_fits fit.waiting_fits

  look_remove_need : (r : Row) (i : ℕ) (o : Option Place) → look L (remove_need_at L t i r o) ≡ fine
  look_remove_need r i none = look_fine (remove_need_at L t i r none) law refl fit.unmet_fits fit.waiting_fits
  look_remove_need r i (some p) = look_fine (remove_need_at L t i r (some p)) law refl fit.unmet_fits fit.waiting_fits

-- ---- the six kinds
pub short_5 : (r : Row) → KindShort (add_call r)
short_5 r L t a f law fit _ _ = reach_5 L t f a (λ d k. look L d ≡ k) r (λ i ui _ _. look_add_call L t f law fit r i ui)

pub short_6 : (r : Row) → KindShort (remove_call r)
short_6 r L t a f law fit _ _ = reach_6 L t f a (λ d k. look L d ≡ k) r (λ i _ _ o _. look_remove_call L t f law fit r i o)

pub short_7 : (r : Row) → KindShort (add_grant r)
short_7 r L t a f law fit _ _ = reach_7 L t f a (λ d k. look L d ≡ k) r (λ j _ _ _ o _. look_add_grant L t f law fit j r o)

pub short_8 : (r : Row) → KindShort (remove_grant r)
short_8 r L t a f law fit _ _ = reach_8 L t f a (λ d k. look L d ≡ k) r (λ j _ _ o _. look_remove_grant L t f law fit j r o)

pub short_9 : (r : Row) → KindShort (add_need r)
short_9 r L t a f law fit _ _ = reach_9 L t f a (λ d k. look L d ≡ k) r (λ i _ _ _ _ o _. look_add_need L t f law fit r i o)

pub short_10 : (r : Row) → KindShort (remove_need r)
short_10 r L t a f law fit _ _ = reach_10 L t f a (λ d k. look L d ≡ k) r (λ i _ _ o _. look_remove_need L t f law fit r i o)
