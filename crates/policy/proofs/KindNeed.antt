-- Kinds 9 and 10: a need of package i added or removed.
use Prim.Native.Nat.{ℕ}
use mathlib.Core.Path.{◌≡◌, refl, sym, ◌∙◌, subst}
use mathlib.Core.Logic.{◌⊎◌, inl, inr}
use mathlib.Core.Bool.{Bool, true, false}
use mathlib.Core.List.{List, [], ◌∷◌}
use mathlib.Core.List.Memᴰ.{not-nil as in_nil}
use mathlib.Core.Option.{Option, none, some}
use lib.Dec.{T}
use Rattle.policy.specs.Contract.{Aid, Row, Contract}
use Rattle.policy.specs.Layout.{Layout}
use Rattle.policy.specs.Record.{add_need, remove_need}
use Rattle.policy.specs.Machine.{alter, altered}
use Rattle.policy.specs.Tables.{Tables}
use Rattle.policy.specs.Lookup.{Place}
use Rattle.policy.specs.Draft.{call_row, put3, with_needs, add_need_at, remove_need_at, kept}
use Rattle.policy.proofs.Sets.{each_one}
use Rattle.policy.proofs.Put.{At, put3_cases, put3_less}
use Rattle.policy.proofs.Formed.{Off, Formed, RowAt, bit, row, Stands, Turns, KindTurns}
use Rattle.policy.proofs.Found.{ServerIs}
use Rattle.policy.proofs.Facts.{no_rows, row_kept, need_bits}
use Rattle.policy.proofs.Reach.{reach_9, reach_10}
use Rattle.policy.proofs.Alter.{Turned, turned_same, turned_one}
use Rattle.policy.proofs.Rows.{turned_without, row_more, row_less, bit_more, bit_less, turns_calls, is_service, no_bit, one_bit, no_row}

module _ (L : Layout) (t : Tables) (cs : List Contract) (a : Aid) (fo : Formed L t) (st : Stands t [] cs) (r : Row)
    (i : ℕ) (ui : T (t.used i)) (ai : t.aid i ≡ a) where
  -- other need bits, among the calls
  needs_turn : {fd : List Row → List Row} (d : ℕ → ℕ → ℕ → Bool) → ((x y z : ℕ) → T (d x y z) → T (t.calls x y z))
      → Turned t.used i fd (RowAt t t.needs []) (RowAt (with_needs d t) d [])
      → Turns L (kept (with_needs d t)) (alter a (λ k. record { aid = k.aid; provides = k.provides; calls = k.calls; grants = k.grants; needs = fd k.needs }) cs)
  needs_turn d called = turns_calls L t cs a fo st i ui ai t.calls d t.unmet [] fo.calls called fo.unmet (no_rows t)
      (turned_same ui (λ n _. row_kept t (with_needs d t) n t.calls t.unmet (λ j k _. refl)))

  -- ---- kind 9: the row is a call of package i, and no need yet
  module _ (called : RowAt t t.calls t.unmet i r) (new : RowAt t t.needs [] i r → ⊥) where
    lost_one : ServerIs t r none → Off t.used t.aid t.tok t.provides (call_row i r ∷ [])
    lost_one s = record {
      off_used = each_one (λ v. T (t.used v.caller)) (call_row i r) ui;
      off_card = each_one (λ v. (j k : ℕ) → T (t.provides j k) → t.aid j ≡ v.callee → t.tok j k ≡ v.tok → ⊥) (call_row i r) s;
    }

    -- the call is the bit of the service that was found
    call_bit : (p : Place) → ServerIs t r (some p) → RowAt t t.calls t.unmet i r → T (t.calls i p.callee p.service)
    call_bit p s (bit j k h e) =
        let q = one_bit L t fo fo.calls p.callee p.service s.0 i j k h (sym e ∙ is_service t r p s) in
        subst (λ (y : ℕ). T (t.calls i y p.service)) q.0 (subst (λ (z : ℕ). T (t.calls i j z)) q.1 h)
    call_bit p s (row m) = absurd (no_row L t fo r p s i m)

    still_called : (p : Place) → ServerIs t r (some p) → (x y z : ℕ) → At i p.callee p.service x y z ⊎ T (t.needs x y z) → T (t.calls x y z)
    still_called p s x y z (inl e) = rw (e.0, e.1, e.2) (call_bit p s called)
    still_called p s x y z (inr h) = fo.need_call x y z h

    more_need : (o : Option Place) → ServerIs t r o → Turns L (add_need_at L t i r o) (alter a (altered L (add_need r)) cs)
    more_need none s =
        turns_calls L t cs a fo st i ui ai t.calls t.needs t.unmet (call_row i r ∷ []) fo.calls fo.need_call fo.unmet (lost_one s)
        (turned_same ui (λ n _. row_kept t t n t.calls t.unmet (λ j k _. refl)))
        (turned_one r (row_more t t (λ j k. refl) t.needs [] i r) new)
    more_need (some p) s =
        needs_turn (put3 i p.callee p.service true t.needs) (λ x y z h. still_called p s x y z (put3_cases i p.callee p.service t.needs x y z h))
        (turned_one r (bit_more t _ (λ y z. refl) t.needs [] i r p.callee p.service (is_service t r p s)) new)

  -- ---- kind 10
  less_need : (o : Option Place) → ServerIs t r o → Turns L (remove_need_at L t i r o) (alter a (altered L (remove_need r)) cs)
  less_need none s = needs_turn t.needs fo.need_call (turned_without r (row_less t t (λ j k. refl) t.needs [] i r (no_bit L t fo (need_bits L t fo) r s i)))
  less_need (some p) s =
      needs_turn (put3 i p.callee p.service false t.needs) (λ x y z h. fo.need_call x y z ((put3_less i p.callee p.service t.needs x y z).0 h).0)
      (turned_without r (bit_less t _ (λ y z. refl) t.needs [] i r p.callee p.service (is_service t r p s) (one_bit L t fo (need_bits L t fo) p.callee p.service s.0 i) in_nil))

pub kind_9 : (r : Row) → KindTurns (add_need r)
kind_9 r L t cs a fo st va vr own = reach_9 L t fo a (λ d _. Turns L d (alter a (altered L (add_need r)) cs)) r (more_need L t cs a fo st r)

pub kind_10 : (r : Row) → KindTurns (remove_need r)
kind_10 r L t cs a fo st va vr own = reach_10 L t fo a (λ d _. Turns L d (alter a (altered L (remove_need r)) cs)) r (less_need L t cs a fo st r)
