-- Kinds 5 and 6: a call of package i added or removed.
use Prim.Native.Nat.{ℕ}
use mathlib.Core.Path.{◌≡◌, refl, sym, ap, ◌∙◌}
use mathlib.Core.Bool.{Bool, true, false, not}
use mathlib.Core.List.{List, [], ◌∷◌, ◌++◌}
use mathlib.Core.List.Memᴰ.{not-nil as in_nil}
use mathlib.Core.List.{Memᴰ as In}
use mathlib.Core.Option.{Option, none, some}
use lib.Dec.{T}
use Rattle.policy.specs.Lists.{keep}
use Rattle.policy.specs.Contract.{Aid, eq_aid, Row, Contract, valid_aid}
use Rattle.policy.specs.Layout.{Layout}
use Rattle.policy.specs.Record.{add_call, remove_call, proper}
use Rattle.policy.specs.Machine.{alter, altered}
use Rattle.policy.specs.Tables.{Tables, Unmet}
use Rattle.policy.specs.Lookup.{Place}
use Rattle.policy.specs.Sound.{eq_unmet}
use Rattle.policy.specs.Draft.{call_row, put3, add_call_at, remove_call_at}
use Rattle.policy.proofs.Sets.{not_e, once_snoc, keep_in, once_keep, each_snoc}
use Rattle.policy.proofs.Equal.{eq_aid_of}
use Rattle.policy.proofs.Put.{put3_keep, put3_cases, put3_less}
use Rattle.policy.proofs.Formed.{UnmetRows, Formed, RowAt, row, Stands, Turns, KindTurns}
use Rattle.policy.proofs.Found.{ServerIs}
use Rattle.policy.proofs.Facts.{no_rows, row_kept, bits_sub, bits_more, need_bits}
use Rattle.policy.proofs.Reach.{reach_5, reach_6}
use Rattle.policy.proofs.Alter.{turned_same, turned_one}
use Rattle.policy.proofs.Rows.{turned_without, row_more, row_less, bit_more, bit_less, recalled, turns_calls, is_service, no_bit, one_bit, no_row}

module _ (L : Layout) (t : Tables) (cs : List Contract) (a : Aid) (fo : Formed L t) (st : Stands t [] cs) (r : Row)
    (i : ℕ) (ui : T (t.used i)) (ai : t.aid i ≡ a) where
  -- ---- kind 5
  module _ (valid : T (valid_aid r.aid)) (other : r.aid ≡ a → ⊥) (new : RowAt t t.calls t.unmet i r → ⊥) where
    unmet_more : ServerIs t r none → UnmetRows t.used t.aid t.tok t.provides (t.unmet ++ (call_row i r ∷ []))
    unmet_more none-at =
        let u = call_row i r in
        record {
          off = record {
            off_used = each_snoc {P = λ v. T (t.used v.caller)} t.unmet u fo.unmet.off.off_used ui;
            off_card = each_snoc {P = λ v. (j k : ℕ) → T (t.provides j k) → t.aid j ≡ v.callee → t.tok j k ≡ v.tok → ⊥} t.unmet u fo.unmet.off.off_card none-at;
          };
          unmet_valid = each_snoc {P = λ v. T (valid_aid v.callee)} t.unmet u fo.unmet.unmet_valid valid;
          unmet_other = each_snoc {P = λ v. v.callee ≡ t.aid v.caller → ⊥} t.unmet u fo.unmet.unmet_other (λ e. other (e ∙ ai));
          unmet_once = once_snoc t.unmet u fo.unmet.unmet_once (λ m. new (row m));
        }

    more_call : (o : Option Place) → ServerIs t r o → Turns L (add_call_at L t i r o) (alter a (altered L (add_call r)) cs)
    more_call none s =
        let u = t.unmet ++ (call_row i r ∷ []) in
        let t' = recalled t t.calls t.needs u in
        turns_calls L t cs a fo st i ui ai t.calls t.needs u [] fo.calls fo.need_call (unmet_more s) (no_rows t)
        (turned_one r (row_more t t' (λ j k. refl) t.calls t.unmet i r) new)
        (turned_same ui (λ n _. row_kept t t' n t.needs [] (λ j k _. refl)))
    more_call (some p) s =
        let j = p.callee in
        let k = p.service in
        let c = put3 i j k true t.calls in
        let t' = recalled t c t.needs t.unmet in
        turns_calls L t cs a fo st i ui ai c t.needs t.unmet []
        (bits_more i j k fo.calls ui s.0 (λ e. other (sym s.1 ∙ ap t.aid (sym e) ∙ ai)) (put3_cases i j k t.calls))
        (λ x y z h. put3_keep i j k t.calls x y z (fo.need_call x y z h)) fo.unmet (no_rows t)
        (turned_one r (bit_more t t' (λ y z. refl) t.calls t.unmet i r j k (is_service t r p s)) new)
        (turned_same ui (λ n _. row_kept t t' n t.needs [] (λ j k _. refl)))

  -- ---- kind 6
  unmet_less : UnmetRows t.used t.aid t.tok t.provides (keep (λ u. not (eq_unmet (call_row i r) u)) t.unmet)
  unmet_less = record {
    off = record {
      off_used = λ u m. fo.unmet.off.off_used u (was m);
      off_card = λ u m. fo.unmet.off.off_card u (was m);
    };
    unmet_valid = λ u m. fo.unmet.unmet_valid u (was m);
    unmet_other = λ u m. fo.unmet.unmet_other u (was m);
    unmet_once = once_keep out t.unmet fo.unmet.unmet_once;
  }
    where
      out : Unmet → Bool
      out u = not (eq_unmet (call_row i r) u)

      was : {u : Unmet} → In u (keep (λ v. not (eq_unmet (call_row i r) v)) t.unmet) → In u t.unmet
      was m = (keep_in out t.unmet m).0

  less_call : (o : Option Place) → ServerIs t r o → Turns L (remove_call_at L t i r o) (alter a (altered L (remove_call r)) cs)
  less_call none s =
      let u = keep (λ v. not (eq_unmet (call_row i r) v)) t.unmet in
      let t' = recalled t t.calls t.needs u in
      turns_calls L t cs a fo st i ui ai t.calls t.needs u [] fo.calls fo.need_call unmet_less (no_rows t)
      (turned_without r (row_less t t' (λ j k. refl) t.calls t.unmet i r (no_bit L t fo fo.calls r s i)))
      (turned_without r (row_less t t' (λ j k. refl) t.needs [] i r (no_bit L t fo (need_bits L t fo) r s i)))
  less_call (some p) s =
      let j = p.callee in
      let k = p.service in
      let c = put3 i j k false t.calls in
      let d = put3 i j k false t.needs in
      let t' = recalled t c d t.unmet in
      turns_calls L t cs a fo st i ui ai c d t.unmet [] (bits_sub fo.calls (λ x y z h. ((put3_less i j k t.calls x y z).0 h).0))
      (λ x y z h. let q = (put3_less i j k t.needs x y z).0 h in (put3_less i j k t.calls x y z).1 (fo.need_call x y z q.0, q.1)) fo.unmet (no_rows t)
      (turned_without r (bit_less t t' (λ y z. refl) t.calls t.unmet i r j k (is_service t r p s) (one_bit L t fo fo.calls j k s.0 i) (no_row L t fo r p s i)))
      (turned_without r (bit_less t t' (λ y z. refl) t.needs [] i r j k (is_service t r p s) (one_bit L t fo (need_bits L t fo) j k s.0 i) in_nil))

pub kind_5 : (r : Row) → KindTurns (add_call r)
unfolding proper
kind_5 r L t cs a fo st va vr own =
    reach_5 L t fo a (λ d _. Turns L d (alter a (altered L (add_call r)) cs)) r (λ i ui ai. more_call L t cs a fo st r i ui ai vr.0 (λ e. not_e (eq_aid r.aid a) own (eq_aid_of e)))

pub kind_6 : (r : Row) → KindTurns (remove_call r)
kind_6 r L t cs a fo st va vr own = reach_6 L t fo a (λ d _. Turns L d (alter a (altered L (remove_call r)) cs)) r (less_call L t cs a fo st r)
