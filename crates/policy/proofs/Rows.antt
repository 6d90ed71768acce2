-- Kinds 5 to 10: one row of package i more or less, as a bit or in a list, and what that makes of its contract.
use Prim.Native.Nat.{ℕ}
use mathlib.Core.Path.{◌≡◌, refl, sym, ap, ◌∙◌, subst}
use mathlib.Core.Logic.{◌⊎◌, inl, inr, ◌↔◌}
use mathlib.Core.Bool.{Bool, true, false, not}
use mathlib.Core.List.{List, [], ◌∷◌, ◌++◌}
use mathlib.Core.List.Memᴰ.{head as here}
use mathlib.Core.List.{Memᴰ as In}
use mathlib.Core.List.Memᴰ.{append_cases as in_append}
use mathlib.Core.List.Memᴰ.{append_left as in_left}
use mathlib.Core.List.Memᴰ.{append_right as in_right}
use mathlib.Core.List.Memᴰ.{cast as in_cast}
use mathlib.Core.Option.{none, some}
use lib.Dec.{T}
use Rattle.policy.specs.Lists.{keep}
use Rattle.policy.specs.Contract.{Aid, Row, eq_row, Contract}
use Rattle.policy.specs.Layout.{Layout}
use Rattle.policy.specs.Machine.{alter, without_row}
use Rattle.policy.specs.Tables.{Tables, Unmet, Waiting}
use Rattle.policy.specs.Lookup.{Place, service_at}
use Rattle.policy.specs.Sound.{eq_unmet}
use Rattle.policy.specs.Draft.{kept, call_row, put3, with_calls, with_grants, with_needs}
use Rattle.policy.proofs.Sets.{not_i, not_e, keep_in, in_keep, each_one, differs}
use Rattle.policy.proofs.Equal.{row_path, eq_row→, eq_row_refl, eq_unmet→, eq_unmet_refl}
use Rattle.policy.proofs.Put.{At, put3_new, put3_keep, put3_cases, put3_less}
use Rattle.policy.proofs.Formed.{Bits, Off, UnmetRows, WaitingRows, Formed, RowAt, bit, row, GrantAt, Stands, Turns}
use Rattle.policy.proofs.Found.{ServerIs, same_place}
use Rattle.policy.proofs.Facts.{no_rows, provides_kept, row_kept}
use Rattle.policy.proofs.Alter.{Turned, More, Less, turned_same, turned_less, stands_turned}

-- a list of rows without r
pub turned_without : {used : ℕ → Bool} {i : ℕ} {P P' : ℕ → Row → Type 0} (r : Row) → Less i (λ x. x ≡ r) P P' → Turned used i (without_row r) P P'
turned_without r = turned_less (λ x. x ≡ r) (λ x. not (eq_row r x)) (differs eq_row eq_row→ eq_row_refl r)

-- ---- rows of tables, as bits b and a list l; t' has the services of t
module _ (t t' : Tables) (same : (j k : ℕ) → service_at t j k ≡ service_at t' j k) (b : ℕ → ℕ → ℕ → Bool) (l : List Unmet) (i : ℕ) (r : Row) where
  -- ---- in the list
  pub row_more : More i (λ x. x ≡ r) (RowAt t b l) (RowAt t' b (l ++ (call_row i r ∷ [])))
  row_more n x = (to, back)
    where
      last : call_row n x ≡ call_row i r → (n ≡ i) × (x ≡ r)
      last e = (ap (λ (u : Unmet). u.caller) e, λ z. record { aid = (e z).callee; tok = (e z).tok })

      among : In (call_row n x) l ⊎ In (call_row n x) (call_row i r ∷ []) → RowAt t b l n x ⊎ ((n ≡ i) × (x ≡ r))
      among (inl m) = inl (row m)
      among (inr m) = inr (last (each_one (λ u. u ≡ call_row i r) (call_row i r) refl (call_row n x) m))

      to : RowAt t' b (l ++ (call_row i r ∷ [])) n x → RowAt t b l n x ⊎ ((n ≡ i) × (x ≡ r))
      to (bit j k h e) = inl (bit j k h (e ∙ sym (same j k)))
      to (row m) = among (in_append l m)

      back : RowAt t b l n x ⊎ ((n ≡ i) × (x ≡ r)) → RowAt t' b (l ++ (call_row i r ∷ [])) n x
      back (inl (bit j k h e)) = bit j k h (e ∙ same j k)
      back (inl (row m)) = row (in_left (call_row i r ∷ []) m)
      back (inr e) = row (in_right l (here (λ z. call_row (e.0 z) (e.1 z))))

  pub row_less : ((j k : ℕ) → T (b i j k) → r ≡ service_at t j k → ⊥) → Less i (λ x. x ≡ r) (RowAt t b l) (RowAt t' b (keep (λ u. not (eq_unmet (call_row i r) u)) l))
  row_less none-set n x = (to, λ p. back p.0 p.1)
    where
      out : Unmet → Bool
      out u = not (eq_unmet (call_row i r) u)

      to : RowAt t' b (keep (λ u. not (eq_unmet (call_row i r) u)) l) n x → RowAt t b l n x × ((n ≡ i) × (x ≡ r) → ⊥)
      to (bit j k h e) = (bit j k h (e ∙ sym (same j k)), λ q. none-set j k (subst (λ (z : ℕ). T (b z j k)) q.0 h) (sym q.1 ∙ e ∙ sym (same j k)))
      to (row m) =
          let p = keep_in out l m in
          (row p.0, λ q. not_e (eq_unmet (call_row i r) (call_row n x)) p.1 (subst (λ (z : Unmet). T (eq_unmet (call_row i r) z)) (λ z. call_row (sym q.0 z) (sym q.1 z)) (eq_unmet_refl (call_row i r))))

      back : RowAt t b l n x → ((n ≡ i) × (x ≡ r) → ⊥) → RowAt t' b (keep (λ u. not (eq_unmet (call_row i r) u)) l) n x
      back (bit j k h e) ne = bit j k h (e ∙ same j k)
      back (row m) ne =
          row (in_keep out m (not_i (eq_unmet (call_row i r) (call_row n x)) (λ s.
          let e = eq_unmet→ (call_row i r) (call_row n x) s in
          ne (sym (ap (λ (u : Unmet). u.caller) e), λ z. record { aid = (sym e z).callee; tok = (sym e z).tok }))))

  -- ---- as the bit of service k of package j
  module _ (j k : ℕ) (is : r ≡ service_at t j k) where
    pub bit_more : More i (λ x. x ≡ r) (RowAt t b l) (RowAt t' (put3 i j k true b) l)
    bit_more n x = (to, back)
      where
        among : (y z : ℕ) → x ≡ service_at t y z → At i j k n y z ⊎ T (b n y z) → RowAt t b l n x ⊎ ((n ≡ i) × (x ≡ r))
        among y z e (inl q) = inr (q.0, e ∙ (λ w. service_at t (q.1 w) (q.2 w)) ∙ sym is)
        among y z e (inr h) = inl (bit y z h e)

        to : RowAt t' (put3 i j k true b) l n x → RowAt t b l n x ⊎ ((n ≡ i) × (x ≡ r))
        to (bit y z h e) = among y z (e ∙ sym (same y z)) (put3_cases i j k b n y z h)
        to (row m) = inl (row m)

        back : RowAt t b l n x ⊎ ((n ≡ i) × (x ≡ r)) → RowAt t' (put3 i j k true b) l n x
        back (inl (bit y z h e)) = bit y z (put3_keep i j k b n y z h) (e ∙ same y z)
        back (inl (row m)) = row m
        back (inr q) = bit j k (subst (λ (z : ℕ). T (put3 i j k true b z j k)) (sym q.0) (put3_new i j k b)) (q.1 ∙ is ∙ same j k)

    pub bit_less : ((y z : ℕ) → T (b i y z) → service_at t y z ≡ service_at t j k → (y ≡ j) × (z ≡ k)) → (In (call_row i r) l → ⊥)
        → Less i (λ x. x ≡ r) (RowAt t b l) (RowAt t' (put3 i j k false b) l)
    bit_less one_place no_row n x = (to, λ p. back p.0 p.1)
      where
        to : RowAt t' (put3 i j k false b) l n x → RowAt t b l n x × ((n ≡ i) × (x ≡ r) → ⊥)
        to (bit y z h e) =
            let p = (put3_less i j k b n y z).0 h in (
              bit y z p.0 (e ∙ sym (same y z)),
              λ q.
                  let s = one_place y z (subst (λ (w : ℕ). T (b w y z)) q.0 p.0) (same y z ∙ sym e ∙ q.1 ∙ is) in
                  p.1 (q.0, s.0, s.1),
            )
        to (row m) = (row m, λ q. no_row (in_cast (λ z. call_row (sym q.0 z) (sym q.1 z)) m))

        back : RowAt t b l n x → ((n ≡ i) × (x ≡ r) → ⊥) → RowAt t' (put3 i j k false b) l n x
        back (bit y z h e) ne = bit y z ((put3_less i j k b n y z).1 (h, λ q. ne (q.0, e ∙ (λ w. service_at t (q.1 w) (q.2 w)) ∙ sym is))) (e ∙ same y z)
        back (row m) ne = row m

-- ---- other calls and needs, or other grants: package i's contract turns, and all else is as it was
module _ (t : Tables) (c d : ℕ → ℕ → ℕ → Bool) (u : List Unmet) where
  abbrev pub recalled : Tables
  recalled = with_needs d (with_calls c u t)

  grants_same : (n : ℕ) (x : Row) → GrantAt t n x ↔ GrantAt recalled n x
  grants_same n x = (to, back)
    where
      to : GrantAt t n x → GrantAt recalled n x
      to (bit y z p e q) = bit y z p e q
      to (row m) = row m

      back : GrantAt recalled n x → GrantAt t n x
      back (bit y z p e q) = bit y z p e q
      back (row m) = row m

module _ (L : Layout) (t : Tables) (cs : List Contract) (a : Aid) (fo : Formed L t) (st : Stands t [] cs) (i : ℕ) (ui : T (t.used i)) (ai : t.aid i ≡ a) where
  module _ (c d : ℕ → ℕ → ℕ → Bool) (u lost : List Unmet) where
    abbrev t' : Tables
    t' = recalled t c d u

    pub turns_calls : {fc fd : List Row → List Row} → Bits t.used t.provides c → ((x y z : ℕ) → T (d x y z) → T (c x y z)) → UnmetRows t.used t.aid t.tok t.provides u
        → Off t.used t.aid t.tok t.provides lost
        → Turned t.used i fc (RowAt t t.calls t.unmet) (RowAt t' c u) → Turned t.used i fd (RowAt t t.needs []) (RowAt t' d lost)
        → Turns L (record { tables = t'; lost = lost })
        (alter a (λ k. record { aid = k.aid; provides = k.provides; calls = fc k.calls; grants = k.grants; needs = fd k.needs }) cs)
    turns_calls bits called rows off tc td = record {
      formed = record { names = fo.names; calls = bits; grants = fo.grants; need_call = called; unmet = rows; waiting = fo.waiting };
      lost_off = off;
      stands = stands_turned L t t' lost cs a i fo.names st ui ai refl refl
          (turned_same ui (λ n _. provides_kept t t' n (λ k p. p) (λ k p. p) (λ k. refl))) tc (turned_same ui (λ n _. grants_same t c d u n)) td;
    }

  module _ (g : ℕ → ℕ → ℕ → Bool) (w : List Waiting) where
    abbrev regranted : Tables
    regranted = with_grants g w t

    pub turns_grants : {fg : List Row → List Row} → Bits t.used t.provides (λ x y z. g y x z) → WaitingRows t.used t.aid t.tok t.provides w → Turned t.used i fg (GrantAt t) (GrantAt regranted)
        → Turns L (kept regranted) (alter a (λ k. record { aid = k.aid; provides = k.provides; calls = k.calls; grants = fg k.grants; needs = k.needs }) cs)
    turns_grants bits rows tg = record {
      formed = record { names = fo.names; calls = fo.calls; grants = bits; need_call = fo.need_call; unmet = fo.unmet; waiting = rows };
      lost_off = no_rows t;
      stands = stands_turned L t regranted [] cs a i fo.names st ui ai refl refl
          (turned_same ui (λ n _. provides_kept t regranted n (λ k p. p) (λ k p. p) (λ k. refl)))
          (turned_same ui (λ n _. row_kept t regranted n t.calls t.unmet (λ j k _. refl))) tg
          (turned_same ui (λ n _. row_kept t regranted n t.needs [] (λ j k _. refl)));
    }

-- ---- where a row's service is found, and where it is not
pub is_service : (t : Tables) (r : Row) (p : Place) → ServerIs t r (some p) → r ≡ service_at t p.callee p.service
is_service t r p s = row_path (sym s.1) (sym s.2)

module _ (L : Layout) (t : Tables) (fo : Formed L t) where
  -- calls or needs
  module _ {b : ℕ → ℕ → ℕ → Bool} (bits : Bits t.used t.provides b) where
    pub no_bit : (r : Row) → ServerIs t r none → (i j k : ℕ) → T (b i j k) → r ≡ service_at t j k → ⊥
    no_bit r s i j k h e = s j k (bits.of_prov i j k h) (ap (λ (x : Row). x.aid) (sym e)) (ap (λ (x : Row). x.tok) (sym e))

    pub one_bit : (j k : ℕ) → T (t.provides j k) → (i y z : ℕ) → T (b i y z) → service_at t y z ≡ service_at t j k → (y ≡ j) × (z ≡ k)
    one_bit j k p i y z h e = same_place L t fo.names y z j k (bits.of_prov i y z h) p (ap (λ (x : Row). x.aid) e) (ap (λ (x : Row). x.tok) e)

  pub no_row : (r : Row) (p : Place) → ServerIs t r (some p) → (i : ℕ) → In (call_row i r) t.unmet → ⊥
  no_row r p s i m = fo.unmet.off.off_card (call_row i r) m p.callee p.service s.0 s.1 s.2
