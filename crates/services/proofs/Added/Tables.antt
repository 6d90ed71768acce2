-- Kind 3: what its checks say, and that its writes, one after another, give the tables of the draft. Assumes nothing.
use Prim.Native.Nat.{ℕ, ◌+◌, ◌≤◌, ◌<◌}
use native.Mathlib.Omega.{arith}
use mathlib.Core.Path.{◌≡◌, refl, sym, ap, ap₂, ◌∙◌, subst}
use mathlib.Core.Logic.{◌⊎◌, inl, inr}
use mathlib.Core.Bool.{Bool, true, false, not, ◌&&◌, ◌||◌, cond, and-false}
use mathlib.Core.List.Memᴰ.{cast as in_cast}
use mathlib.Core.List.{List, [], ◌∷◌, ◌++◌, map, append_assoc, append-nil, Memᴰ as In}
use mathlib.Core.Option.{Option, none, some}
use lib.Dec.{T, eqb, eqb→eq, eqb_refl, leb, leb→le, le→leb}
use lib.ListN.{length}
use Rattle.policy.specs.Lists.{implies, every, exists, keep, first, upto, is_some, or_else}
use Rattle.policy.specs.Contract.{Aid, eq_aid, Tok, eq_tok}
use Rattle.policy.specs.Layout.{Layout}
use Rattle.policy.specs.Tables.{Tables, Unmet, Waiting, bit}
use Rattle.policy.specs.Lookup.{Spot, places, number_of, service_of, spot_of}
use Rattle.policy.specs.Sound.{eq_waiting}
use Rattle.policy.specs.Draft.{put2, put3, with_grants, has_unmet, has_waiting, installed_aid, now_granted, add_service_at, asks_for}
use Rattle.policy.specs.ShortCheck.{count, short_add_service}
use Rattle.policy.proofs.Sets.{T_eq, T_false, false_T, and_l, and_r, and_i, not_i, every_in, in_every, exists_in, in_exists, keep_in, in_keep, same_has, found, in_upto, length_snoc, Found}
use Rattle.policy.proofs.Equal.{eq_aid→, eq_aid_of, eq_aid_refl, eqb_of, eq_tok→, eq_tok_of, eq_tok_refl, eq_waiting→, eq_waiting_refl, has_unmet_lem, unmet_has, has_waiting_lem, waiting_has}
use Rattle.policy.proofs.Put.{NewPlace, new_place}
use Rattle.policy.proofs.Formed.{Formed}
use Rattle.policy.proofs.Found.{NumberIs, ServiceIs, number_is}
use Rattle.rows.specs.Area.{keep_rows}
use Rattle.image.specs.Read.{mask_of, number_or, unmet_row, waiting_row}
use Rattle.image.proofs.Masks.{keep_mask}
use Rattle.services.specs.Adding.{of_service, waits_in, is_lone, granted_at, granted_to_each, RoomFor, added, due_to, by_callers, ask_mask, due_mask}
use Rattle.changes.specs.Masks.{some_listed}
use Rattle.changes.specs.Joins.{holder, service_number, met_all, settled_all, taken_in, CallOn, DueAt}
use Rattle.changes.specs.Places.{opened}
use Rattle.changes.proofs.MaskedRows.{named, or_none, row_off, listed_is, some_is, some_more, mask_past}

-- ---- bits beside bits: p and r are that a place is the service's, u that its caller may, v that this one does
more_grants : (p q r b u v e : Bool) → q ≡ u && v → cond (p && q && r) true b || (p && r && (u && e)) ≡ b || (p && r && (u && (v || e)))
more_grants false q r b u v e h = refl
more_grants true q r b u v e h = ap (λ (z : Bool). cond (z && r) true b || (r && (u && e))) h ∙ go r b u v
  where
    go : (r b u v : Bool) → cond ((u && v) && r) true b || (r && (u && e)) ≡ b || (r && (u && (v || e)))
    go true true true true = refl
    go true false true true = refl
    go true b true false = refl
    go true b false v = refl
    go false b true true = refl
    go false b true false = refl
    go false b false v = refl

none_granted : (p r u b : Bool) → b ≡ b || (p && r && (u && false))
none_granted p r u b = or_none b (ap (λ (z : Bool). p && r && z) (and-false u) ∙ and-false (p && r))

both_granted : (b p u w e : Bool) → (b || (p && (u && w))) || (p && (u && e)) ≡ b || (p && (u && (e || w)))
both_granted true p u w e = refl
both_granted false false u w e = refl
both_granted false true false w e = refl
both_granted false true true true true = refl
both_granted false true true true false = refl
both_granted false true true false true = refl
both_granted false true true false false = refl

-- ---- a test that is another one for every row
every_ext : {A : Type 0} (f g : A → Bool) (l : List A) → ((x : A) → In x l → f x ≡ g x) → every f l ≡ every g l
every_ext f g l h = T_eq (every f l) (every g l) (λ q. in_every g l (λ x m. subst T (h x m) (every_in f l q m))) (λ q. in_every f l (λ x m. subst T (sym (h x m)) (every_in g l q m)))

-- ---- one more service: it is found where it was opened
module _ (L : Layout) (t : Tables) (j k : ℕ) (s : Tok) (k< : k < L.services) (free : T (t.provides j k) → ⊥) (fresh : ServiceIs t j s none) where
  pub opened_found : first (λ z. put2 j k true t.provides j z && eq_tok (put2 j k s t.tok j z) s) (places L) ≡ some k
  opened_found = go (first test (places L)) (found test (places L))
    where
      place : NewPlace t.tok (put2 j k s t.tok) t.provides (put2 j k true t.provides) j k s
      place = new_place t.tok t.provides j k s free

      test : ℕ → Bool
      test z = put2 j k true t.provides j z && eq_tok (put2 j k s t.tok j z) s

      same : (z : ℕ) → put2 j k s t.tok j z ≡ s → ((j ≡ j) × (z ≡ k)) ⊎ T (t.provides j z) → z ≡ k
      same z e (inl q) = q.1
      same z e (inr p) = absurd (fresh z p (sym (place.old_tok j z p) ∙ e))

      go : (o : Option ℕ) → Found (λ z. put2 j k true t.provides j z && eq_tok (put2 j k s t.tok j z) s) (places L) o → o ≡ some k
      go none h = absurd (h k (in_upto L.services k k<) (and_i (put2 j k true t.provides j k) (eq_tok (put2 j k s t.tok j k) s) place.new_prov (eq_tok_of place.new_tok)))
      go (some z) h =
          let p = and_l (put2 j k true t.provides j z) (eq_tok (put2 j k s t.tok j z) s) h.1 in
          let q = eq_tok→ (put2 j k s t.tok j z) s (and_r (put2 j k true t.provides j z) (eq_tok (put2 j k s t.tok j z) s) h.1) in
          ap some (same z q (place.prov_cases j z p))

-- ---- package j's service with tokens s: grants of it that wait
module _ (L : Layout) (t : Tables) (formed : Formed L t) (j : ℕ) (s : Tok) where
  abbrev waits : Aid → Waiting
  waits a = record { caller = a; callee = j; tok = s }

  -- the AID's grant is neither a bit nor waits
  abbrev lone : Aid → Bool
  lone a = not (installed_aid L t a || has_waiting (waits a) t.waiting)

  of_service_lem : (w : Waiting) → T (of_service j s w) → (w.callee ≡ j) × (w.tok ≡ s)
  of_service_lem w h = (eqb→eq w.callee j (and_l (eqb w.callee j) (eq_tok w.tok s) h), eq_tok→ w.tok s (and_r (eqb w.callee j) (eq_tok w.tok s) h))

  is_waits : (w : Waiting) (a : Aid) → T (of_service j s w) → a ≡ w.caller → waits a ≡ w
  is_waits w a h e = let q = of_service_lem w h in λ i. record { caller = e i; callee = sym q.0 i; tok = sym q.1 i }

  waits_of : (a : Aid) → T (of_service j s (waits a))
  waits_of a = and_i (eqb j j) (eq_tok s s) (eqb_refl j) (eq_tok_refl s)

  of_to : (a : Aid) (w : Waiting) → of_service j s w && eq_aid w.caller a ≡ eq_waiting (waits a) w
  of_to a w = T_eq (of_service j s w && eq_aid w.caller a) (eq_waiting (waits a) w)
      (λ h. subst (λ (v : Waiting). T (eq_waiting (waits a) v)) (is_waits w a (and_l (of_service j s w) (eq_aid w.caller a) h) (sym (eq_aid→ w.caller a (and_r (of_service j s w) (eq_aid w.caller a) h)))) (eq_waiting_refl (waits a)))
      (λ h. subst (λ (v : Waiting). T (of_service j s v && eq_aid v.caller a)) (eq_waiting→ (waits a) w h) (and_i (of_service j s (waits a)) (eq_aid a a) (waits_of a) (eq_aid_refl a)))

  waits_in_lem : (mask : ℕ) (w : List Waiting) → mask ≡ mask_of (of_service j s) w → (a : Aid) → some_listed (λ v. eq_aid v.caller a) mask 0 w ≡ has_waiting (waits a) w
  waits_in_lem mask w e a = some_is (of_service j s) (λ v. eq_aid v.caller a) mask w e ∙ (λ i. exists (λ v. of_to a v i) w)

  -- ---- packages by their AIDs
  number_at : (n : ℕ) → T (t.used n) → number_of L t (t.aid n) ≡ some n
  number_at n u = go (number_of L t (t.aid n)) (number_is L t formed.names (t.aid n))
    where
      go : (o : Option ℕ) → NumberIs t (t.aid n) o → o ≡ some n
      go none h = absurd (h n u refl)
      go (some i) h = ap some (formed.names.aid_inj i n h.0 u h.1)

  held_by : (a : Aid) (n : ℕ) → T (installed_aid L t a) → holder L t a ≡ n → T (t.used n) × (t.aid n ≡ a)
  held_by a n = go (number_of L t a) (number_is L t formed.names a)
    where
      go : (o : Option ℕ) → NumberIs t a o → T (is_some o) → number_or L.packages o ≡ n → T (t.used n) × (t.aid n ≡ a)
      go none h i e = absurd i
      go (some m) h i e = (subst (λ (z : ℕ). T (t.used z)) e h.0, ap t.aid (sym e) ∙ h.1)

  -- a waiting grant that is due, by the number y of its caller
  is_due : (w : Waiting) (y : ℕ) → T (now_granted L t j s w) → holder L t w.caller ≡ y → T (t.used y) × (waits (t.aid y) ≡ w)
  is_due w y h e =
      let o = and_l (of_service j s w) (installed_aid L t w.caller) h in
      let q = held_by w.caller y (and_r (of_service j s w) (installed_aid L t w.caller) h) e in
      (q.0, is_waits w (t.aid y) o q.1)

  due_is : (y : ℕ) → T (t.used y) → T (now_granted L t j s (waits (t.aid y))) × (holder L t (t.aid y) ≡ y)
  due_is y u =
      let e = number_at y u in
      (and_i (of_service j s (waits (t.aid y))) (installed_aid L t (t.aid y)) (waits_of (t.aid y)) (subst (λ (o : Option ℕ). T (is_some o)) (sym e) tt), ap (number_or L.packages) e)

  -- ---- cause 8
  module _ (due : ℕ) (ed : due ≡ due_mask L t s j) where
    due_to_lem : (n : ℕ) → T (t.used n) → due_to L due t n ≡ has_waiting (waits (t.aid n)) t.waiting
    due_to_lem n u =
        some_is (now_granted L t j s) (λ w. eqb (holder L t w.caller) n) due t.waiting ed
        ∙ T_eq (exists (λ w. now_granted L t j s w && eqb (holder L t w.caller) n) t.waiting) (has_waiting (waits (t.aid n)) t.waiting)
        (λ h.
        let x = exists_in (λ w. now_granted L t j s w && eqb (holder L t w.caller) n) t.waiting h in
        let w = x.0 in
        let q = is_due w n (and_l (now_granted L t j s w) (eqb (holder L t w.caller) n) x.2) (eqb→eq (holder L t w.caller) n (and_r (now_granted L t j s w) (eqb (holder L t w.caller) n) x.2)) in
        waiting_has (in_cast q.1 x.1))
        (λ h.
        let q = due_is n u in
        in_exists (λ w. now_granted L t j s w && eqb (holder L t w.caller) n) (has_waiting_lem (waits (t.aid n)) t.waiting h)
        (and_i (now_granted L t j s (waits (t.aid n))) (eqb (holder L t (t.aid n)) n) q.0 (eqb_of q.1)))

    pub granted_is : (l : List Aid) → every (by_callers L t l due (asks_for L t (t.aid j) s)) t.unmet ≡ (short_add_service L t j s l).granted
    granted_is l = every_ext (by_callers L t l due (asks_for L t (t.aid j) s))
        (λ u. implies (asks_for L t (t.aid j) s u) (exists (eq_aid (t.aid u.caller)) l || has_waiting (waits (t.aid u.caller)) t.waiting)) t.unmet
        (λ u m. ap (λ (b : Bool). implies (asks_for L t (t.aid j) s u) (exists (eq_aid (t.aid u.caller)) l || b)) (due_to_lem u.caller (formed.unmet.off.off_used u m)))

  -- ---- cause 11
  lone_is : (granting : ℕ) → granting ≡ mask_of (of_service j s) t.waiting → (a : Aid) → is_lone L granting t a ≡ lone a
  lone_is granting e a = ap (λ (b : Bool). not (installed_aid L t a || b)) (waits_in_lem granting t.waiting e a)

  abbrev stay : Waiting → Bool
  stay w = not (now_granted L t j s w)

  pub room_is : (l : List Aid) (granting room : ℕ) → granting ≡ mask_of (of_service j s) t.waiting → count (λ w. not (now_granted L t j s w)) t.waiting + room ≡ L.capacity
      → leb (count (is_lone L granting t) l) room ≡ (short_add_service L t j s l).waiting_fits
  room_is l granting room e h = (λ i. leb (count (λ a. lone_is granting e a i) l) room) ∙ T_eq (leb n room) (leb (m + n) L.capacity) there back
    where
      n : ℕ
      n = count lone l

      m : ℕ
      m = count stay t.waiting

      there : T (leb n room) → T (leb (m + n) L.capacity)
      there q = le→leb (m + n) L.capacity (omega (arith, leb→le n room q, h))

      back : T (leb (m + n) L.capacity) → T (leb n room)
      back q = le→leb n room (omega (arith, leb→le (m + n) L.capacity q, h))

  -- ---- the writes: service k, which is free, by the masks of the unmet calls on it and of the waiting grants that are due
  module _ (k : ℕ) (k< : k < L.services) (free : T (t.provides j k) → ⊥) (fresh : ServiceIs t j s none) (asking due : ℕ)
      (ea : asking ≡ ask_mask L t s j) (ed : due ≡ due_mask L t s j) where
    abbrev on : Tables
    on = opened j k s t

    service_found : service_of L on j s ≡ some k
    unfolding service_of
    service_found = opened_found L t j k s k< free fresh

    number : service_number L on j s ≡ k
    number = ap (number_or L.services) service_found

    -- an unmet call on the service, by its caller
    asked_so : (u : Unmet) → T (asks_for L t (t.aid j) s u) → (u.callee ≡ t.aid j) × (u.tok ≡ s)
    asked_so u h = (eq_aid→ u.callee (t.aid j) (and_l (eq_aid u.callee (t.aid j)) (eq_tok u.tok s) h), eq_tok→ u.tok s (and_r (eq_aid u.callee (t.aid j)) (eq_tok u.tok s) h))

    -- the service of each row of the mask is on the card
    pub rows_met : (r : ℕ) → r < length t.unmet → CallOn L asking j (opened j k s t) r
    rows_met r h b =
        let u = unmet_row t r in
        let e = asked_so u (subst T (named (asks_for L t (t.aid j) s) t.unmet asking r _ ea h) b) in
        subst (λ (o : Option ℕ). T (is_some o)) (sym (ap (service_of L on j) e.1 ∙ service_found)) tt

    -- each row of the mask stands as a bit
    pub rows_due : (r : ℕ) → r < length t.waiting → DueAt L due (opened j k s t) r
    unfolding spot_of
    rows_due r h b =
        let w = waiting_row t r in
        let n : T (now_granted L t j s w) = subst T (named (now_granted L t j s) t.waiting due r _ ed h) b in
        let o = of_service_lem w (and_l (of_service j s w) (installed_aid L t w.caller) n) in
        go (number_of L t w.caller) (and_r (of_service j s w) (installed_aid L t w.caller) n) (service_of L on w.callee w.tok)
        ((λ i. service_of L on (o.0 i) (o.1 i)) ∙ service_found)
      where
        go : (x : Option ℕ) → T (is_some x) → (y : Option ℕ) → y ≡ some k → T (is_some {A = Spot} (or_else x none (λ i. or_else y none (λ k. some (record { caller = i; service = k })))))
        go none p y e = absurd p
        go (some i) p y e = subst (λ (z : Option ℕ). T (is_some {A = Spot} (or_else z none (λ k. some (record { caller = i; service = k }))))) (sym e) tt

    -- the bits of the waiting grants
    abbrev newly : ℕ → ℕ → ℕ → Bool
    newly x y z = eqb x j && eqb z k && (t.used y && has_waiting (waits (t.aid y)) t.waiting)

    abbrev at : ℕ → ℕ → ℕ → Waiting → Bool
    at x y z w = eqb x w.callee && eqb y (holder L on w.caller) && eqb z (service_number L on w.callee w.tok)

    settled_bits : (x y z : ℕ) → (settled_all L due on).grants x y z ≡ t.grants x y z || newly x y z
    unfolding number_of
    settled_bits x y z =
        listed_is (now_granted L t j s) (λ w. w.callee) (λ w. holder L on w.caller) (λ w. service_number L on w.callee w.tok) due t.waiting ed t.grants x y z
        ∙ ap (λ (b : Bool). t.grants x y z || b) (T_eq (exists (λ w. now_granted L t j s w && at x y z w) t.waiting) (newly x y z) there back)
      where
        there : T (exists (λ w. now_granted L t j s w && at x y z w) t.waiting) → T (newly x y z)
        there h =
            let q = exists_in (λ w. now_granted L t j s w && at x y z w) t.waiting h in
            let w = q.0 in
            let n = and_l (now_granted L t j s w) (at x y z w) q.2 in
            let p = and_r (now_granted L t j s w) (at x y z w) q.2 in
            let xy = and_l (eqb x w.callee && eqb y (holder L t w.caller)) (eqb z (service_number L on w.callee w.tok)) p in
            let o = of_service_lem w (and_l (of_service j s w) (installed_aid L t w.caller) n) in
            let ex = eqb→eq x w.callee (and_l (eqb x w.callee) (eqb y (holder L t w.caller)) xy) in
            let ey = eqb→eq y (holder L t w.caller) (and_r (eqb x w.callee) (eqb y (holder L t w.caller)) xy) in
            let ez = eqb→eq z (service_number L on w.callee w.tok) (and_r (eqb x w.callee && eqb y (holder L t w.caller)) (eqb z (service_number L on w.callee w.tok)) p) in
            let d = is_due w y n (sym ey) in
            and_i (eqb x j && eqb z k) (t.used y && has_waiting (waits (t.aid y)) t.waiting)
            (and_i (eqb x j) (eqb z k) (eqb_of (ex ∙ o.0)) (eqb_of (ez ∙ (λ i. service_number L on (o.0 i) (o.1 i)) ∙ number)))
            (and_i (t.used y) (has_waiting (waits (t.aid y)) t.waiting) d.0 (waiting_has (in_cast d.1 q.1)))

        back : T (newly x y z) → T (exists (λ w. now_granted L t j s w && at x y z w) t.waiting)
        back h =
            let xz = and_l (eqb x j && eqb z k) (t.used y && has_waiting (waits (t.aid y)) t.waiting) h in
            let u = and_r (eqb x j && eqb z k) (t.used y && has_waiting (waits (t.aid y)) t.waiting) h in
            let w = waits (t.aid y) in
            let d = due_is y (and_l (t.used y) (has_waiting w t.waiting) u) in
            in_exists (λ w. now_granted L t j s w && at x y z w) (has_waiting_lem w t.waiting (and_r (t.used y) (has_waiting w t.waiting) u))
            (and_i (now_granted L t j s w) (at x y z w) d.0
            (and_i (eqb x j && eqb y (holder L t (t.aid y))) (eqb z (service_number L on j s))
            (and_i (eqb x j) (eqb y (holder L t (t.aid y))) (and_l (eqb x j) (eqb z k) xz) (eqb_of (sym d.1)))
            (eqb_of (eqb→eq z k (and_r (eqb x j) (eqb z k) xz) ∙ sym number))))

    -- the bits of the unmet calls
    abbrev call_at : ℕ → ℕ → ℕ → Unmet → Bool
    call_at x y z u = eqb x u.caller && eqb y j && eqb z (service_number L on j u.tok)

    met_bits : (x y z : ℕ) → (met_all L asking j on).calls x y z ≡ t.calls x y z || (eqb y j && eqb z k && has_unmet (record { callee = t.aid j; tok = s; caller = x }) t.unmet)
    met_bits x y z =
        listed_is (asks_for L t (t.aid j) s) (λ u. u.caller) (λ u. j) (λ u. service_number L on j u.tok) asking t.unmet ea t.calls x y z
        ∙ ap (λ (b : Bool). t.calls x y z || b) (T_eq (exists (λ u. asks_for L t (t.aid j) s u && call_at x y z u) t.unmet) (eqb y j && eqb z k && has_unmet call t.unmet) there back)
      where
        call : Unmet
        call = record { callee = t.aid j; tok = s; caller = x }

        there : T (exists (λ u. asks_for L t (t.aid j) s u && call_at x y z u) t.unmet) → T (eqb y j && eqb z k && has_unmet call t.unmet)
        there h =
            let q = exists_in (λ u. asks_for L t (t.aid j) s u && call_at x y z u) t.unmet h in
            let u = q.0 in
            let o = asked_so u (and_l (asks_for L t (t.aid j) s u) (call_at x y z u) q.2) in
            let p = and_r (asks_for L t (t.aid j) s u) (call_at x y z u) q.2 in
            let xy = and_l (eqb x u.caller && eqb y j) (eqb z (service_number L on j u.tok)) p in
            let ex = eqb→eq x u.caller (and_l (eqb x u.caller) (eqb y j) xy) in
            let ez = eqb→eq z (service_number L on j u.tok) (and_r (eqb x u.caller && eqb y j) (eqb z (service_number L on j u.tok)) p) in
            and_i (eqb y j && eqb z k) (has_unmet call t.unmet)
            (and_i (eqb y j) (eqb z k) (and_r (eqb x u.caller) (eqb y j) xy) (eqb_of (ez ∙ ap (service_number L on j) o.1 ∙ number)))
            (unmet_has (in_cast (λ i. record { callee = sym o.0 i; tok = sym o.1 i; caller = ex i }) q.1))

        back : T (eqb y j && eqb z k && has_unmet call t.unmet) → T (exists (λ u. asks_for L t (t.aid j) s u && call_at x y z u) t.unmet)
        back h =
            let yz = and_l (eqb y j && eqb z k) (has_unmet call t.unmet) h in
            in_exists (λ u. asks_for L t (t.aid j) s u && call_at x y z u) (has_unmet_lem call t.unmet (and_r (eqb y j && eqb z k) (has_unmet call t.unmet) h))
            (and_i (asks_for L t (t.aid j) s call) (call_at x y z call) (and_i (eq_aid (t.aid j) (t.aid j)) (eq_tok s s) (eq_aid_refl (t.aid j)) (eq_tok_refl s))
            (and_i (eqb x x && eqb y j) (eqb z (service_number L on j s)) (and_i (eqb x x) (eqb y j) (eqb_refl x) (and_l (eqb y j) (eqb z k) yz))
            (eqb_of (eqb→eq z k (and_r (eqb y j) (eqb z k) yz) ∙ sym number))))

    -- ---- the rows that stay
    abbrev then : Tables
    then = taken_in L j asking due asking due on

    stay_is : keep_rows due t.waiting ≡ keep stay t.waiting
    stay_is = ap (λ (m : ℕ). keep_rows m t.waiting) ed ∙ keep_mask (now_granted L t j s) t.waiting

    asked_is : keep_rows asking t.unmet ≡ keep (λ u. not (asks_for L t (t.aid j) s u)) t.unmet
    asked_is = ap (λ (m : ℕ). keep_rows m t.unmet) ea ∙ keep_mask (asks_for L t (t.aid j) s) t.unmet

    -- a caller that is not installed waits among them exactly if it did
    still_waits : (a : Aid) → not (installed_aid L t a || has_waiting (waits a) (keep stay t.waiting)) ≡ lone a
    still_waits a = go (installed_aid L t a) refl
      where
        go : (b : Bool) → installed_aid L t a ≡ b → not (b || has_waiting (waits a) (keep stay t.waiting)) ≡ not (b || has_waiting (waits a) t.waiting)
        go true e = refl
        go false e = ap not (same_has eq_waiting eq_waiting→ eq_waiting_refl (waits a) (keep stay t.waiting) t.waiting (λ m. (keep_in stay t.waiting m).0)
            (λ m. in_keep stay m (not_i (now_granted L t j s (waits a)) (λ h. false_T e (and_r (of_service j s (waits a)) (installed_aid L t a) h)))))

    abbrev left : ℕ
    left = mask_of (of_service j s) then.waiting

    lone_then : (a : Aid) → is_lone L left then a ≡ lone a
    unfolding number_of
    lone_then a = ap (λ (b : Bool). not (installed_aid L t a || b)) (waits_in_lem left then.waiting refl a ∙ ap (has_waiting (waits a)) stay_is) ∙ still_waits a

    pub room_then : (l : List Aid) → T (short_add_service L t j s l).waiting_fits → RoomFor L j s l (taken_in L j asking due asking due (opened j k s t))
    room_then l h = subst (λ (n : ℕ). n ≤ L.capacity)
        (sym (ap₂ (λ (x y : ℕ). x + y) (ap length stay_is) (λ i. count (λ a. lone_then a i) l))) (leb→le (count stay t.waiting + count lone l) L.capacity h)

    -- ---- the grants to the callers, each a bit or a row that waits
    abbrev bits_for : (ℕ → ℕ → ℕ → Bool) → (ℕ → Bool) → ℕ → ℕ → ℕ → Bool
    bits_for g e x y z = g x y z || (eqb x j && eqb z k && (t.used y && e y))

    -- the package with an AID, by its number
    caller_is : (a : Aid) (y : ℕ) (o : Option ℕ) → NumberIs t a o → or_else o false (eqb y) ≡ t.used y && eq_aid (t.aid y) a
    caller_is a y none h = sym (T_false (t.used y && eq_aid (t.aid y) a) (λ q. h y (and_l (t.used y) (eq_aid (t.aid y) a) q) (eq_aid→ (t.aid y) a (and_r (t.used y) (eq_aid (t.aid y) a) q))))
    caller_is a y (some i) h = T_eq (eqb y i) (t.used y && eq_aid (t.aid y) a)
        (λ q. let e = eqb→eq y i q in
        and_i (t.used y) (eq_aid (t.aid y) a) (subst (λ (z : ℕ). T (t.used z)) (sym e) h.0) (eq_aid_of (ap t.aid e ∙ h.1)))
        (λ q. eqb_of (formed.names.aid_inj y i (and_l (t.used y) (eq_aid (t.aid y) a) q) h.0 (eq_aid→ (t.aid y) a (and_r (t.used y) (eq_aid (t.aid y) a) q) ∙ sym h.1)))

    -- mask names rows of the list, and held is that a grant to an AID is one of them
    module _ (mask : ℕ) (held : Aid → Bool) where
      abbrev late : List Aid → List Aid
      late l = keep (λ a. not (installed_aid L t a || held a)) l

      abbrev Holds : List Waiting → Type 0
      Holds w = ((a : Aid) → some_listed (λ v. eq_aid v.caller a) mask 0 w ≡ held a) × ((n : ℕ) → length w ≤ n → bit mask n ≡ false)

      abbrev granted : List Aid → Tables → (ℕ → ℕ → ℕ → Bool) → List Waiting → Tables
      granted l v g w = with_grants (bits_for g (λ y. exists (eq_aid (t.aid y)) l)) (w ++ map waits (late l)) v

      holds_more : (w : List Waiting) (v : Waiting) → Holds w → Holds (w ++ (v ∷ []))
      holds_more w v h = (λ a. some_more (λ v. eq_aid v.caller a) mask w (v ∷ []) h.1 ∙ h.0 a, λ n p. h.1 n (omega (arith, length_snoc w v)))

      granted_to_lem : (l : List Aid) (v : Tables) (g : ℕ → ℕ → ℕ → Bool) (w : List Waiting) → v.used ≡ t.used → v.aid ≡ t.aid → Holds w
          → granted_to_each L mask j k s l (with_grants g w v) ≡ granted l v g w
      unfolding number_of
      granted_to_lem [] v g w eu ea h = λ i. with_grants (λ x y z. none_granted (eqb x j) (eqb z k) (t.used y) (g x y z) i) (sym (append-nil w) i) v
      granted_to_lem (a ∷ l) v g w eu ea h =
          (λ i. granted_to_each L mask j k s l (granted_at L mask j k s a (with_grants g w v) (same i)))
          ∙ go (number_of L t a) (number_is L t formed.names a) (held a) (h.0 a) (λ g w. granted_to_lem l v g w eu ea)
        where
          same : number_of L v a ≡ number_of L t a
          same = λ i. first (λ n. eu i n && eq_aid (ea i n) a) (upto L.packages)

          go : (o : Option ℕ) → NumberIs t a o → (b : Bool) → some_listed (λ v. eq_aid v.caller a) mask 0 w ≡ b
              → ((g : ℕ → ℕ → ℕ → Bool) (w : List Waiting) → Holds w → granted_to_each L mask j k s l (with_grants g w v) ≡ granted l v g w)
              → granted_to_each L mask j k s l (granted_at L mask j k s a (with_grants g w v) o)
              ≡ with_grants (bits_for g (λ y. eq_aid (t.aid y) a || exists (eq_aid (t.aid y)) l)) (w ++ map waits (cond (not (is_some o || b)) (a ∷ late l) (late l))) v
          go none p b e ih = ap (λ (z : Bool). granted_to_each L mask j k s l (with_grants g (cond z w (w ++ (waits a ∷ []))) v)) e ∙ by b
            where
              off : bits_for g (λ y. exists (eq_aid (t.aid y)) l) ≡ bits_for g (λ y. eq_aid (t.aid y) a || exists (eq_aid (t.aid y)) l)
              off = λ i x y z. g x y z || (eqb x j && eqb z k && row_off (t.used y) (eq_aid (t.aid y) a) (exists (eq_aid (t.aid y)) l) (caller_is a y none p) i)

              by : (b : Bool) → granted_to_each L mask j k s l (with_grants g (cond b w (w ++ (waits a ∷ []))) v)
                  ≡ with_grants (bits_for g (λ y. eq_aid (t.aid y) a || exists (eq_aid (t.aid y)) l)) (w ++ map waits (cond (not b) (a ∷ late l) (late l))) v
              by true = ih g w h ∙ (λ i. with_grants (off i) (w ++ map waits (late l)) v)
              by false = ih g (w ++ (waits a ∷ [])) (holds_more w (waits a) h) ∙ (λ i. with_grants (off i) (append_assoc w (waits a ∷ []) (map waits (late l)) i) v)
          go (some n) p b e ih = ih (put3 j n k true g) w h
              ∙ (λ i. with_grants (λ x y z. more_grants (eqb x j) (eqb y n) (eqb z k) (g x y z) (t.used y) (eq_aid (t.aid y) a) (exists (eq_aid (t.aid y)) l) (caller_is a y (some n) p) i)
              (w ++ map waits (late l)) v)

    -- the writes give the draft
    pub added_is : (l : List Aid) → added L asking due j k s l t ≡ (add_service_at L t j k s l).tables
    unfolding number_of service_of
    added_is l =
        granted_to_lem left (waits_in left then) l then then.grants then.waiting refl refl ((λ a. refl), mask_past (of_service j s) then.waiting left refl)
        ∙ (λ i. record {
          used = t.used;
          aid = t.aid;
          tok = put2 j k s t.tok;
          provides = put2 j k true t.provides;
          calls = λ x y z. met_bits x y z i;
          grants = λ x y z. (ap (λ (b : Bool). b || (eqb x j && eqb z k && (t.used y && exists (eq_aid (t.aid y)) l))) (settled_bits x y z)
              ∙ both_granted (t.grants x y z) (eqb x j && eqb z k) (t.used y) (has_waiting (waits (t.aid y)) t.waiting) (exists (eq_aid (t.aid y)) l)) i;
          needs = t.needs;
          unmet = asked_is i;
          waiting = stay_is i ++ map waits (keep (λ a. lone_then a i) l);
        })
