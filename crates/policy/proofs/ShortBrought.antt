-- Kinds 1 and 11: the short check says what the full look at the draft says.
use Prim.Native.Nat.{ℕ, ◌+◌}
use mathlib.Core.Path.{◌≡◌, refl, sym, ap, ◌∙◌, subst}
use mathlib.Core.Logic.{◌⊎◌, inl, inr}
use mathlib.Core.Bool.{Bool, true, false, not, ◌&&◌, ◌||◌, and-true}
use mathlib.Core.List.{List, ◌++◌, map}
use mathlib.Core.List.Memᴰ.{cast as in_cast}
use mathlib.Core.List.{Memᴰ as In}
use mathlib.Core.Option.{Option, none, some}
use lib.Dec.{T, eqb, eqb→eq, eqb_refl}
use lib.ListN.{length, length-append, length-map}
use Rattle.policy.specs.Lists.{implies, every, keep, first, upto, is_nil, is_some, or_else}
use Rattle.policy.specs.Contract.{Aid, eq_aid, Tok, eq_tok, Row, Contract, has_tok, has_row}
use Rattle.policy.specs.Layout.{Layout}
use Rattle.policy.specs.Record.{load, replace}
use Rattle.policy.specs.Tables.{Tables, Unmet, Waiting}
use Rattle.policy.specs.Lookup.{Place, service_at, numbers, places, number_of, service_of, server_of}
use Rattle.policy.specs.Draft.{Draft, Services, call_row, grant_row, has_waiting, not_served_on, left_by, dropped_by, new_services, load_at, look}
use Rattle.policy.specs.ShortCheck.{count, newcomer_rights, now_met, others_rights, short_load, own_rights, kept_rights, others_needs, short_replace}
use Rattle.policy.proofs.Sets.{T_eq, T_true, T_false, and_l, and_r, and_i, or_l, or_r, or_e, implies_i, implies_e, not_i, not_e, every_in, in_every, keep_ext, in_upto}
use Rattle.policy.proofs.Equal.{eq_aid→, eq_aid_of, row_path, has_tok_lem, tok_has, has_row_lem, row_has, has_waiting_lem, waiting_has}
use Rattle.policy.proofs.Put.{by_number}
use Rattle.policy.proofs.EveryBit.{BitIn, among, among_to, among_back}
use Rattle.policy.proofs.Formed.{grant_bit, Formed, Lawful, KindShort}
use Rattle.policy.proofs.Found.{NumberIs, ServerIs, number_is, server_is, same_place}
use Rattle.policy.proofs.Facts.{place_in, bit_in}
use Rattle.policy.proofs.BroughtNames.{Coming, on, dropped, gone, unmet_still, waits_still, waited_for, waits_new, left_off, brought_at, Brought, brought, tok_in, in_tok, new_lt, service_kept}
use Rattle.policy.proofs.BroughtBits.{CallIs, GrantIs, call_is, grant_is_lem}
use Rattle.policy.proofs.KindLoad.{in_order, load_is, load_reached}
use Rattle.policy.proofs.KindReplace.{none_waited, or_never, replace_reached}
use Rattle.policy.proofs.Short.{nil_append, none_kept, length_kept, left_count, none_left, look_is, fits_as}

-- ---- what the short check asks: each call of the contract on a service of the card is granted, by a bit or by a grant that waits; and so is each on services that stay
module _ (L : Layout) (t : Tables) (m : ℕ) (k : Contract) where
  abbrev to_it : ℕ → Tok → Waiting
  to_it y s = record { caller = k.aid; callee = y; tok = s }

  abbrev granted_at : Tok → Place → Bool
  granted_at s p = t.grants p.callee m p.service || has_waiting (to_it p.callee s) t.waiting

  abbrev right_of : Row → Option Place → Bool
  right_of r o = or_else o true (granted_at r.tok)

  abbrev its_rights : Bool
  its_rights = every (λ r. right_of r (server_of L t r)) k.calls

  abbrev kept_call : ℕ → ℕ → Bool
  kept_call x z = t.calls x m z && not (dropped_by L t k m z)

  abbrev kept_right : ℕ → ℕ → Bool
  kept_right x z = has_row (record { aid = t.aid x; tok = t.tok m z }) k.grants

  module _ (f : Formed L t) where
    -- the number is free: nothing is granted to it but by waiting grants, and nothing calls it
    module _ (free : T (t.used m) → ⊥) where
      pub newcomer_rights_lem : its_rights ≡ newcomer_rights L t k
      newcomer_rights_lem = λ i. every (λ r. or_else (server_of L t r) true (λ p. no_grant p i || has_waiting (to_it p.callee r.tok) t.waiting)) k.calls
        where
          no_grant : (p : Place) → t.grants p.callee m p.service ≡ false
          no_grant p = T_false (t.grants p.callee m p.service) (λ h. free (f.grants.by_used m p.callee p.service h))

      pub nothing_kept : kept_rights L t m k ≡ true
      nothing_kept = T_true (kept_rights L t m k) (in_every (λ x. every (test x) (places L)) (numbers L) (λ x _. in_every (test x) (places L)
          (λ z _. implies_i (kept_call x z) (kept_right x z) (λ q. absurd (free (f.names.prov_used m z (f.calls.of_prov x m z (and_l (t.calls x m z) (not (dropped_by L t k m z)) q))))))))
        where
          test : ℕ → ℕ → Bool
          test x z = implies (kept_call x z) (kept_right x z)

    -- the number is the package's: no grant to it waits for it alone
    pub own_rights_lem : T (t.used m) → t.aid m ≡ k.aid → its_rights ≡ own_rights L t m k
    own_rights_lem un an = λ i. every (λ r. same r (server_of L t r) (server_is L t f.names r) i) k.calls
      where
        same : (r : Row) (o : Option Place) → ServerIs t r o → right_of r o ≡ or_else o true (λ p. t.grants p.callee m p.service)
        same r none h = refl
        same r (some p) h =
            let w = to_it p.callee r.tok in
            sym (or_never (t.grants p.callee m p.service) (has_waiting w t.waiting)
            (λ x. f.waiting.wait_off w (has_waiting_lem w t.waiting x) m p.service un an h.0 h.2))

module _ (L : Layout) (t : Tables) (m : ℕ) (k : Contract) (now : Services) (new : Coming L t m k now) where
  abbrev names : Tables
  names = on L t m k now

  abbrev after : Tables
  after = (brought_at L t m k now).tables

  l : Brought L t m k now
  l = brought L t m k now new

  -- ---- a service of another AID is found afterwards where it was found before
  number_same : (b : Aid) → (b ≡ k.aid → ⊥) → number_of L names b ≡ number_of L t b
  unfolding number_of
  number_same b nb = λ i. first (λ n. same n i) (upto L.packages)
    where
      same : (n : ℕ) → (names.used n && eq_aid (names.aid n) b) ≡ (t.used n && eq_aid (t.aid n) b)
      same n = T_eq (names.used n && eq_aid (names.aid n) b) (t.used n && eq_aid (t.aid n) b)
          (by_number m (λ (x : ℕ). T (names.used x && eq_aid (names.aid x) b) → T (t.used x && eq_aid (t.aid x) b)) n
          (λ h. absurd (nb (sym (eq_aid→ (names.aid m) b (and_r (names.used m) (eq_aid (names.aid m) b) h)) ∙ l.aid_new)))
          (λ ne h. and_i (t.used n) (eq_aid (t.aid n) b) (l.used_back n ne (and_l (names.used n) (eq_aid (names.aid n) b) h))
          (subst (λ (x : Aid). T (eq_aid x b)) (l.aid_old n ne) (and_r (names.used n) (eq_aid (names.aid n) b) h))))
          (λ h. let u = and_l (t.used n) (eq_aid (t.aid n) b) h in
          and_i (names.used n) (eq_aid (names.aid n) b) (l.used_old n u)
          (subst (λ (x : Aid). T (eq_aid x b)) (sym (l.aid_kept n u)) (and_r (t.used n) (eq_aid (t.aid n) b) h)))

  service_same : (j : ℕ) (s : Tok) → (j ≡ m → ⊥) → service_of L names j s ≡ service_of L t j s
  unfolding service_of
  service_same j s ne = λ i. first (λ y. T_eq (names.provides j y) (t.provides j y) (l.prov_back j y ne) (l.prov_old j y ne) i && eq_tok (l.tok_old j y ne i) s) (upto L.services)

  -- a package with another AID has another number
  elsewhere : (j : ℕ) → T (t.used j) → (t.aid j ≡ k.aid → ⊥) → j ≡ m → ⊥
  elsewhere j u n e = n (ap t.aid e ∙ new.own_aid (subst (λ (z : ℕ). T (t.used z)) e u))

  server_same : (r : Row) → (r.aid ≡ k.aid → ⊥) → server_of L names r ≡ server_of L t r
  unfolding server_of
  server_same r nb = ap (λ (o : Option ℕ). or_else o none (place names)) (number_same r.aid nb) ∙ go (number_of L t r.aid) (number_is L t new.formed.names r.aid)
    where
      place : Tables → ℕ → Option Place
      place x j = or_else (service_of L x j r.tok) none (λ y. some (record { callee = j; service = y }))

      go : (o : Option ℕ) → NumberIs t r.aid o → or_else o none (place names) ≡ or_else o none (place t)
      go none h = refl
      go (some j) h = ap (λ (o : Option ℕ). or_else o none (λ y. some (record { callee = j; service = y }))) (service_same j r.tok (elsewhere j h.0 (λ e. nb (sym h.1 ∙ e))))

  -- so the same of the contract's rows are left off
  left_same : (rs : List Row) → ((r : Row) → In r rs → In r k.calls) → keep (not_served_on L names) rs ≡ keep (not_served_on L t) rs
  left_same rs h = keep_ext (not_served_on L names) (not_served_on L t) rs (λ r i. ap (λ (o : Option Place). not (is_some o)) (server_same r (new.lists.calls_other r (h r i))))

  -- ---- cause 8: the full look asks a grant for each call bit; the short one for the contract's, for those that it meets, and for those on services that stay
  abbrev full : Bool
  full = among L after.calls (grant_bit after)

  right : T full → (x y z : ℕ) → BitIn L x y z → CallIs L t m k now x y z → GrantIs L t m k now y x z
  right h x y z c i = (grant_is_lem L t m k now y x z).0 (among_to L after.calls (grant_bit after) h x y z c ((call_is L t m k now x y z).1 i))

  abbrev right_by : Unmet → Row
  right_by u = record { aid = t.aid u.caller; tok = u.tok }

  its : T full → T (its_rights L t m k)
  its h = in_every (λ r. right_of L t m k r (server_of L t r)) k.calls (λ r i. go r i (server_of L t r) (server_is L t new.formed.names r))
    where
      stands : (p : Place) (s : Tok) → (p.callee ≡ m → ⊥) → t.tok p.callee p.service ≡ s → GrantIs L t m k now p.callee m p.service → T (granted_at L t m k s p)
      stands p s ne e (GrantIs.own q _ _ _) = absurd (ne q)
      stands p s ne e (GrantIs.waited _ _ _ i) =
          or_r (t.grants p.callee m p.service) (has_waiting (to_it L t m k p.callee s) t.waiting) (waiting_has (in_cast (λ z. to_it L t m k p.callee (sym e z)) i))
      stands p s ne e (GrantIs.old _ g) = or_l (t.grants p.callee m p.service) (has_waiting (to_it L t m k p.callee s) t.waiting) g

      go : (r : Row) → In r k.calls → (o : Option Place) → ServerIs t r o → T (right_of L t m k r o)
      go r i none q = tt
      go r i (some p) q =
          let y = p.callee in
          let z = p.service in
          let b = place_in L t new.formed.names y z q.0 in
          let ne = elsewhere y (new.formed.names.prov_used y z q.0) (λ e. new.lists.calls_other r i (sym q.1 ∙ e)) in
          let s = service_kept L t m k now new y z q.0 (λ g. ne (eqb→eq y m (and_l (eqb y m) (dropped L t m k now z) g))) in
          stands p r.tok ne q.2 (right h m y z (new.number_lt, b.0, b.1) (CallIs.own refl (s.0, in_cast (s.1 ∙ row_path q.1 q.2) i)))

  others : T full → T (others_rights L t k)
  others h = in_every (λ u. implies (now_met L t k u) (has_row (right_by u) k.grants)) t.unmet (λ u i. implies_i (now_met L t k u) (has_row (right_by u) k.grants) (λ q.
      let c = eq_aid u.callee k.aid in
      let d = has_tok u.tok k.provides in
      let a : u.callee ≡ k.aid = eq_aid→ u.callee k.aid (and_l c d q) in
      let e : u.callee ≡ names.aid m = a ∙ sym l.aid_new in
      let f = in_tok L t m k now new (has_tok_lem u.tok k.provides (and_r c d q)) in
      let w = new.formed.unmet.off.off_used u i in
      let ne = elsewhere u.caller w (λ x. new.formed.unmet.unmet_other u i (a ∙ sym x)) in
      grants u f.0 f.2 (right h u.caller m f.0 (new.formed.names.used_lt u.caller w, new.number_lt, new_lt L t m k now new f.0 f.1)
      (CallIs.met ne refl f.1 (in_cast (λ x. record { callee = sym e x; tok = f.2 x; caller = u.caller }) i)))))
    where
      grants : (u : Unmet) (z : ℕ) → names.tok m z ≡ u.tok → GrantIs L t m k now m u.caller z → T (has_row (right_by u) k.grants)
      grants u z f (GrantIs.own e p v i) = row_has (in_cast (row_path refl (sym f)) i)
      grants u z f (GrantIs.waited n _ _ _) = absurd (n refl)
      grants u z f (GrantIs.old n _) = absurd (n refl)

  -- a kept call, by its bit
  kept_bit : (x z : ℕ) → T (kept_call L t m k x z) → T (t.calls x m z) × (T (gone L t m k now m z) → ⊥)
  kept_bit x z h = (
    and_l (t.calls x m z) (not (dropped L t m k now z)) h,
    λ g. not_e (dropped L t m k now z) (and_r (t.calls x m z) (not (dropped L t m k now z)) h) (and_r (eqb m m) (dropped L t m k now z) g),
  )

  kept : T full → T (kept_rights L t m k)
  kept h = in_every (λ x. every (test x) (places L)) (numbers L) (λ x _. in_every (test x) (places L) (λ z _. implies_i (kept_call L t m k x z) (kept_right L t m k x z) (λ q.
      let c = kept_bit x z q in
      let s = service_kept L t m k now new m z (new.formed.calls.of_prov x m z c.0) c.1 in
      grants x z (ap (λ (r : Row). r.tok) s.1) (right h x m z (bit_in L t new.formed.names new.formed.calls x m z c.0) (CallIs.old (new.formed.calls.other x m z c.0) c.1 c.0)))))
    where
      test : ℕ → ℕ → Bool
      test x z = implies (kept_call L t m k x z) (kept_right L t m k x z)

      grants : (x z : ℕ) → names.tok m z ≡ t.tok m z → GrantIs L t m k now m x z → T (kept_right L t m k x z)
      grants x z f (GrantIs.own e p v i) = row_has (in_cast (row_path refl (sym f)) i)
      grants x z f (GrantIs.waited n _ _ _) = absurd (n refl)
      grants x z f (GrantIs.old n _) = absurd (n refl)

  all_granted : Lawful t → T (its_rights L t m k) → T (others_rights L t k) → T (kept_rights L t m k) → (x y z : ℕ) → CallIs L t m k now x y z → GrantIs L t m k now y x z
  all_granted lawful a b c x y z (CallIs.own e h) = go (server_of L t r) (server_is L t new.formed.names r) (every_in (λ q. right_of L t m k q (server_of L t q)) k.calls a h.1)
    where
      r : Row
      r = service_at names y z

      ne : y ≡ m → ⊥
      ne q = new.lists.calls_other r h.1 (ap names.aid q ∙ l.aid_new)

      p : T (t.provides y z)
      p = l.prov_back y z ne h.0

      granted : (v w : ℕ) → y ≡ v → z ≡ w → T (t.grants v m w) ⊎ T (has_waiting (to_it L t m k v (names.tok y z)) t.waiting) → GrantIs L t m k now y x z
      granted v w ev ew (inl g) = GrantIs.old ne (subst (λ (i : ℕ). T (t.grants y i z)) (sym e) (subst (λ (i : ℕ). T (t.grants i m z)) (sym ev) (subst (λ (i : ℕ). T (t.grants v m i)) (sym ew) g)))
      granted v w ev ew (inr g) = GrantIs.waited ne e p (in_cast (λ i. to_it L t m k (ev i) (sym (l.tok_old y z ne) i)) (has_waiting_lem (to_it L t m k v (names.tok y z)) t.waiting g))

      go : (o : Option Place) → ServerIs t (service_at names y z) o → T (right_of L t m k (service_at names y z) o) → GrantIs L t m k now y x z
      go none q s = absurd (q y z p (sym (l.aid_old y ne)) (sym (l.tok_old y z ne)))
      go (some w) q s =
          let at = same_place L t new.formed.names y z w.callee w.service p q.0 (sym (l.aid_old y ne) ∙ sym q.1) (sym (l.tok_old y z ne) ∙ sym q.2) in
          granted w.callee w.service at.0 at.1 (or_e (t.grants w.callee m w.service) (has_waiting (to_it L t m k w.callee (names.tok y z)) t.waiting) s)
  all_granted lawful a b c x y z (CallIs.met n e p i) =
      let u = call_row x (service_at names m z) in
      let f = eq_aid u.callee k.aid in
      let d = has_tok u.tok k.provides in
      GrantIs.own e p (new.formed.unmet.off.off_used u i) (has_row_lem (right_by u) k.grants
      (implies_e (now_met L t k u) (has_row (right_by u) k.grants) (every_in (λ v. implies (now_met L t k v) (has_row (right_by v) k.grants)) t.unmet b i)
      (and_i f d (eq_aid_of l.aid_new) (tok_has (tok_in L t m k now new z p)))))
  all_granted lawful a b c x y z (CallIs.old n g h) = by_number m (λ (j : ℕ). (T (gone L t m k now j z) → ⊥) → T (t.calls x j z) → GrantIs L t m k now j x z) y own (λ ne g h. GrantIs.old ne (lawful x y z h)) g h
    where
      own : (T (gone L t m k now m z) → ⊥) → T (t.calls x m z) → GrantIs L t m k now m x z
      own g h =
          let s = service_kept L t m k now new m z (new.formed.calls.of_prov x m z h) g in
          let i = bit_in L t new.formed.names new.formed.calls x m z h in
          let stays = not_i (dropped L t m k now z) (λ d. g (and_i (eqb m m) (dropped L t m k now z) (eqb_refl m) d)) in
          let q = every_in (λ z. implies (kept_call L t m k x z) (kept_right L t m k x z)) (places L)
          (every_in (λ x. every (λ z. implies (kept_call L t m k x z) (kept_right L t m k x z)) (places L)) (numbers L) c (in_upto L.packages x i.0)) (in_upto L.services z i.2) in
          GrantIs.own refl s.0 (new.formed.calls.by_used x m z h) (in_cast (row_path refl (ap (λ (r : Row). r.tok) s.1))
          (has_row_lem (record { aid = t.aid x; tok = t.tok m z }) k.grants (implies_e (kept_call L t m k x z) (kept_right L t m k x z) q (and_i (t.calls x m z) (not (dropped L t m k now z)) h stays))))

  granted_same : Lawful t → full ≡ (its_rights L t m k && (others_rights L t k && kept_rights L t m k))
  granted_same lawful =
      let i = its_rights L t m k in
      let o = others_rights L t k in
      let r = kept_rights L t m k in
      T_eq full (i && (o && r))
      (λ h. and_i i (o && r) (its h) (and_i o r (others h) (kept h)))
      (λ h. among_back L after.calls (grant_bit after) (λ x y z c. (grant_is_lem L t m k now y x z).1
      (all_granted lawful (and_l i (o && r) h) (and_l o r (and_r i (o && r) h)) (and_r o r (and_r i (o && r) h)) x y z ((call_is L t m k now x y z).0 c))))

-- ---- kind 1
module _ (L : Layout) (t : Tables) (m : ℕ) (k : Contract) (new : Coming L t m k (in_order k.provides)) (free : T (t.used m) → ⊥) where
  abbrev now : Services
  now = in_order k.provides

  look_1 : Lawful t → look L (brought_at L t m k now) ≡ short_load L t k
  look_1 lawful = ap (look L) (sym is) ∙ look_is L (load_at L t m k)
      (ap (λ (d : Draft). among L d.tables.calls (grant_bit d.tables)) is ∙ granted_same L t m k now new lawful
      ∙ (λ i. newcomer_rights_lem L t m k new.formed free i && (others_rights L t k && nothing_kept L t m k new.formed free i)) ∙ ap (λ (b : Bool). newcomer_rights L t k && b) (and-true (others_rights L t k)))
      (ap (λ (rs : List Row). is_nil (map (call_row m) rs)) (left_same L t m k now new k.needs new.lists.needs_called) ∙ none_kept (λ r. is_some (server_of L t r)) (call_row m) k.needs)
      (fits_as L (length_kept (keep (λ u. not (now_met L t k u)) t.unmet) (call_row m) (keep (not_served_on L (on L t m k now)) k.calls)
      ∙ ap (λ (rs : List Row). count (λ u. not (now_met L t k u)) t.unmet + length rs) (left_same L t m k now new k.calls (λ r i. i))))
      (fits_as L (length_kept (keep (λ w. not (waited_for L t m k now w)) t.waiting) (grant_row m) (keep (waits_new L t m k now) k.grants)))
    where
      is : load_at L t m k ≡ brought_at L t m k now
      is = load_is L t m k new.formed free

pub short_1 : (p : List Tok) (c g n : List Row) → KindShort (load p c g n)
short_1 p c g n L t a formed lawful _ v pr =
    load_reached L t a p c g n (λ d k. look L d ≡ k) formed v.0.0 pr (λ m free _ new. look_1 L t m (record { aid = a; provides = p; calls = c; grants = g; needs = n }) new free.1 lawful)

-- ---- kind 11: no grant to the package waits for it
module _ (L : Layout) (t : Tables) (n : ℕ) (k : Contract) (now : Services) (new : Coming L t n k now) (un : T (t.used n)) where
  an : t.aid n ≡ k.aid
  an = new.own_aid un

  look_11 : Lawful t → look L (brought_at L t n k now) ≡ short_replace L t n k
  look_11 lawful = look_is L (brought_at L t n k now)
      (granted_same L t n k now new lawful ∙ ap (λ (b : Bool). b && (others_rights L t k && kept_rights L t n k)) (own_rights_lem L t n k new.formed un an))
      (nil_append (left_off L t n k now k.needs) (left_by L t t.needs n (dropped L t n k now))
      ∙ (λ i. is_nil (map (call_row n) (left_same L t n k now new k.needs new.lists.needs_called i)) && none_left L t t.needs n (dropped L t n k now) i)
      ∙ ap (λ (b : Bool). b && others_needs L t n k) (none_kept (λ r. is_some (server_of L t r)) (call_row n) k.needs))
      (fits_as L (length-append (keep still t.unmet) (left_off L t n k now k.calls ++ left_by L t t.calls n (dropped L t n k now))
      ∙ ap (λ (x : ℕ). count still t.unmet + x) (length-append (left_off L t n k now k.calls) (left_by L t t.calls n (dropped L t n k now))
      ∙ (λ i. length-map (left_same L t n k now new k.calls (λ r i. i) i) (call_row n) i + left_count L t t.calls n (dropped L t n k now) i))))
      (fits_as L (length_kept (keep (waits_still L t n k now) t.waiting) (grant_row n) (keep (waits_new L t n k now) k.grants)
      ∙ (λ i. length (keep_ext (waits_still L t n k now) (λ w. not (eqb w.callee n)) t.waiting
      (λ w h. sym (λ x. not (or_never (eqb w.callee n) (waited_for L t n k now w) (none_waited L t n k new.formed un an w h) x))) i)
      + count (waits_new L t n k now) k.grants)))
    where
      still : Unmet → Bool
      still = unmet_still L t n k now

pub short_11 : (p : List Tok) (c g n : List Row) → KindShort (replace p c g n)
short_11 p c g n L t a formed lawful _ v pr =
    replace_reached L t a p c g n (λ d k. look L d ≡ k) formed v.0.0 pr
    (λ i u e new. look_11 L t i (record { aid = a; provides = p; calls = c; grants = g; needs = n }) (new_services L t i (record { aid = a; provides = p; calls = c; grants = g; needs = n })) new u lawful)
