-- What kinds 1 and 11 share: the tables with a contract brought are formed, and the needs that it leaves unmet are not on the card.
use Prim.Native.Nat.{ℕ}
use mathlib.Core.Path.{◌≡◌, refl, sym, ap, ◌∙◌, subst}
use mathlib.Core.Bool.{Bool, ◌||◌}
use mathlib.Core.List.{List, ◌++◌, map}
use mathlib.Core.List.Memᴰ.{cast as in_cast}
use mathlib.Core.List.{Memᴰ as In}
use mathlib.Core.Option.{Option, none, some}
use lib.Dec.{T, eqb}
use Rattle.policy.specs.Lists.{keep, is_some, NoRepeat}
use Rattle.policy.specs.Contract.{eq_aid, Row, Contract, has_tok, valid_aid}
use Rattle.policy.specs.Layout.{Layout}
use Rattle.policy.specs.Tables.{Tables, Unmet, Waiting}
use Rattle.policy.specs.Lookup.{number_of, service_of, server_of, service_at}
use Rattle.policy.specs.Draft.{Services, call_row, grant_row, not_served_on, left_by}
use Rattle.policy.proofs.Sets.{and_i, or_l, or_r, not_e, none_to, keep_in, once_keep, once_map, each_map_keep, once_append, each_append}
use Rattle.policy.proofs.Equal.{eq_aid_of, eqb_of, tok_has}
use Rattle.policy.proofs.Put.{by_number}
use Rattle.policy.proofs.Formed.{Names, Bits, Off, UnmetRows, WaitingRows, grant_bit, Formed}
use Rattle.policy.proofs.Found.{NumberIs, ServiceIs, ServerIs, number_is, service_is, server_is}
use Rattle.policy.proofs.Facts.{need_bits}
use Rattle.policy.proofs.Dropped.{left_in, once_left}
use Rattle.policy.proofs.BroughtNames.{Coming, on, dropped, now_met, waited_for, unmet_still, waits_still, left_off, both_there, waits_new, brought_at, Brought, brought, tok_in, service_kept, dropped_out, names_brought}
use Rattle.policy.proofs.BroughtBits.{CallIs, GrantIs, NeedIs, call_is, grant_is_lem, need_is}

module _ (L : Layout) (t : Tables) (m : ℕ) (k : Contract) (now : Services) where
  abbrev names : Tables
  names = on L t m k now

  abbrev after : Tables
  after = (brought_at L t m k now).tables

  -- the rows that bits on dropped services leave
  abbrev left : (ℕ → ℕ → ℕ → Bool) → List Unmet
  left b = left_by L t b m (dropped L t m k now)

  -- what each row that it leaves off, and each grant of it that waits, satisfies
  pub each_left : (P : Unmet → Type 0) (l : List Row) → ((r : Row) → In r l → T (not_served_on L names r) → P (call_row m r)) → (u : Unmet) → In u (left_off L t m k now l) → P u
  each_left P l = each_map_keep (call_row m) P (not_served_on L names) l

  each_waits : (P : Waiting → Type 0) → ((r : Row) → In r k.grants → T (waits_new L t m k now r) → P (grant_row m r))
      → (w : Waiting) → In w (map (grant_row m) (keep (waits_new L t m k now) k.grants)) → P w
  each_waits P = each_map_keep (grant_row m) P (waits_new L t m k now) k.grants

  module _ (new : Coming L t m k now) (valid : T (valid_aid k.aid)) where
    l : Brought L t m k now
    l = brought L t m k now new

    pub names_on : Names L names.used names.aid names.tok names.provides
    names_on = names_brought L t m k now new valid

    not_served : (r : Row) → T (not_served_on L names r) → ServerIs names r none
    not_served r = none_to (ServerIs names r) (server_of L names r) (server_is L names names_on r)

    -- a row that stays is of another package
    pub by_other_lem : (u : Unmet) → T (unmet_still L t m k now u) → u.caller ≡ m → ⊥
    by_other_lem u s e = not_e (eqb u.caller m || now_met L t m k now u) s (or_l (eqb u.caller m) (now_met L t m k now u) (eqb_of e))

    not_met : (u : Unmet) → T (unmet_still L t m k now u) → T (now_met L t m k now u) → ⊥
    not_met u s h = not_e (eqb u.caller m || now_met L t m k now u) s (or_r (eqb u.caller m) (now_met L t m k now u) h)

    pub of_other_lem : (w : Waiting) → T (waits_still L t m k now w) → w.callee ≡ m → ⊥
    of_other_lem w s e = not_e (eqb w.callee m || waited_for L t m k now w) s (or_l (eqb w.callee m) (waited_for L t m k now w) (eqb_of e))

    -- a grant of the contract that waits: its caller is not installed, or its service is not one of the contract's
    not_there : (r : Row) → T (waits_new L t m k now r) → (n : ℕ) → T (t.used n) → t.aid n ≡ r.aid → (y : ℕ) → T (names.provides m y) → names.tok m y ≡ r.tok → ⊥
    not_there r s n u e y p q = not_e (both_there L t m k now r) s (and_i (is_some (number_of L t r.aid)) (has_tok r.tok k.provides)
        (go (number_of L t r.aid) (number_is L t new.formed.names r.aid)) (tok_has (in_cast (sym q) (tok_in L t m k now new y p))))
      where
        go : (o : Option ℕ) → NumberIs t r.aid o → T (is_some o)
        go none h = h n u e
        go (some i) h = tt

    -- a grant to the package that still waits: its service is not there
    not_provided : (w : Waiting) → T (waits_still L t m k now w) → w.caller ≡ k.aid → (y : ℕ) → T (t.provides w.callee y) → t.tok w.callee y ≡ w.tok → ⊥
    not_provided w s e y p q = not_e (eqb w.callee m || waited_for L t m k now w) s (or_r (eqb w.callee m) (waited_for L t m k now w)
        (and_i (eq_aid w.caller k.aid) (is_some (service_of L t w.callee w.tok)) (eq_aid_of e)
        (go (service_of L t w.callee w.tok) (service_is L t new.formed.names w.callee w.tok))))
      where
        go : (o : Option ℕ) → ServiceIs t w.callee w.tok o → T (is_some o)
        go none h = h y p q
        go (some z) h = tt

    -- ---- bits
    used_m : {x : ℕ} → x ≡ m → T (names.used x)
    used_m e = subst (λ (z : ℕ). T (names.used z)) (sym e) l.used_new

    calls_bits : Bits names.used names.provides after.calls
    calls_bits = record {
      by_used = λ x y z h. by x y z ((call_is L t m k now x y z).0 h);
      of_prov = λ x y z h. of x y z ((call_is L t m k now x y z).0 h);
      other = λ x y z h. other x y z ((call_is L t m k now x y z).0 h);
    }
      where
        by : (x y z : ℕ) → CallIs L t m k now x y z → T (names.used x)
        by x y z (CallIs.own e h) = used_m e
        by x y z (CallIs.met n e h i) = l.used_old x (new.formed.unmet.off.off_used (call_row x (service_at names m z)) i)
        by x y z (CallIs.old n g h) = l.used_old x (new.formed.calls.by_used x y z h)

        of : (x y z : ℕ) → CallIs L t m k now x y z → T (names.provides y z)
        of x y z (CallIs.own e h) = h.0
        of x y z (CallIs.met n e h i) = subst (λ (j : ℕ). T (names.provides j z)) (sym e) h
        of x y z (CallIs.old n g h) = (service_kept L t m k now new y z (new.formed.calls.of_prov x y z h) g).0

        other : (x y z : ℕ) → CallIs L t m k now x y z → x ≡ y → ⊥
        other x y z (CallIs.own e h) q = new.lists.calls_other (service_at names y z) h.1 (ap names.aid (sym q ∙ e) ∙ l.aid_new)
        other x y z (CallIs.met n e h i) q = n (q ∙ e)
        other x y z (CallIs.old n g h) q = new.formed.calls.other x y z h q

    grants_bits : Bits names.used names.provides (grant_bit after)
    grants_bits = record {
      by_used = λ x y z h. by x y z ((grant_is_lem L t m k now y x z).0 h);
      of_prov = λ x y z h. of x y z ((grant_is_lem L t m k now y x z).0 h);
      other = λ x y z h. other x y z ((grant_is_lem L t m k now y x z).0 h);
    }
      where
        by : (x y z : ℕ) → GrantIs L t m k now y x z → T (names.used x)
        by x y z (GrantIs.own e h u i) = l.used_old x u
        by x y z (GrantIs.waited n e p i) = used_m e
        by x y z (GrantIs.old n h) = l.used_old x (new.formed.grants.by_used x y z h)

        of : (x y z : ℕ) → GrantIs L t m k now y x z → T (names.provides y z)
        of x y z (GrantIs.own e h u i) = subst (λ (j : ℕ). T (names.provides j z)) (sym e) h
        of x y z (GrantIs.waited n e p i) = l.prov_old y z n p
        of x y z (GrantIs.old n h) = l.prov_old y z n (new.formed.grants.of_prov x y z h)

        other : (x y z : ℕ) → GrantIs L t m k now y x z → x ≡ y → ⊥
        other x y z (GrantIs.own e h u i) q = new.lists.grants_other (record { aid = t.aid x; tok = names.tok m z }) i (sym (l.aid_kept x u) ∙ ap names.aid (q ∙ e) ∙ l.aid_new)
        other x y z (GrantIs.waited n e p i) q = n (sym q ∙ e)
        other x y z (GrantIs.old n h) q = new.formed.grants.other x y z h q

    need_call : (x y z : ℕ) → T (after.needs x y z) → T (after.calls x y z)
    need_call x y z h = (call_is L t m k now x y z).1 (go ((need_is L t m k now x y z).0 h))
      where
        go : NeedIs L t m k now x y z → CallIs L t m k now x y z
        go (NeedIs.own e h) = CallIs.own e (h.0, new.lists.needs_called (service_at names y z) h.1)
        go (NeedIs.old n g h) = CallIs.old n g (new.formed.need_call x y z h)

    -- ---- rows on services that are not there: the contract's, and those that bits on dropped services leave
    module _ (b : ℕ → ℕ → ℕ → Bool) (bits : Bits t.used t.provides b) where
      pub each_lost : (P : Unmet → Type 0) (rs : List Row) → ((r : Row) → In r rs → T (not_served_on L names r) → P (call_row m r))
          → ((i z : ℕ) → T (b i m z) → T (dropped L t m k now z) → P (call_row i (service_at t m z))) → (u : Unmet) → In u (left_off L t m k now rs ++ left b) → P u
      each_lost P rs f g = each_append {P = P} (left_off L t m k now rs) (left b) (each_left P rs f)
          (λ u h. let p = left_in L t new.formed.names m (dropped L t m k now) b bits h in subst P (sym p.4) (g p.0 p.1 p.2 p.3))

      -- a dropped service is not on the card
      off_dropped : (i z : ℕ) → T (b i m z) → T (dropped L t m k now z) → (j y : ℕ) → T (names.provides j y) → names.aid j ≡ t.aid m → names.tok j y ≡ t.tok m z → ⊥
      off_dropped i z h d j y p e f =
          let um = new.formed.names.prov_used m z (bits.of_prov i m z h) in
          let ej : j ≡ m = names_on.aid_inj j m (names_on.prov_used j y p) l.used_new (e ∙ sym (l.aid_kept m um)) in
          dropped_out L t m k now new z d (in_cast (sym f ∙ ap (λ (x : ℕ). names.tok x y) ej) (tok_in L t m k now new y (subst (λ (x : ℕ). T (names.provides x y)) ej p)))

      pub lost_off : (rs : List Row) → Off names.used names.aid names.tok names.provides (left_off L t m k now rs ++ left b)
      lost_off rs = record {
        off_used = each_lost (λ (u : Unmet). T (names.used u.caller)) rs (λ r i s. l.used_new) (λ i z h d. l.used_old i (bits.by_used i m z h));
        off_card = each_lost (λ (u : Unmet). (j y : ℕ) → T (names.provides j y) → names.aid j ≡ u.callee → names.tok j y ≡ u.tok → ⊥) rs (λ r i s. not_served r s) off_dropped;
      }

      once_lost : (rs : List Row) → NoRepeat rs → NoRepeat (left_off L t m k now rs ++ left b)
      once_lost rs once = once_append (left_off L t m k now rs) (left b)
          (once_map (call_row m) (keep (not_served_on L names) rs) (λ r r' i j e. λ x. record { aid = (e x).callee; tok = (e x).tok }) (once_keep (not_served_on L names) rs once))
          (once_left L t new.formed.names m (dropped L t m k now) b bits)
          (λ u i j. let p = left_in L t new.formed.names m (dropped L t m k now) b bits j in
          bits.other p.0 m p.1 p.2 (sym (ap (λ (v : Unmet). v.caller) p.4) ∙ each_left (λ (v : Unmet). v.caller ≡ m) rs (λ r i s. refl) u i))

    -- a property of every row of a list: of the old rows that stay, of the contract's, and of those left by bits
    pub each_unmet : (P : Unmet → Type 0) → ((u : Unmet) → In u t.unmet → T (unmet_still L t m k now u) → P u)
        → ((r : Row) → In r k.calls → T (not_served_on L names r) → P (call_row m r))
        → ((i z : ℕ) → T (t.calls i m z) → T (dropped L t m k now z) → P (call_row i (service_at t m z))) → (u : Unmet) → In u after.unmet → P u
    each_unmet P f g h = each_append {P = P} (keep (unmet_still L t m k now) t.unmet) (left_off L t m k now k.calls ++ left t.calls)
        (λ u i. let q = keep_in (unmet_still L t m k now) t.unmet i in f u q.0 q.1) (each_lost t.calls new.formed.calls P k.calls g h)

    pub each_waiting : (P : Waiting → Type 0) → ((w : Waiting) → In w t.waiting → T (waits_still L t m k now w) → P w)
        → ((r : Row) → In r k.grants → T (waits_new L t m k now r) → P (grant_row m r)) → (w : Waiting) → In w after.waiting → P w
    each_waiting P f g = each_append {P = P} (keep (waits_still L t m k now) t.waiting) (map (grant_row m) (keep (waits_new L t m k now) k.grants))
        (λ w i. let q = keep_in (waits_still L t m k now) t.waiting i in f w q.0 q.1) (each_waits P g)

    -- rows that name valid AIDs
    abbrev ValidRows : List Row → Type 0
    ValidRows l = (r : Row) → In r l → T (valid_aid r.aid)

    unmet_rows : ValidRows k.calls → UnmetRows names.used names.aid names.tok names.provides after.unmet
    unmet_rows v =
        let old = new.formed.unmet in
        let off = lost_off t.calls new.formed.calls k.calls in
        let still = unmet_still L t m k now in
        let more = left_off L t m k now k.calls ++ left t.calls in
        record {
          off = record {
            off_used = each_append {P = λ u. T (names.used u.caller)} (keep still t.unmet) more (λ u i. l.used_old u.caller (old.off.off_used u (keep_in still t.unmet i).0)) off.off_used;
            off_card = each_append {P = λ u. (j y : ℕ) → T (names.provides j y) → names.aid j ≡ u.callee → names.tok j y ≡ u.tok → ⊥} (keep still t.unmet) more
                (λ u i j y. let q = keep_in still t.unmet i in
                by_number m (λ (x : ℕ). T (names.provides x y) → names.aid x ≡ u.callee → names.tok x y ≡ u.tok → ⊥) j
                (λ p e f. not_met u q.1 (and_i (eq_aid u.callee k.aid) (has_tok u.tok k.provides) (eq_aid_of (sym e ∙ l.aid_new)) (tok_has (in_cast (sym f) (tok_in L t m k now new y p)))))
                (λ h p e f. old.off.off_card u q.0 j y (l.prov_back j y h p) (sym (l.aid_old j h) ∙ e) (sym (l.tok_old j y h) ∙ f)))
                off.off_card;
          };
          unmet_valid = each_unmet (λ (u : Unmet). T (valid_aid u.callee)) (λ u i s. old.unmet_valid u i) (λ r i s. v r i)
              (λ i z h d. new.formed.names.aid_valid m (new.formed.names.prov_used m z (new.formed.calls.of_prov i m z h)));
          unmet_other = each_unmet (λ (u : Unmet). u.callee ≡ names.aid u.caller → ⊥)
              (λ u i s e. old.unmet_other u i (e ∙ l.aid_kept u.caller (old.off.off_used u i)))
              (λ r i s e. new.lists.calls_other r i (e ∙ l.aid_new))
              (λ i z h d e.
              let ui = new.formed.calls.by_used i m z h in
              let um = new.formed.names.prov_used m z (new.formed.calls.of_prov i m z h) in
              new.formed.calls.other i m z h (new.formed.names.aid_inj i m ui um (sym (e ∙ l.aid_kept i ui))));
          unmet_once = once_append (keep still t.unmet) more
              (once_keep still t.unmet old.unmet_once)
              (once_lost t.calls new.formed.calls k.calls new.lists.sets.calls)
              (λ u i j. let q = keep_in still t.unmet i in
              each_lost t.calls new.formed.calls (λ (v : Unmet). u ≡ v → ⊥) k.calls
              (λ r _ _ e. by_other_lem u q.1 (ap (λ (v : Unmet). v.caller) e))
              (λ x z h d e. old.off.off_card u q.0 m z (new.formed.calls.of_prov x m z h) (sym (ap (λ (v : Unmet). v.callee) e)) (sym (ap (λ (v : Unmet). v.tok) e))) u j refl);
        }

    waiting_rows : ValidRows k.grants → WaitingRows names.used names.aid names.tok names.provides after.waiting
    waiting_rows v =
        let old = new.formed.waiting in
        let still = waits_still L t m k now in
        record {
          wait_valid = each_waiting (λ (w : Waiting). T (valid_aid w.caller)) (λ w i s. old.wait_valid w i) (λ r i s. v r i);
          wait_used = each_waiting (λ (w : Waiting). T (names.used w.callee)) (λ w i s. l.used_old w.callee (old.wait_used w i)) (λ r i s. l.used_new);
          wait_other = each_waiting (λ (w : Waiting). w.caller ≡ names.aid w.callee → ⊥)
              (λ w i s e. old.wait_other w i (e ∙ l.aid_old w.callee (of_other_lem w s))) (λ r i s e. new.lists.grants_other r i (e ∙ l.aid_new));
          wait_off = each_waiting (λ (w : Waiting). (n y : ℕ) → T (names.used n) → names.aid n ≡ w.caller → T (names.provides w.callee y) → names.tok w.callee y ≡ w.tok → ⊥)
              (λ w i s n y u e p q.
              let p' = l.prov_back w.callee y (of_other_lem w s) p in
              let q' = sym (l.tok_old w.callee y (of_other_lem w s)) ∙ q in
              by_number m (λ (x : ℕ). T (names.used x) → names.aid x ≡ w.caller → ⊥) n
              (λ u e. not_provided w s (sym e ∙ l.aid_new) y p' q')
              (λ h u e. old.wait_off w i n y (l.used_back n h u) (sym (l.aid_old n h) ∙ e) p' q') u e)
              (λ r i s n y u e p q. by_number m (λ (x : ℕ). T (names.used x) → names.aid x ≡ r.aid → ⊥) n
              (λ u e. new.lists.grants_other r i (sym e ∙ l.aid_new))
              (λ h u e. not_there r s n (l.used_back n h u) (sym (l.aid_old n h) ∙ e) y p q) u e);
          wait_once = once_append (keep still t.waiting) (map (grant_row m) (keep (waits_new L t m k now) k.grants))
              (once_keep still t.waiting old.wait_once)
              (once_map (grant_row m) (keep (waits_new L t m k now) k.grants) (λ r r' i j e. λ x. record { aid = (e x).caller; tok = (e x).tok }) (once_keep (waits_new L t m k now) k.grants new.lists.sets.grants))
              (λ w i j. of_other_lem w (keep_in still t.waiting i).1 (each_waits (λ (w : Waiting). w.callee ≡ m) (λ r i s. refl) w j));
        }

    pub brought_formed : ValidRows k.calls → ValidRows k.grants → Formed L after
    brought_formed vc vg = record
        { names = names_on; calls = calls_bits; grants = grants_bits; need_call = need_call; unmet = unmet_rows vc; waiting = waiting_rows vg }

    pub brought_lost : Off names.used names.aid names.tok names.provides (brought_at L t m k now).lost
    brought_lost = lost_off t.needs (need_bits L t new.formed) k.needs
