-- What kinds 1 and 11 share: the package of number m has the contract that was brought, and the others keep theirs.
use Prim.Native.Nat.{ℕ}
use mathlib.Core.Path.{◌≡◌, refl, sym, ap, ◌∙◌, subst}
use mathlib.Core.Logic.Iff
use mathlib.Core.Logic.{◌⊎◌, inl, inr, ◌↔◌}
use mathlib.Core.Bool.{Bool, false, not, ◌&&◌, ◌||◌}
use mathlib.Core.List.{List, [], ◌++◌, map}
use mathlib.Core.List.Memᴰ.{not-nil as in_nil}
use mathlib.Core.List.{Memᴰ as In}
use mathlib.Core.List.Memᴰ.{append_left as in_left}
use mathlib.Core.List.Memᴰ.{append_right as in_right}
use mathlib.Core.List.Memᴰ.{cast as in_cast}
use mathlib.Core.Option.{Option, none, some}
use lib.Dec.{T, eqb, eqb→eq}
use Rattle.policy.specs.Lists.{keep, is_some}
use Rattle.policy.specs.Contract.{eq_aid, Tok, Row, Contract, has_tok, valid_aid}
use Rattle.policy.specs.Layout.{Layout}
use Rattle.policy.specs.Tables.{Tables, Unmet, Waiting}
use Rattle.policy.specs.Lookup.{Place, service_at, wanted, number_of, service_of, server_of}
use Rattle.policy.specs.Draft.{Services, call_row, grant_row, not_served_on, left_by}
use Rattle.policy.proofs.Sets.{and_l, and_r, or_e, test, not_i, in_keep, in_map}
use Rattle.policy.proofs.Equal.{eq_aid→, row_path, has_tok_lem}
use Rattle.policy.proofs.Formed.{Bits, ProvidesAt, at, RowAt, GrantAt, HasContract}
use Rattle.policy.proofs.Found.{NumberIs, ServiceIs, ServerIs, number_is, service_is, server_is}
use Rattle.policy.proofs.Facts.{provides_kept, row_cases, need_bits}
use Rattle.policy.proofs.Dropped.{in_left_by}
use Rattle.policy.proofs.BroughtNames.{Coming, on, dropped, gone, now_met, waited_for, unmet_still, waits_still, left_off, both_there, waits_new, brought_at, Brought, brought, tok_in, in_tok, service_kept}
use Rattle.policy.proofs.BroughtBits.{Named, CallIs, GrantIs, NeedIs, call_is, grant_is_lem, need_is}
use Rattle.policy.proofs.BroughtFormed.{each_lost, names_on, each_unmet, each_waiting, of_other_lem, by_other_lem}

module _ (L : Layout) (t : Tables) (m : ℕ) (k : Contract) (now : Services) (new : Coming L t m k now) (valid : T (valid_aid k.aid)) where
  abbrev names : Tables
  names = on L t m k now

  abbrev after : Tables
  after = (brought_at L t m k now).tables

  abbrev lost : List Unmet
  lost = (brought_at L t m k now).lost

  abbrev left : (ℕ → ℕ → ℕ → Bool) → List Unmet
  left b = left_by L t b m (dropped L t m k now)

  l : Brought L t m k now
  l = brought L t m k now new

  -- ---- the contract's calls and needs: a bit where the service is on the card, else a row
  rows_new : (rs : List Row) (b : ℕ → ℕ → ℕ → Bool) (us : List Unmet) → ((y z : ℕ) → T (b m y z) ↔ Named L t m k now rs y z)
      → ((r : Row) → In (call_row m r) (left_off L t m k now rs) → In (call_row m r) us) → ((r : Row) → In (call_row m r) us → In r rs) → (r : Row) → In r rs ↔ RowAt after b us m r
  rows_new rs b us bits rows own r = (
    (λ i. to i (server_of L names r) (server_is L names (names_on L t m k now new valid) r) (λ s. rows r (in_map (call_row m) (in_keep (not_served_on L names) i s)))),
    row_cases (λ y z h e. in_cast e ((bits y z).0 h).1) (own r),
  )
    where
      to : In r rs → (o : Option Place) → ServerIs names r o → (T (not (is_some o)) → In (call_row m r) us) → RowAt after b us m r
      to i none h f = RowAt.row (f tt)
      to i (some p) h f =
          let e : service_at names p.callee p.service ≡ r = row_path h.1 h.2 in
          RowAt.bit p.callee p.service ((bits p.callee p.service).1 (h.0, in_cast e i)) (sym e)

  -- a row of number m is one of the contract's
  row_of : {r s : Row} → call_row m r ≡ call_row m s → r ≡ s
  row_of e = row_path (ap (λ (u : Unmet). u.callee) e) (ap (λ (u : Unmet). u.tok) e)

  grants_new : (r : Row) → In r k.grants ↔ GrantAt after m r
  grants_new r = (
    (λ i. to i (number_of L t r.aid) (number_is L t new.formed.names r.aid) (test (has_tok r.tok k.provides))
        (λ s. in_right (keep (waits_still L t m k now) t.waiting) (in_map (grant_row m) (in_keep (waits_new L t m k now) i (not_i (both_there L t m k now r) s))))),
    back,
  )
    where
      to : In r k.grants → (o : Option ℕ) → NumberIs t r.aid o → T (has_tok r.tok k.provides) ⊎ (T (has_tok r.tok k.provides) → ⊥)
          → ((T (is_some o && has_tok r.tok k.provides) → ⊥) → In (grant_row m r) after.waiting) → GrantAt after m r
      to i none h c f = GrantAt.row (f (λ x. x))
      to i (some x) h (inr c) f = GrantAt.row (f c)
      to i (some x) h (inl c) f =
          let q = in_tok L t m k now new (has_tok_lem r.tok k.provides c) in
          GrantAt.bit x q.0 ((grant_is_lem L t m k now m x q.0).1 (GrantIs.own refl q.1 h.0 (in_cast (row_path h.1 q.2) i)))
          (sym h.1 ∙ sym (l.aid_kept x h.0)) (sym q.2)

      bits : (x z : ℕ) → r.aid ≡ names.aid x → r.tok ≡ names.tok m z → GrantIs L t m k now m x z → In r k.grants
      bits x z e f (GrantIs.own q p u i) = in_cast (row_path (e ∙ l.aid_kept x u) f) i
      bits x z e f (GrantIs.waited n q p i) = absurd (n refl)
      bits x z e f (GrantIs.old n h) = absurd (n refl)

      back : GrantAt after m r → In r k.grants
      back (GrantAt.bit x z h e f) = bits x z e f ((grant_is_lem L t m k now m x z).0 h)
      back (GrantAt.row i) =
          each_waiting L t m k now new valid (λ (v : Waiting). grant_row m r ≡ v → In r k.grants)
          (λ v j s e. absurd (of_other_lem L t m k now new valid v s (sym (ap (λ (x : Waiting). x.callee) e))))
          (λ s j n e. in_cast (row_path (ap (λ (x : Waiting). x.caller) e) (ap (λ (x : Waiting). x.tok) e)) j) (grant_row m r) i refl

  pub has_new : HasContract after lost m k
  has_new = record {
    aid = sym l.aid_new;
    provides = λ s. ((λ i. let q = in_tok L t m k now new i in at q.0 q.1 (sym q.2)), back);
    calls = rows_new k.calls after.calls after.unmet calls_named
        (λ r i. in_right (keep (unmet_still L t m k now) t.unmet) (in_left (left t.calls) i))
        (λ r i. each_unmet L t m k now new valid (λ (u : Unmet). call_row m r ≡ u → In r k.calls)
        (λ u _ s e. absurd (by_other_lem L t m k now new valid u s (sym (ap (λ (v : Unmet). v.caller) e))))
        (λ s j _ e. in_cast (row_of e) j)
        (λ x z h _ e. absurd (new.formed.calls.other x m z h (sym (ap (λ (v : Unmet). v.caller) e)))) (call_row m r) i refl);
    grants = grants_new;
    needs = rows_new k.needs after.needs lost needs_named (λ r i. in_left (left t.needs) i)
        (λ r i. each_lost L t m k now new valid t.needs (need_bits L t new.formed) (λ (u : Unmet). call_row m r ≡ u → In r k.needs) k.needs
        (λ s j _ e. in_cast (row_of e) j)
        (λ x z h _ e. absurd ((need_bits L t new.formed).other x m z h (sym (ap (λ (v : Unmet). v.caller) e)))) (call_row m r) i refl);
  }
    where
      back : {s : Tok} → ProvidesAt after m s → In s k.provides
      back (at y p e) = in_cast e (tok_in L t m k now new y p)

      calls_named : (y z : ℕ) → T (after.calls m y z) ↔ Named L t m k now k.calls y z
      calls_named y z = ((λ h. named ((call_is L t m k now m y z).0 h)), (λ h. (call_is L t m k now m y z).1 (CallIs.own refl h)))
        where
          named : CallIs L t m k now m y z → Named L t m k now k.calls y z
          named (CallIs.own e h) = h
          named (CallIs.met n e p i) = absurd (n refl)
          named (CallIs.old n g h) = absurd (n refl)

      needs_named : (y z : ℕ) → T (after.needs m y z) ↔ Named L t m k now k.needs y z
      needs_named y z = ((λ h. named ((need_is L t m k now m y z).0 h)), (λ h. (need_is L t m k now m y z).1 (NeedIs.own refl h)))
        where
          named : NeedIs L t m k now m y z → Named L t m k now k.needs y z
          named (NeedIs.own e h) = h
          named (NeedIs.old n g h) = absurd (n refl)

  -- ---- the others: calls that it meets and grants that waited for it turn into bits, calls and needs on dropped services into rows, and everything else stays
  module _ (n : ℕ) (u : T (t.used n)) (n-ne : n ≡ m → ⊥) where
    pub provides_old : (s : Tok) → ProvidesAt t n s ↔ ProvidesAt after n s
    provides_old = provides_kept t after n (λ y. l.prov_old n y n-ne) (λ y. l.prov_back n y n-ne) (λ y. sym (l.tok_old n y n-ne))

    -- a bit of n on a service, which stays or is dropped
    module _ (b b' : ℕ → ℕ → ℕ → Bool) (bits : Bits t.used t.provides b) (us : List Unmet)
        (stays : (y z : ℕ) → (T (gone L t m k now y z) → ⊥) → T (b n y z) → T (b' n y z)) (rows : (v : Unmet) → In v (left b) → In v us) (r : Row) where
      bit_turns : (y z : ℕ) → T (b n y z) → r ≡ service_at t y z → RowAt after b' us n r
      bit_turns y z h e = go (test (gone L t m k now y z))
        where
          go : T (gone L t m k now y z) ⊎ (T (gone L t m k now y z) → ⊥) → RowAt after b' us n r
          go (inl g) =
              let ey = eqb→eq y m (and_l (eqb y m) (dropped L t m k now z) g) in
              RowAt.row (rows (call_row n r) (in_cast (λ i. call_row n ((e ∙ ap (λ (x : ℕ). service_at t x z) ey) i))
              (in_left_by L t new.formed.names m (dropped L t m k now) b bits n z (in_bit ey) (and_r (eqb y m) (dropped L t m k now z) g))))
            where
              in_bit : y ≡ m → T (b n m z)
              in_bit q = subst (λ (x : ℕ). T (b n x z)) q h
          go (inr g) = RowAt.bit y z (stays y z g h) (e ∙ sym (service_kept L t m k now new y z (bits.of_prov n y z h) g).1)

    -- a row that a bit on a service of m left was that bit
    left_bit_lem : (r : Row) (b : ℕ → ℕ → ℕ → Bool) (us : List Unmet) (x z : ℕ) → T (b x m z) → call_row n r ≡ call_row x (service_at t m z) → RowAt t b us n r
    left_bit_lem r b us x z h e = RowAt.bit m z (subst (λ (i : ℕ). T (b i m z)) (sym (ap (λ (v : Unmet). v.caller) e)) h) (ap (λ (v : Unmet). wanted v) e)

    pub calls_old : (r : Row) → RowAt t t.calls t.unmet n r ↔ RowAt after after.calls after.unmet n r
    calls_old r = (
      row_cases (bit_turns t.calls after.calls new.formed.calls after.unmet (λ y z g h. (call_is L t m k now n y z).1 (CallIs.old n-ne g h))
          (λ v i. in_right (keep (unmet_still L t m k now) t.unmet) (in_right (left_off L t m k now k.calls) i)) r)
          (λ i. turns i (test (now_met L t m k now (call_row n r)))),
      row_cases (λ y z h e. bits y z e ((call_is L t m k now n y z).0 h))
          (λ i. each_unmet L t m k now new valid (λ (v : Unmet). call_row n r ≡ v → RowAt t t.calls t.unmet n r)
          (λ v j s e. RowAt.row (in_cast e j)) (λ s j q e. absurd (n-ne (ap (λ (v : Unmet). v.caller) e))) (λ x z h d. left_bit_lem r t.calls t.unmet x z h) (call_row n r) i refl),
    )
      where
        turns : In (call_row n r) t.unmet → T (now_met L t m k now (call_row n r)) ⊎ (T (now_met L t m k now (call_row n r)) → ⊥) → RowAt after after.calls after.unmet n r
        turns i (inl s) =
            let e : r.aid ≡ k.aid = eq_aid→ r.aid k.aid (and_l (eq_aid r.aid k.aid) (has_tok r.tok k.provides) s) in
            let q = in_tok L t m k now new (has_tok_lem r.tok k.provides (and_r (eq_aid r.aid k.aid) (has_tok r.tok k.provides) s)) in
            let f : r ≡ service_at names m q.0 = row_path (e ∙ sym l.aid_new) (sym q.2) in
            RowAt.bit m q.0 ((call_is L t m k now n m q.0).1 (CallIs.met n-ne refl q.1 (in_cast (ap (call_row n) (sym f)) i))) f
        turns i (inr h) = RowAt.row (in_left (left_off L t m k now k.calls ++ left t.calls) (in_keep (unmet_still L t m k now) i
            (not_i (eqb n m || now_met L t m k now (call_row n r)) (λ x. neither (or_e (eqb n m) (now_met L t m k now (call_row n r)) x)))))
          where
            neither : T (eqb n m) ⊎ T (now_met L t m k now (call_row n r)) → ⊥
            neither (inl x) = n-ne (eqb→eq n m x)
            neither (inr x) = h x

        bits : (y z : ℕ) → r ≡ service_at names y z → CallIs L t m k now n y z → RowAt t t.calls t.unmet n r
        bits y z e (CallIs.own q h) = absurd (n-ne q)
        bits y z e (CallIs.met _ q p i) = RowAt.row (in_cast (ap (call_row n) (e ∙ ap (λ (j : ℕ). service_at names j z) q)) i)
        bits y z e (CallIs.old _ g h) = RowAt.bit y z h (e ∙ (service_kept L t m k now new y z (new.formed.calls.of_prov n y z h) g).1)

    pub grants_old : (r : Row) → GrantAt t n r ↔ GrantAt after n r
    grants_old r = (to, back)
      where
        stays : In (grant_row n r) t.waiting → (T (waited_for L t m k now (grant_row n r)) → ⊥) → In (grant_row n r) after.waiting
        stays i h = in_left (map (grant_row m) (keep (waits_new L t m k now) k.grants)) (in_keep (waits_still L t m k now) i
            (not_i (eqb n m || waited_for L t m k now (grant_row n r)) (λ x. neither (or_e (eqb n m) (waited_for L t m k now (grant_row n r)) x))))
          where
            neither : T (eqb n m) ⊎ T (waited_for L t m k now (grant_row n r)) → ⊥
            neither (inl x) = n-ne (eqb→eq n m x)
            neither (inr x) = h x

        turns : In (grant_row n r) t.waiting → (o : Option ℕ) → ServiceIs t n r.tok o → T (eq_aid r.aid k.aid) ⊎ (T (eq_aid r.aid k.aid) → ⊥)
            → ((T (eq_aid r.aid k.aid && is_some o) → ⊥) → In (grant_row n r) after.waiting) → GrantAt after n r
        turns i o h (inr ne) f = GrantAt.row (f (λ x. ne (and_l (eq_aid r.aid k.aid) (is_some o) x)))
        turns i none h (inl s) f = GrantAt.row (f (λ x. and_r (eq_aid r.aid k.aid) false x))
        turns i (some z) h (inl s) f =
            let e : r.aid ≡ k.aid = eq_aid→ r.aid k.aid s in
            GrantAt.bit m z ((grant_is_lem L t m k now n m z).1 (GrantIs.waited n-ne refl h.0 (in_cast (λ x. record { caller = sym e x; callee = n; tok = h.1 x }) i)))
            (e ∙ sym l.aid_new) (sym h.1 ∙ sym (l.tok_old n z n-ne))

        to : GrantAt t n r → GrantAt after n r
        to (GrantAt.bit x z h e f) = GrantAt.bit x z ((grant_is_lem L t m k now n x z).1 (GrantIs.old n-ne h))
            (e ∙ sym (l.aid_kept x (new.formed.grants.by_used x n z h))) (f ∙ sym (l.tok_old n z n-ne))
        to (GrantAt.row i) = turns i (service_of L t n r.tok) (service_is L t new.formed.names n r.tok) (test (eq_aid r.aid k.aid)) (stays i)

        bits : (x z : ℕ) → r.aid ≡ names.aid x → r.tok ≡ t.tok n z → GrantIs L t m k now n x z → GrantAt t n r
        bits x z e f (GrantIs.own q p w i) = absurd (n-ne q)
        bits x z e f (GrantIs.waited _ q p i) = GrantAt.row (in_cast (λ y. record { caller = (e ∙ ap names.aid q ∙ l.aid_new) y; callee = n; tok = f y }) i)
        bits x z e f (GrantIs.old _ h) = GrantAt.bit x z h (e ∙ l.aid_kept x (new.formed.grants.by_used x n z h)) f

        back : GrantAt after n r → GrantAt t n r
        back (GrantAt.bit x z h e f) = bits x z e (f ∙ l.tok_old n z n-ne) ((grant_is_lem L t m k now n x z).0 h)
        back (GrantAt.row i) = GrantAt.row
            (each_waiting L t m k now new valid (λ (w : Waiting). (w.callee ≡ m → ⊥) → In w t.waiting) (λ w j s h. j) (λ s j q h. absurd (h refl)) (grant_row n r) i n-ne)

    pub needs_old : (r : Row) → RowAt t t.needs [] n r ↔ RowAt after after.needs lost n r
    needs_old r = (
      row_cases (bit_turns t.needs after.needs nb lost (λ y z g h. (need_is L t m k now n y z).1 (NeedIs.old n-ne g h)) (λ v i. in_right (left_off L t m k now k.needs) i) r)
          (λ i. absurd (in_nil i)),
      row_cases (λ y z h e. bits y z e ((need_is L t m k now n y z).0 h))
          (λ i. each_lost L t m k now new valid t.needs nb (λ (v : Unmet). call_row n r ≡ v → RowAt t t.needs [] n r) k.needs
          (λ s j q e. absurd (n-ne (ap (λ (v : Unmet). v.caller) e))) (λ x z h d. left_bit_lem r t.needs [] x z h) (call_row n r) i refl),
    )
      where
        nb : Bits t.used t.provides t.needs
        nb = need_bits L t new.formed

        bits : (y z : ℕ) → r ≡ service_at names y z → NeedIs L t m k now n y z → RowAt t t.needs [] n r
        bits y z e (NeedIs.own q h) = absurd (n-ne q)
        bits y z e (NeedIs.old _ g h) = RowAt.bit y z h (e ∙ (service_kept L t m k now new y z (nb.of_prov n y z h) g).1)

    pub has_old : (c : Contract) → HasContract t [] n c → HasContract after lost n c
    has_old c h = record {
      aid = h.aid ∙ sym (l.aid_old n n-ne);
      provides = λ s. Iff.trans (h.provides s) (provides_old s);
      calls = λ r. Iff.trans (h.calls r) (calls_old r);
      grants = λ r. Iff.trans (h.grants r) (grants_old r);
      needs = λ r. Iff.trans (h.needs r) (needs_old r);
    }
