-- Kind 2: a package goes; calls on it are unmet, and grants to it wait.
use Prim.Native.Nat.{ℕ}
use mathlib.Core.Path.{◌≡◌, refl, sym, ap, ◌∙◌, subst}
use mathlib.Core.Logic.Iff
use mathlib.Core.Logic.{◌⊎◌, inl, inr}
use mathlib.Core.Bool.{Bool, true, false, not, ◌&&◌, ◌||◌}
use mathlib.Core.List.{List, []}
use mathlib.Core.List.Memᴰ.{append_cases as in_append}
use mathlib.Core.List.Memᴰ.{append_left as in_left}
use mathlib.Core.List.Memᴰ.{append_right as in_right}
use mathlib.Core.List.Memᴰ.{cast as in_cast}
use mathlib.Core.List.{Memᴰ as In}
use lib.Dec.{T, eqb, eqb→eq}
use Rattle.policy.specs.Lists.{keep}
use Rattle.policy.specs.Contract.{Aid, eq_aid, Row, Contract, valid_aid}
use Rattle.policy.specs.Layout.{Layout}
use Rattle.policy.specs.Record.{remove}
use Rattle.policy.specs.Tables.{Tables, Unmet, Waiting, no_tok}
use Rattle.policy.specs.Lookup.{numbers, places}
use Rattle.policy.specs.Draft.{grant_row, remove_at}
use Rattle.policy.proofs.Sets.{and_l, and_r, and_i, or_l, or_r, test, not_i, not_e, cond_either, cond_off, keep_in, in_keep, once_keep, once_map_keep, once_append, each_append, pairs, pairs_in}
use Rattle.policy.proofs.Sets.{in_pairs, once_pairs, in_upto, once_upto}
use Rattle.policy.proofs.Equal.{eq_aid→, eq_aid_of, eqb_of}
use Rattle.policy.proofs.Put.{at_old}
use Rattle.policy.proofs.Formed.{Bits, WaitingRows, grant_bit, Formed, bit, row, GrantAt, HasContract, Stands, Turns, KindTurns}
use Rattle.policy.proofs.Found.{same_place}
use Rattle.policy.proofs.Facts.{provides_kept, place_in, need_bits, bit_not_waiting}
use Rattle.policy.proofs.Reach.{reach_2}
use Rattle.policy.proofs.Dropped.{Without, BitsStay, RowsStay, Dropping, formed_dropped, lost_dropped, calls_dropped, needs_dropped}

-- neither end of a bit is n
neither : (p q : Bool) → T (not (p || q)) → (T p → ⊥) × (T q → ⊥)
neither p q h = (λ x. not_e (p || q) h (or_l p q x), λ x. not_e (p || q) h (or_r p q x))

neither_i : (p q : Bool) → (T p → ⊥) → (T q → ⊥) → T (not (p || q))
neither_i true q f g = f tt
neither_i false q f g = not_i q g

module _ (L : Layout) (t : Tables) (fm : Formed L t) (n : ℕ) (un : T (t.used n)) where
  abbrev t' : Tables
  t' = (remove_at L t n).tables

  -- a package that stays is another one
  used_e : (x : ℕ) → T (t'.used x) → (x ≡ n → ⊥) × T (t.used x)
  used_e x u = let p = cond_off (eqb x n) (t.used x) u in (λ e. p.1 (eqb_of e), p.0)

  used_i : (x : ℕ) → T (t.used x) → (x ≡ n → ⊥) → T (t'.used x)
  used_i x u ne = rw (at_old n false (t.used x) x ne) u

  aid_same : (x : ℕ) → (x ≡ n → ⊥) → t'.aid x ≡ t.aid x
  aid_same x ne = at_old n [] (t.aid x) x ne

  tok_same : (y z : ℕ) → (y ≡ n → ⊥) → t'.tok y z ≡ t.tok y z
  tok_same y z ne = at_old n no_tok (t.tok y z) y ne

  prov_e : (y z : ℕ) → T (t'.provides y z) → T (t.provides y z) × (y ≡ n → ⊥)
  prov_e y z p = (and_l (t.provides y z) (not (eqb y n)) p, λ e. not_e (eqb y n) (and_r (t.provides y z) (not (eqb y n)) p) (eqb_of e))

  prov_i : (y z : ℕ) → T (t.provides y z) → (y ≡ n → ⊥) → T (t'.provides y z)
  prov_i y z p ne = and_i (t.provides y z) (not (eqb y n)) p (not_i (eqb y n) (λ h. ne (eqb→eq y n h)))

  without : Without t t' n (λ z. true)
  without = record {
    used_old = λ x u. (used_e x u).1;
    used_stays = used_i;
    prov_old = λ y z p. (prov_e y z p).0;
    prov_gone = λ y z p e _. (prov_e y z p).1 e;
    prov_stays = λ y z p ne. prov_i y z p (λ e. ne e tt);
    prov_used = λ y z p. let q = prov_e y z p in used_i y (fm.names.prov_used y z q.0) q.1;
    aid_same = λ x u. aid_same x (used_e x u).0;
    tok_same = λ y z p. tok_same y z (prov_e y z p).1;
    aid_blank = λ x h. cond_either (eqb x n) [] (t.aid x) (λ f. fm.names.aid_blank x (λ u. h (used_i x u (λ e. f (eqb_of e)))));
    tok_blank = λ y z h. cond_either (eqb y n) no_tok (t.tok y z) (λ f. fm.names.tok_blank y z (λ p. h (prov_i y z p (λ e. f (eqb_of e)))));
  }

  -- ---- bits with n at one end go
  module _ (b : ℕ → ℕ → ℕ → Bool) (bits : Bits t.used t.provides b) (s : ℕ → ℕ → Bool)
      (away : (x y : ℕ) → T (s x y) → (x ≡ n → ⊥) × (y ≡ n → ⊥)) (away_i : (x y : ℕ) → (x ≡ n → ⊥) → (y ≡ n → ⊥) → T (s x y)) where
    bits_stay : BitsStay t' n (λ z. true) b (λ x y z. b x y z && s x y)
    bits_stay = record {
      old = λ x y z h. and_l (b x y z) (s x y) h;
      used = λ x y z h. used_i x (bits.by_used x y z (and_l (b x y z) (s x y) h)) (away x y (and_r (b x y z) (s x y) h)).0;
      gone = λ x y z h e _. (away x y (and_r (b x y z) (s x y) h)).1 e;
      stays = λ x y z h u ne. and_i (b x y z) (s x y) h (away_i x y (used_e x u).0 (λ e. ne e tt));
    }

  away : (x y : ℕ) → T (not (eqb x n || eqb y n)) → (x ≡ n → ⊥) × (y ≡ n → ⊥)
  away x y h = let p = neither (eqb x n) (eqb y n) h in (λ e. p.0 (eqb_of e), λ e. p.1 (eqb_of e))

  away_i : (x y : ℕ) → (x ≡ n → ⊥) → (y ≡ n → ⊥) → T (not (eqb x n || eqb y n))
  away_i x y f g = neither_i (eqb x n) (eqb y n) (λ h. f (eqb→eq x n h)) (λ h. g (eqb→eq y n h))

  calls_stay : BitsStay t' n (λ z. true) t.calls t'.calls
  calls_stay = bits_stay t.calls fm.calls (λ x y. not (eqb x n || eqb y n)) away away_i

  needs_stay : BitsStay t' n (λ z. true) t.needs t'.needs
  needs_stay = bits_stay t.needs (need_bits L t fm) (λ x y. not (eqb x n || eqb y n)) away away_i

  grants_stay : BitsStay t' n (λ z. true) (grant_bit t) (grant_bit t')
  grants_stay = bits_stay (grant_bit t) fm.grants (λ x y. not (eqb y n || eqb x n)) (λ x y h. let p = away y x h in (p.1, p.0)) (λ x y f g. away_i y x g f)

  -- ---- rows of n go
  abbrev stay_u : List Unmet
  stay_u = keep (λ u. not (eqb u.caller n)) t.unmet

  unmet_stay : RowsStay t' t.unmet stay_u
  unmet_stay = record {
    old = λ u m. (keep_in (λ v. not (eqb v.caller n)) t.unmet m).0;
    used = λ u m.
        let p = keep_in (λ v. not (eqb v.caller n)) t.unmet m in
        used_i u.caller (fm.unmet.off.off_used u p.0) (λ e. not_e (eqb u.caller n) p.1 (eqb_of e));
    stays = λ u m h. in_keep (λ v. not (eqb v.caller n)) m (not_i (eqb u.caller n) (λ e. (used_e u.caller h).0 (eqb→eq u.caller n e)));
    once = once_keep (λ v. not (eqb v.caller n)) t.unmet fm.unmet.unmet_once;
  }

  abbrev stay_w : List Waiting
  stay_w = keep (λ w. not (eqb w.callee n)) t.waiting

  abbrev wait_for : ℕ → ℕ → Waiting
  wait_for j k = record { caller = t.aid n; callee = j; tok = t.tok j k }

  abbrev now_wait : List Waiting
  now_wait = pairs wait_for (λ j. t.grants j n) (places L) (numbers L)

  -- ---- waiting grants: old ones of other packages, and the grants to n
  wait_old : {w : Waiting} → In w stay_w → In w t.waiting × (w.callee ≡ n → ⊥)
  wait_old {w} m =
      let p = keep_in (λ v. not (eqb v.callee n)) t.waiting m in
      (p.0, λ e. not_e (eqb w.callee n) p.1 (eqb_of e))

  wait_new : {w : Waiting} → In w now_wait → (j : ℕ) × (k : ℕ) × T (t.grants j n k) × (w ≡ wait_for j k)
  wait_new m = pairs_in wait_for (λ j. t.grants j n) (places L) (numbers L) m

  -- a grant to n is another's
  grantor : (j k : ℕ) → T (t.grants j n k) → j ≡ n → ⊥
  grantor j k h e = fm.grants.other n j k h (sym e)

  each_wait : {P : Waiting → Type 0} → ((w : Waiting) → In w t.waiting → (w.callee ≡ n → ⊥) → P w) → ((j k : ℕ) → T (t.grants j n k) → P (wait_for j k))
      → (w : Waiting) → In w t'.waiting → P w
  each_wait {P} f g = each_append {P = P} stay_w now_wait (λ w m. let p = wait_old m in f w p.0 p.1) (λ w m. let p = wait_new m in subst P (sym p.3) (g p.0 p.1 p.2))

  -- the package of a grant to n stays
  grantor_used : (j k : ℕ) → T (t.grants j n k) → T (t.used j)
  grantor_used j k h = fm.names.prov_used j k (fm.grants.of_prov n j k h)

  one_wait : (j k j' k' : ℕ) → T (t.grants j n k) → T (t.grants j' n k') → wait_for j k ≡ wait_for j' k' → (j ≡ j') × (k ≡ k')
  one_wait j k j' k' h g e =
      let ej : j ≡ j' = ap (λ (w : Waiting). w.callee) e in
      same_place L t fm.names j k j' k' (fm.grants.of_prov n j k h) (fm.grants.of_prov n j' k' g) (ap t.aid ej) (ap (λ (w : Waiting). w.tok) e)

  waiting' : WaitingRows t'.used t'.aid t'.tok t'.provides t'.waiting
  waiting' = record {
    wait_valid = each_wait {P = λ w. T (valid_aid w.caller)} (λ w m _. fm.waiting.wait_valid w m) (λ j k h. fm.names.aid_valid n un);
    wait_used = each_wait {P = λ w. T (t'.used w.callee)} (λ w m ne. used_i w.callee (fm.waiting.wait_used w m) ne) (λ j k h. used_i j (grantor_used j k h) (grantor j k h));
    wait_other = each_wait {P = λ w. w.caller ≡ t'.aid w.callee → ⊥}
        (λ w m ne e. fm.waiting.wait_other w m (e ∙ aid_same w.callee ne))
        (λ j k h e. grantor j k h (sym (fm.names.aid_inj n j un (grantor_used j k h) (e ∙ aid_same j (grantor j k h)))));
    wait_off = each_wait {P = λ w. (x z : ℕ) → T (t'.used x) → t'.aid x ≡ w.caller → T (t'.provides w.callee z) → t'.tok w.callee z ≡ w.tok → ⊥}
        (λ w m ne x z u e p f.
        let q = used_e x u in
        fm.waiting.wait_off w m x z q.1 (sym (aid_same x q.0) ∙ e) (prov_e w.callee z p).0 (sym (tok_same w.callee z ne) ∙ f))
        (λ j k h x z u e p f. let q = used_e x u in q.0 (fm.names.aid_inj x n q.1 un (sym (aid_same x q.0) ∙ e)));
    wait_once = once_append stay_w now_wait (once_keep (λ v. not (eqb v.callee n)) t.waiting fm.waiting.wait_once)
        (once_pairs wait_for (λ j. t.grants j n) (places L) (numbers L) (once_upto L.services) (once_upto L.packages) one_wait)
        (λ w m o.
        let p = wait_new o in
        bit_not_waiting L t fm n p.0 p.1 p.2 (wait_old (in_cast (sym p.3) m)).0);
  }

  pub dropping : Dropping L t t' n (λ z. true) stay_u
  dropping = record
      { without = without; calls_stay = calls_stay; grants_stay = grants_stay; needs_stay = needs_stay; unmet_stay = unmet_stay; unmet_is = refl; waiting = waiting' }

  -- ---- what another package grants
  module _ (m : ℕ) (ne : m ≡ n → ⊥) (r : Row) where
    grant_stays : GrantAt t m r → GrantAt t' m r
    grant_stays (bit i k h e f) = go (test (eqb i n))
      where
        go : T (eqb i n) ⊎ (T (eqb i n) → ⊥) → GrantAt t' m r
        go (inl q) =
            let ei : i ≡ n = eqb→eq i n q in
            let g : T (t.grants m n k) = subst (λ (x : ℕ). T (t.grants m x k)) ei h in
            let l = place_in L t fm.names m k (fm.grants.of_prov n m k g) in
            row (in_right stay_w (in_cast (λ z. record { caller = (e ∙ ap t.aid ei) z; callee = m; tok = f z })
            (in_pairs wait_for (λ j. t.grants j n) (places L) (numbers L) m k
            (in_upto L.packages m l.0) (in_upto L.services k l.1) g)))
        go (inr q) =
            let ni : i ≡ n → ⊥ = λ x. q (eqb_of x) in
            bit i k (grants_stay.stays i m k h (used_i i (fm.grants.by_used i m k h) ni) (λ x _. ne x)) (e ∙ sym (aid_same i ni)) (f ∙ sym (tok_same m k ne))
    grant_stays (row h) = row (in_left now_wait (in_keep (λ v. not (eqb v.callee n)) h (not_i (eqb m n) (λ q. ne (eqb→eq m n q)))))

    grant_old : GrantAt t' m r → GrantAt t m r
    grant_old (bit i k h e f) = bit i k (grants_stay.old i m k h) (e ∙ aid_same i (used_e i (grants_stay.used i m k h)).0) (f ∙ tok_same m k ne)
    grant_old (row h) = go (in_append stay_w h)
      where
        go : In (grant_row m r) stay_w ⊎ In (grant_row m r) now_wait → GrantAt t m r
        go (inl q) = row (wait_old q).0
        go (inr q) =
            let p = wait_new q in
            let em : m ≡ p.0 = ap (λ (w : Waiting). w.callee) p.3 in
            bit n p.1 (subst (λ (x : ℕ). T (t.grants x n p.1)) (sym em) p.2) (ap (λ (w : Waiting). w.caller) p.3)
            (ap (λ (w : Waiting). w.tok) p.3 ∙ ap (λ (x : ℕ). t.tok x p.1) (sym em))

  abbrev lost' : List Unmet
  lost' = (remove_at L t n).lost

  -- ---- another package keeps its contract
  has' : (m : ℕ) (c : Contract) → T (t'.used m) → HasContract t [] m c → HasContract t' lost' m c
  has' m c u h =
      let ne : m ≡ n → ⊥ = (used_e m u).0 in
      record {
        aid = h.aid ∙ sym (aid_same m ne);
        provides = λ s. Iff.trans (h.provides s) (provides_kept t t' m (λ k p. prov_i m k p ne) (λ k p. (prov_e m k p).0) (λ k. sym (tok_same m k ne)) s);
        calls = λ r. Iff.trans (h.calls r) (calls_dropped L t t' n (λ z. true) stay_u fm dropping m u r);
        grants = λ r. Iff.trans (h.grants r) (grant_stays m ne r, grant_old m ne r);
        needs = λ r. Iff.trans (h.needs r) (needs_dropped L t t' n (λ z. true) stay_u fm dropping m u r);
      }

  module _ (cs : List Contract) (a : Aid) (ea : t.aid n ≡ a) (st : Stands t [] cs) where
    abbrev stays : Contract → Bool
    stays c = not (eq_aid c.aid a)

    stands' : Stands t' lost' (keep stays cs)
    stands' = record {
      these = λ c m.
          let p = keep_in stays cs m in
          let h = st.these c p.0 in
          let u = used_i h.0 h.1 (λ e. not_e (eq_aid c.aid a) p.1 (eq_aid_of (h.2.aid ∙ ap t.aid e ∙ ea))) in
          (h.0, u, has' h.0 c u h.2);
      no_others = λ m u.
          let p = used_e m u in
          let h = st.no_others m p.1 in (
            h.0,
            in_keep stays h.1 (not_i (eq_aid h.0.aid a) (λ e. p.0 (fm.names.aid_inj m n p.1 un (sym h.2 ∙ eq_aid→ h.0.aid a e ∙ sym ea)))),
            h.2 ∙ sym (aid_same m p.0),
          );
      one_each = once_map_keep (λ c. c.aid) stays cs st.one_each;
      four_sets = λ c m. st.four_sets c (keep_in stays cs m).0;
    }

    turns : Turns L (remove_at L t n) (keep stays cs)
    turns = record {
      formed = formed_dropped L t t' n (λ z. true) stay_u fm dropping;
      lost_off = lost_dropped L t t' n (λ z. true) stay_u fm dropping;
      stands = stands';
    }

pub kind_2 : KindTurns remove
kind_2 L t cs a fm st _ _ _ = reach_2 L t fm a (λ d _. Turns L d (keep (λ k. not (eq_aid k.aid a)) cs)) (λ n u e. turns L t fm n u cs a e st)
