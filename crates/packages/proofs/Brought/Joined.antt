-- The rows of the others, where a contract comes: unmet calls that it meets and grants that are due become bits, and the rows that leave are
-- off the lists. Its own rows are not written yet. Assumes nothing.
use Prim.Native.Nat.{ℕ, ◌<◌}
use mathlib.Core.Path.{◌≡◌, refl, sym, ap, ap₂, ◌∙◌, subst}
use mathlib.Core.Bool.{Bool, true, false, not, ◌&&◌, ◌||◌, cond}
use mathlib.Core.List.Memᴰ.{cast as in_cast}
use mathlib.Core.List.Memᴰ.{head as here}
use mathlib.Core.List.Memᴰ.{tail as there}
use mathlib.Core.List.{List, [], ◌∷◌, Memᴰ as In}
use mathlib.Core.Option.{Option, none, some}
use lib.Dec.{T, eqb, eqb→eq}
use lib.ListN.{length}
use Rattle.policy.specs.Lists.{exists, keep, is_some}
use Rattle.policy.specs.Contract.{Aid, eq_aid, Tok, eq_tok, Contract, has_tok, valid_aid}
use Rattle.policy.specs.Layout.{Layout}
use Rattle.policy.specs.Tables.{Tables, Unmet, Waiting}
use Rattle.policy.specs.Lookup.{Spot, service_at, grant_at, number_of, service_of, spot_of}
use Rattle.policy.specs.Sound.{eq_unmet, eq_waiting}
use Rattle.policy.specs.Draft.{Services, call_row, has_unmet, has_waiting}
use Rattle.policy.specs.ShortCheck.{now_met}
use Rattle.policy.proofs.Sets.{T_eq, and_l, and_r, and_i, in_row}
use Rattle.policy.proofs.Equal.{eq_aid→, eq_aid_of, eq_tok→, eq_tok_of, eqb_of, has_tok_lem, tok_has, has_unmet_lem, has_waiting_lem}
use Rattle.policy.proofs.Formed.{Names}
use Rattle.policy.proofs.Found.{NumberIs, ServiceIs, SpotIs, number_is, service_is, provided_found, found_provided, spot_is}
use Rattle.policy.proofs.BroughtNames.{Coming, on, gone, met_bit, waited_bit, unmet_still, waits_still, Brought, brought, tok_in, in_tok, names_brought}
use Rattle.rows.specs.Area.{keep_rows}
use Rattle.image.specs.Read.{number_or, mask_of, unmet_row, waiting_row}
use Rattle.image.proofs.Masks.{keep_mask}
use Rattle.changes.specs.Masks.{listed}
use Rattle.changes.specs.Joins.{holder, service_number, DueAt, taken_in, CallOn, TakesIn, CallersIn, GivenIn}
use Rattle.changes.proofs.MaskedRows.{named as named_row, listed_is}
use Rattle.packages.specs.Decides.{comes_due, Comes}
use Rattle.packages.specs.declared.decide.Bring.{Bring}
use Rattle.packages.proofs.Brought.Readied.{readied_with}

-- one passes, and c and d hold
exists_both : {A : Type 0} (c d : Bool) (g : A → Bool) (l : List A) → exists (λ u. c && (d && g u)) l ≡ c && (d && exists g l)
exists_both true true g l = refl
exists_both true false g [] = refl
exists_both true false g (u ∷ l) = exists_both true false g l
exists_both false d g [] = refl
exists_both false d g (u ∷ l) = exists_both false d g l

exists_same : {A : Type 0} (f g : A → Bool) (l : List A) → ((x : A) → In x l → f x ≡ g x) → exists f l ≡ exists g l
exists_same f g [] h = refl
exists_same f g (x ∷ l) h = ap₂ ◌||◌ (h x (here refl)) (exists_same f g l (λ y m. h y (there m)))

-- p: row n; o: the old bit; e: the new one, which row n has not
beside : (p o e : Bool) → (T p → T e → ⊥) → cond p false o || e ≡ cond p false (o || e)
beside true o true f = absurd (f tt tt)
beside true o false f = refl
beside false o e f = refl

-- ---- the number of a service that is found, in tables v whose names are in order
found_is : (L : Layout) (v : Tables) → Names L v.used v.aid v.tok v.provides → (j : ℕ) (s : Tok) (z : ℕ) → T (is_some (service_of L v j s))
    → eqb z (service_number L v j s) ≡ v.provides j z && eq_tok (v.tok j z) s
found_is L v names j s z = go (service_of L v j s) (service_is L v names j s)
  where
    go : (o : Option ℕ) → ServiceIs v j s o → T (is_some o) → eqb z (number_or L.services o) ≡ v.provides j z && eq_tok (v.tok j z) s
    go none h q = absurd q
    go (some k) h q =
        let p = v.provides j z in
        let e = eq_tok (v.tok j z) s in
        T_eq (eqb z k) (p && e)
        (λ q. let f = eqb→eq z k q in and_i p e (subst (λ (x : ℕ). T (v.provides j x)) (sym f) h.0) (eq_tok_of (ap (v.tok j) f ∙ h.1)))
        (λ q. eqb_of (names.tok_inj j z k (and_l p e q) h.0 (eq_tok→ (v.tok j z) s (and_r p e q) ∙ sym h.1)))

module _ (L : Layout) (t : Tables) (n : ℕ) (k : Contract) (now : Services) where
  -- the package with its services, known to the others
  abbrev pub joined : Tables
  joined = record {
    used = (on L t n k now).used;
    aid = (on L t n k now).aid;
    tok = (on L t n k now).tok;
    provides = (on L t n k now).provides;
    calls = λ x y z. cond (eqb x n) false ((t.calls x y z && not (gone L t n k now y z)) || (eqb y n && met_bit L t n k now x z));
    grants = λ x y z. cond (eqb x n) false (t.grants x y z || (eqb y n && waited_bit L t n k now x z));
    needs = λ x y z. cond (eqb x n) false (t.needs x y z && not (gone L t n k now y z));
    unmet = keep (unmet_still L t n k now) t.unmet;
    waiting = keep (waits_still L t n k now) t.waiting;
  }

module _ (L : Layout) (t : Tables) (n : ℕ) (k : Contract) (now : Services) (new : Coming L t n k now) (valid : T (valid_aid k.aid)) where
  l : Brought L t n k now
  l = brought L t n k now new

  abbrev a : Aid
  a = k.aid

  abbrev p : List Tok
  p = k.provides

  abbrev v : Tables
  v = readied_with L t n k now

  names : Names L (on L t n k now).used (on L t n k now).aid (on L t n k now).tok (on L t n k now).provides
  names = names_brought L t n k now new valid

  -- ---- the unmet calls that are met
  met_there : {s : Tok} → In s p → T (is_some (service_of L v n s))
  met_there {s} m = let q = in_tok L t n k now new m in provided_found L v names n s q.0 q.1 q.2

  calls_there : (met : ℕ) → met ≡ mask_of (now_met L t k) t.unmet → (r : ℕ) → r < length t.unmet → CallOn L met n (readied_with L t n k now) r
  calls_there met e r h q =
      let u = unmet_row t r in
      met_there (has_tok_lem u.tok p (and_r (eq_aid u.callee a) (has_tok u.tok p) (subst T (named_row (now_met L t k) t.unmet met r _ e h) q)))

  abbrev number : Unmet → ℕ
  number u = service_number L v n u.tok

  -- one has the number z exactly where it is on service z
  call_is : (x y z : ℕ) (u : Unmet) → now_met L t k u && (eqb x u.caller && eqb y n && eqb z (number u)) ≡ eqb y n && (v.provides n z && eq_unmet (call_row x (service_at v n z)) u)
  call_is x y z u = T_eq (now_met L t k u && (c && q && m)) (q && (v.provides n z && (d && e && c)))
      (λ h. let i = and_r (now_met L t k u) (c && q && m) h in to (and_l (now_met L t k u) (c && q && m) h) (and_l c q (and_l (c && q) m i)) (and_r c q (and_l (c && q) m i)) (and_r (c && q) m i))
      (λ h. let i = and_r q (v.provides n z && (d && e && c)) h in back (and_l q (v.provides n z && (d && e && c)) h) (and_l (v.provides n z) (d && e && c) i) (and_r (v.provides n z) (d && e && c) i))
    where
      c : Bool
      c = eqb x u.caller

      q : Bool
      q = eqb y n

      m : Bool
      m = eqb z (number u)

      d : Bool
      d = eq_aid (v.aid n) u.callee

      e : Bool
      e = eq_tok (v.tok n z) u.tok

      to : T (now_met L t k u) → T c → T q → T m → T (q && (v.provides n z && (d && e && c)))
      to h f g i =
          let s = has_tok_lem u.tok p (and_r (eq_aid u.callee a) (has_tok u.tok p) h) in
          let w : T (v.provides n z && e) = subst T (found_is L v names n u.tok z (met_there s)) i in
          and_i q (v.provides n z && (d && e && c)) g
          (and_i (v.provides n z) (d && e && c) (and_l (v.provides n z) e w)
          (and_i (d && e) c (and_i d e (eq_aid_of (l.aid_new ∙ sym (eq_aid→ u.callee a (and_l (eq_aid u.callee a) (has_tok u.tok p) h)))) (and_r (v.provides n z) e w)) f))

      back : T q → T (v.provides n z) → T (d && e && c) → T (now_met L t k u && (c && q && m))
      back g w h =
          let f = and_l (d && e) c h in
          let s : In u.tok p = in_cast (sym (eq_tok→ (v.tok n z) u.tok (and_r d e f))) (tok_in L t n k now new z w) in
          and_i (now_met L t k u) (c && q && m)
          (and_i (eq_aid u.callee a) (has_tok u.tok p) (eq_aid_of (sym (eq_aid→ (v.aid n) u.callee (and_l d e f)) ∙ l.aid_new)) (tok_has s))
          (and_i (c && q) m (and_i c q (and_r (d && e) c h) g) (subst T (sym (found_is L v names n u.tok z (met_there s))) (and_i (v.provides n z) e w (and_r d e f))))

  -- the package calls none of its own services
  own_unmet : (x z : ℕ) → T (eqb x n) → T (met_bit L t n k now x z) → ⊥
  own_unmet x z e h =
      let u = call_row x (service_at v n z) in
      let m = has_unmet_lem u t.unmet (and_r (v.provides n z) (has_unmet u t.unmet) h) in
      let q = eqb→eq x n e in
      let used = new.formed.unmet.off.off_used u m in
      new.formed.unmet.unmet_other u m (l.aid_new ∙ sym (new.own_aid (subst (λ (i : ℕ). T (t.used i)) q used)) ∙ ap t.aid (sym q))

  calls : (met : ℕ) → met ≡ mask_of (now_met L t k) t.unmet → (x y z : ℕ) → listed (λ u. u.caller) (λ u. n) number met 0 t.unmet v.calls x y z ≡ (joined L t n k now).calls x y z
  calls met e x y z =
      listed_is (now_met L t k) (λ u. u.caller) (λ u. n) number met t.unmet e v.calls x y z
      ∙ ap (λ (b : Bool). v.calls x y z || b) ((λ i. exists (λ u. call_is x y z u i) t.unmet) ∙ exists_both (eqb y n) (v.provides n z) (eq_unmet (call_row x (service_at v n z))) t.unmet)
      ∙ beside (eqb x n) (t.calls x y z && not (gone L t n k now y z)) (eqb y n && met_bit L t n k now x z) (λ q h. own_unmet x z q (and_r (eqb y n) (met_bit L t n k now x z) h))

  -- ---- the grants that waited for it alone
  -- it has the number n, and the services of the others are where they were
  holder_new : (b : Aid) → b ≡ a → holder L v b ≡ n
  holder_new b e = go (number_of L v b) (number_is L v names b)
    where
      go : (o : Option ℕ) → NumberIs v b o → number_or L.packages o ≡ n
      go none h = absurd (h n l.used_new (l.aid_new ∙ sym e))
      go (some i) h = names.aid_inj i n h.0 l.used_new (h.1 ∙ e ∙ sym l.aid_new)

  -- it is granted nothing by itself
  by_others : (w : Waiting) → In w t.waiting → w.caller ≡ a → w.callee ≡ n → ⊥
  by_others w m e q = new.formed.waiting.wait_other w m
      (e ∙ sym (new.own_aid (subst (λ (i : ℕ). T (t.used i)) q (new.formed.waiting.wait_used w m))) ∙ ap t.aid (sym q))

  offered_on : (j : ℕ) (s : Tok) → (j ≡ n → ⊥) → T (is_some (service_of L t j s)) → T (is_some (service_of L v j s))
  offered_on j s ne h =
      let q = found_provided L t new.formed.names j s h in
      provided_found L v names j s q.0 (l.prov_old j q.0 ne q.1) (l.tok_old j q.0 ne ∙ q.2)

  dues_there : (due : ℕ) → due ≡ mask_of (comes_due L t k.aid) t.waiting → (r : ℕ) → r < length t.waiting → DueAt L due (readied_with L t n k now) r
  dues_there due e r h q =
      let w = waiting_row t r in
      let c = eq_aid w.caller a in
      let o = is_some (service_of L t w.callee w.tok) in
      let d : T (c && o) = subst T (named_row (comes_due L t a) t.waiting due r _ e h) q in
      let ne = by_others w (in_row t.waiting r _ h) (eq_aid→ w.caller a (and_l c o d)) in
      let at = found_provided L v names w.callee w.tok (offered_on w.callee w.tok ne (and_r c o d)) in
      go w (eq_aid→ w.caller a (and_l c o d)) at.0 at.1 at.2 (spot_of L v w.callee (grant_at w)) (spot_is L v names w.callee (grant_at w))
    where
      go : (w : Waiting) → w.caller ≡ a → (z : ℕ) → T (v.provides w.callee z) → v.tok w.callee z ≡ w.tok → (o : Option Spot) → SpotIs v w.callee (grant_at w) o → T (is_some o)
      go w e z p f none h = h n z l.used_new (l.aid_new ∙ sym e) p f
      go w e z p f (some s) h = tt

  abbrev place : Waiting → ℕ
  place w = service_number L v w.callee w.tok

  -- one is due at x, z exactly where it is a grant by x of service z
  due_is : (x y z : ℕ) (w : Waiting) → In w t.waiting → comes_due L t a w && (eqb x w.callee && eqb y (holder L v w.caller) && eqb z (place w))
      ≡ eqb y n && (t.provides x z && eq_waiting (record { caller = a; callee = x; tok = t.tok x z }) w)
  due_is x y z w i = T_eq ((c && o) && (f && g && m)) (q && (t.provides x z && (d && f && e)))
      (λ h. let i = and_r (c && o) (f && g && m) h in let j = and_l (c && o) (f && g && m) h in to (and_l c o j) (and_r c o j) (and_l f g (and_l (f && g) m i)) (and_r f g (and_l (f && g) m i)) (and_r (f && g) m i))
      (λ h. let i = and_r q (t.provides x z && (d && f && e)) h in let j = and_r (t.provides x z) (d && f && e) i in
      back (and_l q (t.provides x z && (d && f && e)) h) (and_l (t.provides x z) (d && f && e) i) (and_l d f (and_l (d && f) e j)) (and_r d f (and_l (d && f) e j)) (and_r (d && f) e j))
    where
      c : Bool
      c = eq_aid w.caller a

      o : Bool
      o = is_some (service_of L t w.callee w.tok)

      f : Bool
      f = eqb x w.callee

      g : Bool
      g = eqb y (holder L v w.caller)

      m : Bool
      m = eqb z (place w)

      q : Bool
      q = eqb y n

      d : Bool
      d = eq_aid a w.caller

      e : Bool
      e = eq_tok (t.tok x z) w.tok

      to : T c → T o → T f → T g → T m → T (q && (t.provides x z && (d && f && e)))
      to hc ho hf hg hm =
          let j = w.callee in
          let s = w.tok in
          let ec = eq_aid→ w.caller a hc in
          let ex = eqb→eq x j hf in
          let ne = by_others w i ec in
          let b : T (v.provides j z && eq_tok (v.tok j z) s) = subst T (found_is L v names j s z (offered_on j s ne ho)) hm in
          let pz = l.prov_back j z ne (and_l (v.provides j z) (eq_tok (v.tok j z) s) b) in
          let ez = sym (l.tok_old j z ne) ∙ eq_tok→ (v.tok j z) s (and_r (v.provides j z) (eq_tok (v.tok j z) s) b) in
          and_i q (t.provides x z && (d && f && e)) (eqb_of (eqb→eq y (holder L v w.caller) hg ∙ holder_new w.caller ec))
          (and_i (t.provides x z) (d && f && e) (subst (λ (i : ℕ). T (t.provides i z)) (sym ex) pz)
          (and_i (d && f) e (and_i d f (eq_aid_of (sym ec)) hf) (eq_tok_of (ap (λ (i : ℕ). t.tok i z) ex ∙ ez))))

      back : T q → T (t.provides x z) → T d → T f → T e → T ((c && o) && (f && g && m))
      back hq hp hd hf he =
          let j = w.callee in
          let s = w.tok in
          let ec = sym (eq_aid→ a w.caller hd) in
          let ex = eqb→eq x j hf in
          let ne = by_others w i ec in
          let pz : T (t.provides j z) = subst (λ (i : ℕ). T (t.provides i z)) ex hp in
          let ez : t.tok j z ≡ s = ap (λ (i : ℕ). t.tok i z) (sym ex) ∙ eq_tok→ (t.tok x z) s he in
          let ho = provided_found L t new.formed.names j s z pz ez in
          and_i (c && o) (f && g && m) (and_i c o (eq_aid_of ec) ho)
          (and_i (f && g) m (and_i f g hf (eqb_of (eqb→eq y n hq ∙ sym (holder_new w.caller ec))))
          (subst T (sym (found_is L v names j s z (offered_on j s ne ho))) (and_i (v.provides j z) (eq_tok (v.tok j z) s) (l.prov_old j z ne pz) (eq_tok_of (l.tok_old j z ne ∙ ez)))))

  grants : (due : ℕ) → due ≡ mask_of (comes_due L t a) t.waiting → (x y z : ℕ)
      → listed (λ w. w.callee) (λ w. holder L v w.caller) place due 0 t.waiting v.grants x y z ≡ (joined L t n k now).grants x y z
  grants due e x y z =
      listed_is (comes_due L t a) (λ w. w.callee) (λ w. holder L v w.caller) place due t.waiting e v.grants x y z
      ∙ ap (λ (b : Bool). v.grants x y z || b) (exists_same _ _ t.waiting (due_is x y z) ∙ exists_both (eqb y n) (t.provides x z) (eq_waiting w) t.waiting)
      ∙ beside (eqb x n) (t.grants x y z) (eqb y n && waited_bit L t n k now x z)
      (λ q h. by_others w (has_waiting_lem w t.waiting (and_r (t.provides x z) (has_waiting w t.waiting) (and_r (eqb y n) (waited_bit L t n k now x z) h))) refl (eqb→eq x n q))
    where
      w : Waiting
      w = record { caller = a; callee = x; tok = t.tok x z }

  -- ---- what the writes ask, and what they leave
  module _ (b : Bring) (is : Comes L t k n b) where
    pub takes_in : CallersIn L t.unmet → GivenIn L t.waiting → TakesIn L n b.met b.due (readied_with L t n k now)
    takes_in cs gs = record {
      package_in = new.number_lt;
      callers = cs;
      calls_on = calls_there b.met is.met_is;
      givers = gs;
      dues_on = dues_there b.due is.due_is;
    }

    pub taken_joined : taken_in L n b.met b.due b.calls b.grants (readied_with L t n k now) ≡ joined L t n k now
    unfolding number_of service_of
    taken_joined = λ i. record {
      used = (on L t n k now).used;
      aid = (on L t n k now).aid;
      tok = (on L t n k now).tok;
      provides = (on L t n k now).provides;
      calls = λ x y z. calls b.met is.met_is x y z i;
      grants = λ x y z. grants b.due is.due_is x y z i;
      needs = (joined L t n k now).needs;
      unmet = (ap (λ (m : ℕ). keep_rows m t.unmet) is.calls_is ∙ keep_mask (λ u. eqb u.caller n || now_met L t k u) t.unmet) i;
      waiting = (ap (λ (m : ℕ). keep_rows m t.waiting) is.grants_is ∙ keep_mask (λ w. eqb w.callee n || comes_due L t a w) t.waiting) i;
    }
