-- What the rules allow: of tables, and of the contracts that they stand for; every record that is read keeps to it.
use Prim.Native.Nat.{ℕ}
use mathlib.Core.Path.{◌≡◌, refl, sym, ap, ◌∙◌, subst}
use mathlib.Core.Logic.{◌⊎◌, inl, inr}
use mathlib.Core.Bool.{Bool, true, false, not, ◌&&◌, ◌||◌, cond}
use mathlib.Core.List.{List, [], ◌∷◌, ◌++◌, map}
use mathlib.Core.List.Memᴰ.{cases_cons as in_cons}
use mathlib.Core.List.Memᴰ.{head as here}
use mathlib.Core.List.{Memᴰ as In}
use mathlib.Core.List.Memᴰ.{append_left as in_left}
use mathlib.Core.List.Memᴰ.{append_right as in_right}
use lib.Dec.{T}
use Rattle.policy.specs.Lists.{every, keep, distinct, NoRepeat}
use Rattle.policy.specs.Contract.{Aid, eq_aid, Tok, eq_tok, Row, eq_row, Contract, has_tok, has_row, under, installed}
use Rattle.policy.specs.Layout.{Layout}
use Rattle.policy.specs.Record.{Change, load, remove, add_service, remove_service, add_call, remove_call, add_grant, remove_grant, add_need, remove_need, replace, not_own, proper_contract, proper}
use Rattle.policy.specs.Causes.{◌when◌, answer}
use Rattle.policy.specs.Machine.{altered, alter, effect, causes4to7}
use Rattle.policy.specs.Tables.{Tables}
use Rattle.policy.specs.Lookup.{wanted, grant_at}
use Rattle.policy.specs.Records.{ValidTok, WithinContract, WithinChange}
use Rattle.policy.specs.History.{Allowed, AllAllowed}
use Rattle.policy.proofs.Sets.{false_T, and_l, and_r, or_e, every_in, exists_in, keep_in, in_keep, map_in, map_inj, each_one, each_append}
use Rattle.policy.proofs.Equal.{eq_aid→, has_tok_lem}
use Rattle.policy.proofs.Answers.{answer_zero}
use Rattle.policy.proofs.Formed.{Formed, Ruled, ProvidesAt, RowAt, GrantAt, Stands}
use Rattle.policy.proofs.Facts.{contract_of_lem, granted_provided}
use Rattle.policy.proofs.Reach.{asked_and_new}

-- ---- the rules allow tables exactly where they allow the contracts that these stand for
module _ (L : Layout) (t : Tables) (cs : List Contract) (g : Formed L t) (st : Stands t [] cs) where
  pub ruled_allowed : Ruled L t → AllAllowed L cs
  ruled_allowed r c m = let p = st.these c m in record {
    tokens = record {
      provides = λ s i. prov p.0 s ((p.2.provides s).0 i);
      calls = λ x i. call p.0 x ((p.2.calls x).0 i);
      grants = λ x i. grant p.0 x ((p.2.grants x).0 i);
    };
    own = λ late x i. (p.2.provides x.tok).1 (granted_provided L t g r late p.0 x ((p.2.grants x).0 i));
  }
    where
      prov : (n : ℕ) (s : Tok) → ProvidesAt t n s → ValidTok L s
      prov n s (ProvidesAt.at k h e) = subst (ValidTok L) (sym e) (r.provided n k h)

      call : (n : ℕ) (x : Row) → RowAt t t.calls t.unmet n x → ValidTok L x.tok
      call n x (RowAt.bit j k h e) = subst (λ (z : Row). ValidTok L z.tok) (sym e) (r.provided j k (g.calls.of_prov n j k h))
      call n x (RowAt.row i) = r.unmet _ i

      grant : (n : ℕ) (x : Row) → GrantAt t n x → ValidTok L x.tok
      grant n x (GrantAt.bit i k h e f) = subst (ValidTok L) (sym f) (r.provided n k (g.grants.of_prov i n k h))
      grant n x (GrantAt.row i) = r.waiting _ i

-- by the rules of any card
pub allowed_ruled : (L M : Layout) (t : Tables) (cs : List Contract) → Formed L t → Stands t [] cs → AllAllowed M cs → Ruled M t
allowed_ruled L M t cs g st a = record {
  provided = λ j k h.
      let c = contract_of_lem L t g.names st j (g.names.prov_used j k h) in
      (a c.0 c.1).tokens.provides (t.tok j k) ((c.2.provides (t.tok j k)).1 (ProvidesAt.at k h refl));
  unmet = λ u m.
      let c = contract_of_lem L t g.names st u.caller (g.unmet.off.off_used u m) in
      (a c.0 c.1).tokens.calls (wanted u) ((c.2.calls (wanted u)).1 (RowAt.row m));
  waiting = λ w m.
      let c = contract_of_lem L t g.names st w.callee (g.waiting.wait_used w m) in
      (a c.0 c.1).tokens.grants (grant_at w) ((c.2.grants (grant_at w)).1 (GrantAt.row m));
  own = λ late w m.
      let c = contract_of_lem L t g.names st w.callee (g.waiting.wait_used w m) in
      place w.callee w.tok ((c.2.provides w.tok).0 ((a c.0 c.1).own late (grant_at w) ((c.2.grants (grant_at w)).1 (GrantAt.row m))));
}
  where
    place : (j : ℕ) (s : Tok) → ProvidesAt t j s → (k : ℕ) × T (t.provides j k) × (t.tok j k ≡ s)
    place j s (ProvidesAt.at k p e) = (k, p, sym e)

-- ---- a record that causes 2 to 6 let pass leaves contracts that the rules allow
module _ (L : Layout) (cs : List Contract) (a : Aid) (al : AllAllowed L cs) (one_each : NoRepeat (map (λ c. c.aid) cs)) where
  altered_all : (f : Contract → Contract) → ((k : Contract) → In k cs → T (eq_aid k.aid a) → Allowed L k → Allowed L (f k)) → AllAllowed L (alter a f cs)
  altered_all f h c m =
      let p = map_in (λ k. cond (eq_aid k.aid a) (f k) k) cs m in
      subst (Allowed L) (sym p.2) (go p.0 p.1 (eq_aid p.0.aid a) (λ x. x) (al p.0 p.1))
    where
      go : (k : Contract) → In k cs → (b : Bool) → (T b → T (eq_aid k.aid a)) → Allowed L k → Allowed L (cond b (f k) k)
      go k i true e x = h k i (e tt) x
      go k i false e x = x

  abbrev OkRow : Row → Type 0
  OkRow r = ValidTok L r.tok

  -- other calls
  with_calls_lem : {k k' : Contract} → Allowed L k → k'.provides ≡ k.provides → k'.grants ≡ k.grants → ((r : Row) → In r k'.calls → OkRow r) → Allowed L k'
  with_calls_lem {k} {k'} h ep eg w = record {
    tokens = record {
      provides = λ s m. h.tokens.provides s (subst (λ (l : List Tok). In s l) ep m);
      calls = w;
      grants = λ r m. h.tokens.grants r (subst (λ (l : List Row). In r l) eg m);
    };
    own = λ late r m. subst (λ (l : List Tok). In r.tok l) (sym ep) (h.own late r (subst (λ (l : List Row). In r l) eg m));
  }

  -- what a grant asks of the package before R-2
  own_service : (r : Row) → answer (causes4to7 L cs a (add_grant r)) ≡ 0 → (T L.early → ⊥) → (k : Contract) → In k cs → T (eq_aid k.aid a) → In r.tok k.provides
  own_service r e late k m ek =
      let u = under cs a (λ k. has_tok r.tok k.provides) in
      let has = under cs a (λ k. has_row r k.grants) in
      let z = answer_zero 4 (not (installed cs a)) (6 when (not (L.early || u) || has) ∷ []) e in
      go (or_e L.early u (asked_and_new (L.early || u) has (false_T (answer_zero 5 (not (L.early || u) || has) [] z.1).0)).0)
    where
      go : T L.early ⊎ T (under cs a (λ k. has_tok r.tok k.provides)) → In r.tok k.provides
      go (inl x) = absurd (late x)
      go (inr x) =
          let p = exists_in (λ c. eq_aid c.aid a && has_tok r.tok c.provides) cs x in
          let ea = and_l (eq_aid p.0.aid a) (has_tok r.tok p.0.provides) p.2 in
          let same : p.0 ≡ k = map_inj (λ c. c.aid) cs one_each p.1 m (eq_aid→ p.0.aid a ea ∙ sym (eq_aid→ k.aid a ek)) in
          subst (λ (c : Contract). In r.tok c.provides) same (has_tok_lem r.tok p.0.provides (and_r (eq_aid p.0.aid a) (has_tok r.tok p.0.provides) p.2))

  -- the grants of a load or of a whole contract before R-2
  load_own : (p : List Tok) (c g n : List Row) → T (proper_contract L a p c g n) → (T L.early → ⊥) → (r : Row) → In r g → In r.tok p
  load_own p c g n pr late r m =
      let d = distinct eq_tok p && distinct eq_row c && distinct eq_row g && distinct eq_row n in
      let o = not_own a c && not_own a g && not_own a n in
      let i1 = every (λ r. has_row r c) n in
      let i2 = L.early || every (λ r. has_tok r.tok p) g in
      go (or_e L.early (every (λ r. has_tok r.tok p) g) (and_r i1 i2 (and_r (d && o) (i1 && i2) pr)))
    where
      go : T L.early ⊎ T (every (λ r. has_tok r.tok p) g) → In r.tok p
      go (inl x) = absurd (late x)
      go (inr x) = has_tok_lem r.tok p (every_in (λ r. has_tok r.tok p) g x m)

  -- kind 4 keeps the grants, or those of other services
  kept_grants : (s : Tok) (b : Bool) (l : List Row) (r : Row) → In r (cond b l (keep (λ x. not (eq_tok s x.tok)) l)) → In r l × ((T b → ⊥) → T (not (eq_tok s r.tok)))
  kept_grants s true l r m = (m, λ late. absurd (late tt))
  kept_grants s false l r m = let p = keep_in (λ x. not (eq_tok s x.tok)) l m in (p.0, λ late. p.1)

  contract_allowed : (b : Aid) (p : List Tok) (c g n : List Row) → WithinContract L p c g n → T (proper_contract L a p c g n)
      → Allowed L (record { aid = b; provides = p; calls = c; grants = g; needs = n })
  contract_allowed b p c g n w pr =
      record { tokens = record { provides = w.0.1; calls = λ r i. (w.1.1 r i).1; grants = λ r i. (w.2.1 r i).1 }; own = load_own p c g n pr }

  pub effect_allowed : (c : Change) → WithinChange L c → T (proper L a c) → answer (causes4to7 L cs a c) ≡ 0 → AllAllowed L (effect L cs a c)
  unfolding proper
  effect_allowed (load p c g n) w pr e = λ d m. go d (in_cons m)
    where
      go : (d : Contract) → (d ≡ record { aid = a; provides = p; calls = c; grants = g; needs = n }) ⊎ In d cs → Allowed L d
      go d (inl q) = subst (Allowed L) (sym q) (contract_allowed a p c g n w pr)
      go d (inr i) = al d i
  effect_allowed remove w pr e = λ d m. al d (keep_in (λ k. not (eq_aid k.aid a)) cs m).0
  effect_allowed (add_service s l) w pr e = altered_all (altered L (add_service s l)) (λ k _ _ h. record {
    tokens = record {
      provides = each_append k.provides (s ∷ []) h.tokens.provides (each_one (ValidTok L) s w.0);
      calls = h.tokens.calls;
      grants = each_append k.grants (fresh k) h.tokens.grants (λ r m. subst (ValidTok L) (sym (of_service_lem k r m)) w.0);
    };
    own = λ late. each_append {P = λ r. In r.tok (k.provides ++ (s ∷ []))} k.grants (fresh k)
        (λ r m. in_left (s ∷ []) (h.own late r m)) (λ r m. in_right k.provides (here (of_service_lem k r m)));
  })
    where
      grant_to : Aid → Row
      grant_to b = record { aid = b; tok = s }

      fresh : Contract → List Row
      fresh k = keep (λ r. not (has_row r k.grants)) (map grant_to l)

      of_service_lem : (k : Contract) (r : Row) → In r (keep (λ r. not (has_row r k.grants)) (map (λ b. record { aid = b; tok = s }) l)) → r.tok ≡ s
      of_service_lem k r m = ap (λ (x : Row). x.tok) (map_in grant_to l (keep_in (λ r. not (has_row r k.grants)) (map grant_to l) m).0).2
  effect_allowed (remove_service s) w pr e = altered_all (altered L (remove_service s)) (λ k _ _ h. record {
    tokens = record {
      provides = λ x m. h.tokens.provides x (keep_in (λ x. not (eq_tok s x)) k.provides m).0;
      calls = h.tokens.calls;
      grants = λ r m. h.tokens.grants r (kept_grants s L.early k.grants r m).0;
    };
    own = λ late r m. let q = kept_grants s L.early k.grants r m in in_keep (λ x. not (eq_tok s x)) (h.own late r q.0) (q.1 late);
  })
  effect_allowed (add_call r) w pr e = altered_all (altered L (add_call r)) (λ k _ _ h. with_calls_lem h refl refl (each_append k.calls (r ∷ []) h.tokens.calls (each_one OkRow r w.1)))
  effect_allowed (remove_call r) w pr e = altered_all (altered L (remove_call r)) (λ k _ _ h. with_calls_lem h refl refl (λ x m. h.tokens.calls x (keep_in (λ x. not (eq_row r x)) k.calls m).0))
  effect_allowed (add_grant r) w pr e = altered_all (altered L (add_grant r)) (λ k m ek h. record {
    tokens = record {
      provides = h.tokens.provides;
      calls = h.tokens.calls;
      grants = each_append k.grants (r ∷ []) h.tokens.grants (each_one OkRow r w.1);
    };
    own = λ late. each_append {P = λ x. In x.tok k.provides} k.grants (r ∷ []) (h.own late) (each_one (λ x. In x.tok k.provides) r (own_service r e late k m ek));
  })
  effect_allowed (remove_grant r) w pr e = altered_all (altered L (remove_grant r)) (λ k _ _ h. record {
    tokens = record {
      provides = h.tokens.provides;
      calls = h.tokens.calls;
      grants = λ x m. h.tokens.grants x (keep_in (λ x. not (eq_row r x)) k.grants m).0;
    };
    own = λ late x m. h.own late x (keep_in (λ x. not (eq_row r x)) k.grants m).0;
  })
  effect_allowed (add_need r) w pr e = altered_all (altered L (add_need r)) (λ k _ _ h. with_calls_lem h refl refl h.tokens.calls)
  effect_allowed (remove_need r) w pr e = altered_all (altered L (remove_need r)) (λ k _ _ h. with_calls_lem h refl refl h.tokens.calls)
  effect_allowed (replace p c g n) w pr e = altered_all (altered L (replace p c g n)) (λ k _ _ h. contract_allowed k.aid p c g n w pr)
