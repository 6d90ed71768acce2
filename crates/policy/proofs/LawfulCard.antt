-- Lawful tables stand for lawful contracts: every met call is granted by its provider, every need is met. Which contracts are lawful is
-- as before R-2.
use Prim.Native.Nat.{ℕ}
use mathlib.Core.Path.{◌≡◌, refl, sym, ap, ◌∙◌, subst}
use mathlib.Core.Bool.{Bool, ◌&&◌, ◌||◌}
use mathlib.Core.List.{List, [], ◌∷◌, map}
use mathlib.Core.List.Memᴰ.{not-nil as in_nil}
use mathlib.Core.List.{Memᴰ as In}
use lib.Dec.{T}
use Rattle.policy.specs.Lists.{implies, every, exists, NoRepeat}
use Rattle.policy.specs.Contract.{Aid, eq_aid, Row, Contract, has_tok, has_row, own_grants, met, granted_to, calls_granted, needs_met}
use Rattle.policy.specs.Layout.{Layout}
use Rattle.policy.specs.Tables.{Tables}
use Rattle.policy.specs.Claims.{CallsGranted, NeedsPresent, LawfulAsBefore}
use Rattle.policy.proofs.Sets.{T_eq, and_l, and_r, and_i, implies_i, implies_e, exists_in, in_exists, keep_in, in_keep, in_map, map_in, map_inj}
use Rattle.policy.proofs.Equal.{eq_aid→, has_row_lem, row_has}
use Rattle.policy.proofs.Formed.{Formed, Lawful, ProvidesAt, at, RowAt, GrantAt, HasContract, Stands}
use Rattle.policy.proofs.Facts.{at_aid, contract_of_lem, need_bits}

module _ (L : Layout) (t : Tables) (cs : List Contract) (g : Formed L t) (w : Lawful t) (st : Stands t [] cs) where
  pub calls_granted_lem : CallsGranted cs
  calls_granted_lem c d r mc md mr e mt =
      let p = st.these c mc in
      let q = st.these d md in
      go p.0 p.2 q.0 q.1 q.2 ((p.2.calls r).0 mr) ((q.2.provides r.tok).0 mt)
    where
      go : (i : ℕ) → HasContract t [] i c → (m : ℕ) → T (t.used m) → HasContract t [] m d → RowAt t t.calls t.unmet i r → ProvidesAt t m r.tok
          → In (record { aid = c.aid; tok = r.tok }) d.grants
      go i hc m um hd (RowAt.bit j k b f) v =
          let pj = g.calls.of_prov i j k b in
          let hj = at_aid L t g.names d m j um hd (g.names.prov_used j k pj) (e ∙ ap (λ (z : Row). z.aid) f) in
          (hj.grants (record { aid = c.aid; tok = r.tok })).1 (GrantAt.bit i k (w i j k b) hc.aid (ap (λ (z : Row). z.tok) f))
      go i hc m um hd (RowAt.row n) (at k v f) = absurd (g.unmet.off.off_card _ n m k v (sym hd.aid ∙ e) (sym f))

  pub needs_present : NeedsPresent cs
  needs_present c r mc mr = let p = st.these c mc in go p.0 ((p.2.needs r).0 mr)
    where
      go : (i : ℕ) → RowAt t t.needs [] i r → (d : Contract) × In d cs × (d.aid ≡ r.aid) × In r.tok d.provides
      go i (RowAt.bit j k b f) =
          let p = (need_bits L t g).of_prov i j k b in
          let q = contract_of_lem L t g.names st j (g.names.prov_used j k p) in
          (q.0, q.1, q.2.aid ∙ sym (ap (λ (z : Row). z.aid) f), (q.2.provides r.tok).1 (at k p (ap (λ (z : Row). z.tok) f)))
      go i (RowAt.row n) = absurd (in_nil n)

-- ---- grants of services that are not provided make no odds
module _ {A B : Type 0} (f : B → Bool) (g : A → B) where
  every_map : (l : List A) → every f (map g l) ≡ every (λ x. f (g x)) l
  every_map [] = refl
  every_map (x ∷ l) = ap (λ (b : Bool). f (g x) && b) (every_map l)

  exists_map : (l : List A) → exists f (map g l) ≡ exists (λ x. f (g x)) l
  exists_map [] = refl
  exists_map (x ∷ l) = ap (λ (b : Bool). f (g x) || b) (exists_map l)

module _ (cs : List Contract) (one_each : NoRepeat (map (λ c. c.aid) cs)) where
  abbrev owned : List Contract
  owned = map own_grants cs

  same_met : (r : Row) → met cs r ≡ met owned r
  same_met r = sym (exists_map (λ c. eq_aid c.aid r.aid && has_tok r.tok c.provides) own_grants cs)

  module _ (a : Aid) (r : Row) where
    abbrev granted : Row
    granted = record { aid = a; tok = r.tok }

    abbrev provider : Contract → Bool
    provider c = eq_aid c.aid r.aid && has_tok r.tok c.provides

    abbrev granter : Contract → Bool
    granter c = eq_aid c.aid r.aid && has_row granted c.grants

    granted_still : T (met cs r) → T (granted_to cs a r) → T (granted_to owned a r)
    granted_still m g =
        let p = exists_in provider cs m in
        let q = exists_in granter cs g in
        let d = q.0 in
        let ep = and_l (eq_aid p.0.aid r.aid) (has_tok r.tok p.0.provides) p.2 in
        let eq = and_l (eq_aid d.aid r.aid) (has_row granted d.grants) q.2 in
        let same : p.0 ≡ d = map_inj (λ c. c.aid) cs one_each p.1 q.1 (eq_aid→ p.0.aid r.aid ep ∙ sym (eq_aid→ d.aid r.aid eq)) in
        let own : T (has_tok r.tok d.provides) = subst (λ (c : Contract). T (has_tok r.tok c.provides)) same (and_r (eq_aid p.0.aid r.aid) (has_tok r.tok p.0.provides) p.2) in
        in_exists granter (in_map own_grants q.1) (and_i (eq_aid d.aid r.aid) (has_row granted (own_grants d).grants) eq
        (row_has (in_keep (λ x. has_tok x.tok d.provides) (has_row_lem granted d.grants (and_r (eq_aid d.aid r.aid) (has_row granted d.grants) q.2)) own)))

    granted_was : T (granted_to owned a r) → T (granted_to cs a r)
    granted_was g =
        let q = exists_in granter owned g in
        let p = map_in own_grants cs q.1 in
        let c = p.0 in
        let h = subst (λ (k : Contract). T (eq_aid k.aid r.aid && has_row granted k.grants)) p.2 q.2 in
        in_exists granter p.1 (and_i (eq_aid c.aid r.aid) (has_row granted c.grants) (and_l (eq_aid c.aid r.aid) (has_row granted (own_grants c).grants) h)
        (row_has (keep_in (λ x. has_tok x.tok c.provides) c.grants (has_row_lem granted (own_grants c).grants (and_r (eq_aid c.aid r.aid) (has_row granted (own_grants c).grants) h))).0))

    same_granted : implies (met cs r) (granted_to cs a r) ≡ implies (met owned r) (granted_to owned a r)
    same_granted = T_eq (implies (met cs r) (granted_to cs a r)) (implies (met owned r) (granted_to owned a r))
        (λ h. implies_i (met owned r) (granted_to owned a r) (λ m.
        let old = subst T (sym (same_met r)) m in
        granted_still old (implies_e (met cs r) (granted_to cs a r) h old)))
        (λ h. implies_i (met cs r) (granted_to cs a r) (λ m. granted_was (implies_e (met owned r) (granted_to owned a r) h (subst T (same_met r) m))))

  same_calls : calls_granted cs ≡ calls_granted owned
  unfolding calls_granted
  same_calls =
      (λ i. every (λ c. every (λ r. same_granted c.aid r i) c.calls) cs)
      ∙ sym (every_map (λ c. every (λ r. implies (met owned r) (granted_to owned c.aid r)) c.calls) own_grants cs)

  same_needs : needs_met cs ≡ needs_met owned
  unfolding needs_met
  same_needs = (λ i. every (λ c. every (λ r. same_met r i) c.needs) cs) ∙ sym (every_map (λ c. every (met owned) c.needs) own_grants cs)

pub lawful_as_before : LawfulAsBefore
lawful_as_before cs one_each = λ i. same_calls cs one_each i && same_needs cs one_each i
