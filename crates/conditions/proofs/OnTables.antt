-- The three conditions on tables: the short check's tests say what the contracts that the tables stand for say. Assumes nothing.
use Prim.Native.Nat.{ℕ}
use mathlib.Core.Path.{◌≡◌, refl, sym, ap, ◌∙◌, subst}
use mathlib.Core.Bool.{Bool, true}
use mathlib.Core.List.{List, []}
use mathlib.Core.List.{Memᴰ as In}
use mathlib.Core.Option.{Option, none, some}
use lib.Dec.{T}
use Rattle.policy.specs.Lists.{implies, every, is_some, or_else}
use Rattle.policy.specs.Contract.{Aid, eq_aid, Tok, Row, Contract, has_tok, has_row, met}
use Rattle.policy.specs.Layout.{Layout}
use Rattle.policy.specs.Tables.{Tables, Unmet}
use Rattle.policy.specs.Lookup.{Place, server_of, wanted}
use Rattle.policy.specs.Draft.{call_row, grant_row, has_waiting}
use Rattle.policy.specs.ShortCheck.{newcomer_rights, newcomer_needs, now_met, others_rights}
use Rattle.policy.proofs.Sets.{T_eq, T_true, T_false, and_l, and_r, and_i, implies_i, implies_e, every_in, in_every}
use Rattle.policy.proofs.Equal.{eq_aid→, eq_aid_refl, row_path, has_tok_lem, tok_has, has_row_lem, row_has, has_waiting_lem, waiting_has}
use Rattle.policy.proofs.Formed.{Formed, ProvidesAt, RowAt, GrantAt, HasContract, Stands}
use Rattle.policy.proofs.Found.{ServerIs, server_is}
use Rattle.policy.proofs.Facts.{contract_of_lem}
use Rattle.policy.proofs.Verdict.{met_i, met_e}
use Rattle.conditions.specs.Conditions.{row_of, allows, condition₁, condition₂, condition₃}

-- d allows what it provides and c calls
module _ (d c : Contract) where
  abbrev test : Tok → Bool
  test s = implies (has_row (row_of d s) c.calls) (has_row (row_of c s) d.grants)

  allows_to : T (allows d c) → (s : Tok) → In s d.provides → In (row_of d s) c.calls → In (row_of c s) d.grants
  allows_to h s m n = has_row_lem (row_of c s) d.grants (implies_e (has_row (row_of d s) c.calls) (has_row (row_of c s) d.grants) (every_in test d.provides h m) (row_has n))

  allows_back : ((s : Tok) → In s d.provides → In (row_of d s) c.calls → In (row_of c s) d.grants) → T (allows d c)
  allows_back h = in_every test d.provides (λ s m. implies_i (has_row (row_of d s) c.calls) (has_row (row_of c s) d.grants) (λ x. row_has (h s m (has_row_lem (row_of d s) c.calls x))))

module _ (L : Layout) (t : Tables) (cs : List Contract) (b : Contract) (fo : Formed L t) (st : Stands t [] cs) (away : (n : ℕ) → T (t.used n) → t.aid n ≡ b.aid → ⊥) where
  -- ---- 1: where a server of b's call stands, its grant to b waits, since b is not there
  abbrev waits_for : Row → Place → Bool
  waits_for r p = has_waiting (record { caller = b.aid; callee = p.callee; tok = r.tok }) t.waiting

  abbrev right : Row → Bool
  right r = or_else (server_of L t r) true (waits_for r)

  pub first_is : newcomer_rights L t b ≡ condition₁ cs b
  first_is = T_eq (newcomer_rights L t b) (condition₁ cs b)
      (λ h. in_every (λ a. allows a b) cs (λ a m. allows_back a b (λ s ms mr. to h a m s ms mr)))
      (λ h. in_every right b.calls (λ r m. fro h r m (server_of L t r) (server_is L t fo.names r)))
    where
      to : T (newcomer_rights L t b) → (a : Contract) → In a cs → (s : Tok) → In s a.provides → In (row_of a s) b.calls → In (row_of b s) a.grants
      to h a m s ms mr = let n = st.these a m in
          go n.0 n.1 n.2 ((n.2.provides s).0 ms) (server_of L t (row_of a s)) (server_is L t fo.names (row_of a s)) (every_in right b.calls h mr)
        where
          go : (n : ℕ) → T (t.used n) → HasContract t [] n a → ProvidesAt t n s → (o : Option Place) → ServerIs t (row_of a s) o → T (or_else o true (waits_for (row_of a s))) → In (row_of b s) a.grants
          go n u c (ProvidesAt.at k p e) none v x = absurd (v n k p (sym c.aid) (sym e))
          go n u c (ProvidesAt.at k p e) (some q) v x =
              let same : q.callee ≡ n = fo.names.aid_inj q.callee n (fo.names.prov_used q.callee q.service v.0) u (v.1 ∙ c.aid) in
              (c.grants (row_of b s)).1 (GrantAt.row (subst (λ (z : ℕ). In (grant_row z (row_of b s)) t.waiting) same (has_waiting_lem (grant_row q.callee (row_of b s)) t.waiting x)))

      waits : (j : ℕ) (s : Tok) → GrantAt t j (row_of b s) → In (grant_row j (row_of b s)) t.waiting
      waits j s (GrantAt.bit i k g e q) = absurd (away i (fo.grants.by_used i j k g) (sym e))
      waits j s (GrantAt.row m) = m

      fro : T (condition₁ cs b) → (r : Row) → In r b.calls → (o : Option Place) → ServerIs t r o → T (or_else o true (waits_for r))
      fro h r m none v = tt
      fro h r m (some p) v =
          let a = contract_of_lem L t fo.names st p.callee (fo.names.prov_used p.callee p.service v.0) in
          let e : r ≡ row_of a.0 r.tok = row_path (sym v.1 ∙ sym a.2.aid) refl in
          let g = allows_to a.0 b (every_in (λ a. allows a b) cs h a.1) r.tok ((a.2.provides r.tok).1 (ProvidesAt.at p.service v.0 (sym v.2)))
          (subst (λ (z : Row). In z b.calls) e m) in
          waiting_has (waits p.callee r.tok ((a.2.grants (row_of b r.tok)).0 g))

  -- ---- 2: a service is on the card where it has a server
  served_is : (r : Row) → is_some (server_of L t r) ≡ met cs r
  served_is r = go (server_of L t r) (server_is L t fo.names r)
    where
      go : (o : Option Place) → ServerIs t r o → is_some o ≡ met cs r
      go none v = sym (T_false (met cs r) (λ x. let p = met_e L t [] cs fo st r x in v p.0 p.1 p.2 p.3 p.4))
      go (some p) v = sym (T_true (met cs r) (met_i L t [] cs fo st r p.callee p.service v.0 (row_path (sym v.1) (sym v.2))))

  pub second_is : newcomer_needs L t b ≡ condition₂ cs b
  second_is = λ i. every (λ r. served_is r i) b.needs

  -- ---- 3: the calls of others on b are unmet, since b is not there
  abbrev granted : Unmet → Bool
  granted u = has_row (record { aid = t.aid u.caller; tok = u.tok }) b.grants

  pub third_is : others_rights L t b ≡ condition₃ cs b
  third_is = T_eq (others_rights L t b) (condition₃ cs b)
      (λ h. in_every (λ a. allows b a) cs (λ a m. allows_back b a (λ s ms mr. to h a m s ms mr)))
      (λ h. in_every (λ u. implies (now_met L t b u) (granted u)) t.unmet (λ u m. implies_i (now_met L t b u) (granted u) (fro h u m)))
    where
      unmet : (n : ℕ) (s : Tok) → RowAt t t.calls t.unmet n (row_of b s) → In (call_row n (row_of b s)) t.unmet
      unmet n s (RowAt.bit j k x e) = absurd (away j (fo.names.prov_used j k (fo.calls.of_prov n j k x)) (ap (λ (z : Row). z.aid) (sym e)))
      unmet n s (RowAt.row m) = m

      to : T (others_rights L t b) → (a : Contract) → In a cs → (s : Tok) → In s b.provides → In (row_of b s) a.calls → In (row_of a s) b.grants
      to h a m s ms mr =
          let n = st.these a m in
          let u = call_row n.0 (row_of b s) in
          let g = implies_e (now_met L t b u) (granted u) (every_in (λ u. implies (now_met L t b u) (granted u)) t.unmet h (unmet n.0 s ((n.2.calls (row_of b s)).0 mr)))
          (and_i (eq_aid b.aid b.aid) (has_tok s b.provides) (eq_aid_refl b.aid) (tok_has ms)) in
          subst (λ (z : Aid). In (record { aid = z; tok = s }) b.grants) (sym n.2.aid) (has_row_lem (record { aid = t.aid n.0; tok = s }) b.grants g)

      fro : T (condition₃ cs b) → (u : Unmet) → In u t.unmet → T (now_met L t b u) → T (granted u)
      fro h u m x =
          let a = contract_of_lem L t fo.names st u.caller (fo.unmet.off.off_used u m) in
          let x₁ = eq_aid u.callee b.aid in
          let x₂ = has_tok u.tok b.provides in
          let e : wanted u ≡ row_of b u.tok = row_path (eq_aid→ u.callee b.aid (and_l x₁ x₂ x)) refl in
          let g = allows_to b a.0 (every_in (λ a. allows b a) cs h a.1) u.tok (has_tok_lem u.tok b.provides (and_r x₁ x₂ x))
          (subst (λ (z : Row). In z a.0.calls) e ((a.2.calls (wanted u)).1 (RowAt.row m))) in
          row_has (subst (λ (z : Aid). In (record { aid = z; tok = u.tok }) b.grants) a.2.aid g)
