-- Causes 8 to 11: the full look at a draft's tables finds what the contracts that they stand for say together.
use Prim.Native.Nat.{ℕ}
use mathlib.Core.Path.{◌≡◌, refl, sym, ◌∙◌, subst}
use mathlib.Core.Bool.{Bool, true, not, ◌&&◌}
use mathlib.Core.List.{List, [], ◌∷◌, map}
use mathlib.Core.List.Memᴰ.{cast as in_cast}
use mathlib.Core.List.Memᴰ.{head as here}
use mathlib.Core.List.Memᴰ.{not-nil as in_nil}
use mathlib.Core.List.{Memᴰ as In}
use lib.Dec.{T, leb}
use lib.ListN.{length, length-map}
use Rattle.policy.specs.Lists.{implies, every, is_nil, NoRepeat}
use Rattle.policy.specs.Contract.{Row, Contract, Link, has_tok, has_row, installed, met, waits, granted_to, calls_granted, needs_met, unmet_calls, waiting_grants}
use Rattle.policy.specs.Layout.{Layout}
use Rattle.policy.specs.Tables.{Tables, Unmet, Waiting}
use Rattle.policy.specs.Lookup.{service_at, wanted, grant_at}
use Rattle.policy.specs.Draft.{Look, Draft, call_row, grant_row, look}
use Rattle.policy.proofs.Sets.{T_eq, and_l, and_r, and_i, implies_i, implies_e, not_i, not_e, nil_is, same_length, every_in, in_every, in_map, map_in, once_map}
use Rattle.policy.proofs.Links.{links, link_in, in_link, once_links}
use Rattle.policy.proofs.Equal.{has_tok_lem, tok_has, has_row_lem, row_has}
use Rattle.policy.proofs.EveryBit.{among}
use Rattle.policy.proofs.Formed.{Off, grant_bit, Formed, ProvidesAt, RowAt, GrantAt, HasContract, Stands}
use Rattle.policy.proofs.Facts.{contract_of_lem, under_i, under_e, need_bits, granted_bit_lem, lawful_of, of_lawful}

module _ (L : Layout) (t : Tables) (lost : List Unmet) (ds : List Contract) (g : Formed L t) (st : Stands t lost ds) where
  -- a call is met where its service is on the card
  pub met_i : (r : Row) (j k : ℕ) → T (t.provides j k) → r ≡ service_at t j k → T (met ds r)
  met_i r j k p e =
      under_i L t g.names st r.aid (λ c. has_tok r.tok c.provides) j (g.names.prov_used j k p) (λ i. (sym e i).aid)
      (λ c _ h. tok_has ((h.provides r.tok).1 (ProvidesAt.at k p (λ i. (e i).tok))))

  pub met_e : (r : Row) → T (met ds r) → (j : ℕ) × (k : ℕ) × T (t.provides j k) × (t.aid j ≡ r.aid) × (t.tok j k ≡ r.tok)
  met_e r h = let p = under_e L t g.names st r.aid (λ c. has_tok r.tok c.provides) h in go p.0 p.2 ((p.5.provides r.tok).0 (has_tok_lem r.tok p.3.provides p.6))
    where
      go : (j : ℕ) → t.aid j ≡ r.aid → ProvidesAt t j r.tok → (j : ℕ) × (k : ℕ) × T (t.provides j k) × (t.aid j ≡ r.aid) × (t.tok j k ≡ r.tok)
      go j e (ProvidesAt.at k p f) = (j, k, p, e, sym f)

  -- rows on services that are not on the card are not met
  off_met : (l : List Unmet) → Off t.used t.aid t.tok t.provides l → (u : Unmet) → In u l → T (met ds (wanted u)) → ⊥
  off_met l off u m h = let p = met_e (wanted u) h in off.off_card u m p.0 p.1 p.2 p.3 p.4

  -- ---- cause 8
  -- a call that is met is granted
  abbrev allowed : Contract → Row → Bool
  allowed c r = implies (met ds r) (granted_to ds c.aid r)

  -- the grant that a call of contract c asks for
  abbrev asked : Contract → Row → Row
  asked c r = record { aid = c.aid; tok = r.tok }

  granted : among L t.calls (grant_bit t) ≡ calls_granted ds
  unfolding calls_granted
  granted = T_eq (among L t.calls (grant_bit t)) (calls_granted ds) to fro
    where
      -- a met call of package n is a bit, so it has its grant bit
      have : T (among L t.calls (grant_bit t)) → (c : Contract) (n : ℕ) → HasContract t lost n c → (r : Row) → T (met ds r)
          → RowAt t t.calls t.unmet n r → T (granted_to ds c.aid r)
      have h c n hc r m (RowAt.bit j k b e) =
          let p = g.calls.of_prov n j k b in
          let uj = g.names.prov_used j k p in
          let b' = lawful_of L t g h n j k b in
          under_i L t g.names st r.aid (λ d. has_row (asked c r) d.grants) j uj (λ i. (sym e i).aid)
          (λ d _ hd. row_has ((hd.grants (asked c r)).1 (GrantAt.bit n k b' hc.aid (λ i. (e i).tok))))
      have h c n hc r m (RowAt.row n') = absurd (off_met t.unmet g.unmet.off (call_row n r) n' m)

      to : T (among L t.calls (grant_bit t)) → T (calls_granted ds)
      to h = in_every (λ c. every (allowed c) c.calls) ds (λ c mc.
          let p = st.these c mc in
          in_every (allowed c) c.calls (λ r mr.
          implies_i (met ds r) (granted_to ds c.aid r) (λ m. have h c p.0 p.2 r m ((p.2.calls r).0 mr))))

      fro : T (calls_granted ds) → T (among L t.calls (grant_bit t))
      fro h = of_lawful L t (λ i j k b.
          let ui = g.calls.by_used i j k b in
          let p = g.calls.of_prov i j k b in
          let c = contract_of_lem L t g.names st i ui in
          let r = service_at t j k in
          let a = every_in (λ c. every (allowed c) c.calls) ds h c.1 in
          let q = implies_e (met ds r) (granted_to ds c.0.aid r)
          (every_in (allowed c.0) c.0.calls a ((c.2.calls r).1 (RowAt.bit j k b refl))) (met_i r j k p refl) in
          let d = under_e L t g.names st (t.aid j) (λ d. has_row (asked c.0 r) d.grants) q in
          let ej : d.0 ≡ j = g.names.aid_inj d.0 j d.1 (g.names.prov_used j k p) d.2 in
          granted_bit_lem L t g i j k ui p (asked c.0 r) c.2.aid refl
          (subst (λ (z : ℕ). GrantAt t z (asked c.0 r)) ej
          ((d.5.grants (asked c.0 r)).0 (has_row_lem (asked c.0 r) d.3.grants d.6))))

  -- ---- cause 9
  needed : Off t.used t.aid t.tok t.provides lost → is_nil lost ≡ needs_met ds
  unfolding needs_met
  needed off = T_eq (is_nil lost) (needs_met ds) to (λ h. fro lost (λ u m. none_lost h u m))
    where
      ok : (n : ℕ) (r : Row) → lost ≡ [] → RowAt t t.needs lost n r → T (met ds r)
      ok n r e (RowAt.bit j k b q) = met_i r j k ((need_bits L t g).of_prov n j k b) q
      ok n r e (RowAt.row m) = absurd (in_nil (subst (λ (l : List Unmet). In (call_row n r) l) e m))

      to : T (is_nil lost) → T (needs_met ds)
      to h = in_every (λ c. every (met ds) c.needs) ds (λ c mc. let p = st.these c mc in in_every (met ds) c.needs (λ r mr. ok p.0 r (nil_is lost h) ((p.2.needs r).0 mr)))

      none_lost : T (needs_met ds) → (u : Unmet) → In u lost → ⊥
      none_lost h u m =
          let c = contract_of_lem L t g.names st u.caller (off.off_used u m) in
          off_met lost off u m (every_in (met ds) c.0.needs (every_in (λ c. every (met ds) c.needs) ds h c.1) ((c.2.needs (wanted u)).1 (RowAt.row m)))

      fro : (l : List Unmet) → ((u : Unmet) → In u l → ⊥) → T (is_nil l)
      fro [] h = tt
      fro (u ∷ l) h = absurd (h u (here refl))

  -- ---- causes 10 and 11
  -- a row of a used package that passes f
  abbrev OwnRow : (Contract → List Row) → (Contract → Row → Bool) → Link → Type 0
  OwnRow rows f x = (n : ℕ) × T (t.used n) × (x.owner ≡ t.aid n) × ((c : Contract) → HasContract t lost n c → In x.row (rows c) × T (f c x.row))

  -- a list of the tables has as many rows as the contracts have rows of one sort that pass f, where it has a link for each of these and for no other
  same_count : {A : Type 0} (l : List A) (link : A → Link) (rows : Contract → List Row) (f : Contract → Row → Bool)
      → NoRepeat l → ((x y : A) → In x l → In y l → link x ≡ link y → x ≡ y) → ((c : Contract) → In c ds → NoRepeat (rows c))
      → ((x : A) → In x l → OwnRow rows f (link x))
      → ((n : ℕ) (c : Contract) → HasContract t lost n c → (r : Row) → In r (rows c) → T (f c r) → (x : A) × In x l × (link x ≡ record { owner = t.aid n; row = r }))
      → length l ≡ length (links rows f ds)
  same_count {A} l link rows f once inj sets to fro =
      sym (length-map l link) ∙ same_length (map link l) (links rows f ds) (once_map link l inj once) (once_links rows f ds st.one_each sets) forth back
    where
      forth : (z : Link) → In z (map link l) → In z (links rows f ds)
      forth z m =
          let (x, mx, e) = map_in link l m in
          let (n, u, own, passes) = to x mx in
          let (c, mc, h) = contract_of_lem L t g.names st n u in
          in_cast e (in_link rows f ds (link x) c mc (own ∙ sym h.aid) (passes c h).0 (passes c h).1)

      back : (z : Link) → In z (links rows f ds) → In z (map link l)
      back z m =
          let (c, mc, own, mr, passes) = link_in rows f ds z m in
          let (n, _, h) = st.these c mc in
          let (x, mx, e) = fro n c h z.row mr passes in
          in_cast ((λ i. record { owner = (own ∙ h.aid) i; row = z.row }) ∙ sym e) (in_map link mx)

  pub unmet_count : length t.unmet ≡ length (unmet_calls ds)
  unfolding unmet_calls
  unmet_count = same_count t.unmet link (λ c. c.calls) (λ _ r. not (met ds r)) g.unmet.unmet_once inj (λ c m. (st.four_sets c m).calls) to
      (λ n c h r m f. fro n r f ((h.calls r).0 m))
    where
      link : Unmet → Link
      link u = record { owner = t.aid u.caller; row = wanted u }

      inj : (u v : Unmet) → In u t.unmet → In v t.unmet → link u ≡ link v → u ≡ v
      inj u v m n e =
          let ei = g.names.aid_inj u.caller v.caller (g.unmet.off.off_used u m) (g.unmet.off.off_used v n) (λ i. (e i).owner) in
          λ i. record { callee = (e i).row.aid; tok = (e i).row.tok; caller = ei i }

      to : (u : Unmet) → In u t.unmet → OwnRow (λ c. c.calls) (λ _ r. not (met ds r)) (link u)
      to u m = (u.caller, g.unmet.off.off_used u m, refl, (λ c h. ((h.calls (wanted u)).1 (RowAt.row m), not_i (met ds (wanted u)) (off_met t.unmet g.unmet.off u m))))

      fro : (n : ℕ) (r : Row) → T (not (met ds r)) → RowAt t t.calls t.unmet n r → (u : Unmet) × In u t.unmet × (link u ≡ record { owner = t.aid n; row = r })
      fro n r f (RowAt.bit j k b e) = absurd (not_e (met ds r) f (met_i r j k (g.calls.of_prov n j k b) e))
      fro n r f (RowAt.row m) = (call_row n r, m, refl)

  -- a grant whose caller and service are on the card does not wait
  stands_i : (n : ℕ) (c : Contract) → HasContract t lost n c → (r : Row) (i k : ℕ) → T (t.used i) → t.aid i ≡ r.aid → T (t.provides n k) → t.tok n k ≡ r.tok
      → T (installed ds r.aid && has_tok r.tok c.provides)
  stands_i n c h r i k u e p f = and_i (installed ds r.aid) (has_tok r.tok c.provides)
      (under_i L t g.names st r.aid (λ c. true) i u e (λ c _ h. tt)) (tok_has ((h.provides r.tok).1 (ProvidesAt.at k p (sym f))))

  pub waiting_count : length t.waiting ≡ length (waiting_grants ds)
  unfolding waiting_grants
  waiting_count = same_count t.waiting link (λ c. c.grants) (waits ds) g.waiting.wait_once inj (λ c m. (st.four_sets c m).grants) to
      (λ n c h r m f. fro n c h r f ((h.grants r).0 m))
    where
      link : Waiting → Link
      link w = record { owner = t.aid w.callee; row = grant_at w }

      inj : (v w : Waiting) → In v t.waiting → In w t.waiting → link v ≡ link w → v ≡ w
      inj v w m n e =
          let ej = g.names.aid_inj v.callee w.callee (g.waiting.wait_used v m) (g.waiting.wait_used w n) (λ i. (e i).owner) in
          λ i. record { caller = (e i).row.aid; callee = ej i; tok = (e i).row.tok }

      to : (w : Waiting) → In w t.waiting → OwnRow (λ c. c.grants) (waits ds) (link w)
      to w m = (
        w.callee,
        g.waiting.wait_used w m,
        refl,
        (λ c h. ((h.grants (grant_at w)).1 (GrantAt.row m), not_i (installed ds w.caller && has_tok w.tok c.provides) (λ x. off c h x))),
      )
        where
          off : (c : Contract) → HasContract t lost w.callee c → T (installed ds w.caller && has_tok w.tok c.provides) → ⊥
          off c h x = go ((h.provides w.tok).0 (has_tok_lem w.tok c.provides (and_r (installed ds w.caller) (has_tok w.tok c.provides) x)))
            where
              go : ProvidesAt t w.callee w.tok → ⊥
              go (ProvidesAt.at k p e) =
                  let q = under_e L t g.names st w.caller (λ c. true) (and_l (installed ds w.caller) (has_tok w.tok c.provides) x) in
                  g.waiting.wait_off w m q.0 k q.1 q.2 p (sym e)

      fro : (n : ℕ) (c : Contract) → HasContract t lost n c → (r : Row) → T (waits ds c r) → GrantAt t n r → (w : Waiting) × In w t.waiting × (link w ≡ record { owner = t.aid n; row = r })
      fro n c h r f (GrantAt.bit i k b e q) = absurd (not_e (installed ds r.aid && has_tok r.tok c.provides) f
          (stands_i n c h r i k (g.grants.by_used i n k b) (sym e) (g.grants.of_prov i n k b) (sym q)))
      fro n c h r f (GrantAt.row m) = (grant_row n r, m, refl)

-- the look at the contracts
abbrev pub look_at : Layout → List Contract → Look
look_at L ds = record {
  granted = calls_granted ds;
  needed = needs_met ds;
  unmet_fits = leb (length (unmet_calls ds)) L.capacity;
  waiting_fits = leb (length (waiting_grants ds)) L.capacity;
}

pub looks_agree : (L : Layout) (d : Draft) (ds : List Contract) → Formed L d.tables
    → Off d.tables.used d.tables.aid d.tables.tok d.tables.provides d.lost → Stands d.tables d.lost ds
    → look L d ≡ look_at L ds
unfolding look
looks_agree L d ds g off st = λ i. record {
  granted = granted L d.tables d.lost ds g st i;
  needed = needed L d.tables d.lost ds g st off i;
  unmet_fits = leb (unmet_count L d.tables d.lost ds g st i) L.capacity;
  waiting_fits = leb (waiting_count L d.tables d.lost ds g st i) L.capacity;
}
