-- The places of the services of a whole contract: those in both contracts keep theirs, and the others find the lowest unused.
use Prim.Native.Nat.{ℕ, ◌≤◌, ◌<◌}
use native.Mathlib.Omega.{arith}
use mathlib.Core.Path.{◌≡◌, refl, sym, ◌∙◌, subst}
use mathlib.Core.Logic.{◌⊎◌, inl, inr}
use mathlib.Core.Bool.{Bool, true, false, not, ◌&&◌, cond}
use mathlib.Core.List.{List, [], ◌∷◌, map}
use mathlib.Core.List.Memᴰ.{cases_cons as in_cons}
use mathlib.Core.List.Memᴰ.{cast as in_cast}
use mathlib.Core.List.Memᴰ.{head as here}
use mathlib.Core.List.Memᴰ.{not-nil as in_nil}
use mathlib.Core.List.Memᴰ.{tail as there}
use mathlib.Core.List.{Memᴰ as In}
use mathlib.Core.List.Sublistᴰ.{cons as leave}
use mathlib.Core.List.Sublistᴰ.{cons-cons as keeps}
use mathlib.Core.List.Sublistᴰ.{slnil as none_left}
use mathlib.Core.List.{Sublistᴰ as InOrder}
use mathlib.Core.Option.{Option, none, some}
use lib.Dec.{T}
use lib.ListN.{length, length-map}
use Rattle.policy.specs.Lists.{exists, first, upto, or_else}
use Rattle.policy.specs.Contract.{Tok, eq_tok, Contract, has_tok}
use Rattle.policy.specs.Layout.{Layout}
use Rattle.policy.specs.Tables.{Tables, no_tok}
use Rattle.policy.specs.Lookup.{places}
use Rattle.policy.specs.Placing.{Rises, TakenAnew}
use Rattle.policy.specs.Draft.{Services, put, place_service, place_services, kept_services, new_services}
use Rattle.policy.proofs.Sets.{true_T, false_T, and_l, and_r, and_i, cond_true, cond_false, each_cons, length_le, exists_in, in_exists, map_in, once_map, length_from, upto_in, in_upto, once_upto}
use Rattle.policy.proofs.Equal.{eq_tok→, eq_tok_of, has_tok_lem, tok_has}
use Rattle.policy.proofs.Put.{at_new, at_old, by_number}
use Rattle.policy.proofs.Pieces.{in_or_off}
use Rattle.policy.proofs.Formed.{Formed}
use Rattle.policy.proofs.Found.{FreeIs, free_is}
use Rattle.policy.proofs.BroughtNames.{ServicesAt}

module _ (L : Layout) (p : List Tok) (fit : length p ≤ L.services) where
  -- services of p, each at one place
  record Some (v : Services) : Type 0 where
    prov_lt : (y : ℕ) → T (v.provides y) → y < L.services
    tok_in : (y : ℕ) → T (v.provides y) → In (v.tok y) p
    tok_inj : (y z : ℕ) → T (v.provides y) → T (v.provides z) → v.tok y ≡ v.tok z → y ≡ z
    tok_blank : (y : ℕ) → (T (v.provides y) → ⊥) → v.tok y ≡ no_tok

  -- services that stay where they are
  abbrev Keeps : Services → Services → Type 0
  Keeps v w = (y : ℕ) → T (v.provides y) → T (w.provides y) × (w.tok y ≡ v.tok y)

  abbrev Has : Services → Tok → Type 0
  Has v s = (y : ℕ) × T (v.provides y) × (v.tok y ≡ s)

  abbrev Places : Services → Services → Tok → Type 0
  Places v w s = Some w × Keeps v w × Has w s

  module _ (v : Services) (h : Some v) (s : Tok) (i : In s p) (new : Has v s → ⊥) where
    -- there is room: else p would have more than the places
    room : FreeIs L.services v.provides none → ⊥
    room full =
        let le = length_le (s ∷ map v.tok (upto L.services)) p (
          (λ m. let q = map_in v.tok (upto L.services) m in new (q.0, full q.0 (upto_in L.services q.1), sym q.2)),
          once_map v.tok (upto L.services) (λ x y a b. h.tok_inj x y (full x (upto_in L.services a)) (full y (upto_in L.services b))) (once_upto L.services),
        )
        (λ x m. each x (in_cons m)) in
        omega (arith, fit, le, length-map (upto L.services) v.tok, length_from 0 L.services)
      where
        each : (x : Tok) → (x ≡ s) ⊎ In x (map v.tok (upto L.services)) → In x p
        each x (inl e) = in_cast e i
        each x (inr m) = let q = map_in v.tok (upto L.services) m in in_cast q.2 (h.tok_in q.0 (full q.0 (upto_in L.services q.1)))

    takes : (o : Option ℕ) → FreeIs L.services v.provides o → Places v (or_else o v (λ k. record { tok = put k s v.tok; provides = put k true v.provides })) s
    takes none f = absurd (room f)
    takes (some k) f =
        let w : Services = record { tok = put k s v.tok; provides = put k true v.provides } in
        let prov_new : T (w.provides k) = true_T (at_new k true (v.provides k)) in
        let tok_new : w.tok k ≡ s = at_new k s (v.tok k) in
        let prov_old : (y : ℕ) → (y ≡ k → ⊥) → w.provides y ≡ v.provides y = λ y. at_old k true (v.provides y) y in
        let tok_old : (y : ℕ) → (y ≡ k → ⊥) → w.tok y ≡ v.tok y = λ y. at_old k s (v.tok y) y in
        let back : (y : ℕ) → (y ≡ k → ⊥) → T (w.provides y) → T (v.provides y) = λ y n q. subst T (prov_old y n) q in (
          record {
            prov_lt = λ y. by_number k (λ (z : ℕ). T (w.provides z) → z < L.services) y (λ _. f.0) (λ n q. h.prov_lt y (back y n q));
            tok_in = λ y. by_number k (λ (z : ℕ). T (w.provides z) → In (w.tok z) p) y (λ _. in_cast tok_new i) (λ n q. in_cast (tok_old y n) (h.tok_in y (back y n q)));
            tok_inj = λ y z. by_number k (λ (x : ℕ). T (w.provides x) → T (w.provides z) → w.tok x ≡ w.tok z → x ≡ z) y
                (by_number k (λ (x : ℕ). T (w.provides k) → T (w.provides x) → w.tok k ≡ w.tok x → k ≡ x) z
                (λ a b e. refl) (λ n a b e. absurd (new (z, back z n b, sym (tok_old z n) ∙ sym e ∙ tok_new))))
                (λ n. by_number k (λ (x : ℕ). T (w.provides y) → T (w.provides x) → w.tok y ≡ w.tok x → y ≡ x) z
                (λ a b e. absurd (new (y, back y n a, sym (tok_old y n) ∙ e ∙ tok_new)))
                (λ o a b e. h.tok_inj y z (back y n a) (back z o b) (sym (tok_old y n) ∙ e ∙ tok_old z o)));
            tok_blank = λ y. by_number k (λ (z : ℕ). (T (w.provides z) → ⊥) → w.tok z ≡ no_tok) y
                (λ n. absurd (n prov_new)) (λ n q. tok_old y n ∙ h.tok_blank y (λ x. q (subst T (sym (prov_old y n)) x)));
          },
          (λ y q. let n : y ≡ k → ⊥ = λ e. f.1 (subst (λ (z : ℕ). T (v.provides z)) e q) in (subst T (sym (prov_old y n)) q, tok_old y n)),
          (k, prov_new, tok_new),
        )

  -- one service, and services in order
  place_one : (v : Services) → Some v → (s : Tok) → In s p → Places v (place_service L v s) s
  place_one v h s i = go (exists test (places L)) refl
    where
      test : ℕ → Bool
      test k = v.provides k && eq_tok (v.tok k) s

      go : (b : Bool) → exists (λ k. v.provides k && eq_tok (v.tok k) s) (places L) ≡ b
          → Places v (cond b v (or_else (first (λ k. not (v.provides k)) (places L)) v (λ k. record { tok = put k s v.tok; provides = put k true v.provides }))) s
      go true e =
          let q = exists_in test (places L) (true_T e) in
          (h, (λ y u. (u, refl)), (q.0, and_l (v.provides q.0) (eq_tok (v.tok q.0) s) q.2, eq_tok→ (v.tok q.0) s (and_r (v.provides q.0) (eq_tok (v.tok q.0) s) q.2)))
      go false e = takes v h s i
          (λ q. false_T e (in_exists test (in_upto L.services q.0 (h.prov_lt q.0 q.1)) (and_i (v.provides q.0) (eq_tok (v.tok q.0) s) q.1 (eq_tok_of q.2))))
          (first (λ k. not (v.provides k)) (places L)) (free_is L.services v.provides)

  place_all : (l : List Tok) → ((s : Tok) → In s l → In s p) → (v : Services) → Some v
      → Some (place_services L v l) × Keeps v (place_services L v l) × ((s : Tok) → In s l → Has (place_services L v l) s)
  place_all [] sub v h = (h, (λ y u. (u, refl)), (λ s i. absurd (in_nil i)))
  place_all (s ∷ l) sub v h =
      let a = place_one v h s (sub s (here refl)) in
      let b = place_all l (λ x i. sub x (there i)) (place_service L v s) a.0 in (
        b.0,
        (λ y u. let q = a.1 y u in let r = b.1 y q.0 in (r.0, r.1 ∙ q.1)),
        (λ x i. has b x (in_cons i)),
      )
    where
      has : Some (place_services L (place_service L v s) l) × Keeps (place_service L v s) (place_services L (place_service L v s) l) × ((x : Tok) → In x l → Has (place_services L (place_service L v s) l) x)
          → (x : Tok) → (x ≡ s) ⊎ In x l → Has (place_services L (place_service L v s) l) x
      has b x (inl e) = let q = (place_one v h s (sub s (here refl))).2 in let r = b.1 q.0 q.1 in (q.0, r.0, r.1 ∙ q.2 ∙ sym e)
      has b x (inr i) = b.2 x i

  -- ---- the numbers that services of l take, where w is left of v
  record Takes (v w : Services) (l : List Tok) (taken : List ℕ) : Type 0 where
    in_order : InOrder (map w.tok taken) l
    rising : Rises taken
    there : (k : ℕ) → In k taken → T (w.provides k)
    unused : (k : ℕ) → In k taken → T (v.provides k) → ⊥
    lowest : (k : ℕ) → In k taken → (i : ℕ) → i < k → T (w.provides i)
    others : (k : ℕ) → T (w.provides k) → In k taken ⊎ (T (v.provides k) × (w.tok k ≡ v.tok k))

  takes_all : (l : List Tok) → ((s : Tok) → In s l → In s p) → (v : Services) → Some v → (taken : List ℕ) × Takes v (place_services L v l) l taken
  takes_all [] sub v h = (
    [],
    record {
      in_order = none_left;
      rising = tt;
      there = λ k m. absurd (in_nil m);
      unused = λ k m. absurd (in_nil m);
      lowest = λ k m. absurd (in_nil m);
      others = λ k u. inr (u, refl);
    },
  )
  takes_all (s ∷ l) sub v h = go (exists test (places L)) refl (takes_all l (λ x m. sub x (there m)))
    where
      -- those of the services after it
      Rest : Type 0
      Rest = (w : Services) → Some w → (taken : List ℕ) × Takes w (place_services L w l) l taken

      test : ℕ → Bool
      test k = v.provides k && eq_tok (v.tok k) s

      below : (x : Tok) → In x l → In x p
      below x m = sub x (there m)

      -- the service takes the lowest unused number, and those after it take numbers above
      more : Rest → (k : ℕ) → FreeIs L.services v.provides (some k) → Some (record { tok = put k s v.tok; provides = put k true v.provides })
          → (taken : List ℕ) × Takes v (place_services L (record { tok = put k s v.tok; provides = put k true v.provides }) l) (s ∷ l) taken
      more rest k f n =
          let x : Services = record { tok = put k s v.tok; provides = put k true v.provides } in
          let w = place_services L x l in
          let stay = (place_all l below x n).1 in
          let (taken, r) = rest x n in
          let on : T (x.provides k) = true_T (at_new k true (v.provides k)) in
          let old : (y : ℕ) → T (v.provides y) → T (x.provides y) = λ y u. by_number k (λ (z : ℕ). T (x.provides z)) y on (λ ne. subst T (sym (at_old k true (v.provides y) y ne)) u) in (
            k ∷ taken,
            record {
              in_order = keeps ((stay k on).1 ∙ at_new k s (v.tok k)) r.in_order;
              rising = (λ y m. above y (λ u. r.unused y m (old y u)) (λ e. r.unused y m (subst (λ (z : ℕ). T (x.provides z)) (sym e) on)), r.rising);
              there = each_cons (λ y. T (w.provides y)) k taken (stay k on).0 r.there;
              unused = each_cons (λ y. T (v.provides y) → ⊥) k taken f.1 (λ y m u. r.unused y m (old y u));
              lowest = each_cons (λ y. (i : ℕ) → i < y → T (w.provides i)) k taken (λ i lt. (stay i (old i (f.2 i lt))).0) r.lowest;
              others = λ y u. which y (r.others y u);
            },
          )
        where
          above : (y : ℕ) → (T (v.provides y) → ⊥) → (y ≡ k → ⊥) → k < y
          above y nu ne = pick (in_or_off y k)
            where
              pick : (y < k) ⊎ (k ≤ y) → k < y
              pick (inl lt) = absurd (nu (f.2 y lt))
              pick (inr le) = past (in_or_off k y)
                where
                  past : (k < y) ⊎ (y ≤ k) → k < y
                  past (inl lt) = lt
                  past (inr ge) = absurd (ne (omega (arith, le, ge)))

          which : (y : ℕ) → {taken : List ℕ} {e : Tok} → In y taken ⊎ (T (put k true v.provides y) × (e ≡ put k s v.tok y)) → In y (k ∷ taken) ⊎ (T (v.provides y) × (e ≡ v.tok y))
          which y (inl m) = inl (there m)
          which y {taken} {e} (inr q) = by_number k (λ (z : ℕ). T (put k true v.provides z) × (e ≡ put k s v.tok z) → In z (k ∷ taken) ⊎ (T (v.provides z) × (e ≡ v.tok z))) y
              (λ _. inl (here refl)) (λ ne u. inr (subst T (at_old k true (v.provides y) y ne) u.0, u.1 ∙ at_old k s (v.tok y) y ne)) q

      go : (b : Bool) → exists (λ k. v.provides k && eq_tok (v.tok k) s) (places L) ≡ b → Rest
          → (taken : List ℕ) × Takes v (place_services L (cond b v (or_else (first (λ k. not (v.provides k)) (places L)) v (λ k. record { tok = put k s v.tok; provides = put k true v.provides }))) l) (s ∷ l) taken
      go true e rest =
          let (taken, r) = rest v h in
          (taken, record { in_order = leave r.in_order; rising = r.rising; there = r.there; unused = r.unused; lowest = r.lowest; others = r.others })
      go false e rest = found (first (λ k. not (v.provides k)) (places L)) (free_is L.services v.provides)
        where
          new : Has v s → ⊥
          new q = false_T e (in_exists test (in_upto L.services q.0 (h.prov_lt q.0 q.1)) (and_i (v.provides q.0) (eq_tok (v.tok q.0) s) q.1 (eq_tok_of q.2)))

          found : (o : Option ℕ) → FreeIs L.services v.provides o
              → (taken : List ℕ) × Takes v (place_services L (or_else o v (λ k. record { tok = put k s v.tok; provides = put k true v.provides })) l) (s ∷ l) taken
          found none f = absurd (room v h s (sub s (here refl)) new f)
          found (some k) f = more rest k f (takes v h s (sub s (here refl)) new (some k) f).0

module _ (L : Layout) (t : Tables) (n : ℕ) (c : Contract) (f : Formed L t) (fit : length c.provides ≤ L.services) where
  abbrev p : List Tok
  p = c.provides

  both : ℕ → Bool
  both y = t.provides n y && has_tok (t.tok n y) c.provides

  kept_tok : (y : ℕ) → T (t.provides n y && has_tok (t.tok n y) c.provides) → (kept_services L t n c).tok y ≡ t.tok n y
  unfolding both
  kept_tok y h = cond_true (both y) (t.tok n y) no_tok h

  kept_some : Some L c.provides fit (kept_services L t n c)
  unfolding both
  kept_some = record {
    prov_lt = λ y h. f.names.prov_lt n y (and_l (t.provides n y) (has_tok (t.tok n y) c.provides) h);
    tok_in = λ y h. in_cast (kept_tok y h) (has_tok_lem (t.tok n y) c.provides (and_r (t.provides n y) (has_tok (t.tok n y) c.provides) h));
    tok_inj = λ y z a b e. f.names.tok_inj n y z (and_l (t.provides n y) (has_tok (t.tok n y) c.provides) a) (and_l (t.provides n z) (has_tok (t.tok n z) c.provides) b)
        (sym (kept_tok y a) ∙ e ∙ kept_tok z b);
    tok_blank = λ y h. cond_false (both y) (t.tok n y) no_tok h;
  }

  pub placed_new : ServicesAt L t n c.provides (new_services L t n c)
  unfolding new_services
  placed_new =
      let h = place_all L p fit p (λ s i. i) (kept_services L t n c) kept_some in
      record {
        prov_lt = h.0.prov_lt;
        tok_in = h.0.tok_in;
        in_tok = h.2;
        tok_inj = h.0.tok_inj;
        tok_blank = h.0.tok_blank;
        stays = λ y q i. let k = and_i (t.provides n y) (has_tok (t.tok n y) p) q (tok_has i) in let r = h.1 y k in (r.0, r.1 ∙ kept_tok y k);
      }

  -- 'the others take the lowest unused in record order'
  pub taken_anew : (after : Tables) → ((y : ℕ) → after.provides n y ≡ (new_services L t n c).provides y) → ((y : ℕ) → after.tok n y ≡ (new_services L t n c).tok y)
      → (taken : List ℕ) × TakenAnew t after n c.provides taken
  unfolding new_services
  taken_anew after same_prov same_tok =
      let w = new_services L t n c in
      let at = placed_new in
      let (taken, r) = takes_all L p fit p (λ s i. i) (kept_services L t n c) kept_some in
      let to : (y : ℕ) → T (w.provides y) → T (after.provides n y) = λ y u. subst T (sym (same_prov y)) u in (
        taken,
        record {
          in_order = subst (λ (l : List Tok). InOrder l p) (λ i. map (λ y. sym (same_tok y) i) taken) r.in_order;
          keep = λ i k u v e.
              let in_p = in_cast (e ∙ same_tok k) (at.tok_in k (subst T (same_prov k) v)) in
              let s = at.stays i u in_p in
              at.tok_inj i k s.0 (subst T (same_prov k) v) (s.1 ∙ e ∙ same_tok k);
          rising = r.rising;
          are_new = λ k m. (
            to k (r.there k m),
            λ i u e.
                let in_p = in_cast (e ∙ same_tok k) (at.tok_in k (r.there k m)) in
                let s = at.stays i u in_p in
                let same : i ≡ k = at.tok_inj i k s.0 (r.there k m) (s.1 ∙ e ∙ same_tok k) in
                r.unused k m (subst (λ (z : ℕ). T (t.provides n z && has_tok (t.tok n z) p)) same (and_i (t.provides n i) (has_tok (t.tok n i) p) u (tok_has in_p))),
          );
          lowest = λ k m i l. to i (r.lowest k m i l);
          all_new = λ k u. which k (r.others k (subst T (same_prov k) u));
        },
      )
    where
      which : (k : ℕ) {taken : List ℕ} → In k taken ⊎ (T ((kept_services L t n c).provides k) × ((new_services L t n c).tok k ≡ (kept_services L t n c).tok k))
          → In k taken ⊎ (T (t.provides n k) × (after.tok n k ≡ t.tok n k))
      which k (inl m) = inl m
      which k (inr q) = inr (and_l (t.provides n k) (has_tok (t.tok n k) p) q.0, same_tok k ∙ q.1 ∙ kept_tok k q.0)
