-- The rows of a package, written one after another: its calls, its grants and its needs as bits, and those that wait. Assumes nothing.
use Prim.Native.Nat.{ℕ}
use mathlib.Core.Path.{◌≡◌, refl, sym, ap, ◌∙◌, subst}
use mathlib.Core.Bool.{Bool, true, false, not, ◌&&◌, ◌||◌, cond, and-false, or-false}
use mathlib.Core.List.{List, [], ◌∷◌, ◌++◌, map, append_assoc, append-nil}
use mathlib.Core.Option.{Option, none, some}
use lib.Dec.{T, eqb, eqb→eq}
use Rattle.policy.specs.Lists.{keep, is_some}
use Rattle.policy.specs.Contract.{Row, eq_row, has_row}
use Rattle.policy.specs.Layout.{Layout}
use Rattle.policy.specs.Tables.{Tables, Unmet, Waiting}
use Rattle.policy.specs.Lookup.{Place, Spot, service_at, number_of, service_of, server_of, spot_of}
use Rattle.policy.specs.Draft.{call_row, grant_row, put3, with_calls, with_grants, with_needs, add_call_at, add_grant_at}
use Rattle.policy.proofs.Sets.{T_eq, T_false, and_l, and_r, and_i}
use Rattle.policy.proofs.Equal.{eqb_of, row_path, eq_row→, eq_row_refl}
use Rattle.policy.proofs.Formed.{Names}
use Rattle.policy.proofs.Found.{ServerIs, SpotIs, server_is, spot_is, same_place}
use Rattle.changes.proofs.MaskedRows.{or_none, row_off}
use Rattle.changes.specs.Own.{need_at, served, called_all, granted_all, needed_all, own_rows, NoRows, with_own}

-- ---- one row more among those of a package: p is its row of bits, s that a place stands for the row
row_more : (p q r b u s e : Bool) → q && r ≡ u && s → cond (p && q && r) true b || (p && (u && e)) ≡ b || (p && (u && (s || e)))
row_more false q r b u s e h = refl
row_more true q r b u s e h = ap (λ (z : Bool). cond z true b || (u && e)) h ∙ go b u s
  where
    go : (b u s : Bool) → cond (u && s) true b || (u && e) ≡ b || (u && (s || e))
    go true true true = refl
    go false true true = refl
    go b true false = refl
    go b false s = refl

no_rows : (p u b : Bool) → b ≡ b || (p && (u && false))
no_rows p u b = or_none b (ap (λ (z : Bool). p && z) (and-false u) ∙ and-false p)

-- the row of a package that had none, beside those of the others
empty_row : (p b w : Bool) → (T p → b ≡ false) → b || (p && w) ≡ cond p w b
empty_row true b w h = ap (λ (z : Bool). z || w) (h tt)
empty_row false b w h = or-false b

-- ---- rows of package n as bits: a row is the bit y, z where that place is there and stands for it
module _ (there : ℕ → ℕ → Bool) (at : ℕ → ℕ → Row) (n : ℕ) where
  -- bits b with the rows of l
  abbrev pub with_rows : (ℕ → ℕ → ℕ → Bool) → List Row → ℕ → ℕ → ℕ → Bool
  with_rows b l x y z = b x y z || (eqb x n && (there y z && has_row (at y z) l))

  no_row : (b : ℕ → ℕ → ℕ → Bool) → b ≡ with_rows b []
  no_row b = λ i x y z. no_rows (eqb x n) (there y z) (b x y z) i

  -- one row more, which stands nowhere
  missing : (b : ℕ → ℕ → ℕ → Bool) (r : Row) (l : List Row) → ((j k : ℕ) → T (there j k) → at j k ≡ r → ⊥) → with_rows b l ≡ with_rows b (r ∷ l)
  missing b r l h = λ i x y z. b x y z || (eqb x n && row_off (there y z) (eq_row (at y z) r) (has_row (at y z) l) (nowhere y z) i)
    where
      nowhere : (y z : ℕ) → false ≡ there y z && eq_row (at y z) r
      nowhere y z = let p = there y z in let s = eq_row (at y z) r in sym (T_false (p && s) (λ q. h y z (and_l p s q) (eq_row→ (at y z) r (and_r p s q))))

  -- or at the place j, k, and no other does
  module _ (once : (y z j k : ℕ) → T (there y z) → T (there j k) → at y z ≡ at j k → (y ≡ j) × (z ≡ k)) where
    placed : (b : ℕ → ℕ → ℕ → Bool) (r : Row) (l : List Row) (j k : ℕ) → T (there j k) → at j k ≡ r → with_rows (put3 n j k true b) l ≡ with_rows b (r ∷ l)
    placed b r l j k h e = λ i x y z. row_more (eqb x n) (eqb y j) (eqb z k) (b x y z) (there y z) (eq_row (at y z) r) (has_row (at y z) l) (one y z) i
      where
        one : (y z : ℕ) → eqb y j && eqb z k ≡ there y z && eq_row (at y z) r
        one y z =
            let p = there y z in
            let s = eq_row (at y z) r in
            let a = eqb y j in
            let c = eqb z k in
            T_eq (a && c) (p && s)
            (λ q. subst (λ (y : ℕ). T (there y z && eq_row (at y z) r)) (sym (eqb→eq y j (and_l a c q)))
            (subst (λ (z : ℕ). T (there j z && eq_row (at j z) r)) (sym (eqb→eq z k (and_r a c q)))
            (and_i (there j k) (eq_row (at j k) r) h (subst (λ (o : Row). T (eq_row o r)) (sym e) (eq_row_refl r)))))
            (λ q. let f = once y z j k (and_l p s q) h (eq_row→ (at y z) r (and_r p s q) ∙ sym e) in and_i a c (eqb_of f.0) (eqb_of f.1))

-- ---- tables v whose names are in order; what is found in them does not depend on their bits and lists
module _ (L : Layout) (v : Tables) (names : Names L v.used v.aid v.tok v.provides) (n : ℕ) where
  -- ---- calls and needs: the services of the card
  abbrev on_services : (ℕ → ℕ → ℕ → Bool) → List Row → ℕ → ℕ → ℕ → Bool
  on_services = with_rows v.provides (service_at v) n

  no_server : (b : ℕ → ℕ → ℕ → Bool) (r : Row) (l : List Row) → ServerIs v r none → on_services b l ≡ on_services b (r ∷ l)
  no_server b r l h = missing v.provides (service_at v) n b r l (λ j k p e. h j k p (λ i. (e i).aid) (λ i. (e i).tok))

  at_server : (b : ℕ → ℕ → ℕ → Bool) (r : Row) (l : List Row) (p : Place) → ServerIs v r (some p) → on_services (put3 n p.callee p.service true b) l ≡ on_services b (r ∷ l)
  at_server b r l p h = placed v.provides (service_at v) n (λ y z j k p q e. same_place L v names y z j k p q (λ i. (e i).aid) (λ i. (e i).tok))
      b r l p.callee p.service h.0 (row_path h.1 h.2)

  -- calls whose service is not on the card are unmet
  abbrev unserved : List Row → List Row
  unserved l = keep (λ r. not (served L v r)) l

  pub called_rows : (l : List Row) (c : ℕ → ℕ → ℕ → Bool) (u : List Unmet)
      → called_all L n l (with_calls c u v) ≡ with_calls (with_rows v.provides (service_at v) n c l) (u ++ map (call_row n) (keep (λ r. not (served L v r)) l)) v
  unfolding number_of service_of server_of
  called_rows [] c u = λ i. with_calls (no_row v.provides (service_at v) n c i) (sym (append-nil u) i) v
  called_rows (r ∷ l) c u = go (server_of L v r) (server_is L v names r) (λ c u. called_rows l c u)
    where
      go : (o : Option Place) → ServerIs v r o → ((c : ℕ → ℕ → ℕ → Bool) (u : List Unmet) → called_all L n l (with_calls c u v) ≡ with_calls (on_services c l) (u ++ map (call_row n) (unserved l)) v)
          → called_all L n l (add_call_at L (with_calls c u v) n r o).tables ≡ with_calls (on_services c (r ∷ l)) (u ++ map (call_row n) (cond (not (is_some o)) (r ∷ unserved l) (unserved l))) v
      go none h ih = ih c (u ++ (call_row n r ∷ []))
          ∙ (λ i. with_calls (no_server c r l h i) (append_assoc u (call_row n r ∷ []) (map (call_row n) (unserved l)) i) v)
      go (some p) h ih = ih (put3 n p.callee p.service true c) u ∙ (λ i. with_calls (at_server c r l p h i) (u ++ map (call_row n) (unserved l)) v)

  pub needed_rows : (l : List Row) (b : ℕ → ℕ → ℕ → Bool) → needed_all L n l (with_needs b v) ≡ with_needs (with_rows v.provides (service_at v) n b l) v
  unfolding number_of service_of server_of
  needed_rows [] b = λ i. with_needs (no_row v.provides (service_at v) n b i) v
  needed_rows (r ∷ l) b = go (server_of L v r) (server_is L v names r) (λ b. needed_rows l b)
    where
      go : (o : Option Place) → ServerIs v r o → ((b : ℕ → ℕ → ℕ → Bool) → needed_all L n l (with_needs b v) ≡ with_needs (on_services b l) v)
          → needed_all L n l (need_at (with_needs b v) n o) ≡ with_needs (on_services b (r ∷ l)) v
      go none h ih = ih b ∙ (λ i. with_needs (no_server b r l h i) v)
      go (some p) h ih = ih (put3 n p.callee p.service true b) ∙ (λ i. with_needs (at_server b r l p h i) v)

  -- ---- grants: the packages of the card, and the services of package n
  abbrev pub granted : ℕ → ℕ → Bool
  granted y z = v.provides n z && v.used y

  abbrev pub grant_of : ℕ → ℕ → Row
  grant_of y z = record { aid = v.aid y; tok = v.tok n z }

  once : (y z j k : ℕ) → T (granted y z) → T (granted j k) → grant_of y z ≡ grant_of j k → (y ≡ j) × (z ≡ k)
  once y z j k p q e = (
    names.aid_inj y j (and_r (v.provides n z) (v.used y) p) (and_r (v.provides n k) (v.used j) q) (λ i. (e i).aid),
    names.tok_inj n z k (and_l (v.provides n z) (v.used y) p) (and_l (v.provides n k) (v.used j) q) (λ i. (e i).tok),
  )

  -- those whose caller and service are not both there wait
  abbrev waiting : List Row → List Row
  waiting l = keep (λ r. not (is_some (spot_of L v n r))) l

  pub granted_rows : (l : List Row) (g : ℕ → ℕ → ℕ → Bool) (w : List Waiting)
      → granted_all L n l (with_grants g w v) ≡ with_grants (with_rows granted grant_of n g l) (w ++ map (grant_row n) (keep (λ r. not (is_some (spot_of L v n r))) l)) v
  unfolding number_of service_of spot_of
  granted_rows [] g w = λ i. with_grants (no_row granted grant_of n g i) (sym (append-nil w) i) v
  granted_rows (r ∷ l) g w = go (spot_of L v n r) (spot_is L v names n r) (λ g w. granted_rows l g w)
    where
      go : (o : Option Spot) → SpotIs v n r o → ((g : ℕ → ℕ → ℕ → Bool) (w : List Waiting) → granted_all L n l (with_grants g w v) ≡ with_grants (with_rows granted grant_of n g l) (w ++ map (grant_row n) (waiting l)) v)
          → granted_all L n l (add_grant_at L (with_grants g w v) n r o).tables
          ≡ with_grants (with_rows granted grant_of n g (r ∷ l)) (w ++ map (grant_row n) (cond (not (is_some o)) (r ∷ waiting l) (waiting l))) v
      go none h ih = ih g (w ++ (grant_row n r ∷ []))
          ∙ (λ i. with_grants (missing granted grant_of n g r l
          (λ j k p e. h j k (and_r (v.provides n k) (v.used j) p) (λ i. (e i).aid) (and_l (v.provides n k) (v.used j) p) (λ i. (e i).tok)) i)
          (append_assoc w (grant_row n r ∷ []) (map (grant_row n) (waiting l)) i) v)
      go (some p) h ih = ih (put3 n p.caller p.service true g) w
          ∙ (λ i. with_grants (placed granted grant_of n once g r l p.caller p.service
          (and_i (v.provides n p.service) (v.used p.caller) h.2 h.0) (row_path h.1 h.3) i)
          (w ++ map (grant_row n) (waiting l)) v)

-- ---- all rows of a package that has none yet
module _ (L : Layout) (v : Tables) (names : Names L v.used v.aid v.tok v.provides) (n : ℕ) (c g m : List Row) where
  abbrev called : Tables
  called = with_calls (with_rows v.provides (service_at v) n v.calls c) (v.unmet ++ map (call_row n) (unserved L v names n c)) v

  abbrev granted_too : Tables
  granted_too = with_grants (with_rows (granted L v names n) (grant_of L v names n) n v.grants g) (v.waiting ++ map (grant_row n) (waiting L v names n g)) called

  pub own_rows_lem : NoRows L n v → own_rows L n c g m v ≡ with_own L n c g m v
  unfolding number_of service_of server_of spot_of
  own_rows_lem blank =
      ap (λ (t : Tables). needed_all L n m (granted_all L n g t)) (called_rows L v names n c v.calls v.unmet)
      ∙ ap (needed_all L n m) (granted_rows L called names n g v.grants v.waiting) ∙ needed_rows L granted_too names n m v.needs
      ∙ (λ i. record {
        used = v.used;
        aid = v.aid;
        tok = v.tok;
        provides = v.provides;
        calls = λ x y z. empty_row (eqb x n) (v.calls x y z) (v.provides y z && has_row (service_at v y z) c) (λ h. at_own x (λ u. v.calls u y z) h (blank y z).0) i;
        grants = λ x y z. empty_row (eqb x n) (v.grants x y z) ((v.provides n z && v.used y) && has_row (record { aid = v.aid y; tok = v.tok n z }) g)
            (λ h. at_own x (λ u. v.grants u y z) h (blank y z).1) i;
        needs = λ x y z. empty_row (eqb x n) (v.needs x y z) (v.provides y z && has_row (service_at v y z) m) (λ h. at_own x (λ u. v.needs u y z) h (blank y z).2) i;
        unmet = v.unmet ++ map (call_row n) (unserved L v names n c);
        waiting = v.waiting ++ map (grant_row n) (waiting L v names n g);
      })
    where
      at_own : (x : ℕ) (b : ℕ → Bool) → T (eqb x n) → b n ≡ false → b x ≡ false
      at_own x b h e = ap b (eqb→eq x n h) ∙ e
