-- A change of one contract, that under the AID of package i, and of no other: kinds 3 to 11. Its four sets turn each by itself.
use Prim.Native.Nat.{ℕ}
use mathlib.Core.Path.{◌≡◌, refl, sym, ap, ◌∙◌, subst}
use mathlib.Core.Logic.Iff
use mathlib.Core.Logic.{◌⊎◌, inl, inr, ◌↔◌}
use mathlib.Core.Bool.{Bool, true, false, not, cond}
use mathlib.Core.List.{List, [], ◌∷◌, ◌++◌, map}
use mathlib.Core.List.Memᴰ.{head as here}
use mathlib.Core.List.Memᴰ.{not-nil as in_nil}
use mathlib.Core.List.{Memᴰ as In}
use mathlib.Core.List.Memᴰ.{append_cases as in_append}
use mathlib.Core.List.Memᴰ.{append_left as in_left}
use mathlib.Core.List.Memᴰ.{append_right as in_right}
use lib.Dec.{T}
use Rattle.policy.specs.Lists.{keep, NoRepeat}
use Rattle.policy.specs.Contract.{Aid, eq_aid, Tok, Row, Contract}
use Rattle.policy.specs.Layout.{Layout}
use Rattle.policy.specs.Machine.{alter}
use Rattle.policy.specs.Tables.{Tables, Unmet}
use Rattle.policy.specs.History.{FourSets}
use Rattle.policy.proofs.Sets.{true_T, false_T, test, not_i, not_e, keep_in, in_keep, once_keep, in_map, map_in, once_append, each_one}
use Rattle.policy.proofs.Equal.{eq_aid→, eq_aid_of}
use Rattle.policy.proofs.Formed.{Names, ProvidesAt, RowAt, GrantAt, HasContract, Stands}

-- ---- sets by number: P before the change, P' after it
module _ {A : Type 0} where
  abbrev Lists : (A → Type 0) → List A → Type 0
  Lists P l = (x : A) → In x l ↔ P x

  -- a list of what number i has turns by f; those of other used numbers stay
  pub record Turned (used : ℕ → Bool) (i : ℕ) (f : List A → List A) (P P' : ℕ → A → Type 0) : Type 0 where
    pub others : (n : ℕ) → T (used n) → (n ≡ i → ⊥) → (l : List A) → Lists (P n) l → Lists (P' n) l
    pub own : (l : List A) → Lists (P i) l → Lists (P' i) (f l)
    pub once : (l : List A) → Lists (P i) l → NoRepeat l → NoRepeat (f l)

  -- number i has those of N more, or less
  module _ (i : ℕ) (N : A → Type 0) (P P' : ℕ → A → Type 0) where
    abbrev pub More : Type 0
    More = (n : ℕ) (x : A) → P' n x ↔ (P n x ⊎ ((n ≡ i) × N x))

    abbrev pub Less : Type 0
    Less = (n : ℕ) (x : A) → P' n x ↔ (P n x × ((n ≡ i) × N x → ⊥))

  module _ {used : ℕ → Bool} {i : ℕ} {P P' : ℕ → A → Type 0} where
    pub turned_same : T (used i) → ((n : ℕ) → T (used n) → (x : A) → P n x ↔ P' n x) → Turned used i (λ l. l) P P'
    turned_same u h = record {
      others = λ n un _ l e x. Iff.trans (e x) (h n un x);
      own = λ l e x. Iff.trans (e x) (h i u x);
      once = λ l e d. d;
    }

    -- number i has those of m, and no longer those of l
    pub turned_to : (m : List A) → NoRepeat m → Lists (P' i) m → ((n : ℕ) → T (used n) → (n ≡ i → ⊥) → (x : A) → P n x ↔ P' n x) → Turned used i (λ l. m) P P'
    turned_to m dm is h = record {
      others = λ n un ne l e x. Iff.trans (e x) (h n un ne x);
      own = λ l e. is;
      once = λ l e d. dm;
    }

    pub turned_more : (N : A → Type 0) (m : List A) → Lists N m → NoRepeat m → More i N P P' → ((x : A) → N x → P i x → ⊥) → Turned used i (λ l. l ++ m) P P'
    turned_more N m is dm h new = record {
      others = λ n _ ne l e x. (λ k. (h n x).1 (inl ((e x).0 k)), λ p. (e x).1 (other n ne x ((h n x).0 p)));
      own = λ l e x. (λ k. (h i x).1 (to l e x (in_append l k)), λ p. back l e x ((h i x).0 p));
      once = λ l e d. once_append l m d dm (λ x p q. new x ((is x).0 q) ((e x).0 p));
    }
      where
        other : (n : ℕ) → (n ≡ i → ⊥) → (x : A) → P n x ⊎ ((n ≡ i) × N x) → P n x
        other n ne x (inl p) = p
        other n ne x (inr q) = absurd (ne q.0)

        to : (l : List A) → Lists (P i) l → (x : A) → In x l ⊎ In x m → P i x ⊎ ((i ≡ i) × N x)
        to l e x (inl k) = inl ((e x).0 k)
        to l e x (inr k) = inr (refl, (is x).0 k)

        back : (l : List A) → Lists (P i) l → (x : A) → P i x ⊎ ((i ≡ i) × N x) → In x (l ++ m)
        back l e x (inl p) = in_left m ((e x).1 p)
        back l e x (inr q) = in_right l ((is x).1 q.1)

    pub turned_one : (r : A) → More i (λ x. x ≡ r) P P' → (P i r → ⊥) → Turned used i (λ l. l ++ (r ∷ [])) P P'
    turned_one r h new = turned_more (λ x. x ≡ r) (r ∷ []) (λ x. (each_one (λ y. y ≡ r) r refl x, λ e. here e)) (in_nil, tt) h (λ x e p. new (subst (P i) e p))

    -- number i has those of m, each once
    pub turned_union : (has : A → List A → Bool) → ((x : A) (l : List A) → T (has x l) ↔ In x l) → (m : List A) → NoRepeat m → More i (λ x. In x m) P P'
        → Turned used i (λ l. l ++ keep (λ x. not (has x l)) m) P P'
    turned_union has is m dm h = record {
      others = λ n _ ne l e x. (λ k. (h n x).1 (inl ((e x).0 k)), λ p. (e x).1 (other n ne x ((h n x).0 p)));
      own = λ l e x. (λ k. (h i x).1 (to l e x (in_append l k)), λ p. back l e x ((h i x).0 p));
      once = λ l e d. once_append l (keep (λ x. not (has x l)) m) d (once_keep (λ x. not (has x l)) m dm)
          (λ x p q. not_e (has x l) (keep_in (λ x. not (has x l)) m q).1 ((is x l).1 p));
    }
      where
        other : (n : ℕ) → (n ≡ i → ⊥) → (x : A) → P n x ⊎ ((n ≡ i) × In x m) → P n x
        other n ne x (inl p) = p
        other n ne x (inr q) = absurd (ne q.0)

        to : (l : List A) → Lists (P i) l → (x : A) → In x l ⊎ In x (keep (λ x. not (has x l)) m) → P i x ⊎ ((i ≡ i) × In x m)
        to l e x (inl k) = inl ((e x).0 k)
        to l e x (inr k) = inr (refl, (keep_in (λ x. not (has x l)) m k).0)

        back : (l : List A) → Lists (P i) l → (x : A) → P i x ⊎ ((i ≡ i) × In x m) → In x (l ++ keep (λ x. not (has x l)) m)
        back l e x (inl p) = in_left (keep (λ x. not (has x l)) m) ((e x).1 p)
        back l e x (inr q) = go (test (has x l))
          where
            go : T (has x l) ⊎ (T (has x l) → ⊥) → In x (l ++ keep (λ x. not (has x l)) m)
            go (inl y) = in_left (keep (λ x. not (has x l)) m) ((is x l).0 y)
            go (inr y) = in_right l (in_keep (λ x. not (has x l)) q.1 (not_i (has x l) y))

    pub turned_less : (N : A → Type 0) (s : A → Bool) → ((x : A) → T (s x) ↔ (N x → ⊥)) → Less i N P P' → Turned used i (keep s) P P'
    turned_less N s is h = record {
      others = λ n _ ne l e x. (λ k. (h n x).1 ((e x).0 k, λ q. ne q.0), λ p. (e x).1 ((h n x).0 p).0);
      own = λ l e x. (
        λ k. let q = keep_in s l k in (h i x).1 ((e x).0 q.0, λ w. (is x).0 q.1 w.1),
        λ p. in_keep s ((e x).1 ((h i x).0 p).0) ((is x).1 (λ w. ((h i x).0 p).1 (refl, w))),
      );
      once = λ l e d. once_keep s l d;
    }

-- ---- the contract of package i turns by the four, and every other one stays
module _ {fp : List Tok → List Tok} {fc fg fd : List Row → List Row} (L : Layout) (t t' : Tables) (lost : List Unmet) (cs : List Contract) (a : Aid) (i : ℕ)
    (names : Names L t.used t.aid t.tok t.provides) (st : Stands t [] cs) (ui : T (t.used i)) (ai : t.aid i ≡ a)
    (eu : t'.used ≡ t.used) (ea : t'.aid ≡ t.aid)
    (tp : Turned t.used i fp (ProvidesAt t) (ProvidesAt t'))
    (tc : Turned t.used i fc (RowAt t t.calls t.unmet) (RowAt t' t'.calls t'.unmet))
    (tg : Turned t.used i fg (GrantAt t) (GrantAt t'))
    (td : Turned t.used i fd (RowAt t t.needs []) (RowAt t' t'.needs lost)) where
  abbrev f : Contract → Contract
  f c = record { aid = c.aid; provides = fp c.provides; calls = fc c.calls; grants = fg c.grants; needs = fd c.needs }

  same_aid : (n : ℕ) (c : Contract) → HasContract t [] n c → c.aid ≡ t'.aid n
  same_aid n c h = h.aid ∙ ap (λ (z : ℕ → Aid). z n) (sym ea)

  -- the contract of number n, by whether it is the one that changes
  has_step : (c : Contract) (n : ℕ) → T (t.used n) → HasContract t [] n c → (b : Bool) → eq_aid c.aid a ≡ b → HasContract t' lost n (cond b (f c) c)
  has_step c n u h true e =
      let q : n ≡ i = names.aid_inj n i u ui (sym h.aid ∙ eq_aid→ c.aid a (true_T e) ∙ sym ai) in
      subst (λ (z : ℕ). HasContract t' lost z (f c)) (sym q) (own (subst (λ (z : ℕ). HasContract t [] z c) q h))
    where
      own : HasContract t [] i c → HasContract t' lost i (f c)
      own k = record {
        aid = same_aid i c k;
        provides = tp.own c.provides k.provides;
        calls = tc.own c.calls k.calls;
        grants = tg.own c.grants k.grants;
        needs = td.own c.needs k.needs;
      }
  has_step c n u h false e =
      let ne : n ≡ i → ⊥ = λ q. false_T e (eq_aid_of (h.aid ∙ ap t.aid q ∙ ai)) in
      record {
        aid = same_aid n c h;
        provides = tp.others n u ne c.provides h.provides;
        calls = tc.others n u ne c.calls h.calls;
        grants = tg.others n u ne c.grants h.grants;
        needs = td.others n u ne c.needs h.needs;
      }

  aid_step : (c : Contract) (b : Bool) → (cond b (f c) c).aid ≡ c.aid
  aid_step c true = refl
  aid_step c false = refl

  aids_step : (l : List Contract) → map (λ c. c.aid) (alter a f l) ≡ map (λ c. c.aid) l
  aids_step [] = refl
  aids_step (c ∷ l) = λ z. aid_step c (eq_aid c.aid a) z ∷ aids_step l z

  sets_step : (c : Contract) (n : ℕ) → T (t.used n) → HasContract t [] n c → FourSets c → (b : Bool) → eq_aid c.aid a ≡ b → FourSets (cond b (f c) c)
  sets_step c n u h s true e =
      let k = subst (λ (z : ℕ). HasContract t [] z c) (names.aid_inj n i u ui (sym h.aid ∙ eq_aid→ c.aid a (true_T e) ∙ sym ai)) h in
      record {
        provides = tp.once c.provides k.provides s.provides;
        calls = tc.once c.calls k.calls s.calls;
        grants = tg.once c.grants k.grants s.grants;
        needs = td.once c.needs k.needs s.needs;
      }
  sets_step c n u h s false e = s

  pub stands_turned : Stands t' lost (alter a f cs)
  stands_turned = record {
    these = λ d m.
        let p = map_in (λ k. cond (eq_aid k.aid a) (f k) k) cs m in
        let h = st.these p.0 p.1 in (
          h.0,
          subst (λ (z : ℕ → Bool). T (z h.0)) (sym eu) h.1,
          subst (λ (z : Contract). HasContract t' lost h.0 z) (sym p.2) (has_step p.0 h.0 h.1 h.2 (eq_aid p.0.aid a) refl),
        );
    no_others = λ n u.
        let h = st.no_others n (subst (λ (z : ℕ → Bool). T (z n)) eu u) in (
          cond (eq_aid h.0.aid a) (f h.0) h.0,
          in_map (λ k. cond (eq_aid k.aid a) (f k) k) h.1,
          aid_step h.0 (eq_aid h.0.aid a) ∙ h.2 ∙ ap (λ (z : ℕ → Aid). z n) (sym ea),
        );
    one_each = subst (λ (z : List Aid). NoRepeat z) (sym (aids_step cs)) st.one_each;
    four_sets = λ d m.
        let p = map_in (λ k. cond (eq_aid k.aid a) (f k) k) cs m in
        let h = st.these p.0 p.1 in
        subst FourSets (sym p.2) (sets_step p.0 h.0 h.1 h.2 (st.four_sets p.0 p.1) (eq_aid p.0.aid a) refl);
  }
