-- A change of B's contract makes of contracts that agree contracts that agree; causes 4 to 7 are the same.
use mathlib.Core.Path.{◌≡◌, refl, sym, ap, ◌∙◌, subst}
use mathlib.Core.Logic.Iff
use mathlib.Core.Logic.{◌⊎◌, inl, inr}
use mathlib.Core.Bool.{Bool, true, false, not, ◌||◌, cond}
use mathlib.Core.List.{List, [], ◌∷◌, ◌++◌, map}
use mathlib.Core.List.Memᴰ.{cases_cons as in_cons}
use mathlib.Core.List.Memᴰ.{head as here}
use mathlib.Core.List.Memᴰ.{tail as there}
use mathlib.Core.List.{Memᴰ as In}
use mathlib.Core.List.Memᴰ.{append_cases as in_append}
use mathlib.Core.List.Memᴰ.{append_left as in_left}
use mathlib.Core.List.Memᴰ.{append_right as in_right}
use mathlib.Core.List.Memᴰ.{cast as in_cast}
use lib.Dec.{T, leb}
use lib.ListN.{length, length-map}
use Rattle.policy.specs.Lists.{SameSet, keep}
use Rattle.policy.specs.Contract.{Aid, eq_aid, Tok, eq_tok, Row, eq_row, Contract, has_tok, has_row, under, installed}
use Rattle.policy.specs.Layout.{Layout}
use Rattle.policy.specs.Record.{Change, load, remove, add_service, remove_service, add_call, remove_call, add_grant, remove_grant, add_need, remove_need, replace}
use Rattle.policy.specs.Causes.{◌when◌}
use Rattle.policy.specs.Machine.{altered, alter, effect, causes4to7}
use Rattle.policy.specs.History.{SameContract}
use Rattle.policy.proofs.Sets.{test, not_i, or_l, same_length, keep_in, in_keep, in_map, map_in, same_has}
use Rattle.policy.proofs.Equal.{eq_aid→, eq_aid_of, eq_row→, eq_row_refl, has_row_lem}
use Rattle.noninterference.specs.Alike.{at_end, seen_by}
use Rattle.noninterference.proofs.Agree.{same_refl, Sets, Agrees, seen, Sees, Agree, under_same, tok_same, installed_same}

-- ---- sets that are changed alike
module _ {A : Type 0} {l m : List A} (same : SameSet l m) where
  same_append : (n : List A) → SameSet (l ++ n) (m ++ n)
  same_append n x = (λ h. go l m (same x).0 (in_append l h), λ h. go m l (same x).1 (in_append m h))
    where
      go : (l m : List A) → (In x l → In x m) → In x l ⊎ In x n → In x (m ++ n)
      go l m f (inl h) = in_left n (f h)
      go l m f (inr h) = in_right m h

  same_keep : (f : A → Bool) → SameSet (keep f l) (keep f m)
  same_keep f x = (
    λ h. let p = keep_in f l h in in_keep f ((same x).0 p.0) p.1,
    λ h. let p = keep_in f m h in in_keep f ((same x).1 p.0) p.1,
  )

  same_either : (b : Bool) (f : A → Bool) → SameSet (cond b l (keep f l)) (cond b m (keep f m))
  same_either true f = same
  same_either false f = same_keep f

-- with those of n that are new
same_new : {l m : List Row} → SameSet l m → (n : List Row) → SameSet (l ++ keep (λ r. not (has_row r l)) n) (m ++ keep (λ r. not (has_row r m)) n)
same_new {l} {m} same n x = (go l m (same x).0, go m l (same x).1)
  where
    go : (l m : List Row) → (In x l → In x m) → In x (l ++ keep (λ r. not (has_row r l)) n) → In x (m ++ keep (λ r. not (has_row r m)) n)
    go l m f h = on (in_append l h)
      where
        new : In x n → T (has_row x m) ⊎ (T (has_row x m) → ⊥) → In x (m ++ keep (λ r. not (has_row r m)) n)
        new p (inl y) = in_left (keep (λ r. not (has_row r m)) n) (has_row_lem x m y)
        new p (inr y) = in_right m (in_keep (λ r. not (has_row r m)) p (not_i (has_row x m) y))

        on : In x l ⊎ In x (keep (λ r. not (has_row r l)) n) → In x (m ++ keep (λ r. not (has_row r m)) n)
        on (inl p) = in_left (keep (λ r. not (has_row r m)) n) (f p)
        on (inr p) = new (keep_in (λ r. not (has_row r l)) n p).0 (test (has_row x m))

module _ (L : Layout) where
  -- ---- what a change makes of one contract
  altered_same : (ch : Change) (c k : Contract) → SameContract c k → SameContract (altered L ch c) (altered L ch k)
  altered_same (load p c g n) _ _ a = a
  altered_same remove _ _ a = a
  altered_same (add_service s l) _ _ a = record {
    aid = a.aid;
    provides = same_append a.provides (s ∷ []);
    calls = a.calls;
    grants = same_new a.grants (map (λ a. record { aid = a; tok = s }) l);
    needs = a.needs;
  }
  altered_same (remove_service s) _ _ a = record {
    aid = a.aid;
    provides = same_keep a.provides (λ y. not (eq_tok s y));
    calls = a.calls;
    grants = same_either a.grants L.early (λ x. not (eq_tok s x.tok));
    needs = a.needs;
  }
  altered_same (add_call r) _ _ a = record { aid = a.aid; provides = a.provides; calls = same_append a.calls (r ∷ []); grants = a.grants; needs = a.needs }
  altered_same (remove_call r) _ _ a = record {
    aid = a.aid;
    provides = a.provides;
    calls = same_keep a.calls (λ y. not (eq_row r y));
    grants = a.grants;
    needs = same_keep a.needs (λ y. not (eq_row r y));
  }
  altered_same (add_grant r) _ _ a = record { aid = a.aid; provides = a.provides; calls = a.calls; grants = same_append a.grants (r ∷ []); needs = a.needs }
  altered_same (remove_grant r) _ _ a = record { aid = a.aid; provides = a.provides; calls = a.calls; grants = same_keep a.grants (λ y. not (eq_row r y)); needs = a.needs }
  altered_same (add_need r) _ _ a = record { aid = a.aid; provides = a.provides; calls = a.calls; grants = a.grants; needs = same_append a.needs (r ∷ []) }
  altered_same (remove_need r) _ _ a = record { aid = a.aid; provides = a.provides; calls = a.calls; grants = a.grants; needs = same_keep a.needs (λ y. not (eq_row r y)) }
  altered_same (replace p c g n) _ _ a = record { aid = a.aid; provides = λ s. Iff.rfl; calls = λ r. Iff.rfl; grants = λ r. Iff.rfl; needs = λ r. Iff.rfl }

module _ (b : Aid) where
  -- the same contracts agree
  pub same_agrees : (c k : Contract) → SameContract c k → Agrees b c k
  same_agrees c k a = record { aid = a.aid; provides = a.provides; calls = ends a.calls; grants = ends a.grants; needs = ends a.needs }
    where
      ends : {l m : List Row} → SameSet l m → SameSet (keep (at_end b c) l) (keep (at_end b k) m)
      ends {l} {m} same = subst (λ (z : Aid). SameSet (keep (at_end b c) l) (keep (λ r. eq_aid z b || eq_aid r.aid b) m)) a.aid (same_keep same (at_end b c))

  -- B's own contracts that agree are the same
  own_same : (c k : Contract) → c.aid ≡ b → Agrees b c k → SameContract c k
  own_same c k e a = record {
    aid = a.aid;
    provides = a.provides;
    calls = all (λ c. c.calls) a.calls;
    grants = all (λ c. c.grants) a.grants;
    needs = all (λ c. c.needs) a.needs;
  }
    where
      at : (c : Contract) → c.aid ≡ b → (r : Row) → T (at_end b c r)
      at c e r = or_l (eq_aid c.aid b) (eq_aid r.aid b) (eq_aid_of e)

      all : (rows : Contract → List Row) → SameSet (keep (at_end b c) (rows c)) (keep (at_end b k) (rows k)) → SameSet (rows c) (rows k)
      all rows s r = (seen b rows c k s r (at c e r), seen b rows k c (λ x. ((s x).1, (s x).0)) r (at k (sym a.aid ∙ e) r))

module _ (L : Layout) (b : Aid) where
  -- ---- the contract under B altered
  module _ (f : Contract → Contract) (keeps : (c k : Contract) → SameContract c k → SameContract (f c) (f k)) where
    abbrev turned : Contract → Contract
    turned k = cond (eq_aid k.aid b) (f k) k

    turned_agrees : (c k : Contract) → Agrees b c k → Agrees b (turned c) (turned k)
    turned_agrees c k a = subst (λ (z : Aid). Agrees b (turned c) (cond (eq_aid z b) (f k) k)) a.aid
        (go (eq_aid c.aid b) (λ t. same_agrees b (f c) (f k) (keeps c k (own_same b c k (eq_aid→ c.aid b t) a))))
      where
        go : (x : Bool) → (T x → Agrees b (f c) (f k)) → Agrees b (cond x (f c) c) (cond x (f k) k)
        go true h = h tt
        go false h = a

    alter_sees : (cs ds : List Contract) → Sees b cs ds → Sees b (alter b f cs) (alter b f ds)
    alter_sees cs ds sees c m =
        let (d, md, e) = map_in turned cs m in
        let (k, mk, a) = sees d md in
        (turned k, in_map turned mk, subst (λ (z : Contract). Agrees b z (turned k)) (sym e) (turned_agrees d k a))

  -- ---- the contracts that a record leaves
  sees_cons : (k : Contract) (cs ds : List Contract) → Sees b cs ds → Sees b (k ∷ cs) (k ∷ ds)
  sees_cons k cs ds sees c m = go (in_cons m)
    where
      go : (c ≡ k) ⊎ In c cs → (d : Contract) × In d (k ∷ ds) × Agrees b c d
      go (inl e) = (k, here refl, subst (λ (z : Contract). Agrees b z k) (sym e) (same_refl (seen_by b k)))
      go (inr n) = let (d, md, a) = sees c n in (d, there md, a)

  sees_keep : (cs ds : List Contract) → Sees b cs ds → Sees b (keep (λ k. not (eq_aid k.aid b)) cs) (keep (λ k. not (eq_aid k.aid b)) ds)
  sees_keep cs ds sees c m =
      let (mc, t) = keep_in (λ k. not (eq_aid k.aid b)) cs m in
      let (k, mk, a) = sees c mc in
      (k, in_keep (λ k. not (eq_aid k.aid b)) mk (subst (λ (z : Aid). T (not (eq_aid z b))) a.aid t), a)

  effect_sees : (ch : Change) (cs ds : List Contract) → Sees b cs ds → Sees b (effect L cs b ch) (effect L ds b ch)
  effect_sees (load p c g n) = sees_cons (record { aid = b; provides = p; calls = c; grants = g; needs = n })
  effect_sees remove = sees_keep
  effect_sees (add_service s l) = alter_sees (altered L (add_service s l)) (altered_same L (add_service s l))
  effect_sees (remove_service s) = alter_sees (altered L (remove_service s)) (altered_same L (remove_service s))
  effect_sees (add_call r) = alter_sees (altered L (add_call r)) (altered_same L (add_call r))
  effect_sees (remove_call r) = alter_sees (altered L (remove_call r)) (altered_same L (remove_call r))
  effect_sees (add_grant r) = alter_sees (altered L (add_grant r)) (altered_same L (add_grant r))
  effect_sees (remove_grant r) = alter_sees (altered L (remove_grant r)) (altered_same L (remove_grant r))
  effect_sees (add_need r) = alter_sees (altered L (add_need r)) (altered_same L (add_need r))
  effect_sees (remove_need r) = alter_sees (altered L (remove_need r)) (altered_same L (remove_need r))
  effect_sees (replace p c g n) = alter_sees (altered L (replace p c g n)) (altered_same L (replace p c g n))

  pub effect_agree : (ch : Change) {cs ds : List Contract} → Agree b cs ds → Agree b (effect L cs b ch) (effect L ds b ch)
  effect_agree ch {cs} {ds} ag = record { to = effect_sees ch cs ds ag.to; back = effect_sees ch ds cs ag.back }

  -- ---- causes 4 to 7: as many packages, and of B's contract the same services and rows
  module _ {cs ds : List Contract} (ag : Agree b cs ds) (sc : Sets cs) (sd : Sets ds) where
    packages_same : length cs ≡ length ds
    packages_same = sym (length-map cs (λ c. c.aid)) ∙ same_length (map (λ c. c.aid) cs) (map (λ c. c.aid) ds) sc.one_each sd.one_each (sub cs ds ag.to) (sub ds cs ag.back) ∙ length-map ds (λ c. c.aid)
      where
        sub : (cs ds : List Contract) → Sees b cs ds → (a : Aid) → In a (map (λ c. c.aid) cs) → In a (map (λ c. c.aid) ds)
        sub cs ds sees a m =
            let (c, mc, e) = map_in (λ (c : Contract). c.aid) cs m in
            let (k, mk, p) = sees c mc in
            in_cast (e ∙ p.aid) (in_map (λ (c : Contract). c.aid) mk)

    installed_is : installed cs b ≡ installed ds b
    installed_is = installed_same b ag b

    provides_is : (s : Tok) → under cs b (λ k. has_tok s k.provides) ≡ under ds b (λ k. has_tok s k.provides)
    provides_is s = under_same b ag b (λ k. has_tok s k.provides) (λ c k _ _ a _. tok_same b c k a s)

    full_is : under cs b (λ k. leb L.services (length k.provides)) ≡ under ds b (λ k. leb L.services (length k.provides))
    full_is = under_same b ag b (λ k. leb L.services (length k.provides)) (λ c k m n a _. ap (leb L.services)
        (same_length c.provides k.provides (sc.four_sets c m).provides (sd.four_sets k n).provides (λ s. (a.provides s).0) (λ s. (a.provides s).1)))

    row_is : (rows : Contract → List Row) → ((c k : Contract) → SameContract c k → SameSet (rows c) (rows k)) → (r : Row) → under cs b (λ k. has_row r (rows k)) ≡ under ds b (λ k. has_row r (rows k))
    row_is rows same r = under_same b ag b (λ k. has_row r (rows k)) (λ c k _ _ a e.
        let (to, back) = same c k (own_same b c k e a) r in same_has eq_row eq_row→ eq_row_refl r (rows c) (rows k) to back)

    calls_is : (r : Row) → under cs b (λ k. has_row r k.calls) ≡ under ds b (λ k. has_row r k.calls)
    calls_is = row_is (λ k. k.calls) (λ c k a. a.calls)

    grants_is : (r : Row) → under cs b (λ k. has_row r k.grants) ≡ under ds b (λ k. has_row r k.grants)
    grants_is = row_is (λ k. k.grants) (λ c k a. a.grants)

    needs_is : (r : Row) → under cs b (λ k. has_row r k.needs) ≡ under ds b (λ k. has_row r k.needs)
    needs_is = row_is (λ k. k.needs) (λ c k a. a.needs)

    pub early_same : (ch : Change) → causes4to7 L cs b ch ≡ causes4to7 L ds b ch
    early_same (load p c g n) = λ i. 4 when installed_is i ∷ 7 when leb L.packages (packages_same i) ∷ []
    early_same remove = λ i. 5 when not (installed_is i) ∷ []
    early_same (add_service s l) = λ i. 5 when not (installed_is i) ∷ 6 when provides_is s i ∷ 7 when full_is i ∷ []
    early_same (remove_service s) = λ i. 5 when not (installed_is i) ∷ 6 when not (provides_is s i) ∷ []
    early_same (add_call r) = λ i. 5 when not (installed_is i) ∷ 6 when calls_is r i ∷ []
    early_same (remove_call r) = λ i. 5 when not (installed_is i) ∷ 6 when not (calls_is r i) ∷ []
    early_same (add_grant r) = λ i. 5 when not (installed_is i) ∷ 6 when (not (L.early || provides_is r.tok i) || grants_is r i) ∷ []
    early_same (remove_grant r) = λ i. 5 when not (installed_is i) ∷ 6 when not (grants_is r i) ∷ []
    early_same (add_need r) = λ i. 5 when not (installed_is i) ∷ 6 when (not (calls_is r i) || needs_is r i) ∷ []
    early_same (remove_need r) = λ i. 5 when not (installed_is i) ∷ 6 when not (needs_is r i) ∷ []
    early_same (replace p c g n) = λ i. 5 when not (installed_is i) ∷ []
