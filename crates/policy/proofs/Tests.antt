-- Causes 4 to 7: the tests on tables and the tests on the contracts that they stand for agree; and a card's contracts fit its layout.
use Prim.Native.Nat.{ℕ, ◌≤◌}
use native.Mathlib.Omega.{arith}
use mathlib.Core.Path.{◌≡◌, refl, sym, ap, ◌∙◌, subst}
use mathlib.Core.Logic.{◌⊎◌, inl, inr}
use mathlib.Core.Bool.{Bool, true, false, not, ◌||◌}
use mathlib.Core.List.{List, [], ◌∷◌, map}
use mathlib.Core.List.Memᴰ.{cases_cons as in_cons}
use mathlib.Core.List.Memᴰ.{cast as in_cast}
use mathlib.Core.List.{Memᴰ as In}
use mathlib.Core.Option.{Option, none, some}
use lib.Dec.{T, leb, leb→le, le→leb}
use lib.ListN.{length, length-map}
use Rattle.policy.specs.Lists.{SameSet, NoRepeat, exists, keep, upto, is_some, or_else}
use Rattle.policy.specs.Contract.{Aid, Tok, eq_tok, Row, eq_row, Contract, has_tok, has_row, under, installed}
use Rattle.policy.specs.Layout.{Layout}
use Rattle.policy.specs.Record.{Change, load, remove, add_service, remove_service, add_call, remove_call, add_grant, remove_grant, add_need, remove_need, replace}
use Rattle.policy.specs.Causes.{◌when◌}
use Rattle.policy.specs.Machine.{causes4to7}
use Rattle.policy.specs.Tables.{Tables, Unmet}
use Rattle.policy.specs.Lookup.{numbers, places, used_numbers, number_of, free_number, free_service, contract_at}
use Rattle.policy.specs.Judge.{absent, holds, table_causes}
use Rattle.policy.specs.History.{SameContract}
use Rattle.policy.proofs.Sets.{T_eq, T_true, T_false, length_le, same_length, keep_in, in_keep, once_keep, length_keep, in_map, map_in, once_map, same_has, length_from, upto_in, in_upto}
use Rattle.policy.proofs.Sets.{once_upto}
use Rattle.policy.proofs.Equal.{eq_tok→, eq_tok_refl, eq_row→, eq_row_refl}
use Rattle.policy.proofs.Formed.{Names, Formed, HasContract, Stands}
use Rattle.policy.proofs.Found.{NumberIs, FreeIs, free_number_is, free_service_is, number_is}
use Rattle.policy.proofs.Facts.{at_aid, under_i, under_e}
use Rattle.policy.proofs.ContractAt.{provided, provided_in, once_provided, same_contract_lem}

-- ---- counting what is taken below a limit
module _ (most : ℕ) (taken : ℕ → Bool) where
  abbrev below : List ℕ
  below = upto most

  once_taken : NoRepeat (keep taken below)
  once_taken = once_keep taken below (once_upto most)

  taken_fit : length (keep taken below) ≤ most
  taken_fit = omega (arith, length_from 0 most, length_keep taken below)

  -- nothing is free when as much is taken as there is
  full : (o : Option ℕ) → FreeIs most taken o → not (is_some o) ≡ leb most (length (keep taken below))
  full none h =
      let le = length_le below (keep taken below) (once_upto most) (λ k m. in_keep taken m (h k (upto_in most m))) in
      sym (T_true (leb most (length (keep taken below))) (le→leb most (length (keep taken below)) (omega (arith, length_from 0 most, le))))
  full (some n) h = sym (T_false (leb most (length (keep taken below))) (λ x. more (leb→le most (length (keep taken below)) x)))
    where
      out : {x : ℕ} → (x ≡ n) ⊎ In x (keep taken below) → In x below
      out (inl e) = in_cast e (in_upto most n h.0)
      out (inr m) = (keep_in taken below m).0

      le : length (n ∷ keep taken below) ≤ length below
      le = length_le (n ∷ keep taken below) below (λ m. h.1 (keep_in taken below m).1, once_taken) (λ x m. out (in_cons m))

      more : most ≤ length (keep taken below) → ⊥
      more a = omega (arith, length_from 0 most, le)

-- ---- as many contracts as used numbers, and as many services as places taken
module _ (L : Layout) (t : Tables) (lost : List Unmet) (cs : List Contract)
    (names : Names L t.used t.aid t.tok t.provides) (st : Stands t lost cs) where
  pub count : length cs ≡ length (used_numbers L t)
  count = sym (length-map cs (λ c. c.aid)) ∙ same_length (map (λ c. c.aid) cs) (map t.aid (used_numbers L t)) st.one_each once to of ∙ length-map (used_numbers L t) t.aid
    where
      on : {n : ℕ} → In n (used_numbers L t) → T (t.used n)
      on m = (keep_in t.used (numbers L) m).1

      once : NoRepeat (map t.aid (used_numbers L t))
      once = once_map t.aid (used_numbers L t) (λ i j p q e. names.aid_inj i j (on p) (on q) e) (once_keep t.used (numbers L) (once_upto L.packages))

      to : (a : Aid) → In a (map (λ c. c.aid) cs) → In a (map t.aid (used_numbers L t))
      to a m =
          let p = map_in (λ (c : Contract). c.aid) cs m in
          let h = st.these p.0 p.1 in
          in_cast (p.2 ∙ h.2.aid) (in_map t.aid (in_keep t.used (in_upto L.packages h.0 (names.used_lt h.0 h.1)) h.1))

      of : (a : Aid) → In a (map t.aid (used_numbers L t)) → In a (map (λ c. c.aid) cs)
      of a m =
          let p = map_in t.aid (used_numbers L t) m in
          let h = st.no_others p.0 (on p.1) in
          in_cast (p.2 ∙ sym h.2) (in_map (λ (c : Contract). c.aid) h.1)

  service_count : (n : ℕ) (c : Contract) → In c cs → HasContract t lost n c → length c.provides ≡ length (keep (t.provides n) (places L))
  service_count n c m h =
      same_length c.provides (provided L t n) (st.four_sets c m).provides (once_provided L t names n)
      (λ s p. (provided_in L t names n s).1 ((h.provides s).0 p)) (λ s p. (h.provides s).1 ((provided_in L t names n s).0 p))
      ∙ length-map (keep (t.provides n) (places L)) (t.tok n)

  pub packages_fit : length cs ≤ L.packages
  packages_fit = subst (λ (z : ℕ). z ≤ L.packages) (sym count) (taken_fit L.packages t.used)

  pub services_fit : (c : Contract) → In c cs → length c.provides ≤ L.services
  services_fit c m = let h = st.these c m in subst (λ (z : ℕ). z ≤ L.services) (sym (service_count h.0 c m h.2)) (taken_fit L.services (t.provides h.0))

-- ---- the tests
some_is : (o : Option ℕ) → is_some o ≡ or_else o false (λ n. true)
some_is none = refl
some_is (some n) = refl

module _ (L : Layout) (t : Tables) (cs : List Contract) (formed : Formed L t) (st : Stands t [] cs) where
  -- no number is free
  full_is : not (is_some (free_number L t)) ≡ leb L.packages (length cs)
  full_is = full L.packages t.used (free_number L t) (free_number_is L t) ∙ ap (leb L.packages) (sym (count L t [] cs formed.names st))

  module _ (a : Aid) where
    -- a test of the number under a, and a test of the contract under a
    found_is : (g : ℕ → Bool) (f : Contract → Bool) → ((n : ℕ) (c : Contract) → In c cs → HasContract t [] n c → g n ≡ f c) → or_else (number_of L t a) false g ≡ under cs a f
    found_is g f agree = go (number_of L t a) (number_is L t formed.names a)
      where
        go : (o : Option ℕ) → NumberIs t a o → or_else o false g ≡ under cs a f
        go none h = sym (T_false (under cs a f) (λ u. let p = under_e L t formed.names st a f u in h p.0 p.1 p.2))
        go (some n) h = T_eq (g n) (under cs a f)
            (λ q. under_i L t formed.names st a f n h.0 h.1 (λ c m k. subst T (agree n c m k) q))
            (λ u.
            let p = under_e L t formed.names st a f u in
            let k = at_aid L t formed.names p.3 p.0 n p.1 p.5 h.0 (p.5.aid ∙ p.2 ∙ sym h.1) in
            subst T (sym (agree n p.3 p.4 k)) p.6)

    installed_is : is_some (number_of L t a) ≡ installed cs a
    installed_is = some_is (number_of L t a) ∙ found_is (λ n. true) (λ c. true) (λ n c m h. refl)

    absent_is : absent L t a ≡ not (installed cs a)
    absent_is = ap not installed_is

    -- membership in one of the four sets
    module _ {A : Type 0} (eq : A → A → Bool) (eq→ : (x y : A) → T (eq x y) → x ≡ y) (eq_refl : (x : A) → T (eq x x))
        (set : Contract → List A) (same : (c k : Contract) → SameContract c k → SameSet (set c) (set k)) where
      member_is : (x : A) → holds L t a (λ k. exists (eq x) (set k)) ≡ under cs a (λ k. exists (eq x) (set k))
      member_is x = found_is (λ n. exists (eq x) (set (contract_at L t n))) (λ k. exists (eq x) (set k)) (λ n c m h.
          let p = same c (contract_at L t n) (same_contract_lem L t formed n c h) x in
          same_has eq eq→ eq_refl x (set (contract_at L t n)) (set c) p.1 p.0)

    provides_is : (s : Tok) → holds L t a (λ k. has_tok s k.provides) ≡ under cs a (λ k. has_tok s k.provides)
    provides_is = member_is eq_tok eq_tok→ eq_tok_refl (λ k. k.provides) (λ c k p. p.provides)

    calls_is : (r : Row) → holds L t a (λ k. has_row r k.calls) ≡ under cs a (λ k. has_row r k.calls)
    calls_is = member_is eq_row eq_row→ eq_row_refl (λ k. k.calls) (λ c k p. p.calls)

    grants_is : (r : Row) → holds L t a (λ k. has_row r k.grants) ≡ under cs a (λ k. has_row r k.grants)
    grants_is = member_is eq_row eq_row→ eq_row_refl (λ k. k.grants) (λ c k p. p.grants)

    needs_is : (r : Row) → holds L t a (λ k. has_row r k.needs) ≡ under cs a (λ k. has_row r k.needs)
    needs_is = member_is eq_row eq_row→ eq_row_refl (λ k. k.needs) (λ c k p. p.needs)

    -- no service number of the package is free
    services_full_is : or_else (number_of L t a) false (λ j. not (is_some (free_service L t j))) ≡ under cs a (λ k. leb L.services (length k.provides))
    services_full_is = found_is (λ j. not (is_some (free_service L t j))) (λ k. leb L.services (length k.provides)) (λ n c m h.
        full L.services (t.provides n) (free_service L t n) (free_service_is L t n) ∙ ap (leb L.services) (sym (service_count L t [] cs formed.names st n c m h)))

  pub tests_agree : (a : Aid) (c : Change) → table_causes L t a c ≡ causes4to7 L cs a c
  tests_agree a (load p c g n) = λ i. 4 when installed_is a i ∷ 7 when full_is i ∷ []
  tests_agree a remove = λ i. 5 when absent_is a i ∷ []
  tests_agree a (add_service s l) = λ i. 5 when absent_is a i ∷ 6 when provides_is a s i ∷ 7 when services_full_is a i ∷ []
  tests_agree a (remove_service s) = λ i. 5 when absent_is a i ∷ 6 when not (provides_is a s i) ∷ []
  tests_agree a (add_call r) = λ i. 5 when absent_is a i ∷ 6 when calls_is a r i ∷ []
  tests_agree a (remove_call r) = λ i. 5 when absent_is a i ∷ 6 when not (calls_is a r i) ∷ []
  tests_agree a (add_grant r) = λ i. 5 when absent_is a i ∷ 6 when (not (L.early || provides_is a r.tok i) || grants_is a r i) ∷ []
  tests_agree a (remove_grant r) = λ i. 5 when absent_is a i ∷ 6 when not (grants_is a r i) ∷ []
  tests_agree a (add_need r) = λ i. 5 when absent_is a i ∷ 6 when (not (calls_is a r i) || needs_is a r i) ∷ []
  tests_agree a (remove_need r) = λ i. 5 when absent_is a i ∷ 6 when not (needs_is a r i) ∷ []
  tests_agree a (replace p c g n) = λ i. 5 when absent_is a i ∷ []
