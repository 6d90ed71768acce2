-- Kinds 1 and 11 place services by one rule: where a number is free nothing is kept, and the services take 0, 1, 2 in record order.
use Prim.Native.Nat.{ℕ, zero, suc, ◌+◌, ◌≤◌, ◌<◌}
use native.Mathlib.Omega.{arith}
use native.Mathlib.Nat.{not-suc-le-zero}
use mathlib.Core.Path.{◌≡◌, refl, sym, ap, ◌∙◌, subst}
use mathlib.Core.Logic.{◌⊎◌, inl, inr}
use mathlib.Core.Bool.{Bool, true, false, not, ◌&&◌, cond}
use mathlib.Core.List.{List, [], ◌∷◌, ◌++◌, append-nil, append_assoc}
use mathlib.Core.List.Memᴰ.{cast as in_cast}
use mathlib.Core.Option.{Option, some}
use lib.Dec.{T, ltb, ltb→lt, lt→ltb, nltb→le}
use lib.ListN.{length, get_or, length-append}
use Rattle.policy.specs.Lists.{exists, first, from, or_else, NoRepeat}
use Rattle.policy.specs.Contract.{Tok, eq_tok, Contract, has_tok}
use Rattle.policy.specs.Layout.{Layout}
use Rattle.policy.specs.Tables.{Tables, no_tok}
use Rattle.policy.specs.Lookup.{places}
use Rattle.policy.specs.Draft.{Services, put, place_service, place_services, kept_services, new_services}
use Rattle.policy.proofs.Sets.{T_eq, T_true, and_l, and_r, cond_false, in_row, exists_in, once_behind}
use Rattle.policy.proofs.Equal.{eq_tok→}
use Rattle.policy.proofs.Put.{at_new, at_old, by_number}
use Rattle.policy.proofs.Formed.{Formed}
use Rattle.policy.proofs.KindLoad.{in_order}

-- the first number that is not below n
first_past : (n i c : ℕ) → i ≤ n → n < i + c → first (λ k. not (ltb k n)) (from i c) ≡ some n
first_past n i zero h g = absurd (omega arith)
first_past n i (suc c) h g = go (ltb i n) refl (λ q. first_past n (suc i) c q (omega arith))
  where
    go : (b : Bool) → ltb i n ≡ b → (i < n → first (λ k. not (ltb k n)) (from (suc i) c) ≡ some n) → cond (not b) (some i) (first (λ k. not (ltb k n)) (from (suc i) c)) ≡ some n
    go true e rest = rest (ltb→lt i n (subst T (sym e) tt))
    go false e rest = let q = nltb→le i n (subst (λ (b : Bool). T (not b)) (sym e) tt) in ap some (omega arith)

module _ {A : Type 0} (d : A) where
  get_d_last : (a : List A) (s : A) → get_or (a ++ (s ∷ [])) (length a) d ≡ s
  get_d_last [] s = refl
  get_d_last (x ∷ a) s = get_d_last a s

  get_d_other : (a : List A) (s : A) (y : ℕ) → (y ≡ length a → ⊥) → get_or (a ++ (s ∷ [])) y d ≡ get_or a y d
  get_d_other [] s zero n = absurd (n refl)
  get_d_other [] s (suc y) n = refl
  get_d_other (x ∷ a) s zero n = refl
  get_d_other (x ∷ a) s (suc y) n = get_d_other a s y (λ e. n (ap suc e))

module _ (L : Layout) where
  -- one more in order
  place_next : (a : List Tok) (s : Tok) (b : List Tok) → NoRepeat (a ++ (s ∷ b)) → length a < L.services → place_service L (in_order a) s ≡ in_order (a ++ (s ∷ []))
  place_next a s b once room =
      cond_false (exists test (places L)) (in_order a) _ new
      ∙ ap (λ (o : Option ℕ). or_else o (in_order a) (λ k. record { tok = put k s (in_order a).tok; provides = put k true (in_order a).provides })) (first_past (length a) 0 L.services (omega arith) (omega (arith, room)))
      ∙ (λ i. record { tok = λ y. same_tok y i; provides = λ y. same_prov y i })
    where
      test : ℕ → Bool
      test k = ltb k (length a) && eq_tok (get_or a k no_tok) s

      new : T (exists (λ k. ltb k (length a) && eq_tok (get_or a k no_tok) s) (places L)) → ⊥
      new h =
          let q = exists_in test (places L) h in
          let lt = ltb→lt q.0 (length a) (and_l (ltb q.0 (length a)) (eq_tok (get_or a q.0 no_tok) s) q.2) in
          let e = eq_tok→ (get_or a q.0 no_tok) s (and_r (ltb q.0 (length a)) (eq_tok (get_or a q.0 no_tok) s) q.2) in
          once_behind a s b once (in_cast (sym e) (in_row a q.0 no_tok lt))

      same_tok : (y : ℕ) → put (length a) s (λ z. get_or a z no_tok) y ≡ get_or (a ++ (s ∷ [])) y no_tok
      same_tok y = by_number (length a) (λ (z : ℕ). put (length a) s (λ z. get_or a z no_tok) z ≡ get_or (a ++ (s ∷ [])) z no_tok) y
          (at_new (length a) s (get_or a (length a) no_tok) ∙ sym (get_d_last no_tok a s))
          (λ n. at_old (length a) s (get_or a y no_tok) y n ∙ sym (get_d_other no_tok a s y n))

      length_next : length (a ++ (s ∷ [])) ≡ length a + 1
      length_next = length-append a (s ∷ [])

      same_prov : (y : ℕ) → put (length a) true (λ z. ltb z (length a)) y ≡ ltb y (length (a ++ (s ∷ [])))
      same_prov y = by_number (length a) (λ (z : ℕ). put (length a) true (λ z. ltb z (length a)) z ≡ ltb z (length (a ++ (s ∷ [])))) y
          (at_new (length a) true (ltb (length a) (length a)) ∙ sym (T_true (ltb (length a) (length (a ++ (s ∷ [])))) (lt→ltb (length a) (length (a ++ (s ∷ []))) (omega (arith, length_next)))))
          (λ n. at_old (length a) true (ltb y (length a)) y n ∙ T_eq (ltb y (length a)) (ltb y (length (a ++ (s ∷ []))))
          (λ h. let q = ltb→lt y (length a) h in lt→ltb y (length (a ++ (s ∷ []))) (omega (arith, length_next)))
          (λ h. let q = ltb→lt y (length (a ++ (s ∷ []))) h in lt→ltb y (length a) (below n q)))
        where
          below : (y ≡ length a → ⊥) → y < length (a ++ (s ∷ [])) → y < length a
          below n q = go (test_lt (ltb y (length a)) refl)
            where
              test_lt : (b : Bool) → ltb y (length a) ≡ b → (y < length a) ⊎ (length a ≤ y)
              test_lt true e = inl (ltb→lt y (length a) (subst T (sym e) tt))
              test_lt false e = inr (nltb→le y (length a) (subst (λ (b : Bool). T (not b)) (sym e) tt))

              go : (y < length a) ⊎ (length a ≤ y) → y < length a
              go (inl h) = h
              go (inr h) = absurd (n (omega (arith, length_next, q, h)))

  place_rest : (b a : List Tok) → NoRepeat (a ++ b) → length (a ++ b) ≤ L.services → place_services L (in_order a) b ≡ in_order (a ++ b)
  place_rest [] a once fit = ap in_order (sym (append-nil a))
  place_rest (s ∷ b) a once fit =
      let e : (a ++ (s ∷ [])) ++ b ≡ a ++ (s ∷ b) = append_assoc a (s ∷ []) b in
      ap (λ (v : Services). place_services L v b) (place_next a s b once (omega (arith, fit, length-append a (s ∷ b))))
      ∙ place_rest b (a ++ (s ∷ [])) (subst NoRepeat (sym e) once) (subst (λ (l : List Tok). length l ≤ L.services) (sym e) fit) ∙ ap in_order e

  -- at a free number
  pub placed_in_order : (t : Tables) (m : ℕ) (k : Contract) → Formed L t → (T (t.used m) → ⊥) → NoRepeat k.provides → length k.provides ≤ L.services
      → new_services L t m k ≡ in_order k.provides
  unfolding new_services
  placed_in_order t m k f free once fit = ap (λ (v : Services). place_services L v k.provides) nothing ∙ place_rest k.provides [] once fit
    where
      no_service : (y : ℕ) → T (t.provides m y && has_tok (t.tok m y) k.provides) → ⊥
      no_service y h = free (f.names.prov_used m y (and_l (t.provides m y) (has_tok (t.tok m y) k.provides) h))

      nothing : kept_services L t m k ≡ in_order []
      nothing = λ i. record {
        tok = λ y. cond_false (t.provides m y && has_tok (t.tok m y) k.provides) (t.tok m y) no_tok (no_service y) i;
        provides = λ y. T_eq (t.provides m y && has_tok (t.tok m y) k.provides) (ltb y 0) (λ h. absurd (no_service y h)) (λ h. absurd (not-suc-le-zero (ltb→lt y 0 h))) i;
      }
