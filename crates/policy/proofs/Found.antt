-- What the searches for numbers find, and what it says when they find nothing.
use Prim.Native.Nat.{ℕ, zero, suc, ◌≤◌, ◌<◌, zero-le}
use native.Mathlib.Omega.{arith}
use mathlib.Core.Path.{◌≡◌, refl, sym, ap, ◌∙◌, subst}
use mathlib.Core.Bool.{Bool, true, false, not, ◌&&◌, cond}
use mathlib.Core.Option.{Option, none, some}
use lib.Dec.{T}
use Rattle.policy.specs.Lists.{first, from, upto, is_some, or_else}
use Rattle.policy.specs.Contract.{Aid, eq_aid, Tok, eq_tok, Row}
use Rattle.policy.specs.Layout.{Layout}
use Rattle.policy.specs.Tables.{Tables}
use Rattle.policy.specs.Lookup.{Place, Spot, numbers, places, number_of, service_of, server_of, spot_of, free_number, free_service}
use Rattle.policy.proofs.Sets.{false_T, and_l, and_r, and_i, not_e, not_not, Found, found, upto_in, in_upto}
use Rattle.policy.proofs.Equal.{eq_aid→, eq_aid_of, eq_tok→, eq_tok_of}
use Rattle.policy.proofs.Put.{by_number}
use Rattle.policy.proofs.Formed.{Names}

abbrev pub NumberIs : Tables → Aid → Option ℕ → Type 0
NumberIs t a none = (n : ℕ) → T (t.used n) → t.aid n ≡ a → ⊥
NumberIs t a (some n) = T (t.used n) × (t.aid n ≡ a)

abbrev pub ServiceIs : Tables → ℕ → Tok → Option ℕ → Type 0
ServiceIs t j s none = (k : ℕ) → T (t.provides j k) → t.tok j k ≡ s → ⊥
ServiceIs t j s (some k) = T (t.provides j k) × (t.tok j k ≡ s)

abbrev pub ServerIs : Tables → Row → Option Place → Type 0
ServerIs t r none = (j k : ℕ) → T (t.provides j k) → t.aid j ≡ r.aid → t.tok j k ≡ r.tok → ⊥
ServerIs t r (some p) = T (t.provides p.callee p.service) × (t.aid p.callee ≡ r.aid) × (t.tok p.callee p.service ≡ r.tok)

-- where a grant of package j stands as a bit
abbrev pub SpotIs : Tables → ℕ → Row → Option Spot → Type 0
SpotIs t j r none = (i k : ℕ) → T (t.used i) → t.aid i ≡ r.aid → T (t.provides j k) → t.tok j k ≡ r.tok → ⊥
SpotIs t j r (some p) = T (t.used p.caller) × (t.aid p.caller ≡ r.aid) × T (t.provides j p.service) × (t.tok j p.service ≡ r.tok)

abbrev pub FreeIs : ℕ → (ℕ → Bool) → Option ℕ → Type 0
FreeIs most taken none = (n : ℕ) → n < most → T (taken n)
FreeIs most taken (some n) = (n < most) × (T (taken n) → ⊥) × ((i : ℕ) → i < n → T (taken i))

-- the numbers from i up to the first that passes do not pass
abbrev NoneBefore : (ℕ → Bool) → ℕ → Option ℕ → Type 0
NoneBefore f i none = Unit {0}
NoneBefore f i (some n) = (x : ℕ) → i ≤ x → x < n → T (f x) → ⊥

none_before : (f : ℕ → Bool) (i n : ℕ) → NoneBefore f i (first f (from i n))
none_before f i zero = tt
none_before f i (suc n) = go (f i) refl (first f (from (suc i) n)) (none_before f (suc i) n)
  where
    go : (b : Bool) → f i ≡ b → (o : Option ℕ) → NoneBefore f (suc i) o → NoneBefore f i (cond b (some i) o)
    go true e o h = λ x a l t. absurd (omega arith)
    go false e none h = tt
    go false e (some n) h = λ x a l t. by_number i (λ (z : ℕ). T (f z) → ⊥) x (false_T e) (λ ne. h x (omega arith) l) t

pub free_is : (most : ℕ) (taken : ℕ → Bool) → FreeIs most taken (first (λ n. not (taken n)) (upto most))
free_is most taken = go (first (λ n. not (taken n)) (upto most)) (found (λ n. not (taken n)) (upto most)) (none_before (λ n. not (taken n)) 0 most)
  where
    go : (o : Option ℕ) → Found (λ n. not (taken n)) (upto most) o → NoneBefore (λ n. not (taken n)) 0 o → FreeIs most taken o
    go none h b = λ n l. not_not (taken n) (h n (in_upto most n l))
    go (some n) h b = (upto_in most h.0, not_e (taken n) h.1, λ i l. not_not (taken i) (b i zero-le l))

module _ (L : Layout) (t : Tables) where
  pub free_number_is : FreeIs L.packages t.used (free_number L t)
  unfolding free_number
  free_number_is = free_is L.packages t.used

  pub free_service_is : (j : ℕ) → FreeIs L.services (t.provides j) (free_service L t j)
  unfolding free_service
  free_service_is j = free_is L.services (t.provides j)

  module _ (names : Names L t.used t.aid t.tok t.provides) where
    pub number_is : (a : Aid) → NumberIs t a (number_of L t a)
    unfolding number_of
    number_is a = go (number_of L t a) (found test (numbers L))
      where
        test : ℕ → Bool
        test n = t.used n && eq_aid (t.aid n) a

        go : (o : Option ℕ) → Found (λ n. t.used n && eq_aid (t.aid n) a) (numbers L) o → NumberIs t a o
        go none h = λ n u e. h n (in_upto L.packages n (names.used_lt n u)) (and_i (t.used n) (eq_aid (t.aid n) a) u (eq_aid_of e))
        go (some n) h = (and_l (t.used n) (eq_aid (t.aid n) a) h.1, eq_aid→ (t.aid n) a (and_r (t.used n) (eq_aid (t.aid n) a) h.1))

    pub service_is : (j : ℕ) (s : Tok) → ServiceIs t j s (service_of L t j s)
    unfolding service_of
    service_is j s = go (service_of L t j s) (found (λ k. t.provides j k && eq_tok (t.tok j k) s) (places L))
      where
        go : (o : Option ℕ) → Found (λ k. t.provides j k && eq_tok (t.tok j k) s) (places L) o → ServiceIs t j s o
        go none h = λ k u e. h k (in_upto L.services k (names.prov_lt j k u)) (and_i (t.provides j k) (eq_tok (t.tok j k) s) u (eq_tok_of e))
        go (some k) h = (and_l (t.provides j k) (eq_tok (t.tok j k) s) h.1, eq_tok→ (t.tok j k) s (and_r (t.provides j k) (eq_tok (t.tok j k) s) h.1))

    -- a service that is provided is found, and one that is found is provided
    pub provided_found : (j : ℕ) (s : Tok) (k : ℕ) → T (t.provides j k) → t.tok j k ≡ s → T (is_some (service_of L t j s))
    provided_found j s k p e = go (service_of L t j s) (service_is j s)
      where
        go : (o : Option ℕ) → ServiceIs t j s o → T (is_some o)
        go none h = h k p e
        go (some i) h = tt

    pub found_provided : (j : ℕ) (s : Tok) → T (is_some (service_of L t j s)) → (k : ℕ) × T (t.provides j k) × (t.tok j k ≡ s)
    found_provided j s = go (service_of L t j s) (service_is j s)
      where
        go : (o : Option ℕ) → ServiceIs t j s o → T (is_some o) → (k : ℕ) × T (t.provides j k) × (t.tok j k ≡ s)
        go none h q = absurd q
        go (some k) h q = (k, h.0, h.1)

    pub server_is : (r : Row) → ServerIs t r (server_of L t r)
    unfolding server_of
    server_is r = go (number_of L t r.aid) (number_is r.aid)
      where
        inner : (j : ℕ) → NumberIs t r.aid (some j) → (o : Option ℕ) → ServiceIs t j r.tok o → ServerIs t r (or_else o none (λ k. some (record { callee = j; service = k })))
        inner j n none h = λ j' k p e f.
            let ej : j' ≡ j = names.aid_inj j' j (names.prov_used j' k p) n.0 (e ∙ sym n.1) in
            h k (subst (λ (z : ℕ). T (t.provides z k)) ej p) (ap (λ (z : ℕ). t.tok z k) (sym ej) ∙ f)
        inner j n (some k) h = (h.0, n.1, h.1)

        go : (o : Option ℕ) → NumberIs t r.aid o → ServerIs t r (or_else o none (λ j. or_else (service_of L t j r.tok) none (λ k. some (record { callee = j; service = k }))))
        go none h = λ j k p e f. h j (names.prov_used j k p) e
        go (some j) h = inner j h (service_of L t j r.tok) (service_is j r.tok)

    pub spot_is : (j : ℕ) (r : Row) → SpotIs t j r (spot_of L t j r)
    unfolding spot_of
    spot_is j r = go (number_of L t r.aid) (number_is r.aid) (service_of L t j r.tok) (service_is j r.tok)
      where
        go : (o : Option ℕ) → NumberIs t r.aid o → (q : Option ℕ) → ServiceIs t j r.tok q
            → SpotIs t j r (or_else o none (λ i. or_else q none (λ k. some (record { caller = i; service = k }))))
        go none h q s = λ i k u e p f. h i u e
        go (some i) h none s = λ i' k u e p f. s k p f
        go (some i) h (some k) s = (h.0, h.1, s.0, s.1)

    -- two provided places with one service are one
    pub same_place : (j k j' k' : ℕ) → T (t.provides j k) → T (t.provides j' k') → t.aid j ≡ t.aid j' → t.tok j k ≡ t.tok j' k' → (j ≡ j') × (k ≡ k')
    same_place j k j' k' p q e f =
        let ej : j ≡ j' = names.aid_inj j j' (names.prov_used j k p) (names.prov_used j' k' q) e in
        let q' : T (t.provides j k') = subst (λ (z : ℕ). T (t.provides z k')) (sym ej) q in
        (ej, names.tok_inj j k k' p q' (f ∙ ap (λ (z : ℕ). t.tok z k') (sym ej)))
