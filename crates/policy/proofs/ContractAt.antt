-- The contract of a package number, as lists and as facts; no list of it repeats a row; and tables stand for their own contracts.
use Prim.Native.Nat.{ℕ, ◌<◌}
use mathlib.Core.Path.{◌≡◌, refl, sym, ap, ◌∙◌, subst}
use mathlib.Core.Logic.Iff
use mathlib.Core.Logic.{◌⊎◌, inl, inr, ◌↔◌}
use mathlib.Core.Bool.{Bool}
use mathlib.Core.List.{List, [], ◌++◌, map}
use mathlib.Core.List.Memᴰ.{not-nil as in_nil}
use mathlib.Core.List.{Memᴰ as In}
use mathlib.Core.List.Memᴰ.{append_cases as in_append}
use mathlib.Core.List.Memᴰ.{append_left as in_left}
use mathlib.Core.List.Memᴰ.{append_right as in_right}
use mathlib.Core.List.Memᴰ.{cast as in_cast}
use lib.Dec.{T, eqb, eqb→eq, eqb_refl}
use Rattle.policy.specs.Lists.{NoRepeat, keep}
use Rattle.policy.specs.Contract.{Tok, Row, Contract}
use Rattle.policy.specs.Layout.{Layout}
use Rattle.policy.specs.Tables.{Tables, Unmet, Waiting}
use Rattle.policy.specs.Lookup.{numbers, places, used_numbers, service_at, wanted, grant_at, contract_at}
use Rattle.policy.specs.Draft.{call_row, grant_row}
use Rattle.policy.specs.History.{SameContract, FourSets}
use Rattle.policy.proofs.Sets.{keep_in, in_keep, once_keep, in_map, map_in, once_map, once_append, pairs, pairs_in, in_pairs, once_pairs, in_upto, once_upto}
use Rattle.policy.proofs.Equal.{row_path}
use Rattle.policy.proofs.Formed.{Names, Bits, Formed, ProvidesAt, RowAt, GrantAt, HasContract, Stands}
use Rattle.policy.proofs.Found.{same_place}
use Rattle.policy.proofs.Facts.{place_in, bit_in, need_bits}

module _ (L : Layout) (t : Tables) where
  -- ---- the bits of a package's row, read as rows of its contract
  abbrev bit_rows : (ℕ → ℕ → Row) → (ℕ → ℕ → Bool) → List Row
  bit_rows name b = pairs name b (places L) (numbers L)

  module _ (name : ℕ → ℕ → Row) (b : ℕ → ℕ → Bool) where
    bits_in : {r : Row} → In r (bit_rows name b) → (j : ℕ) × (k : ℕ) × T (b j k) × (r ≡ name j k)
    bits_in = pairs_in name b (places L) (numbers L)

    in_bits : (j k : ℕ) → (j < L.packages) × (k < L.services) → T (b j k) → In (name j k) (bit_rows name b)
    in_bits j k l = in_pairs name b (places L) (numbers L) j k (in_upto L.packages j l.0) (in_upto L.services k l.1)

    once_bits : ((j k j' k' : ℕ) → T (b j k) → T (b j' k') → name j k ≡ name j' k' → (j ≡ j') × (k ≡ k')) → NoRepeat (bit_rows name b)
    once_bits = once_pairs name b (places L) (numbers L) (once_upto L.services) (once_upto L.packages)

  -- ---- the services of package n, as a set
  abbrev pub provided : ℕ → List Tok
  provided n = map (t.tok n) (keep (t.provides n) (places L))

  module _ (names : Names L t.used t.aid t.tok t.provides) (n : ℕ) where
    pub provided_in : (s : Tok) → In s (provided n) ↔ ProvidesAt t n s
    provided_in s = (to, of)
      where
        to : In s (provided n) → ProvidesAt t n s
        to m =
            let p = map_in (t.tok n) (keep (t.provides n) (places L)) m in
            ProvidesAt.at p.0 (keep_in (t.provides n) (places L) p.1).1 p.2

        of : ProvidesAt t n s → In s (provided n)
        of (ProvidesAt.at k h e) = in_cast e (in_map (t.tok n) (in_keep (t.provides n) (in_upto L.services k (names.prov_lt n k h)) h))

    pub once_provided : NoRepeat (provided n)
    once_provided = once_map (t.tok n) (keep (t.provides n) (places L))
        (λ k l p q e. names.tok_inj n k l (keep_in (t.provides n) (places L) p).1 (keep_in (t.provides n) (places L) q).1 e)
        (once_keep (t.provides n) (places L) (once_upto L.services))

  module _ (formed : Formed L t) (n : ℕ) where
    -- ---- as facts: what package n provides, calls, grants and needs
    pub provides_at_lem : (s : Tok) → In s (contract_at L t n).provides ↔ ProvidesAt t n s
    unfolding contract_at
    provides_at_lem = provided_in formed.names n

    -- the rows of unmet calls of package n
    abbrev own : Unmet → Bool
    own u = eqb u.caller n

    own_row : (u : Unmet) → T (own u) → call_row n (wanted u) ≡ u
    own_row u h = λ i. record { callee = u.callee; tok = u.tok; caller = sym (eqb→eq u.caller n h) i }

    -- a bit of calls or of needs, in full
    calls_bit : (r : Row) {b : ℕ → ℕ → ℕ → Bool} → Bits t.used t.provides b → (j k : ℕ) → T (b n j k) → r ≡ service_at t j k → In r (bit_rows (service_at t) (b n))
    calls_bit r {b} bits j k h e = in_cast e (in_bits (service_at t) (b n) j k (place_in L t formed.names j k (bits.of_prov n j k h)) h)

    pub calls_at : (r : Row) → In r (contract_at L t n).calls ↔ RowAt t t.calls t.unmet n r
    unfolding contract_at
    calls_at r = (λ m. to (in_append (bit_rows (service_at t) (t.calls n)) m), of)
      where
        to : In r (bit_rows (service_at t) (t.calls n)) ⊎ In r (map wanted (keep own t.unmet)) → RowAt t t.calls t.unmet n r
        to (inl m) = let p = bits_in (service_at t) (t.calls n) m in RowAt.bit p.0 p.1 p.2 p.3
        to (inr m) =
            let p = map_in wanted (keep own t.unmet) m in
            let q = keep_in own t.unmet p.1 in
            RowAt.row (in_cast (ap (call_row n) p.2 ∙ own_row p.0 q.1) q.0)

        of : RowAt t t.calls t.unmet n r → In r (bit_rows (service_at t) (t.calls n) ++ map wanted (keep own t.unmet))
        of (RowAt.bit j k h e) = in_left (map wanted (keep own t.unmet)) (calls_bit r formed.calls j k h e)
        of (RowAt.row m) = in_right (bit_rows (service_at t) (t.calls n)) (in_map wanted (in_keep own m (eqb_refl n)))

    pub needs_at_lem : (r : Row) → In r (contract_at L t n).needs ↔ RowAt t t.needs [] n r
    unfolding contract_at
    needs_at_lem r = (λ m. let p = bits_in (service_at t) (t.needs n) m in RowAt.bit p.0 p.1 p.2 p.3, of)
      where
        of : RowAt t t.needs [] n r → In r (bit_rows (service_at t) (t.needs n))
        of (RowAt.bit j k h e) = calls_bit r (need_bits L t formed) j k h e
        of (RowAt.row m) = absurd (in_nil m)

    -- a grant bit of package n, in full
    abbrev granted : ℕ → ℕ → Row
    granted i k = record { aid = t.aid i; tok = t.tok n k }

    -- the waiting grants of package n
    abbrev own_grant : Waiting → Bool
    own_grant w = eqb w.callee n

    own_grant_lem : (w : Waiting) → T (own_grant w) → grant_row n (grant_at w) ≡ w
    own_grant_lem w h = λ i. record { caller = w.caller; callee = sym (eqb→eq w.callee n h) i; tok = w.tok }

    pub grants_at_lem : (r : Row) → In r (contract_at L t n).grants ↔ GrantAt t n r
    unfolding contract_at
    grants_at_lem r = (λ m. to (in_append (bit_rows granted (t.grants n)) m), of)
      where
        to : In r (bit_rows granted (t.grants n)) ⊎ In r (map grant_at (keep own_grant t.waiting)) → GrantAt t n r
        to (inl m) =
            let p = bits_in granted (t.grants n) m in
            GrantAt.bit p.0 p.1 p.2 (ap (λ (z : Row). z.aid) p.3) (ap (λ (z : Row). z.tok) p.3)
        to (inr m) =
            let p = map_in grant_at (keep own_grant t.waiting) m in
            let q = keep_in own_grant t.waiting p.1 in
            GrantAt.row (in_cast (ap (grant_row n) p.2 ∙ own_grant_lem p.0 q.1) q.0)

        of : GrantAt t n r → In r (bit_rows granted (t.grants n) ++ map grant_at (keep own_grant t.waiting))
        of (GrantAt.bit i k h a s) =
            let l = bit_in L t formed.names formed.grants i n k h in
            let e : r ≡ granted i k = row_path a s in
            in_left (map grant_at (keep own_grant t.waiting)) (in_cast e (in_bits granted (t.grants n) i k (l.0, l.2) h))
        of (GrantAt.row m) = in_right (bit_rows granted (t.grants n)) (in_map grant_at (in_keep own_grant m (eqb_refl n)))

    -- ---- package n has the contract that is read out for it, and every one with the same sets
    has_own : HasContract t [] n (contract_at L t n)
    unfolding contract_at
    has_own = record { aid = refl; provides = provides_at_lem; calls = calls_at; grants = grants_at_lem; needs = needs_at_lem }

    pub same_contract_lem : (c : Contract) → HasContract t [] n c → SameContract c (contract_at L t n)
    unfolding contract_at
    same_contract_lem c h = record {
      aid = h.aid;
      provides = λ s. Iff.trans (h.provides s) (Iff.symm (provides_at_lem s));
      calls = λ r. Iff.trans (h.calls r) (Iff.symm (calls_at r));
      grants = λ r. Iff.trans (h.grants r) (Iff.symm (grants_at_lem r));
      needs = λ r. Iff.trans (h.needs r) (Iff.symm (needs_at_lem r));
    }

    pub has_contract : (c : Contract) → SameContract c (contract_at L t n) → HasContract t [] n c
    unfolding contract_at
    has_contract c h = record {
      aid = h.aid;
      provides = λ s. Iff.trans (h.provides s) (provides_at_lem s);
      calls = λ r. Iff.trans (h.calls r) (calls_at r);
      grants = λ r. Iff.trans (h.grants r) (grants_at_lem r);
      needs = λ r. Iff.trans (h.needs r) (needs_at_lem r);
    }

    -- ---- four sets
    -- bits of calls that read as one row are one
    one_call : (j k j' k' : ℕ) → T (t.calls n j k) → T (t.calls n j' k') → service_at t j k ≡ service_at t j' k' → (j ≡ j') × (k ≡ k')
    one_call j k j' k' p q e =
        same_place L t formed.names j k j' k' (formed.calls.of_prov n j k p) (formed.calls.of_prov n j' k' q) (ap (λ (z : Row). z.aid) e) (ap (λ (z : Row). z.tok) e)

    one_grant : (i k i' k' : ℕ) → T (t.grants n i k) → T (t.grants n i' k') → granted i k ≡ granted i' k' → (i ≡ i') × (k ≡ k')
    one_grant i k i' k' p q e =
        let g = formed.grants in (
          formed.names.aid_inj i i' (g.by_used i n k p) (g.by_used i' n k' q) (ap (λ (z : Row). z.aid) e),
          formed.names.tok_inj n k k' (g.of_prov i n k p) (g.of_prov i' n k' q) (ap (λ (z : Row). z.tok) e),
        )

    once_calls : NoRepeat (contract_at L t n).calls
    unfolding contract_at
    once_calls = once_append (bit_rows (service_at t) (t.calls n)) (map wanted (keep own t.unmet))
        (once_bits (service_at t) (t.calls n) one_call)
        (once_map wanted (keep own t.unmet) one (once_keep own t.unmet formed.unmet.unmet_once))
        apart
      where
        one : (u v : Unmet) → In u (keep own t.unmet) → In v (keep own t.unmet) → wanted u ≡ wanted v → u ≡ v
        one u v p q e = sym (own_row u (keep_in own t.unmet p).1) ∙ ap (call_row n) e ∙ own_row v (keep_in own t.unmet q).1

        apart : (r : Row) → In r (bit_rows (service_at t) (t.calls n)) → In r (map wanted (keep own t.unmet)) → ⊥
        apart r m l =
            let p = bits_in (service_at t) (t.calls n) m in
            let q = map_in wanted (keep own t.unmet) l in
            let e : service_at t p.0 p.1 ≡ wanted q.0 = sym p.3 ∙ q.2 in
            formed.unmet.off.off_card q.0 (keep_in own t.unmet q.1).0 p.0 p.1 (formed.calls.of_prov n p.0 p.1 p.2)
            (ap (λ (z : Row). z.aid) e) (ap (λ (z : Row). z.tok) e)

    once_grants : NoRepeat (contract_at L t n).grants
    unfolding contract_at
    once_grants = once_append (bit_rows granted (t.grants n)) (map grant_at (keep own_grant t.waiting))
        (once_bits granted (t.grants n) one_grant)
        (once_map grant_at (keep own_grant t.waiting) one (once_keep own_grant t.waiting formed.waiting.wait_once))
        apart
      where
        one : (v w : Waiting) → In v (keep own_grant t.waiting) → In w (keep own_grant t.waiting) → grant_at v ≡ grant_at w → v ≡ w
        one v w p q e = sym (own_grant_lem v (keep_in own_grant t.waiting p).1) ∙ ap (grant_row n) e ∙ own_grant_lem w (keep_in own_grant t.waiting q).1

        apart : (r : Row) → In r (bit_rows granted (t.grants n)) → In r (map grant_at (keep own_grant t.waiting)) → ⊥
        apart r m l =
            let p = bits_in granted (t.grants n) m in
            let q = map_in grant_at (keep own_grant t.waiting) l in
            let w = keep_in own_grant t.waiting q.1 in
            formed.waiting.wait_off (grant_row n (grant_at q.0)) (in_cast (own_grant_lem q.0 w.1) w.0) p.0 p.1 (formed.grants.by_used p.0 n p.1 p.2)
            (ap (λ (z : Row). z.aid) (sym p.3 ∙ q.2)) (formed.grants.of_prov p.0 n p.1 p.2) (ap (λ (z : Row). z.tok) (sym p.3 ∙ q.2))

    pub four_sets_at : T (t.used n) → FourSets (contract_at L t n)
    unfolding contract_at
    four_sets_at u = record {
      provides = once_provided formed.names n;
      calls = once_calls;
      grants = once_grants;
      needs = once_bits (service_at t) (t.needs n) (λ j k j' k' p q e. one_call j k j' k' (formed.need_call n j k p) (formed.need_call n j' k' q) e);
    }

  -- ---- formed tables stand for the contracts of their used numbers
  pub stands_self : Formed L t → Stands t [] (map (contract_at L t) (used_numbers L t))
  unfolding contract_at
  stands_self formed = record {
    these = λ c m. let p = number m in (p.0, p.1, subst (HasContract t [] p.0) (sym p.2) (has_own formed p.0));
    no_others = λ n u. (contract_at L t n, in_map (contract_at L t) (in_keep t.used (in_upto L.packages n (formed.names.used_lt n u)) u), refl);
    one_each = once_map (λ c. c.aid) (map (contract_at L t) (used_numbers L t)) one
        (once_map (contract_at L t) (used_numbers L t)
        (λ i j p q e. formed.names.aid_inj i j (keep_in t.used (numbers L) p).1 (keep_in t.used (numbers L) q).1 (ap (λ (z : Contract). z.aid) e))
        (once_keep t.used (numbers L) (once_upto L.packages)));
    four_sets = λ c m. let p = number m in subst FourSets (sym p.2) (four_sets_at formed p.0 p.1);
  }
    where
      number : {c : Contract} → In c (map (contract_at L t) (used_numbers L t)) → (n : ℕ) × T (t.used n) × (c ≡ contract_at L t n)
      number m = let p = map_in (contract_at L t) (used_numbers L t) m in (p.0, (keep_in t.used (numbers L) p.1).1, p.2)

      one : (c d : Contract) → In c (map (contract_at L t) (used_numbers L t)) → In d (map (contract_at L t) (used_numbers L t)) → c.aid ≡ d.aid → c ≡ d
      one c d m l e =
          let p = number m in
          let q = number l in
          let a = ap (λ (z : Contract). z.aid) (sym p.2) ∙ e ∙ ap (λ (z : Contract). z.aid) q.2 in
          p.2 ∙ ap (contract_at L t) (formed.names.aid_inj p.0 q.0 p.1 q.1 a) ∙ sym q.2
