-- What follows at once from the facts: what stays, where bits stand, lawful tables by their test, and the contract of a number.
use Prim.Native.Nat.{ℕ, ◌<◌}
use mathlib.Core.Path.{◌≡◌, refl, sym, ◌∙◌, subst}
use mathlib.Core.Logic.{◌⊎◌, inl, inr, ◌↔◌}
use mathlib.Core.Bool.{Bool, ◌&&◌}
use mathlib.Core.List.{List, []}
use mathlib.Core.List.Memᴰ.{not-nil as in_nil}
use mathlib.Core.List.{Memᴰ as In}
use lib.Dec.{T}
use Rattle.policy.specs.Contract.{Aid, eq_aid, Tok, Row, Contract, under}
use Rattle.policy.specs.Layout.{Layout}
use Rattle.policy.specs.Tables.{Tables, Unmet}
use Rattle.policy.specs.Lookup.{service_at}
use Rattle.policy.specs.Draft.{call_row, grant_row}
use Rattle.policy.proofs.Sets.{and_l, and_r, and_i, exists_in, in_exists}
use Rattle.policy.proofs.Equal.{eq_aid→, eq_aid_of}
use Rattle.policy.proofs.EveryBit.{BitIn, among, among_to, among_back}
use Rattle.policy.proofs.Formed.{Names, Bits, Off, grant_bit, Formed, Lawful, Ruled, ProvidesAt, at, RowAt, bit, row, GrantAt, HasContract, Stands}

pub no_rows : (t : Tables) → Off t.used t.aid t.tok t.provides []
no_rows t = record { off_used = λ u m. absurd (in_nil m); off_card = λ u m. absurd (in_nil m) }

-- what follows of a call or need as a bit and as a row
pub row_cases : {t : Tables} {b : ℕ → ℕ → ℕ → Bool} {l : List Unmet} {n : ℕ} {r : Row} {P : Type 0}
    → ((j k : ℕ) → T (b n j k) → r ≡ service_at t j k → P) → (In (call_row n r) l → P) → RowAt t b l n r → P
row_cases f g (bit j k h e) = f j k h e
row_cases f g (row m) = g m

-- ---- package n provides, calls or needs the same where its services stay
module _ (t t' : Tables) (n : ℕ) where
  pub provides_kept : ((k : ℕ) → T (t.provides n k) → T (t'.provides n k)) → ((k : ℕ) → T (t'.provides n k) → T (t.provides n k)) → ((k : ℕ) → t.tok n k ≡ t'.tok n k)
      → (s : Tok) → ProvidesAt t n s ↔ ProvidesAt t' n s
  provides_kept f g same s = (to, back)
    where
      to : ProvidesAt t n s → ProvidesAt t' n s
      to (at k p e) = at k (f k p) (e ∙ same k)

      back : ProvidesAt t' n s → ProvidesAt t n s
      back (at k p e) = at k (g k p) (e ∙ sym (same k))

  pub row_kept : (b : ℕ → ℕ → ℕ → Bool) (l : List Unmet) → ((j k : ℕ) → T (b n j k) → service_at t j k ≡ service_at t' j k) → (r : Row) → RowAt t b l n r ↔ RowAt t' b l n r
  row_kept b l same r = (row_cases (λ j k h e. bit j k h (e ∙ same j k h)) row, row_cases (λ j k h e. bit j k h (e ∙ sym (same j k h))) row)

-- ---- some of the bits
pub bits_sub : {used : ℕ → Bool} {provides : ℕ → ℕ → Bool} {b b' : ℕ → ℕ → ℕ → Bool} → Bits used provides b → ((i j k : ℕ) → T (b' i j k) → T (b i j k)) → Bits used provides b'
bits_sub h sub = record {
  by_used = λ i j k m. h.by_used i j k (sub i j k m);
  of_prov = λ i j k m. h.of_prov i j k (sub i j k m);
  other = λ i j k m. h.other i j k (sub i j k m);
}

-- and one more
pub bits_more : {used : ℕ → Bool} {provides : ℕ → ℕ → Bool} {b b' : ℕ → ℕ → ℕ → Bool} (i j k : ℕ) → Bits used provides b → T (used i) → T (provides j k) → (i ≡ j → ⊥)
    → ((x y z : ℕ) → T (b' x y z) → ((x ≡ i) × (y ≡ j) × (z ≡ k)) ⊎ T (b x y z)) → Bits used provides b'
bits_more {used} {provides} {b} i j k h ui p ne cases = record {
  by_used = λ x y z m. by x y z (cases x y z m);
  of_prov = λ x y z m. prov x y z (cases x y z m);
  other = λ x y z m. differ x y z (cases x y z m);
}
  where
    by : (x y z : ℕ) → ((x ≡ i) × (y ≡ j) × (z ≡ k)) ⊎ T (b x y z) → T (used x)
    by x y z (inl e) = rw e.0 ui
    by x y z (inr m) = h.by_used x y z m

    prov : (x y z : ℕ) → ((x ≡ i) × (y ≡ j) × (z ≡ k)) ⊎ T (b x y z) → T (provides y z)
    prov x y z (inl e) = rw (e.1, e.2) p
    prov x y z (inr m) = h.of_prov x y z m

    differ : (x y z : ℕ) → ((x ≡ i) × (y ≡ j) × (z ≡ k)) ⊎ T (b x y z) → x ≡ y → ⊥
    differ x y z (inl e) q = ne (sym e.0 ∙ q ∙ e.1)
    differ x y z (inr m) q = h.other x y z m q

module _ (L : Layout) (t : Tables) where
  module _ (names : Names L t.used t.aid t.tok t.provides) where
    -- ---- a provided service and a bit stand within the tables
    pub place_in : (j k : ℕ) → T (t.provides j k) → (j < L.packages) × (k < L.services)
    place_in j k p = (names.used_lt j (names.prov_used j k p), names.prov_lt j k p)

    pub bit_in : {b : ℕ → ℕ → ℕ → Bool} → Bits t.used t.provides b → (i j k : ℕ) → T (b i j k) → BitIn L i j k
    bit_in h i j k m = let p = place_in j k (h.of_prov i j k m) in (names.used_lt i (h.by_used i j k m), p.0, p.1)

    -- ---- a contract with the AID of package n is that of n, and there is one
    module _ {lost : List Unmet} where
      pub at_aid : (c : Contract) (m n : ℕ) → T (t.used m) → HasContract t lost m c → T (t.used n) → c.aid ≡ t.aid n → HasContract t lost n c
      at_aid c m n um h un e = subst (λ (z : ℕ). HasContract t lost z c) (names.aid_inj m n um un (sym h.aid ∙ e)) h

      pub contract_of_lem : {cs : List Contract} → Stands t lost cs → (n : ℕ) → T (t.used n) → (c : Contract) × In c cs × HasContract t lost n c
      contract_of_lem st n u =
          let p = st.no_others n u in
          let h = st.these p.0 p.1 in
          (p.0, p.1, at_aid p.0 h.0 n h.1 h.2 u p.2)

    -- a test of the contract under an AID, as a fact about the package with that AID
    module _ {lost : List Unmet} {cs : List Contract} (st : Stands t lost cs) (a : Aid) (f : Contract → Bool) where
      pub under_i : (n : ℕ) → T (t.used n) → t.aid n ≡ a → ((c : Contract) → In c cs → HasContract t lost n c → T (f c)) → T (under cs a f)
      under_i n u e h =
          let p = contract_of_lem st n u in
          in_exists (λ c. eq_aid c.aid a && f c) p.1 (and_i (eq_aid p.0.aid a) (f p.0) (eq_aid_of (p.2.aid ∙ e)) (h p.0 p.1 p.2))

      pub under_e : T (under cs a f) → (n : ℕ) × T (t.used n) × (t.aid n ≡ a) × (c : Contract) × In c cs × HasContract t lost n c × T (f c)
      under_e h =
          let p = exists_in (λ c. eq_aid c.aid a && f c) cs h in
          let s = st.these p.0 p.1 in
          let e = eq_aid→ p.0.aid a (and_l (eq_aid p.0.aid a) (f p.0) p.2) in
          (s.0, s.1, sym s.2.aid ∙ e, p.0, p.1, s.2, and_r (eq_aid p.0.aid a) (f p.0) p.2)

  module _ (f : Formed L t) where
    -- needs are calls
    pub need_bits : Bits t.used t.provides t.needs
    need_bits = bits_sub f.calls f.need_call

    -- a granted service is provided, before R-2
    pub granted_provided : Ruled L t → (T L.early → ⊥) → (n : ℕ) (r : Row) → GrantAt t n r → ProvidesAt t n r.tok
    granted_provided ru late n r (bit i k b e q) = at k (f.grants.of_prov i n k b) q
    granted_provided ru late n r (row m) = let p = ru.own late (grant_row n r) m in at p.0 p.1 (sym p.2)

    -- a grant whose caller and service are on the card is a bit
    pub granted_bit_lem : (i j k : ℕ) → T (t.used i) → T (t.provides j k) → (r : Row) → r.aid ≡ t.aid i → r.tok ≡ t.tok j k → GrantAt t j r → T (t.grants j i k)
    granted_bit_lem i j k u p r e q (bit i' k' b e' q') =
        let ei : i' ≡ i = f.names.aid_inj i' i (f.grants.by_used i' j k' b) u (sym e' ∙ e) in
        let ek : k' ≡ k = f.names.tok_inj j k' k (f.grants.of_prov i' j k' b) p (sym q' ∙ q) in
        subst (λ (z : ℕ). T (t.grants j i z)) ek (subst (λ (z : ℕ). T (t.grants j z k')) ei b)
    granted_bit_lem i j k u p r e q (row m) = absurd (f.waiting.wait_off (grant_row j r) m i k u (sym e) p (sym q))

    -- and does not wait
    pub bit_not_waiting : (i j k : ℕ) → T (t.grants j i k) → In (record { caller = t.aid i; callee = j; tok = t.tok j k }) t.waiting → ⊥
    bit_not_waiting i j k h m = f.waiting.wait_off _ m i k (f.grants.by_used i j k h) refl (f.grants.of_prov i j k h) refl

    -- ---- every call bit has its grant bit
    pub lawful_of : T (among L t.calls (grant_bit t)) → Lawful t
    lawful_of h i j k b = among_to L t.calls (grant_bit t) h i j k (bit_in f.names f.calls i j k b) b

  pub of_lawful : Lawful t → T (among L t.calls (grant_bit t))
  of_lawful = among_back L t.calls (grant_bit t)
