-- The contract of a number, read out: it fits a record, has no cause 3, and is read as itself.
use Prim.Native.Nat.{ℕ, suc, ◌+◌, ◌*◌, ◌-◌, ◌≤◌}
use native.Mathlib.Omega.{arith}
use native.Mathlib.Nat.{suc-mul}
use mathlib.Core.Path.{◌≡◌, refl, sym, ap, ◌∙◌, subst}
use mathlib.Core.Logic.{◌⊎◌, inl, inr}
use mathlib.Core.Bool.{Bool, not, ◌&&◌, ◌||◌}
use mathlib.Core.List.{List, [], ◌∷◌, ◌++◌, map}
use mathlib.Core.List.Memᴰ.{cases_cons as in_cons}
use mathlib.Core.List.Memᴰ.{not-nil as in_nil}
use mathlib.Core.List.{Memᴰ as In}
use mathlib.Core.Option.{some}
use lib.Dec.{T, eqb}
use lib.ListN.{length, length-append, length-map}
use Rattle.policy.specs.Lists.{every, keep, flat, distinct}
use Rattle.policy.specs.Contract.{Aid, eq_aid, eq_tok, Row, eq_row, Contract, has_tok, has_row, valid_aid}
use Rattle.policy.specs.Layout.{Layout, LayoutOk}
use Rattle.policy.specs.Record.{not_own, parse, proper}
use Rattle.policy.specs.Tables.{Tables}
use Rattle.policy.specs.Lookup.{numbers, places, used_numbers, service_at, wanted, grant_at, contract_at}
use Rattle.policy.specs.Judge.{load_record}
use Rattle.policy.specs.Records.{load_of, request_of}
use Rattle.policy.specs.History.{Allowed}
use Rattle.policy.proofs.Sets.{and_i, or_l, or_r, test, not_i, cond_false, in_every, in_map, in_keep, length_keep, length_flat_le, once→distinct, pairs, length_from, in_upto}
use Rattle.policy.proofs.Equal.{eq_aid→, eq_tok→, eq_tok_refl, eq_row→, eq_row_refl, tok_has, row_has}
use Rattle.policy.proofs.Formed.{Formed, Fitting, Ruled, RowAt, GrantAt}
use Rattle.policy.proofs.Facts.{need_bits}
use Rattle.policy.proofs.ContractAt.{calls_at, needs_at_lem, grants_at_lem, four_sets_at, stands_self}
use Rattle.policy.proofs.Ruled.{ruled_allowed}
use Rattle.policy.proofs.Written.{written_read, load_record_lem}
use Rattle.policy.proofs.RecordsLength.{load_writable}

-- ---- lengths
module _ {A : Type 0} (f : ℕ → List A) (most : ℕ) (each : (x : ℕ) → length (f x) ≤ most) where
  -- one of them is empty
  length_flat_but : (n : ℕ) → f n ≡ [] → (l : List ℕ) → In n l → length (flat f l) ≤ (length l - 1) * most
  length_flat_but n e [] m = absurd (in_nil m)
  length_flat_but n e (x ∷ l) m = go (in_cons m) (length_flat_but n e l)
    where
      less : (l : List ℕ) → suc (length l) - 1 ≡ length l
      less l = omega arith

      -- n stands further on, so the rest is not empty
      more : (l : List ℕ) → In n l → length (flat f l) ≤ (length l - 1) * most → length (f x) + length (flat f l) ≤ length l * most
      more [] p h = absurd (in_nil p)
      more (y ∷ l) p h =
          let a = each x in
          let b : length (flat f (y ∷ l)) ≤ length l * most = subst (λ (z : ℕ). length (flat f (y ∷ l)) ≤ z * most) (less l) h in
          rw (suc-mul (length l) most) (omega arith)

      go : (n ≡ x) ⊎ In n l → (In n l → length (flat f l) ≤ (length l - 1) * most) → length (f x ++ flat f l) ≤ (suc (length l) - 1) * most
      go (inl q) ih =
          let z : length (f x) ≡ 0 = ap (λ (y : ℕ). length (f y)) (sym q) ∙ ap (λ (y : List A). length y) e in
          let a = length_flat_le f most l (λ x m. each x) in
          let s = length-append (f x) (flat f l) in
          rw (less l) (omega arith)
      go (inr p) ih = let a = more l p (ih p) in let s = length-append (f x) (flat f l) in rw (less l) (omega arith)

module _ (L : Layout) (lo : LayoutOk L) (t : Tables) (g : Formed L t) (ru : Ruled L t) (fit : Fitting L t) (n : ℕ) (un : T (t.used n)) where
  abbrev c : Contract
  c = contract_at L t n

  -- no bit of n's row names n itself
  module _ (name : ℕ → ℕ → Row) (b : ℕ → ℕ → Bool) (diagonal : (k : ℕ) → T (b n k) → ⊥) where
    empty_keep : (l : List ℕ) → keep (b n) l ≡ []
    empty_keep [] = refl
    empty_keep (k ∷ l) = cond_false (b n k) (k ∷ keep (b n) l) (keep (b n) l) (diagonal k) ∙ empty_keep l

    abbrev bits : List Row
    bits = pairs name b (places L) (numbers L)

    bits_length : length bits ≤ (L.packages - 1) * L.services
    bits_length =
        let h = length_flat_but (λ j. map (name j) (keep (b j) (places L))) L.services
        (λ j. let a = length-map (keep (b j) (places L)) (name j) in let k = length_keep (b j) (places L) in let u = length_from 0 L.services in omega arith)
        n (ap (λ (z : List ℕ). map (name n) z) (empty_keep (places L))) (numbers L) (in_upto L.packages n (g.names.used_lt n un)) in
        subst (λ (z : ℕ). length bits ≤ (z - 1) * L.services) (length_from 0 L.packages) h

    -- with the rows of a list behind the bits
    rows_length : {A : Type 0} (f : A → Row) (own : A → Bool) (l : List A) → length l ≤ L.capacity
        → length (bits ++ map f (keep own l)) ≤ L.most_rows
    rows_length f own l h =
        let a = bits_length in
        let e = length-append bits (map f (keep own l)) in
        let m = length-map (keep own l) f in
        let k = length_keep own l in
        let r = lo.rows_fit in
        omega arith

  provides_length : length c.provides ≤ L.services
  unfolding contract_at
  provides_length =
      let a = length-map (keep (t.provides n) (places L)) (t.tok n) in
      let k = length_keep (t.provides n) (places L) in
      let u = length_from 0 L.services in
      omega arith

  calls_length : length c.calls ≤ L.most_rows
  unfolding contract_at
  calls_length = rows_length (service_at t) (t.calls n) (λ k h. g.calls.other n n k h refl) wanted (λ u. eqb u.caller n) t.unmet fit.unmet_fits

  grants_length : length c.grants ≤ L.most_rows
  unfolding contract_at
  grants_length =
      rows_length (λ i k. record { aid = t.aid i; tok = t.tok n k }) (t.grants n) (λ k h. g.grants.other n n k h refl) grant_at (λ w. eqb w.callee n) t.waiting fit.waiting_fits

  needs_length : length c.needs ≤ L.most_rows
  unfolding contract_at
  needs_length =
      let a = bits_length (service_at t) (t.needs n) (λ k h. (need_bits L t g).other n n k h refl) in
      let r = lo.rows_fit in
      omega arith

  -- ---- rows name valid AIDs other than the own
  abbrev Other : Row → Type 0
  Other r = T (valid_aid r.aid) × (r.aid ≡ t.aid n → ⊥)

  at_service_lem : (i j k : ℕ) (r : Row) → T (t.calls i j k) → i ≡ n → r ≡ service_at t j k → Other r
  at_service_lem i j k r b ei e =
      let uj = g.names.prov_used j k (g.calls.of_prov i j k b) in (
        subst (λ (z : Row). T (valid_aid z.aid)) (sym e) (g.names.aid_valid j uj),
        λ q. g.calls.other i j k b (ei ∙ sym (g.names.aid_inj j n uj un (sym (ap (λ (z : Row). z.aid) e) ∙ q))),
      )

  call_other : (r : Row) → In r c.calls → Other r
  call_other r m = go ((calls_at L t g n r).0 m)
    where
      go : RowAt t t.calls t.unmet n r → Other r
      go (RowAt.bit j k b e) = at_service_lem n j k r b refl e
      go (RowAt.row p) = (g.unmet.unmet_valid _ p, g.unmet.unmet_other _ p)

  need_called : (r : Row) → In r c.needs → In r c.calls
  need_called r m = go ((needs_at_lem L t g n r).0 m)
    where
      go : RowAt t t.needs [] n r → In r c.calls
      go (RowAt.bit j k b e) = (calls_at L t g n r).1 (RowAt.bit j k (g.need_call n j k b) e)
      go (RowAt.row p) = absurd (in_nil p)

  grant_other : (r : Row) → In r c.grants → Other r
  grant_other r m = go ((grants_at_lem L t g n r).0 m)
    where
      go : GrantAt t n r → Other r
      go (GrantAt.bit i k b e f) =
          let ui = g.grants.by_used i n k b in
          (subst (λ (z : Aid). T (valid_aid z)) (sym e) (g.names.aid_valid i ui), λ q. g.grants.other i n k b (g.names.aid_inj i n ui un (sym e ∙ q)))
      go (GrantAt.row p) = (g.waiting.wait_valid _ p, g.waiting.wait_other _ p)

  valid_aid_lem : T (valid_aid c.aid)
  unfolding contract_at
  valid_aid_lem = g.names.aid_valid n un

  -- the rules allow it
  allowed : Allowed L c
  allowed = ruled_allowed L t (map (contract_at L t) (used_numbers L t)) g (stands_self L t g) ru c (in_map (contract_at L t) (in_keep t.used (in_upto L.packages n (g.names.used_lt n un)) un))

  pub read_out_parses : parse L (load_record L c) ≡ some (request_of c)
  read_out_parses =
      ap (parse L) (load_record_lem L c) ∙ written_read L lo (request_of c) (load_writable L lo c (
        valid_aid_lem,
        (
          (provides_length, allowed.tokens.provides),
          (calls_length, λ r m. ((call_other r m).0, allowed.tokens.calls r m)),
          (grants_length, λ r m. ((grant_other r m).0, allowed.tokens.grants r m)),
          (needs_length, λ r m. let i = need_called r m in ((call_other r i).0, allowed.tokens.calls r i)),
        ),
      ))

  -- ---- no cause 3
  not_own_lem : (l : List Row) → ((r : Row) → In r l → Other r) → T (not_own (t.aid n) l)
  not_own_lem l h = in_every (λ r. not (eq_aid r.aid (t.aid n))) l (λ r m. not_i (eq_aid r.aid (t.aid n)) (λ e. (h r m).1 (eq_aid→ r.aid (t.aid n) e)))

  own_grants_lem : T L.early ⊎ (T L.early → ⊥) → T (L.early || every (λ r. has_tok r.tok c.provides) c.grants)
  own_grants_lem (inl e) = or_l L.early (every (λ r. has_tok r.tok c.provides) c.grants) e
  own_grants_lem (inr late) = or_r L.early (every (λ r. has_tok r.tok c.provides) c.grants)
      (in_every (λ r. has_tok r.tok c.provides) c.grants (λ r m. tok_has (allowed.own late r m)))

  pub read_out_proper : T (proper L c.aid (load_of c))
  unfolding proper contract_at
  read_out_proper =
      let s = four_sets_at L t g n un in
      let p1 = distinct eq_tok c.provides in let p2 = distinct eq_row c.calls in let p3 = distinct eq_row c.grants in let p4 = distinct eq_row c.needs in
      let o1 = not_own (t.aid n) c.calls in let o2 = not_own (t.aid n) c.grants in let o3 = not_own (t.aid n) c.needs in
      let n1 = every (λ r. has_row r c.calls) c.needs in let n2 = L.early || every (λ r. has_tok r.tok c.provides) c.grants in
      and_i (p1 && p2 && p3 && p4 && (o1 && o2 && o3)) (n1 && n2)
      (and_i (p1 && p2 && p3 && p4) (o1 && o2 && o3)
      (and_i (p1 && p2 && p3) p4 (and_i (p1 && p2) p3 (and_i p1 p2 (once→distinct eq_tok eq_tok→ eq_tok_refl c.provides s.provides) (once→distinct eq_row eq_row→ eq_row_refl c.calls s.calls))
      (once→distinct eq_row eq_row→ eq_row_refl c.grants s.grants)) (once→distinct eq_row eq_row→ eq_row_refl c.needs s.needs))
      (and_i (o1 && o2) o3 (and_i o1 o2 (not_own_lem c.calls call_other) (not_own_lem c.grants grant_other)) (not_own_lem c.needs (λ r m. call_other r (need_called r m)))))
      (and_i n1 n2 (in_every (λ r. has_row r c.calls) c.needs (λ r m. row_has (need_called r m))) (own_grants_lem (test L.early)))
