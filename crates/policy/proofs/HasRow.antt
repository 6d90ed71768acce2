-- The tests of cause 6 as searches and bits: what the contract of a package number has, by where its service and its caller stand.
use Prim.Native.Nat.{ℕ}
use mathlib.Core.Path.{◌≡◌, sym, ap, ◌∙◌, subst}
use mathlib.Core.Logic.{◌↔◌}
use mathlib.Core.Bool.{Bool}
use mathlib.Core.List.{List}
use mathlib.Core.List.{Memᴰ as In}
use mathlib.Core.Option.{Option, none, some}
use lib.Dec.{T}
use Rattle.policy.specs.Lists.{is_some, or_else}
use Rattle.policy.specs.Contract.{Tok, Row, has_tok, has_row}
use Rattle.policy.specs.Layout.{Layout}
use Rattle.policy.specs.Tables.{Tables}
use Rattle.policy.specs.Lookup.{Place, Spot, service_of, server_of, spot_of, contract_at}
use Rattle.policy.specs.Draft.{call_row, grant_row, has_unmet, has_waiting}
use Rattle.policy.proofs.Sets.{T_eq, T_true, T_false}
use Rattle.policy.proofs.Equal.{has_tok_lem, tok_has, has_row_lem, row_has, has_unmet_lem, unmet_has, has_waiting_lem, waiting_has}
use Rattle.policy.proofs.Formed.{Formed, ProvidesAt, at, RowAt, bit, row, GrantAt}
use Rattle.policy.proofs.Found.{ServiceIs, ServerIs, SpotIs, service_is, server_is, spot_is, same_place}
use Rattle.policy.proofs.ContractAt.{provides_at_lem, calls_at, grants_at_lem}
use Rattle.policy.proofs.Facts.{granted_bit_lem}

-- a row stands in a list exactly where a test passes
row_test : (r : Row) (l : List Row) (b : Bool) → (In r l → T b) → (T b → In r l) → has_row r l ≡ b
row_test r l b f g = T_eq (has_row r l) b (λ h. f (has_row_lem r l h)) (λ h. row_has (g h))

-- a search for a service that found nothing
missed : (t : Tables) (j : ℕ) (s : Tok) → ServiceIs t j s none → ProvidesAt t j s → ⊥
missed t j s h (at k p e) = h k p (sym e)

module _ (L : Layout) (t : Tables) (formed : Formed L t) where
  -- ---- a service
  pub has_tok_is : (j : ℕ) (s : Tok) → has_tok s (contract_at L t j).provides ≡ is_some (service_of L t j s)
  has_tok_is j s = go (service_of L t j s) (service_is L t formed.names j s)
    where
      go : (o : Option ℕ) → ServiceIs t j s o → has_tok s (contract_at L t j).provides ≡ is_some o
      go none h = T_false (has_tok s (contract_at L t j).provides) (λ u. missed t j s h ((provides_at_lem L t formed j s).0 (has_tok_lem s (contract_at L t j).provides u)))
      go (some k) h = T_true (has_tok s (contract_at L t j).provides) (tok_has ((provides_at_lem L t formed j s).1 (at k h.0 (sym h.1))))

  -- ---- a call of package i: a bit where its service is on the card, else a row of the list
  pub has_call_is : (i : ℕ) (r : Row)
      → has_row r (contract_at L t i).calls ≡ or_else (server_of L t r) (has_unmet (call_row i r) t.unmet) (λ p. t.calls i p.callee p.service)
  has_call_is i r = go (server_of L t r) (server_is L t formed.names r)
    where
      rows : List Row
      rows = (contract_at L t i).calls

      same : In r rows ↔ RowAt t t.calls t.unmet i r
      same = calls_at L t formed i r

      unserved : ServerIs t r none → RowAt t t.calls t.unmet i r → T (has_unmet (call_row i r) t.unmet)
      unserved h (bit j k x e) = absurd (h j k (formed.calls.of_prov i j k x) (ap (λ (z : Row). z.aid) (sym e)) (ap (λ (z : Row). z.tok) (sym e)))
      unserved h (row m) = unmet_has m

      served : (p : Place) → ServerIs t r (some p) → RowAt t t.calls t.unmet i r → T (t.calls i p.callee p.service)
      served p h (bit j k x e) =
          let q = same_place L t formed.names j k p.callee p.service (formed.calls.of_prov i j k x) h.0
          (ap (λ (z : Row). z.aid) (sym e) ∙ sym h.1) (ap (λ (z : Row). z.tok) (sym e) ∙ sym h.2) in
          subst (λ (z : ℕ). T (t.calls i z p.service)) q.0 (subst (λ (z : ℕ). T (t.calls i j z)) q.1 x)
      served p h (row m) = absurd (formed.unmet.off.off_card (call_row i r) m p.callee p.service h.0 h.1 h.2)

      go : (o : Option Place) → ServerIs t r o → has_row r rows ≡ or_else o (has_unmet (call_row i r) t.unmet) (λ p. t.calls i p.callee p.service)
      go none h = row_test r rows (has_unmet (call_row i r) t.unmet) (λ m. unserved h (same.0 m)) (λ x. same.1 (row (has_unmet_lem (call_row i r) t.unmet x)))
      go (some p) h = row_test r rows (t.calls i p.callee p.service) (λ m. served p h (same.0 m))
          (λ x. same.1 (bit p.callee p.service x (λ z. record { aid = sym h.1 z; tok = sym h.2 z })))

  -- ---- a grant of package j: a bit where its caller and its service are on the card, else a row that waits
  pub has_grant_is : (j : ℕ) (r : Row)
      → has_row r (contract_at L t j).grants ≡ or_else (spot_of L t j r) (has_waiting (grant_row j r) t.waiting) (λ p. t.grants j p.caller p.service)
  has_grant_is j r = go (spot_of L t j r) (spot_is L t formed.names j r)
    where
      rows : List Row
      rows = (contract_at L t j).grants

      same : In r rows ↔ GrantAt t j r
      same = grants_at_lem L t formed j r

      waits : SpotIs t j r none → GrantAt t j r → T (has_waiting (grant_row j r) t.waiting)
      waits h (bit i k b e q) = absurd (h i k (formed.grants.by_used i j k b) (sym e) (formed.grants.of_prov i j k b) (sym q))
      waits h (row m) = waiting_has m

      go : (o : Option Spot) → SpotIs t j r o → has_row r rows ≡ or_else o (has_waiting (grant_row j r) t.waiting) (λ p. t.grants j p.caller p.service)
      go none h = row_test r rows (has_waiting (grant_row j r) t.waiting) (λ m. waits h (same.0 m)) (λ x. same.1 (row (has_waiting_lem (grant_row j r) t.waiting x)))
      go (some p) h = row_test r rows (t.grants j p.caller p.service)
          (λ m. granted_bit_lem L t formed p.caller j p.service h.0 h.2 r (sym h.1) (sym h.3) (same.0 m))
          (λ x. same.1 (bit p.caller p.service x (sym h.1) (sym h.3)))
