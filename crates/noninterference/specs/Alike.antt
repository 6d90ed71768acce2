-- R-6, 'Suppliers must not watch each other': what two cards have in common for package B.
use Rattle.std.specs.Prelude.{ℕ, ◌≡◌, Bool, ◌&&◌, ◌||◌, List, [], ◌∷◌, T, eqb, length}
use Rattle.policy.specs.Lists.{implies, every, exists, keep}
use Rattle.policy.specs.Contract.{Aid, eq_aid, eq_tok, Row, eq_row, Contract}
use Rattle.policy.specs.Layout.{Layout}
use Rattle.policy.specs.Tables.{decode}
use Rattle.policy.specs.Lookup.{numbers, used_numbers, contract_at}
use Rattle.policy.specs.Sound.{sound}
use Rattle.policy.specs.History.{SameContract}

-- a row of contract c 'with package B at either end': the contract is B's, or the row names B
abbrev pub at_end : Aid → Contract → Row → Bool
at_end b c r = eq_aid c.aid b || eq_aid r.aid b

-- what the cards agree on of a contract: its AID, its services, and every row with B at either end
abbrev pub seen_by : Aid → Contract → Contract
seen_by b c = record {
  aid = c.aid;
  provides = c.provides;
  calls = keep (at_end b c) c.calls;
  grants = keep (at_end b c) c.grants;
  needs = keep (at_end b c) c.needs;
}

-- 'two sound cards of one size' that 'agree on used numbers, AIDs and services, on every contract row with package B at either end, and on
-- both list counts'. A number's contract has its bits and its list rows alike (`contract_at`); services and rows are compared as sets, so a
-- service may have another number and a row another place. What other packages call, need and grant among themselves may differ.
pub record Alike (L : Layout) (b : Aid) (img₁ img₂ : List ℕ) : Type 0 where
  pub sound₁ : T (sound L img₁)
  pub sound₂ : T (sound L img₂)
  pub used : (n : ℕ) → (decode L img₁).used n ≡ (decode L img₂).used n
  pub contracts : (n : ℕ) → T ((decode L img₁).used n)
      → SameContract (seen_by b (contract_at L (decode L img₁) n)) (seen_by b (contract_at L (decode L img₂) n))
  pub unmet_count : length (decode L img₁).unmet ≡ length (decode L img₂).unmet
  pub waiting_count : length (decode L img₁).waiting ≡ length (decode L img₂).waiting

-- ---- the same as tests, to compute examples
abbrev pub same_set : {A : Type 0} → (A → A → Bool) → List A → List A → Bool
same_set eq l m = every (λ x. exists (eq x) m) l && every (λ x. exists (eq x) l) m

abbrev pub same_contract : Contract → Contract → Bool
same_contract c k =
    eq_aid c.aid k.aid
    && (same_set eq_tok c.provides k.provides
    && (same_set eq_row c.calls k.calls && (same_set eq_row c.grants k.grants && same_set eq_row c.needs k.needs)))

-- the fields of `Alike`, a test each
unfoldable pub tests : Layout → Aid → List ℕ → List ℕ → List Bool
unfolding sound decode contract_at
tests L b img₁ img₂ =
    let t₁ = decode L img₁ in
    let t₂ = decode L img₂ in
    sound L img₁
    ∷ sound L img₂
    ∷ every (λ n. implies (t₁.used n) (t₂.used n) && implies (t₂.used n) (t₁.used n)) (numbers L)
    ∷ every (λ n. same_contract (seen_by b (contract_at L t₁ n)) (seen_by b (contract_at L t₂ n))) (used_numbers L t₁)
    ∷ eqb (length t₁.unmet) (length t₂.unmet)
    ∷ eqb (length t₁.waiting) (length t₂.waiting)
    ∷ []
