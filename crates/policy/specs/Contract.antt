-- Contracts: document 01, 'Contracts'. AIDs and tokens in full, nothing of the engine's tables.
use Rattle.std.specs.Prelude.{ℕ, Bool, true, not, ◌&&◌, List, map, eqb, leb, length}
use Rattle.policy.specs.Lists.{implies, every, exists, keep, flat, eq_bytes}

-- an AID names a package; equal only if length and bytes are equal
abbrev pub Aid : Type 0
Aid = List ℕ

abbrev pub eq_aid : Aid → Aid → Bool
eq_aid a b = eq_bytes a b

-- 5 to 16 bytes
abbrev pub valid_aid : Aid → Bool
valid_aid a = leb 5 (length a) && leb (length a) 16

-- two token bytes, interface then method
pub record Tok : Type 0 where
  pub itf : ℕ
  pub mth : ℕ

abbrev pub eq_tok : Tok → Tok → Bool
eq_tok s t = eqb s.itf t.itf && eqb s.mth t.mth

-- an AID with tokens: a service of that package, or a grant of the own service with these tokens to that caller
pub record Row : Type 0 where
  pub aid : Aid
  pub tok : Tok

abbrev pub eq_row : Row → Row → Bool
eq_row r s = eq_aid r.aid s.aid && eq_tok r.tok s.tok

-- the four sets of a package, as lists; their order means nothing
pub record Contract : Type 0 where
  pub aid : Aid
  pub provides : List Tok
  pub calls : List Row
  pub grants : List Row
  pub needs : List Row

abbrev pub has_tok : Tok → List Tok → Bool
has_tok s l = exists (eq_tok s) l

abbrev pub has_row : Row → List Row → Bool
has_row r l = exists (eq_row r) l

-- the contract with grants of provided services alone, as all were before R-2
abbrev pub own_grants : Contract → Contract
own_grants c = record {
  aid = c.aid;
  provides = c.provides;
  calls = c.calls;
  grants = keep (λ r. has_tok r.tok c.provides) c.grants;
  needs = c.needs;
}

-- a row of a package: the package's AID, and the row
pub record Link : Type 0 where
  pub owner : Aid
  pub row : Row

-- ---- what the contracts on a card say together
module _ (cs : List Contract) where
  -- the contract under a passes f
  abbrev pub under : Aid → (Contract → Bool) → Bool
  under a f = exists (λ c. eq_aid c.aid a && f c) cs

  abbrev pub installed : Aid → Bool
  installed a = under a (λ c. true)

  -- 'A call is met when its service is provided on the card, else unmet.'
  abbrev pub met : Row → Bool
  met r = under r.aid (λ c. has_tok r.tok c.provides)

  -- 'A grant waits while its caller is not installed'; R-2: 'it waits until caller and service are both on the card'
  abbrev pub waits : Contract → Row → Bool
  waits c g = not (installed g.aid && has_tok g.tok c.provides)

  -- the provider of r grants it to a
  abbrev pub granted_to : Aid → Row → Bool
  granted_to a r = under r.aid (λ c. has_row (record { aid = a; tok = r.tok }) c.grants)

  -- 'The card is lawful when every met call is granted by the provider to the caller,
  unfoldable pub calls_granted : Bool
  calls_granted = every (λ c. every (λ r. implies (met r) (granted_to c.aid r)) c.calls) cs

  -- and every need is met.'
  unfoldable pub needs_met : Bool
  needs_met = every (λ c. every met c.needs) cs

  abbrev pub lawful : Bool
  lawful = calls_granted && needs_met

  unfoldable pub unmet_calls : List Link
  unmet_calls = flat (λ c. map (λ r. record { owner = c.aid; row = r }) (keep (λ r. not (met r)) c.calls)) cs

  unfoldable pub waiting_grants : List Link
  waiting_grants = flat (λ c. map (λ r. record { owner = c.aid; row = r }) (keep (waits c) c.grants)) cs
