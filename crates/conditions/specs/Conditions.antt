-- The report, definition 7.1: applet B comes to a platform of applications A. Its three conditions, as printed and in its order:
-- 'the conditions below are true for all applications A on the platform'.
use Rattle.std.specs.Prelude.{Bool, ◌&&◌, List}
use Rattle.policy.specs.Lists.{implies, every}
use Rattle.policy.specs.Contract.{Tok, Row, Contract, has_row, met}

-- service s of contract c, as a row of another's calls; and the grant of a service with these tokens to c
abbrev pub row_of : Contract → Tok → Row
row_of c s = record { aid = c.aid; tok = s }

-- 'C ∈ secrules_D(Provides_D ∩ Calls_C)': the secrules of D allow C each service that D provides and C calls
abbrev pub allows : Contract → Contract → Bool
allows d c = every (λ s. implies (has_row (row_of d s) c.calls) (has_row (row_of c s) d.grants)) d.provides

-- the steps that the report prints for it: 'S₁ of services that A provides and B calls from A', 'S₂ of services that A allows B to
-- call', 'If S₁ ≠ S₂ than return false'. They refuse a grant that is not called; the definition asks for a subset, and decides.
abbrev pub in_steps : Contract → Contract → Bool
in_steps d c = allows d c && every (λ s. implies (has_row (row_of c s) d.grants) (has_row (row_of d s) c.calls)) d.provides

module _ (cs : List Contract) (b : Contract) where
  -- '1. B ∈ secrules_A(Provides_A ∩ Calls_B)': the newcomer's rights
  abbrev pub condition₁ : Bool
  condition₁ = every (λ a. allows a b) cs

  -- '2. funcrules_B ⊆ ⋃ Provides_A': its needs
  abbrev pub condition₂ : Bool
  condition₂ = every (met cs) b.needs

  -- '3. A ∈ secrules_B(Provides_B ∩ Calls_A)': the rights of those already there
  abbrev pub condition₃ : Bool
  condition₃ = every (λ a. allows b a) cs
