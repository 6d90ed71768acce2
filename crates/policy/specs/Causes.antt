-- Document 01, 'Verdicts': 'The lowest number that applies is given, and a number is given only for its cause.'
use Rattle.std.specs.Prelude.{ℕ, Bool, cond, List, [], ◌∷◌}

-- a cause's number, and whether it applies
pub record Cause : Type 0 where
  pub number : ℕ
  pub applies : Bool

infix 70 ◌when◌
abbrev pub ◌when◌ : ℕ → Bool → Cause
n when b = record { number = n; applies = b }

-- the first cause of a list that applies; 0, accepted, where none does
abbrev pub answer : List Cause → ℕ
answer [] = 0
answer (c ∷ cs) = cond c.applies c.number (answer cs)
