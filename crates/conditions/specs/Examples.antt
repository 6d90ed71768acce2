-- The three conditions and the answer, of ten loads on one card: package 1 grants its service 0 to package 2, and package 5 calls service 0
-- of the absent package 6. Each of the eight ways in which the three hold or fail is met with.
use Rattle.std.specs.Prelude.{ℕ, ◌≡◌, Bool, true, false, List, [], ◌∷◌, map}
use Rattle.policy.specs.Lists.{every, from}
use Rattle.policy.specs.Contract.{Tok, Row, Contract}
use Rattle.policy.specs.Layout.{small}
use Rattle.policy.specs.Machine.{machine}
use Rattle.policy.specs.Judge.{load_record}
use Rattle.policy.specs.History.{contracts_after}
use Rattle.policy.specs.Marked.{load_of, row_of}
use Rattle.conditions.specs.Conditions.{condition₁, condition₂, condition₃, in_steps}

abbrev pub tok : ℕ → Tok
tok m = record { itf = 0; mth = m }

abbrev pub row : ℕ → ℕ → Row
row n m = record { aid = 240 ∷ 0 ∷ 0 ∷ 0 ∷ n ∷ []; tok = tok m }

abbrev pub applet : ℕ → List Tok → List Row → List Row → List Row → Contract
applet n p c g d = record { aid = 240 ∷ 0 ∷ 0 ∷ 0 ∷ n ∷ []; provides = p; calls = c; grants = g; needs = d }

abbrev pub held : List Contract
held = contracts_after small [] (load_of 1 (0 ∷ []) [] (row_of 2 0 ∷ []) [] ∷ load_of 5 [] (row_of 6 0 ∷ []) [] [] ∷ [])

pub record Worked : Type 0 where
  pub first : Bool
  pub second : Bool
  pub third : Bool
  pub answered : ℕ

abbrev pub gives : Bool → Bool → Bool → ℕ → Worked
gives x y z n = record { first = x; second = y; third = z; answered = n }

pub record Example : Type 0 where
  pub newcomer : Contract
  pub expected : Worked

abbrev pub worked : Contract → Worked
worked b = gives (condition₁ held b) (condition₂ held b) (condition₃ held b) (machine small held (load_record small b)).answered

-- package 2, which calls nothing: package 1's grant to it is more than it asks for
abbrev pub silent : Contract
silent = applet 2 [] [] [] []

abbrev pub examples : List Example
examples =
    record { newcomer = applet 2 [] (row 1 0 ∷ []) [] (row 1 0 ∷ []); expected = gives true true true 0 }
    ∷ record { newcomer = silent; expected = gives true true true 0 }
    -- all three hold, and the list of unmet calls is too short
    ∷ record { newcomer = applet 2 [] (map (row 9) (from 1 16)) [] []; expected = gives true true true 10 }
    -- the second alone fails
    ∷ record { newcomer = applet 2 [] (row 9 0 ∷ []) [] (row 9 0 ∷ []); expected = gives true false true 9 }
    -- the first fails
    ∷ record { newcomer = applet 3 [] (row 1 0 ∷ []) [] []; expected = gives false true true 8 }
    ∷ record { newcomer = applet 3 [] (row 1 0 ∷ row 9 0 ∷ []) [] (row 9 0 ∷ []); expected = gives false false true 8 }
    -- the third fails; where the second fails before it, the answer is still 8
    ∷ record { newcomer = applet 6 (tok 0 ∷ []) [] [] []; expected = gives true true false 8 }
    ∷ record { newcomer = applet 6 (tok 0 ∷ []) (row 9 0 ∷ []) [] (row 9 0 ∷ []); expected = gives true false false 8 }
    -- the first and the third fail, and all three
    ∷ record { newcomer = applet 6 (tok 0 ∷ []) (row 1 0 ∷ []) (row 2 0 ∷ []) []; expected = gives false true false 8 }
    ∷ record { newcomer = applet 6 (tok 0 ∷ []) (row 1 0 ∷ row 9 0 ∷ []) [] (row 9 0 ∷ []); expected = gives false false false 8 }
    ∷ []

abbrev pub ExamplesHold : Type 0
ExamplesHold = map (λ x. worked x.newcomer) examples ≡ map (λ x. x.expected) examples

-- the steps that the report prints would refuse one of them
abbrev pub StepsDiffer : Type 0
StepsDiffer = every (λ a. in_steps a silent) held ≡ false
