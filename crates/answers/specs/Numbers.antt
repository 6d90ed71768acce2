-- Document 01, 'Verdicts': 'If an answer is an enum, a definition gives this paper's number and values for each of its cases.'
use Rattle.std.specs.Prelude.{ℕ, List, Result, Ok, Err}
use Rattle.policy.specs.Judge.{Out}
use Rattle.policy.specs.Settled.{Gives}
use Rattle.answers.specs.declared.Refusal.{Refusal}
use Rattle.answers.specs.declared.Refusal.TheVariants.{Unsound, Malformed, Contradictory, Installed, NotInstalled, Pointless}
use Rattle.answers.specs.declared.Refusal.TheVariants.{NoNumber, Ungranted, NeedUnmet, UnmetFull, WaitingFull, BufferShort}

-- a cause's number
abbrev pub number : Refusal → ℕ
number Unsound = 1
number Malformed = 2
number Contradictory = 3
number Installed = 4
number NotInstalled = 5
number Pointless = 6
number NoNumber = 7
number Ungranted = 8
number NeedUnmet = 9
number UnmetFull = 10
number WaitingFull = 11
number BufferShort = 12

-- an answer's number, 0 for an acceptance; of a test that refuses or lets through, too
abbrev pub answered : {A : Type 0} → Result A Refusal → ℕ
answered (Ok x) = 0
answered (Err e) = number e

-- and its second number: that of the acceptance, or s with every refusal
abbrev pub second_or : ℕ → Result ℕ Refusal → ℕ
second_or s (Ok n) = n
second_or s (Err e) = s

-- the outcome o, as an answer and the lent bytes afterwards: 255 goes with a refusal
abbrev pub Answers : Out → Result ℕ Refusal → List ℕ → Type 0
Answers o r b = Gives o (answered r) (second_or 255 r) b
