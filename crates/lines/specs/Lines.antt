-- The lines that the session program prints: document 01, 'The session program'.
use Rattle.std.specs.Prelude.{ℕ, zero, suc, ◌+◌, ◌/◌, ◌%◌, ◌≤◌, ◌≡◌, cond, List, [], ◌∷◌, ◌++◌, eqb, ltb, length, take, drop}
use Rattle.std.specs.Prelude.{Option, Some, None}
use Rattle.rows.specs.Area.{over}

-- the decimal digits of n in ASCII, the last k of them where it has more; no zero stands in front
abbrev pub digits_by : ℕ → ℕ → List ℕ
digits_by zero n = []
digits_by (suc k) n = cond (ltb n 10) ((48 + n) ∷ []) (digits_by k (n / 10) ++ ((48 + n % 10) ∷ []))

-- the decimal digits of n: it has no more than n + 1
unfoldable pub digits : ℕ → List ℕ
digits n = digits_by (suc n) n

-- a column: a number, or `-`
abbrev pub shown : Option ℕ → List ℕ
shown (Some n) = digits n
shown None = 45 ∷ []

-- 'ordinal, kind, answer, package number': the columns stand a space apart, and a newline ends the line
abbrev pub line : ℕ → Option ℕ → ℕ → Option ℕ → List ℕ
line ordinal kind answer second = digits ordinal ++ (32 ∷ shown kind ++ (32 ∷ digits answer ++ (32 ∷ shown second ++ (10 ∷ []))))

-- the line of a record that was judged: 'package number or - on a refusal'
abbrev pub record_line : ℕ → ℕ → ℕ → ℕ → List ℕ
record_line ordinal kind answer second = line ordinal (Some kind) answer (cond (eqb answer 0) (Some second) None)

-- the line of a bad frame: 'kind -, answer 2, -'
abbrev pub bad_line : ℕ → List ℕ
bad_line ordinal = line ordinal None 2 None

-- ---- what a function that writes leaves

-- it wrote the text from index at, and answers where the text ends
pub record Wrote (at : ℕ) (text lent : List ℕ) (r : ℕ) (left : List ℕ) : Type 0 where
  pub ends : r ≡ at + length text
  pub bytes : left ≡ over at text lent

-- the first r bytes are the text, and the rest is as lent. The last two follow, and are what lending those r bytes asks.
pub record Printed (text lent : List ℕ) (r : ℕ) (left : List ℕ) : Type 0 where
  pub size : r ≡ length text
  pub bytes : left ≡ text ++ drop (length text) lent
  pub fits : r ≤ length left
  pub part : r ≡ length (take r left)
