-- Marks of rows, and which of them were met: a set of numbers below 2,048, as the bits of 32 words. Assumes nothing.
use Rattle.std.specs.Prelude.{ℕ, ◌+◌, ◌-◌, ◌*◌, ◌/◌, ◌%◌, ◌≡◌, Bool, ◌&&◌, ◌||◌, List, eqb, length, get_or, set}
use Rattle.policy.specs.Contract.{Row, has_row}
use Rattle.policy.specs.Tables.{bit, row_of}

-- a number below 2,039 by which most rows are told apart: of the last two bytes of its AID, and its tokens
unfoldable pub row_mark : Row → ℕ
row_mark r =
    (get_or r.aid (length r.aid - 1) 0 + 256 * get_or r.aid (length r.aid - 2) 0 + 65536 * (r.tok.mth + 256 * r.tok.itf)) % 2039

-- mark h was met; from then on it was
unfoldable pub marked : List ℕ → ℕ → Bool
marked seen h = bit (get_or seen (h / 64) 0) (h % 64)

unfoldable pub with_mark : ℕ → List ℕ → List ℕ
with_mark h seen = set seen (h / 64) (row_of 64 (λ j. eqb j (h % 64) || bit (get_or seen (h / 64) 0) j))

-- b says whether the mark of x was met and x is among l; then is the marks with that of x
pub record Sifts (x : Row) (l : List Row) (seen : List ℕ) (b : Bool) (then : List ℕ) : Type 0 where
  pub found : b ≡ (marked seen (row_mark x) && has_row x l)
  pub marks : then ≡ with_mark (row_mark x) seen
