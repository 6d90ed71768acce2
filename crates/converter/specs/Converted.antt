-- What a converter leaves. R-2: 'takes sound version 01 images, numbers and list order kept, into a buffer of that size, else 1'.
-- R-9: 'carries sound version 02 images over with contracts, numbers and list order kept, into a buffer of that size, else 1'.
use Rattle.std.specs.Prelude.{ℕ, ◌+◌, ◌≡◌, Bool, ◌&&◌, cond, List, ◌++◌, eqb, length, get_or}
use Rattle.policy.specs.Layout.{Layout, narrow, size, waiting_at}
use Rattle.policy.specs.Sound.{sound}
use Rattle.policy.specs.Eras.{carried}
use Rattle.geometry.specs.Geometry.{tok_at, place_at}
use Rattle.geometry.specs.declared.Kept.TheVariants.{WaitingGrants}
use Rattle.rows.specs.Area.{part}

-- an image of version 01: row r of its waiting grants,
abbrev pub old_at : ℕ → ℕ
old_at r = place_at narrow WaitingGrants r

-- how many there are,
abbrev pub old_count : List ℕ → ℕ
old_count old = get_or old (waiting_at narrow) 0

-- the tokens of the service that the row at `at` names by its number,
abbrev pub named_at : List ℕ → ℕ → ℕ
named_at old at = tok_at narrow (get_or old (at + 17) 0) (get_or old (at + 18) 0)

-- what stands between the header and the rows, with their count: it is the same in version 02,
abbrev pub front_of : List ℕ → List ℕ
front_of old = part 3 787 old

-- and row r in version 02: 'tokens in place of the service number'
unfoldable pub new_row : List ℕ → ℕ → List ℕ
new_row old r = part (old_at r) 18 old ++ part (named_at old (old_at r)) 2 old

-- the contract of both converters, from images of L to images of M: the answer, and the bytes of the buffer afterwards
pub record Converted (L M : Layout) (old lent : List ℕ) (taken : Bool) (left : List ℕ) : Type 0 where
  pub answer : taken ≡ sound L old && eqb (length lent) (size M)
  pub bytes : left ≡ cond taken (carried L M old) lent
