-- The parts of a large image, by the bytes of the small one that is carried over: what the small one has, then zeros that fill the place.
use Rattle.std.specs.Borrow.{Bor, MutBor}
use Rattle.std.specs.Prelude.{ℕ, ◌+◌, ◌-◌, ◌*◌, ◌≡◌, List, [], ◌++◌, length, get_or, replicate}
use Rattle.policy.specs.Lists.{flat, upto}
use Rattle.policy.specs.Layout.{small, large, used_at, aids_at, provides_at, size}
use Rattle.policy.specs.Tables.{write_number}
use Rattle.geometry.specs.Geometry.{tok_at, entry_at, list_at}
use Rattle.geometry.specs.declared.Table.{Table}
use Rattle.geometry.specs.declared.Table.TheVariants.{Calls, Grants, Needs}
use Rattle.geometry.specs.declared.Kept.{Kept}
use Rattle.rows.specs.Area.{part}

-- the two have their cards' sizes
abbrev pub Sized : List ℕ → List ℕ → Type 0
Sized img out = (length img ≡ size small) × (length out ≡ size large)

-- bytes, then zeros up to n bytes
abbrev pub filled : ℕ → List ℕ → List ℕ
filled n bytes = bytes ++ replicate (n - length bytes) 0

-- 8 lines of w bytes, each as f makes it, then zeros in the place of 8 more
unfoldable pub lines_of : (List ℕ → List ℕ) → ℕ → List ℕ → List ℕ
lines_of f w lines = flat (λ i. f (part (i * w) w lines)) (upto 8) ++ replicate 256 0

-- what writes a line into its place of 32 bytes leaves f of it there
pub record Puts (post : Bor (List ℕ) → MutBor (List ℕ) → Unit {0} → MutBor (List ℕ) → Type 0) (w : ℕ)
    (f : List ℕ → List ℕ) : Type 0 where
  pub long : (x : List ℕ) → length x ≡ w → length (f x) ≡ 32
  pub puts : (x : Bor (List ℕ)) (p q : MutBor (List ℕ)) → length x.now ≡ w → length p.now ≡ 32 → post x p tt q
      → q.now ≡ f x.now

-- n rows of bits from index `from` on: 'a used field and table entries of two bytes, big-endian'
abbrev pub widened : List ℕ → ℕ → ℕ → List ℕ
widened img from n = flat (λ j. write_number 2 (get_or img (from + j) 0) []) (upto n)

-- the first three bytes, the used field and the AIDs
unfoldable pub names_of : List ℕ → List ℕ
names_of img = (large.header ++ widened img (used_at small) 1) ++ (part (aids_at small) 136 img ++ replicate 136 0)

-- the tokens of package j, and of all
unfoldable pub tokens_of : List ℕ → ℕ → List ℕ
tokens_of img j = part (tok_at small j 0) 16 img ++ replicate 16 0

unfoldable pub all_tokens : List ℕ → List ℕ
all_tokens img = flat (tokens_of img) (upto 8) ++ replicate 256 0

-- all before the tables; the last are the provided services
unfoldable pub before_tables : List ℕ → List ℕ
before_tables img = (names_of img ++ all_tokens img) ++ (widened img (provides_at small) 8 ++ replicate 16 0)

-- line i of a table, all of it, and the three
unfoldable pub line_of : Table → List ℕ → ℕ → List ℕ
line_of t img i = widened img (entry_at small t i 0) 8 ++ replicate 16 0

unfoldable pub table_of : Table → List ℕ → List ℕ
table_of t img = flat (line_of t img) (upto 8) ++ replicate 256 0

unfoldable pub all_tables : List ℕ → List ℕ
all_tables img = (table_of Calls img ++ table_of Grants img) ++ table_of Needs img

-- a list
unfoldable pub list_of : Kept → List ℕ → List ℕ
list_of l img = part (list_at small l) 321 img ++ replicate 320 0
