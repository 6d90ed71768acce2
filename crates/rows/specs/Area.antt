-- A list area, a part of an image: 'count, then' rows of one width, then zeros to its end. What it holds, and its changes.
use Rattle.std.specs.Prelude.{ℕ, suc, ◌+◌, ◌-◌, ◌*◌, ◌≤◌, ◌<◌, ◌≡◌, cond, List, [], ◌∷◌, ◌++◌, length, get_or, take, drop, replicate}
use Rattle.policy.specs.Lists.{flat}
use Rattle.policy.specs.Tables.{bit, pieces}

-- ---- places of a list of bytes
-- the n bytes from index at on
abbrev pub part : ℕ → ℕ → List ℕ → List ℕ
part at n l = take n (drop at l)

-- l with the new bytes over it from index at on
abbrev pub over : ℕ → List ℕ → List ℕ → List ℕ
over at new l = take at l ++ (new ++ drop (at + length new) l)

-- bytes as a number, the first the least
abbrev pub little : List ℕ → ℕ
little [] = 0
little (b ∷ bs) = b + 256 * little bs

-- ---- areas
-- the area of `size` bytes that holds these rows
unfoldable pub area_of : ℕ → List (List ℕ) → List ℕ
area_of size rs = length rs ∷ (flat (λ r. r) rs ++ replicate (size - suc (length (flat (λ r. r) rs))) 0)

-- the rows of w bytes that an area holds
unfoldable pub rows_in : ℕ → List ℕ → List (List ℕ)
rows_in w a = pieces w (get_or a 0 0) (drop 1 a)

-- the bytes are an area of rows of w bytes: the counted rows are within it, and past them are zeros
pub record IsArea (w : ℕ) (a : List ℕ) : Type 0 where
  pub fits : 1 + get_or a 0 0 * w ≤ length a
  pub is : a ≡ area_of (length a) (rows_in w a)

-- there is room for one row more, and its count is a byte
pub record HasRoom (w : ℕ) (row a : List ℕ) : Type 0 where
  pub area : IsArea w a
  pub wide : length row ≡ w
  pub below : get_or a 0 0 < 255
  pub room : 1 + get_or a 0 0 * w + w ≤ length a

-- ---- rows, numbered from 0
-- those whose bit of the mask is clear; the first of them is row k
abbrev pub keep_from : {A : Type 0} → ℕ → ℕ → List A → List A
keep_from k mask [] = []
keep_from k mask (x ∷ l) = cond (bit mask k) (keep_from (suc k) mask l) (x ∷ keep_from (suc k) mask l)

abbrev pub keep_rows : {A : Type 0} → ℕ → List A → List A
keep_rows mask l = keep_from 0 mask l

-- ---- changes: 'What leaves a list is closed up in order. Then new rows are put at the end.'
abbrev pub appended : ℕ → List ℕ → List ℕ → List ℕ
appended w row a = area_of (length a) (rows_in w a ++ (row ∷ []))

abbrev pub dropped : ℕ → ℕ → List ℕ → List ℕ
dropped w mask a = area_of (length a) (keep_rows mask (rows_in w a))
