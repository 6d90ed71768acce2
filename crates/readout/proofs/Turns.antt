-- Rows counted: a loop over those of a table, and the bits of one.
use Prim.Native.Nat.{ℕ, zero, suc, ◌+◌, ◌*◌, ◌%◌, ◌≤◌}
use native.Mathlib.Omega.{arith}
use mathlib.Core.Path.{◌≡◌, refl, sym, ap, ◌∙◌}
use mathlib.Core.Bool.{Bool}
use mathlib.Core.List.{List, [], ◌∷◌}
use lib.ListN.{length, length-append}
use Rattle.std.specs.List.{range_with_len, sum_by}
use Rattle.std.proofs.lemmas.List.Sums.{sum_by-cons}
use native.Mathlib.Numerals.{add-one}
use Rattle.policy.specs.Lists.{keep, flat, from, upto}
use Rattle.policy.specs.Tables.{bit, row_of}
use Rattle.policy.proofs.Sets.{length_keep, length_from, upto_in, keep_ext}
use Rattle.policy.proofs.Bits.{row_of_lt, bit_row_of}
use Rattle.bits.proofs.Row.{keep_row}

-- ---- rows counted by a chain over the numbers below n
range_is : (a n : ℕ) → range_with_len a n ≡ from a n
range_is a zero = refl
range_is a (suc n) = rw (add-one a) (ap (λ (l : List ℕ). a ∷ l) (range_is (suc a) n))

module _ {A : Type 0} (g : ℕ → List A) (f : ℕ → ℕ) (h : (x : ℕ) → f x ≡ length (g x)) where
  sum_is : (l : List ℕ) → sum_by f l ≡ length (flat g l)
  sum_is [] = refl
  sum_is (x ∷ l) = sum_by-cons f x l ∙ (λ i. h x i + sum_is l i) ∙ sym (length-append (g x) (flat g l))

  pub counted : (n : ℕ) → sum_by f (range_with_len 0 n) ≡ length (flat g (upto n))
  counted n = sum_is (range_with_len 0 n) ∙ ap (λ (l : List ℕ). length (flat g l)) (range_is 0 n)

  pub counted_low : (m : ℕ) → ((x : ℕ) → f x ≤ m) → (l : List ℕ) → length (flat g l) ≤ length l * m
  counted_low m low [] = omega arith
  counted_low m low (x ∷ l) = let e = length-append (g x) (flat g l) in omega (arith, h x, low x, counted_low m low l)

-- how many bits a row of m has
pub row_count : (m : ℕ) (f : ℕ → Bool) (row r : ℕ) → m ≤ 16 → row ≡ row_of m f → r ≡ length (keep (bit row) (upto 16)) → r ≡ length (keep f (upto m))
row_count m f row r l e q =
    q ∙ ap (λ (x : ℕ). length (keep (bit x) (upto 16))) e
    ∙ ap length (keep_row m 16 (row_of m f) l (row_of_lt m f) ∙ keep_ext (bit (row_of m f)) f (upto m) (λ k i. bit_row_of m f k (upto_in m i)))

-- a word of m bits has at most m of them set
pub few : (m row r : ℕ) → r ≡ length (keep (bit row) (upto m)) → r ≤ m
few m row r e = omega (arith, length_keep (bit row) (upto m), length_from 0 m)

-- their number is a byte
pub count_byte : (row r : ℕ) → r ≡ length (keep (bit row) (upto 16)) → r % 256 ≡ r
count_byte row r e = let l = few 16 row r e in omega arith
