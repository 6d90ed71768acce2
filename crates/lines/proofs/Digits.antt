-- Decimal digits: the two cases of the code, and how many there are. Assumes nothing.
use Prim.Native.Nat.{ℕ, zero, suc, ◌+◌, ◌/◌, ◌%◌, ◌^◌, ◌≤◌, ◌<◌}
use mathlib.Core.Path.{◌≡◌, refl, ap}
use mathlib.Core.Bool.{Bool, true, false, cond}
use mathlib.Core.List.{List, [], ◌∷◌, ◌++◌}
use native.Mathlib.Nat.{pow-suc, div-lt_iff_lt-mul}
use native.Mathlib.Omega.{arith}
use lib.Dec.{ltb}
use lib.ListN.{length, length-append}
use borrow.Author.Tests.{lt-ltb, le-ltb, ltb-true, ltb-false}
use Rattle.lines.specs.Lines.{digits_by, digits}

-- steps to spare make no odds
fuel : (j k n : ℕ) → n < j → n < k → digits_by j n ≡ digits_by k n
fuel zero k n h g = absurd (omega arith)
fuel (suc j) zero n h g = absurd (omega arith)
fuel (suc j) (suc k) n h g = go (fuel j k (n / 10)) (ltb n 10) refl
  where
    go : (n / 10 < j → n / 10 < k → digits_by j (n / 10) ≡ digits_by k (n / 10)) → (b : Bool) → ltb n 10 ≡ b
        → cond b ((48 + n) ∷ []) (digits_by j (n / 10) ++ ((48 + n % 10) ∷ [])) ≡ cond b ((48 + n) ∷ []) (digits_by k (n / 10) ++ ((48 + n % 10) ∷ []))
    go ih true e = refl
    go ih false e = let t : 10 ≤ n = ltb-false n 10 e in ap (λ (l : List ℕ). l ++ ((48 + n % 10) ∷ [])) (ih (omega arith) (omega arith))

-- below 10: one digit
pub digits_one : (n : ℕ) → n < 10 → digits n ≡ (48 + n) ∷ []
unfolding digits
digits_one n h = rw (lt-ltb n 10 h) refl

-- from 10 on: the digits of the tenth part, and the last digit
pub digits_more : (n : ℕ) → 10 ≤ n → digits n ≡ digits (n / 10) ++ ((48 + n % 10) ∷ [])
unfolding digits
digits_more n h = rw (le-ltb n 10 h) (ap (λ (l : List ℕ). l ++ ((48 + n % 10) ∷ [])) (fuel n (suc (n / 10)) (n / 10) (omega arith) (omega arith)))

-- and one digit more
pub length_more : (n : ℕ) → 10 ≤ n → length (digits n) ≡ length (digits (n / 10)) + 1
length_more n h = rw (digits_more n h, length-append) refl

-- a number below a power of ten has no more digits than the power says
pub digits_most : (k n : ℕ) → n < 10 ^ suc k → length (digits n) ≤ suc k
digits_most zero n h = rw (digits_one n h) (omega arith)
digits_most (suc k) n h = go (digits_most k (n / 10)) (ltb n 10) refl
  where
    go : (n / 10 < 10 ^ suc k → length (digits (n / 10)) ≤ suc k) → (b : Bool) → ltb n 10 ≡ b → length (digits n) ≤ suc (suc k)
    go ih true e = rw (digits_one n (ltb-true n 10 e)) (omega arith)
    go ih false e =
        let t : length (digits (n / 10)) ≤ suc k = ih ((div-lt_iff_lt-mul (omega arith)).1 (rw (← pow-suc 10 (suc k)) h)) in
        rw (length_more n (ltb-false n 10 e)) (omega arith)
