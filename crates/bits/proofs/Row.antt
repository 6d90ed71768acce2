-- Laws of rows of bits, for any number of bits: each is an induction on the bits, lowest first, over `step0` and `step_s`. Assumes nothing.
use Prim.Native.Nat.{ℕ, zero, suc, ◌+◌, ◌-◌, ◌*◌, ◌/◌, ◌%◌, ◌^◌, ◌≤◌, ◌<◌, min, max}
use native.Mathlib.Omega.{arith}
use native.Mathlib.Nat.{le_of_suc-le-suc, not-suc-le-zero, zero-lt-suc, mod-lt, pow-suc, one-mul, lt_of_lt_of_le}
use mathlib.Core.Path.{◌≡◌, refl, sym, ap, ap₂, ◌∙◌}
use mathlib.Core.Logic.{◌⊎◌, inl, inr}
use mathlib.Core.Bool.{Bool, true, false, ◌&&◌, ◌||◌, not, cond, or_comm, and_comm}
use mathlib.Core.List.{List, ◌∷◌}
use mathlib.Core.Option.{Option, some}
use lib.Dec.{eqb, eqb→eq, eqb-zero-suc, eqb-suc-zero, eqb-suc-suc}
use lib.ListN.{length}
use lib.Arith.{lt-one}
use lib.Pow.{pow_mono, shl_exact, pow-lt, ones_sub-lt}
use lib.Bits.{bit_and, bit_or, and_step, or_step, or_lt, and_lt}
use lib.Count.{ones, ones_step, count_trailing_zeros, under}
use borrow.Author.Tests.{eq-eqb}
use Rattle.policy.specs.Lists.{implies, every, keep, first, from, upto, or_else}
use Rattle.policy.specs.Tables.{bit, row_of}
use Rattle.policy.proofs.Sets.{T_eq, T_true, true_T, upto_in, keep_ext}
use Rattle.policy.proofs.Pieces.{in_or_off}
use Rattle.policy.proofs.Bits.{bit_low, bit_rest, bit_none, bit_row_of, row_of_lt}
use Rattle.bits.proofs.Loops.{every_at, every_intro, first_ext, keep_narrow, first_past}
use Rattle.policy.specs.ShortCheck.{count}

-- a number made of its lowest bit c and the rest y
step0 : (x y c : ℕ) → x ≡ y * 2 + c → c < 2 → bit x zero ≡ eqb c 1
step0 x y c e h = let q : x % 2 ≡ c = omega arith in bit_low x ∙ ap (λ (m : ℕ). eqb m 1) q

step_s : (x y c k : ℕ) → x ≡ y * 2 + c → c < 2 → bit x (suc k) ≡ bit y k
step_s x y c k e h = let q : x / 2 ≡ y = omega arith in bit_rest x k ∙ ap (λ (m : ℕ). bit m k) q

low2 : (x : ℕ) → x % 2 < 2
low2 x = mod-lt x (zero-lt-suc 1)

-- past the row's n bits there is none
pub bit_past : (n r k : ℕ) → r < 2 ^ n → n ≤ k → bit r k ≡ false
bit_past zero r k h l = ap (λ (x : ℕ). bit x k) (lt-one h) ∙ bit_none k
bit_past (suc n) r zero h l = absurd (not-suc-le-zero l)
bit_past (suc n) r (suc k) h l = bit_rest r k ∙ bit_past n (r / 2) k (omega (arith, pow-suc 2 n)) (le_of_suc-le-suc l)

-- what holds of both bits holds of numbers below 2
two_bits : (P : ℕ → ℕ → Type 0) → P 0 0 → P 0 1 → P 1 0 → P 1 1 → (x y : ℕ) → x < 2 → y < 2 → P x y
two_bits P a b c d zero zero h l = a
two_bits P a b c d zero (suc zero) h l = b
two_bits P a b c d (suc zero) zero h l = c
two_bits P a b c d (suc zero) (suc zero) h l = d
two_bits P a b c d zero (suc (suc y)) h l = absurd (omega arith)
two_bits P a b c d (suc zero) (suc (suc y)) h l = absurd (omega arith)
two_bits P a b c d (suc (suc x)) y h l = absurd (omega arith)

eqb_one : (x y : ℕ) → x < 2 → y < 2 → eqb x 1 ≡ eqb y 1 → x ≡ y
eqb_one = two_bits (λ x y. eqb x 1 ≡ eqb y 1 → x ≡ y)
    (λ _. refl) (λ e. let z : ◌≡◌ {A = ℕ} 0 1 = cc in z) (λ e. let z : ◌≡◌ {A = ℕ} 0 1 = cc in sym z) (λ _. refl)

-- two rows of n bits with the same bits are the same
pub bit_ext : (n a b : ℕ) → a < 2 ^ n → b < 2 ^ n → ((k : ℕ) → k < n → bit a k ≡ bit b k) → a ≡ b
bit_ext zero a b h l e = lt-one h ∙ sym (lt-one l)
bit_ext (suc n) a b h l e =
    let p : a / 2 ≡ b / 2 = bit_ext n (a / 2) (b / 2) (omega (arith, pow-suc 2 n)) (omega (arith, pow-suc 2 n))
    (λ k m. sym (bit_rest a k) ∙ e (suc k) (omega arith) ∙ bit_rest b k) in
    let q : a % 2 ≡ b % 2 = eqb_one (a % 2) (b % 2) (low2 a) (low2 b) (sym (bit_low a) ∙ e zero (omega arith) ∙ bit_low b) in
    omega arith

-- ---- the row of a test
-- what has the test's bits is the test's row
pub row_is : (n x : ℕ) (f : ℕ → Bool) → x < 2 ^ n → ((k : ℕ) → k < n → bit x k ≡ f k) → x ≡ row_of n f
row_is n x f h e = bit_ext n x (row_of n f) h (row_of_lt n f) (λ k l. e k l ∙ sym (bit_row_of n f k l))

-- ---- bit by bit
-- of an operation on rows that is f on bits, and low on the lowest ones
module _ (op low : ℕ → ℕ → ℕ) (f : Bool → Bool → Bool) (step : (a b : ℕ) → op a b ≡ op (a / 2) (b / 2) * 2 + low (a % 2) (b % 2))
    (is : (x y : ℕ) → x < 2 → y < 2 → (low x y < 2) × (eqb (low x y) 1 ≡ f (eqb x 1) (eqb y 1))) where
  bit_by : (a b k : ℕ) → bit (op a b) k ≡ f (bit a k) (bit b k)
  bit_by a b zero =
      let i = is (a % 2) (b % 2) (low2 a) (low2 b) in
      step0 (op a b) (op (a / 2) (b / 2)) (low (a % 2) (b % 2)) (step a b) i.0 ∙ i.1 ∙ ap₂ f (sym (bit_low a)) (sym (bit_low b))
  bit_by a b (suc k) =
      step_s (op a b) (op (a / 2) (b / 2)) (low (a % 2) (b % 2)) k (step a b) (is (a % 2) (b % 2) (low2 a) (low2 b)).0
      ∙ bit_by (a / 2) (b / 2) k ∙ ap₂ f (sym (bit_rest a k)) (sym (bit_rest b k))

pub bit_and_lem : (a b k : ℕ) → bit (bit_and a b) k ≡ bit a k && bit b k
bit_and_lem = bit_by bit_and min ◌&&◌ and_step
    (λ x y h l. (omega arith, two_bits (λ x y. eqb (min x y) 1 ≡ eqb x 1 && eqb y 1) refl refl refl refl x y h l))

pub bit_or_lem : (a b k : ℕ) → bit (bit_or a b) k ≡ bit a k || bit b k
bit_or_lem = bit_by bit_or max ◌||◌ or_step
    (λ x y h l. (omega arith, two_bits (λ x y. eqb (max x y) 1 ≡ eqb x 1 || eqb y 1) refl refl refl refl x y h l))

bit_pow : (k j : ℕ) → bit (2 ^ k) j ≡ eqb j k
bit_pow zero zero = step0 1 0 1 refl (omega arith)
bit_pow zero (suc j) = step_s 1 0 1 j refl (omega arith) ∙ bit_none j ∙ sym (eqb-suc-zero j)
bit_pow (suc k) zero = step0 (2 ^ suc k) (2 ^ k) 0 (omega (arith, pow-suc 2 k)) (omega arith) ∙ sym (eqb-zero-suc k)
bit_pow (suc k) (suc j) = step_s (2 ^ suc k) (2 ^ k) 0 j (omega (arith, pow-suc 2 k)) (omega arith) ∙ bit_pow k j ∙ sym (eqb-suc-suc j k)

flip : (x : ℕ) → x < 2 → eqb (1 - x) 1 ≡ not (eqb x 1)
flip zero h = refl
flip (suc zero) h = refl
flip (suc (suc x)) h = absurd (omega arith)

-- the row inverted in n bits
bit_inv : (n a k : ℕ) → a < 2 ^ n → k < n → bit (2 ^ n - 1 - a) k ≡ not (bit a k)
bit_inv zero a k h l = absurd (not-suc-le-zero l)
bit_inv (suc n) a zero h l =
    step0 (2 ^ suc n - 1 - a) (2 ^ n - 1 - a / 2) (1 - a % 2) (omega (arith, pow-suc 2 n)) (omega arith) ∙ flip (a % 2) (low2 a) ∙ ap not (sym (bit_low a))
bit_inv (suc n) a (suc k) h l =
    step_s (2 ^ suc n - 1 - a) (2 ^ n - 1 - a / 2) (1 - a % 2) k (omega (arith, pow-suc 2 n)) (omega arith)
    ∙ bit_inv n (a / 2) k (omega (arith, pow-suc 2 n)) (le_of_suc-le-suc l) ∙ ap not (sym (bit_rest a k))

-- ---- what the machine's operations give
shl_one : (n k : ℕ) → k < n → 1 * 2 ^ k % 2 ^ n ≡ 2 ^ k
shl_one n k h = shl_exact {a = 1} 1 k n (omega arith) (omega arith) ∙ one-mul (2 ^ k)

pub or_set : (n r k : ℕ) → r < 2 ^ n → k < n → bit_or r (1 * 2 ^ k % 2 ^ n) ≡ row_of n (λ j. eqb j k || bit r j)
or_set n r k h l =
    rw (shl_one n k l)
    (row_is n (bit_or r (2 ^ k)) (λ j. eqb j k || bit r j) (or_lt n r (2 ^ k) h (pow-lt l))
    (λ j m. bit_or_lem r (2 ^ k) j ∙ or_comm (bit r j) (bit (2 ^ k) j) ∙ ap (λ (b : Bool). b || bit r j) (bit_pow k j)))

pub and_clear : (n r k : ℕ) → r < 2 ^ n → k < n → bit_and r (2 ^ n - 1 - 1 * 2 ^ k % 2 ^ n) ≡ row_of n (λ j. not (eqb j k) && bit r j)
and_clear n r k h l =
    rw (shl_one n k l)
    (row_is n (bit_and r (2 ^ n - 1 - 2 ^ k)) (λ j. not (eqb j k) && bit r j) (and_lt n r (2 ^ n - 1 - 2 ^ k) h (ones_sub-lt n (2 ^ k)))
    (λ j m. bit_and_lem r (2 ^ n - 1 - 2 ^ k) j ∙ and_comm (bit r j) (bit (2 ^ n - 1 - 2 ^ k) j)
    ∙ ap (λ (b : Bool). b && bit r j) (bit_inv n (2 ^ k) j (pow-lt l) m ∙ ap not (bit_pow k j))))

-- every number one more
first_shift : (f : ℕ → Bool) (i n d : ℕ) → or_else (first f (from (suc i) n)) (suc d) (λ k. k) ≡ suc (or_else (first (λ k. f (suc k)) (from i n)) d (λ k. k))
first_shift f i zero d = refl
first_shift f i (suc n) d = go (f (suc i)) (first_shift f (suc i) n d)
  where
    go : (b : Bool) → or_else (first f (from (suc (suc i)) n)) (suc d) (λ k. k) ≡ suc (or_else (first (λ k. f (suc k)) (from (suc i) n)) d (λ k. k))
        → or_else (cond b (some (suc i)) (first f (from (suc (suc i)) n))) (suc d) (λ k. k) ≡ suc (or_else (cond b (some i) (first (λ k. f (suc k)) (from (suc i) n))) d (λ k. k))
    go true e = refl
    go false e = e

count_shift : (f : ℕ → Bool) (i n : ℕ) → length (keep f (from (suc i) n)) ≡ length (keep (λ k. f (suc k)) (from i n))
count_shift f i zero = refl
count_shift f i (suc n) = go (f (suc i)) (keep f (from (suc (suc i)) n)) (keep (λ k. f (suc k)) (from (suc i) n)) (count_shift f (suc i) n)
  where
    go : (b : Bool) (l m : List ℕ) → length l ≡ length m → length (cond b (suc i ∷ l) l) ≡ length (cond b (i ∷ m) m)
    go true l m e = ap suc e
    go false l m e = e

rest : (r : ℕ) → bit (r / 2) ≡ (λ k. bit r (suc k))
rest r = sym (λ i k. bit_rest r k i)

trailing_first : (n x : ℕ) → count_trailing_zeros n x ≡ or_else (first (bit x) (upto n)) n (λ k. k)
unfolding count_trailing_zeros
trailing_first zero x = refl
trailing_first (suc n) x =
    ap (under (x % 2)) (trailing_first n (x / 2) ∙ ap (λ (f : ℕ → Bool). or_else (first f (upto n)) n (λ k. k)) (rest x))
    ∙ go (x % 2) (low2 x) _ _ (first_shift (bit x) 0 n n) ∙ ap (λ (b : Bool). or_else (cond b (some zero) (first (bit x) (from 1 n))) (suc n) (λ k. k)) (sym (bit_low x))
  where
    go : (c : ℕ) → c < 2 → (m : ℕ) (o : Option ℕ) → or_else o (suc n) (λ k. k) ≡ suc m → under c m ≡ or_else (cond (eqb c 1) (some zero) o) (suc n) (λ k. k)
    go zero h m o e = sym e
    go (suc zero) h m o e = refl
    go (suc (suc c)) h m o e = absurd (omega arith)

-- the lowest clear bit: trailing zeros of the inverted row
pub lowest_clear : (n r : ℕ) → r < 2 ^ n → count_trailing_zeros n (2 ^ n - 1 - r) ≡ or_else (first (λ k. not (bit r k)) (upto n)) n (λ k. k)
lowest_clear n r h =
    trailing_first n (2 ^ n - 1 - r)
    ∙ ap (λ (o : Option ℕ). or_else o n (λ k. k)) (first_ext (bit (2 ^ n - 1 - r)) (λ k. not (bit r k)) (upto n) (λ k m. bit_inv n r k h (upto_in n m)))

pub ones_count : (n r : ℕ) → r < 2 ^ n → ones r ≡ length (keep (bit r) (upto n))
unfolding ones
ones_count zero r h = ap ones (lt-one h)
ones_count (suc n) r h =
    ones_step r
    ∙ ap (λ (m : ℕ). r % 2 + m) (ones_count n (r / 2) (omega (arith, pow-suc 2 n)) ∙ ap (λ (f : ℕ → Bool). length (keep f (upto n))) (rest r) ∙ sym (count_shift (bit r) 0 n))
    ∙ go (r % 2) (low2 r) (keep (bit r) (from 1 n)) ∙ ap (λ (b : Bool). length (cond b (zero ∷ keep (bit r) (from 1 n)) (keep (bit r) (from 1 n)))) (sym (bit_low r))
  where
    go : (c : ℕ) → c < 2 → (l : List ℕ) → c + length l ≡ length (cond (eqb c 1) (zero ∷ l) l)
    go zero h l = omega arith
    go (suc zero) h l = omega arith
    go (suc (suc c)) h l = absurd (omega arith)

within : (a b : Bool) → a && b ≡ a → implies a b ≡ true
within true b e = e
within false b e = refl

within_back : (a b : Bool) → implies a b ≡ true → a && b ≡ a
within_back true b e = e
within_back false b e = refl

-- a & b, and a & !b
pub and_both : (n a b : ℕ) → a < 2 ^ n → b < 2 ^ n → bit_and a b ≡ row_of n (λ k. bit a k && bit b k)
and_both n a b h l = row_is n (bit_and a b) (λ k. bit a k && bit b k) (and_lt n a b h l) (λ k _. bit_and_lem a b k)

pub and_others : (n a b : ℕ) → a < 2 ^ n → b < 2 ^ n → bit_and a (2 ^ n - 1 - b) ≡ row_of n (λ k. bit a k && not (bit b k))
and_others n a b h l = row_is n (bit_and a (2 ^ n - 1 - b)) (λ k. bit a k && not (bit b k)) (and_lt n a (2 ^ n - 1 - b) h (ones_sub-lt n b))
    (λ k m. bit_and_lem a (2 ^ n - 1 - b) k ∙ ap (λ (x : Bool). bit a k && x) (bit_inv n b k l m))

-- a & b == a: each bit of a is one of b's
pub and_subset : (n a b : ℕ) → a < 2 ^ n → b < 2 ^ n → eqb (bit_and a b) a ≡ every (λ k. implies (bit a k) (bit b k)) (upto n)
and_subset n a b h l =
    T_eq (eqb (bit_and a b) a) (every test (upto n))
    (λ e. true_T (every_intro test n (λ k m. within (bit a k) (bit b k) (sym (bit_and_lem a b k) ∙ ap (λ (x : ℕ). bit x k) (eqb→eq (bit_and a b) a e)))))
    (λ e. true_T (eq-eqb (bit_and a b) a (bit_ext n (bit_and a b) a (and_lt n a b h l) h (λ k m. bit_and_lem a b k ∙ within_back (bit a k) (bit b k) (every_at test n k (T_true (every test (upto n)) e) m)))))
  where
    test : ℕ → Bool
    test k = implies (bit a k) (bit b k)

-- ---- a row of n bits in a wider word of m: the tests over m are those over n
module _ (n m r : ℕ) (h : n ≤ m) (l : r < 2 ^ n) where
  pub keep_row : keep (bit r) (upto m) ≡ keep (bit r) (upto n)
  keep_row = keep_narrow (bit r) n m h (λ k q. bit_past n r k l q)

  pub lowest_row : or_else (first (λ k. not (bit r k)) (upto m)) m (λ k. k) ≡ or_else (first (λ k. not (bit r k)) (upto n)) n (λ k. k)
  lowest_row = first_past (λ k. not (bit r k)) n m h (λ k q. ap not (bit_past n r k l q))

-- a test that passes at none from n on: the bits of its row, and its row in a wider word
module _ (n : ℕ) (f : ℕ → Bool) (off : (k : ℕ) → n ≤ k → f k ≡ false) where
  pub bits_row : (k : ℕ) → bit (row_of n f) k ≡ f k
  bits_row k = go (in_or_off k n)
    where
      go : (k < n) ⊎ (n ≤ k) → bit (row_of n f) k ≡ f k
      go (inl p) = bit_row_of n f k p
      go (inr p) = bit_past n (row_of n f) k (row_of_lt n f) p ∙ sym (off k p)

  pub row_narrow : (m : ℕ) → n ≤ m → row_of m f ≡ row_of n f
  row_narrow m h = sym (row_is m (row_of n f) f (lt_of_lt_of_le (row_of_lt n f) (pow_mono h)) (λ k _. bits_row k))

-- ---- a row of n bits that was read
module _ (n : ℕ) (f : ℕ → Bool) (r : ℕ) (e : r ≡ row_of n f) where
  pub row_bit : (k : ℕ) → k < n → bit r k ≡ f k
  row_bit k h = ap (λ (x : ℕ). bit x k) e ∙ bit_row_of n f k h

  -- how many it has
  pub row_count : n ≤ 16 → (q : ℕ) → q ≡ length (keep (bit r) (upto 16)) → q ≡ count f (upto n)
  row_count h q p =
      p ∙ ap (λ (x : ℕ). length (keep (bit x) (upto 16))) e
      ∙ ap length (keep_row n 16 (row_of n f) h (row_of_lt n f) ∙ keep_ext (bit (row_of n f)) f (upto n) (λ k m. bit_row_of n f k (upto_in n m)))

-- a row of n bits with a test beside it, in a wider word
pub row_beside : (n m : ℕ) (f g : ℕ → Bool) (r : ℕ) → n ≤ m → r ≡ row_of n f → row_of m (λ k. bit r k && g k) ≡ row_of n (λ k. f k && g k)
row_beside n m f g r h e =
    row_narrow n (λ k. bit r k && g k) (λ k p. ap (λ (b : Bool). b && g k) (ap (λ (x : ℕ). bit x k) e ∙ bit_past n (row_of n f) k (row_of_lt n f) p)) m h
    ∙ row_is n (row_of n (λ k. bit r k && g k)) (λ k. f k && g k) (row_of_lt n (λ k. bit r k && g k))
    (λ k p. bit_row_of n (λ k. bit r k && g k) k p ∙ ap (λ (b : Bool). b && g k) (row_bit n f r e k p))

-- a bit of a row that was read
pub bit_seen : (n : ℕ) (f : ℕ → Bool) (row k : ℕ) (b : Bool) → b ≡ bit row k → row ≡ row_of n f → k < n → b ≡ f k
bit_seen n f row k b e q h = e ∙ ap (λ (r : ℕ). bit r k) q ∙ bit_row_of n f k h
