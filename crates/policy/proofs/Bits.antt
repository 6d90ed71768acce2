-- Numbers, rows of bits and tables of them: they are read back as they were written.
use Prim.Native.Nat.{ℕ, zero, suc, ◌+◌, ◌*◌, ◌/◌, ◌%◌, ◌^◌, ◌≤◌, ◌<◌}
use native.Mathlib.Omega.{arith}
use native.Mathlib.Nat.{le_of_suc-le-suc, not-suc-le-zero, zero-lt-suc, pow-suc, div-one, le_trans, div-add-mod', div-lt_iff_lt-mul, add-zero, not-le_of_lt}
use native.Mathlib.Numerals.{one-add}
use mathlib.Core.Path.{◌≡◌, refl, sym, ap, ◌∙◌, subst}
use mathlib.Core.Logic.{◌⊎◌, inl, inr}
use mathlib.Core.Bool.{Bool, true, false, ◌&&◌, cond, and-false}
use mathlib.Core.List.{List, [], ◌∷◌, ◌++◌, map, append-nil}
use lib.Dec.{T, eqb, ltb, ltb→lt, lt→ltb}
use lib.ListN.{length, get_or}
use lib.Pow.{shr-shr}
use Rattle.policy.specs.Lists.{flat, upto}
use Rattle.policy.specs.Layout.{Layout, LayoutOk}
use Rattle.policy.specs.Tables.{bit, row_of, read_number, write_number, bit_of, write_bits, pieces, read_table, write_table}
use Rattle.policy.proofs.Sets.{T_eq, T_false, and_l, and_r, and_i}
use Rattle.policy.proofs.EveryBit.{BitIn}
use Rattle.policy.proofs.Pieces.{in_or_off, length_table, piece_at, piece_off, read_at, read_off, Zeros}

-- ---- a row of bits
pub bit_low : (r : ℕ) → bit r zero ≡ eqb (r % 2) 1
unfolding bit
bit_low r = ap (λ (x : ℕ). eqb (x % 2) 1) (div-one r)

pub bit_rest : (r k : ℕ) → bit r (suc k) ≡ bit (r / 2) k
unfolding bit
bit_rest r k = ap (λ (x : ℕ). eqb (x % 2) 1) (ap (λ (m : ℕ). r / 2 ^ m) (sym (one-add k)) ∙ sym (shr-shr r 1 k))

pub bit_none : (k : ℕ) → bit zero k ≡ false
bit_none zero = bit_low zero
bit_none (suc k) = bit_rest zero k ∙ bit_none k

-- a number made of its lowest bit and the rest
low : (y : ℕ) (b : Bool) → bit (y * 2 + cond b 1 0) zero ≡ b
low y true = let e : (y * 2 + 1) % 2 ≡ 1 = omega arith in bit_low (y * 2 + 1) ∙ ap (λ (x : ℕ). eqb x 1) e
low y false = let e : (y * 2 + 0) % 2 ≡ 0 = omega arith in bit_low (y * 2 + 0) ∙ ap (λ (x : ℕ). eqb x 1) e

rest : (y : ℕ) (b : Bool) → (y * 2 + cond b 1 0) / 2 ≡ y
rest y true = omega arith
rest y false = omega arith

pub bit_row_of : (n : ℕ) (f : ℕ → Bool) (k : ℕ) → k < n → bit (row_of n f) k ≡ f k
unfolding row_of
bit_row_of zero f k h = absurd (not-suc-le-zero h)
bit_row_of (suc n) f zero h = low (row_of n (λ j. f (suc j))) (f zero)
bit_row_of (suc n) f (suc k) h =
    let y = row_of n (λ j. f (suc j)) in
    bit_rest (y * 2 + cond (f zero) 1 0) k ∙ ap (λ (x : ℕ). bit x k) (rest y (f zero)) ∙ bit_row_of n (λ j. f (suc j)) k (le_of_suc-le-suc h)

pub row_of_lt : (n : ℕ) (f : ℕ → Bool) → row_of n f < 2 ^ n
unfolding row_of
row_of_lt zero f = zero-lt-suc 0
row_of_lt (suc n) f = go (f zero) (row_of_lt n (λ k. f (suc k)))
  where
    go : (b : Bool) → row_of n (λ k. f (suc k)) < 2 ^ n → row_of n (λ k. f (suc k)) * 2 + cond b 1 0 < 2 ^ suc n
    go true h = omega (arith, pow-suc 2 n)
    go false h = omega (arith, pow-suc 2 n)

row_of_none : (n : ℕ) → row_of n (λ k. false) ≡ 0
unfolding row_of
row_of_none zero = refl
row_of_none (suc n) = ap (λ (x : ℕ). x * 2 + 0) (row_of_none n)

-- ---- a number of w bytes, before what follows
pub length_number : (w n : ℕ) (bs : List ℕ) → length (write_number w n bs) ≡ w + length bs
length_number zero n bs = omega arith
length_number (suc w) n bs = length_number w (n / 256) (n % 256 ∷ bs) ∙ omega arith

pub read_number_lem : (w n : ℕ) (bs : List ℕ) → n < 256 ^ w → read_number 0 (write_number w n bs) ≡ read_number n bs
read_number_lem zero n bs h = ap (λ (z : ℕ). read_number z bs) (none n h)
  where
    none : (n : ℕ) → n < 1 → 0 ≡ n
    none n h = omega arith
read_number_lem (suc w) n bs h =
    read_number_lem w (n / 256) (n % 256 ∷ bs) ((div-lt_iff_lt-mul (zero-lt-suc 255)).1 (subst (λ (z : ℕ). n < z) (pow-suc 256 w) h))
    ∙ ap (λ (z : ℕ). read_number z bs) (div-add-mod' n 256)

zeros_number : (w : ℕ) {bs : List ℕ} → Zeros bs → Zeros (write_number w 0 bs)
zeros_number zero e = e
zeros_number (suc w) e = zeros_number w (λ i. 0 ∷ e i)

-- ---- rows of bits in an image
module _ (L : Layout) where
  pub length_bits : (n : ℕ) (f : ℕ → Bool) → length (write_bits L n f) ≡ L.width
  length_bits n f = length_number L.width (row_of n f) [] ∙ add-zero L.width

  pub read_bits : (n : ℕ) (f : ℕ → Bool) → 2 ^ n ≤ 256 ^ L.width → ((k : ℕ) → T (f k) → k < n) → (k : ℕ) → bit_of L n (write_bits L n f) k ≡ f k
  read_bits n f fit lt k =
      T_eq (bit_of L n (write_bits L n f) k) (f k)
      (λ t. subst T (at (ltb→lt k n (and_l (ltb k n) b t))) (and_r (ltb k n) b t))
      (λ t. and_i (ltb k n) b (lt→ltb k n (lt k t)) (subst T (sym (at (lt k t))) t))
    where
      b : Bool
      b = bit (read_number 0 (write_bits L n f)) k

      at : k < n → b ≡ f k
      at h = ap (λ (z : ℕ). bit z k) (read_number_lem L.width (row_of n f) [] (le_trans (row_of_lt n f) fit)) ∙ bit_row_of n f k h

  -- where no bytes stand, no bit is set
  off : (n : ℕ) (bs : List ℕ) (b : Bool) (k : ℕ) → bs ≡ [] → (T b → ⊥) → bit_of L n bs k ≡ b
  off n bs b k e f = ap (λ (z : List ℕ). bit_of L n z k) e ∙ ap (λ (z : Bool). ltb k n && z) (bit_none k) ∙ and-false (ltb k n) ∙ sym (T_false b f)

  pub zeros_bits : (n : ℕ) → Zeros (write_bits L n (λ k. false))
  zeros_bits n = subst (λ (z : ℕ). Zeros (write_number L.width z [])) (sym (row_of_none n)) (zeros_number L.width {bs = []} refl)

  -- ---- tables of bits: a row of services for each package, and a line of such rows for each package
  abbrev pub write_line : (ℕ → ℕ → Bool) → List ℕ
  write_line f = flat (λ j. write_bits L L.services (f j)) (upto L.packages)

  pub length_line : (f : ℕ → ℕ → Bool) → length (write_line f) ≡ L.packages * L.width
  length_line f = length_table (λ j. write_bits L L.services (f j)) L.width L.packages (λ j p. length_bits L.services (f j))

  pub length_lines : (b : ℕ → ℕ → ℕ → Bool) → length (write_table L b) ≡ L.packages * (L.packages * L.width)
  length_lines b = length_table (λ i. write_line (b i)) (L.packages * L.width) L.packages (λ i p. length_line (b i))

  module _ (lo : LayoutOk L) where
    pub read_line : (f : ℕ → ℕ → Bool) → ((j k : ℕ) → T (f j k) → (j < L.packages) × (k < L.services)) → (bs rest : List ℕ) → bs ≡ write_line f ++ rest
        → (j k : ℕ) → bit_of L L.services (get_or (pieces L.width L.packages bs) j []) k ≡ f j k
    read_line f lt bs rest e j k = go (in_or_off j L.packages)
      where
        go : (j < L.packages) ⊎ (L.packages ≤ j) → bit_of L L.services (get_or (pieces L.width L.packages bs) j []) k ≡ f j k
        go (inl p) =
            ap (λ (z : List ℕ). bit_of L L.services z k) (piece_at (λ j. write_bits L L.services (f j)) L.width L.packages (λ j p. length_bits L.services (f j)) bs rest e j p)
            ∙ read_bits L.services (f j) lo.services_fit (λ k t. (lt j k t).1) k
        go (inr p) = off L.services (get_or (pieces L.width L.packages bs) j []) (f j k) k (piece_off L.width L.packages bs j p) (λ t. not-le_of_lt (lt j k t).0 p)

    pub read_lines : (b : ℕ → ℕ → ℕ → Bool) → ((i j k : ℕ) → T (b i j k) → BitIn L i j k) → (bs rest : List ℕ) → bs ≡ write_table L b ++ rest
        → (i j k : ℕ) → read_table L bs i j k ≡ b i j k
    read_lines b lt bs rest e i j k = go (in_or_off i L.packages)
      where
        lines : List (List (List ℕ))
        lines = map (pieces L.width L.packages) (pieces (L.packages * L.width) L.packages bs)

        go : (i < L.packages) ⊎ (L.packages ≤ i) → bit_of L L.services (get_or (get_or lines i []) j []) k ≡ b i j k
        go (inl p) =
            let line : get_or lines i [] ≡ pieces L.width L.packages (write_line (b i)) =
            read_at (L.packages * L.width) L.packages bs (pieces L.width L.packages) [] i p
            ∙ ap (pieces L.width L.packages) (piece_at (λ i. write_line (b i)) (L.packages * L.width) L.packages (λ i p. length_line (b i)) bs rest e i p) in
            ap (λ (z : List (List ℕ)). bit_of L L.services (get_or z j []) k) line
            ∙ read_line (b i) (λ j k t. let h = lt i j k t in (h.1, h.2)) (write_line (b i)) [] (sym (append-nil (write_line (b i)))) j k
        go (inr p) =
            off L.services (get_or (get_or lines i []) j []) (b i j k) k
            (ap (λ (z : List (List ℕ)). get_or z j []) (read_off (L.packages * L.width) L.packages bs (pieces L.width L.packages) [] i p)) (λ t. not-le_of_lt (lt i j k t).0 p)
