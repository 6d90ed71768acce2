-- Numbers of one byte and of two, big-endian: what the code reads and writes at a place. Assumes nothing.
use Prim.Native.Nat.{ℕ, zero, suc, ◌+◌, ◌*◌, ◌/◌, ◌%◌, ◌≤◌, ◌<◌, ◌^◌}
use native.Mathlib.Omega.{arith}
use native.Mathlib.Nat.{suc-add}
use native.Mathlib.Numerals.{add-one}
use mathlib.Core.Path.{◌≡◌, refl, ap}
use mathlib.Core.List.{List, [], ◌∷◌, ◌++◌}
use lib.ListN.{length, get_or, set, take, drop}
use lib.Seq.{drop-cons, set_split}
use Rattle.policy.specs.Tables.{read_number, write_number}

-- two stores side by side
set_two : (l : List ℕ) (at a b : ℕ) → suc at < length l → set (set l at a) (suc at) b ≡ take at l ++ a ∷ b ∷ drop (at + 2) l
set_two [] at a b h = absurd (omega arith)
set_two (x ∷ []) at a b h = absurd (omega arith)
set_two (x ∷ y ∷ l) zero a b h = refl
set_two (x ∷ y ∷ l) (suc at) a b h = rw (suc-add at 2) (ap (λ (z : List ℕ). x ∷ z) (set_two (y ∷ l) at a b (omega arith)))

module _ (l : List ℕ) (at w : ℕ) (h : at + w ≤ length l) where
  pub one_read : w ≡ 1 → get_or l at 0 ≡ read_number 0 (take w (drop at l))
  one_read e = let p : at < length l = omega arith in rw (e, drop-cons l at 0) (omega arith)

  pub two_read : w ≡ 2 → get_or l at 0 * 256 + get_or l (at + 1) 0 ≡ read_number 0 (take w (drop at l))
  two_read e =
      let p : at < length l = omega arith in
      let q : suc at < length l = omega arith in
      rw (e, add-one, drop-cons l at 0, drop-cons l (suc at) 0) (omega arith)

  module _ (n : ℕ) (b : n < 256 ^ w) where
    pub one_written : w ≡ 1 → set l at n ≡ take at l ++ write_number w n (drop (at + w) l)
    one_written e =
        let p : at < length l = omega arith in
        let q : n % 256 ≡ n = let m : 256 ^ w ≡ 256 = rw e in omega arith in
        rw (e, q, add-one, set_split l at n)

    pub two_written : w ≡ 2 → set (set l at (n / 256)) (at + 1) (n % 256) ≡ take at l ++ write_number w n (drop (at + w) l)
    two_written e =
        let p : suc at < length l = omega arith in
        let q : n / 256 % 256 ≡ n / 256 = let m : 256 ^ w ≡ 65536 = rw e in omega arith in
        rw (e, q, add-one) (set_two l at (n / 256) (n % 256) p)
