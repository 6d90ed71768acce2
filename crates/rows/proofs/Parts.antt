-- Parts of a list of bytes: their bytes, a part of a part, the rest of one, one after another.
use Prim.Native.Nat.{ℕ, zero, suc, ◌+◌, ◌-◌, ◌≤◌, ◌<◌}
use native.Mathlib.Omega.{arith}
use native.Mathlib.Nat.{zero-add, suc-add}
use native.Mathlib.Numerals.{add-one}
use mathlib.Core.Path.{◌≡◌, sym, ap, ◌∙◌}
use mathlib.Core.List.{List, [], ◌∷◌, ◌++◌}
use lib.ListN.{length, get_or, take, drop}
use lib.Seq.{drop-cons, drop-drop, take-take, take-add, take-nil}
use Rattle.rows.specs.Area.{part}
use Rattle.rows.proofs.Over.{length_part, get_d_part}

drop_take : (n m : ℕ) (l : List ℕ) → drop n (take (n + m) l) ≡ take m (drop n l)
drop_take zero m l = ap (λ (k : ℕ). take k l) (zero-add m)
drop_take (suc n) m [] = ap (drop (suc n)) (take-nil (suc n + m)) ∙ sym (take-nil m)
drop_take (suc n) m (x ∷ l) = ap (λ (k : ℕ). drop (suc n) (take k (x ∷ l))) (suc-add n m) ∙ drop_take n m l

module _ (l : List ℕ) where
  pub part_length : (at n : ℕ) → at + n ≤ length l → length (part at n l) ≡ n
  part_length at n h = length_part at n l h

  pub part_byte : (at n k : ℕ) → k < n → get_or (part at n l) k 0 ≡ get_or l (at + k) 0
  part_byte at n k h = get_d_part at n l k h

  -- a part of a part, the rest of one, and one after another
  pub part_in : (at n a m : ℕ) → a + m ≤ n → part a m (part at n l) ≡ part (at + a) m l
  part_in at n a m h =
      let d : n - a ≡ m + (n - a - m) = omega arith in
      let e : n ≡ a + (n - a) = omega arith in
      ap (λ (k : ℕ). take m (drop a (take k (drop at l)))) e ∙ ap (take m) (drop_take a (n - a) (drop at l))
      ∙ take-take m (n - a) (drop a (drop at l)) (omega arith) ∙ ap (take m) (drop-drop a at l)

  pub part_rest : (at n a : ℕ) → a ≤ n → drop a (part at n l) ≡ part (at + a) (n - a) l
  part_rest at n a h =
      let e : n ≡ a + (n - a) = omega arith in
      ap (λ (k : ℕ). drop a (take k (drop at l))) e ∙ drop_take a (n - a) (drop at l) ∙ ap (take (n - a)) (drop-drop a at l)

  pub part_part : (at n m : ℕ) → part at (n + m) l ≡ part at n l ++ part (at + n) m l
  part_part at n m = take-add n m (drop at l) ∙ ap (λ (z : List ℕ). part at n l ++ take m z) (drop-drop n at l)

  pub part_cons : (at n : ℕ) → at < length l → part at (suc n) l ≡ get_or l at 0 ∷ part (at + 1) n l
  part_cons at n h = rw (drop-cons l at 0, add-one)
