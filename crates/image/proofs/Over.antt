-- Bytes replaced in place, in the forms in which code writes them; and one bit changed, as an entry or a row.
use Prim.Native.Nat.{ℕ, ◌+◌, ◌<◌}
use native.Mathlib.Numerals.{add-one}
use mathlib.Core.Path.{◌≡◌, refl, sym, ap, ◌∙◌}
use mathlib.Core.Bool.{Bool, true, false, ◌&&◌, cond}
use mathlib.Core.List.{List, [], ◌∷◌, ◌++◌}
use lib.Dec.{T, eqb, eqb→eq}
use lib.ListN.{length, set, take, drop}
use lib.Seq.{set_split}
use Rattle.policy.specs.Layout.{Layout}
use Rattle.policy.specs.Tables.{row_of, write_number, write_bits}
use Rattle.policy.specs.Draft.{put, put2, put3}
use Rattle.policy.proofs.Bits.{length_bits}
use Rattle.policy.proofs.Written.{number_append}
use Rattle.rows.specs.Area.{over}
use Rattle.image.proofs.Places.{both}

-- ---- the forms of code
-- one byte
pub over_byte : (at x : ℕ) (img : List ℕ) → at < length img → set img at x ≡ over at (x ∷ []) img
over_byte at x img h = set_split img at x h ∙ ap (λ (z : ℕ). take at img ++ (x ∷ drop z img)) (sym (add-one at))

-- a row of bits, by its number
pub over_row : (L : Layout) (n : ℕ) (f : ℕ → Bool) (at row : ℕ) (img : List ℕ) → row ≡ row_of n f
    → take at img ++ write_number L.width row (drop (at + L.width) img) ≡ over at (write_bits L n f) img
over_row L n f at row img e =
    ap (λ (z : ℕ). take at img ++ write_number L.width z (drop (at + L.width) img)) e
    ∙ ap (λ (z : List ℕ). take at img ++ z) (sym (number_append L.width (row_of n f) [] (drop (at + L.width) img)))
    ∙ ap (λ (z : ℕ). take at img ++ (write_bits L n f ++ drop (at + z) img)) (sym (length_bits L n f))

-- ---- one bit changed
pub entry_put3 : (i j k : ℕ) (v : Bool) (b : ℕ → ℕ → ℕ → Bool) → (λ (x y z : ℕ). cond (eqb x i && eqb y j) (put k v (b i j) z) (b x y z)) ≡ put3 i j k v b
entry_put3 i j k v b = λ r x y z. go x y z (eqb x i && eqb y j) (both x y i j) r
  where
    go : (x y z : ℕ) (c : Bool) → (T c → (x ≡ i) × (y ≡ j)) → cond c (put k v (b i j) z) (b x y z) ≡ cond (c && eqb z k) v (b x y z)
    go x y z true h = let e = h tt in λ r. cond (eqb z k) v (b (sym e.0 r) (sym e.1 r) z)
    go x y z false h = refl

pub row_put2 : (j k : ℕ) (v : Bool) (f : ℕ → ℕ → Bool) → (λ (x y : ℕ). cond (eqb x j) (put k v (f j) y) (f x y)) ≡ put2 j k v f
row_put2 j k v f = λ r x y. go x y (eqb x j) (eqb→eq x j) r
  where
    go : (x y : ℕ) (c : Bool) → (T c → x ≡ j) → cond c (put k v (f j) y) (f x y) ≡ cond (c && eqb y k) v (f x y)
    go x y true h = λ r. cond (eqb y k) v (f (sym (h tt) r) y)
    go x y false h = refl
