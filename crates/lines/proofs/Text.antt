-- Texts written one after another. Assumes nothing.
use Prim.Native.Nat.{ℕ, ◌+◌, ◌≤◌}
use mathlib.Core.Path.{◌≡◌, refl, sym, ap, ◌∙◌}
use mathlib.Core.List.{List, [], ◌∷◌, ◌++◌, append_assoc}
use native.Mathlib.Nat.{add_assoc, zero-add}
use native.Mathlib.Numerals.{add-one}
use native.Mathlib.Omega.{arith}
use lib.ListN.{length, take, drop, set, length-append}
use lib.Seq.{set_split, take_at, drop_at, drop-drop, length-take-le}
use Rattle.lines.specs.Lines.{Wrote, Printed}
use Rattle.rows.specs.Area.{over}

-- a byte stored is a text of one byte
pub set_over : (l : List ℕ) (at b : ℕ) → at + 1 ≤ length l → set l at b ≡ over at (b ∷ []) l
set_over l at b h = rw (add-one, set_split l at b (omega arith)) refl

module _ (l a b : List ℕ) (at : ℕ) (fits : at + length a ≤ length l) where
  head_length : length (take at l ++ a) ≡ at + length a
  head_length = rw (length-append, length-take-le at l (omega arith)) refl

  -- a text behind a text
  over_over : over (at + length a) b (over at a l) ≡ over at (a ++ b) l
  over_over =
      rw (← append_assoc (take at l) a (drop (at + length a) l)) (rw (
        take_at (take at l ++ a) (drop (at + length a) l) (at + length a) head_length,
        ← drop-drop (length b) (at + length a) ((take at l ++ a) ++ drop (at + length a) l),
        drop_at (take at l ++ a) (drop (at + length a) l) (at + length a) head_length,
        drop-drop (length b) (at + length a) l,
        length-append a b,
        ← add_assoc at (length a) (length b),
      ) (simp append_assoc))

-- a writer, and another where it ended
pub after : (at m r : ℕ) (a b l l₁ l₂ : List ℕ) → at + length a ≤ length l → Wrote at a l m l₁ → Wrote m b l₁ r l₂ → Wrote at (a ++ b) l r l₂
after at m r a b l l₁ l₂ fits u v = record {
  ends = v.ends ∙ ap (λ (x : ℕ). x + length b) u.ends ∙ rw (length-append, add_assoc) refl;
  bytes = v.bytes ∙ rw (u.bytes, u.ends) (over_over l a b at fits);
}

-- a text from the start
pub print : (r : ℕ) (text lent left : List ℕ) → r ≤ length left → Wrote 0 text lent r left → Printed text lent r left
print r text lent left fits w = record {
  size = w.ends ∙ zero-add (length text);
  bytes = w.bytes ∙ rw (zero-add (length text)) refl;
  fits = fits;
  part = sym (length-take-le r left fits);
}
