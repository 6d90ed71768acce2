-- Columns: a space, and then a number or `-`. Assumes nothing.
use Prim.Native.Nat.{ℕ, ◌+◌, ◌≤◌, ◌<◌}
use mathlib.Core.Path.{◌≡◌}
use mathlib.Core.List.{List, [], ◌∷◌}
use native.Mathlib.Omega.{arith}
use lib.ListN.{length}
use Rattle.std.specs.Prelude.{Option}
use Rattle.lines.specs.Lines.{digits, shown, Wrote}
use Rattle.lines.proofs.Text.{after}
use Rattle.lines.proofs.Digits.{digits_most}

-- a byte has at most three digits
pub byte_digits : (n : ℕ) → n < 256 → length (digits n) ≤ 3
byte_digits n h = digits_most 2 n (omega arith)

-- a space, and then a column
pub column : (at m r : ℕ) (s z : Option ℕ) (l l₁ l₂ : List ℕ) → s ≡ z → at + 1 ≤ length l → Wrote at (32 ∷ []) l m l₁ → Wrote m (shown z) l₁ r l₂ → Wrote at (32 ∷ shown s) l r l₂
column at m r s z l l₁ l₂ e fits u v = after at m r (32 ∷ []) (shown s) l l₁ l₂ fits u (rw e v)
