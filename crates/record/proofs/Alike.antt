-- Comparing bytes and AIDs. Assumes nothing.
use Prim.Native.Nat.{ℕ, suc}
use mathlib.Core.Path.{◌≡◌, refl, ap, ◌∙◌}
use mathlib.Core.Bool.{Bool, false, and-false}
use mathlib.Core.List.{List, [], ◌∷◌}
use native.Mathlib.Omega.{arith}
use lib.Dec.{eqb}
use lib.ListN.{take, length, drop}
use lib.Seq.{take_all}
use Rattle.policy.specs.Lists.{eq_bytes}

pub unequal_lengths : (a b : List ℕ) → (length a ≡ length b → ⊥) → eq_bytes a b ≡ false
unequal_lengths [] [] h = absurd (h refl)
unequal_lengths [] (y ∷ b) h = refl
unequal_lengths (x ∷ a) [] h = refl
unequal_lengths (x ∷ a) (y ∷ b) h = rw (unequal_lengths a b (λ e. h (ap suc e))) (and-false (eqb x y))

-- as long as the other, and the same from its first byte on
pub all_alike : (a b : List ℕ) {r : Bool} → length a ≡ length b → r ≡ eq_bytes (take (length b) (drop 0 a)) b → r ≡ eq_bytes a b
all_alike a b h e = e ∙ ap (λ (z : List ℕ). eq_bytes z b) (take_all (length b) a (omega arith))
