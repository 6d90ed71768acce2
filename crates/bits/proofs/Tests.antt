-- What a test of the code says of a test that it is part of. Assumes nothing.
use Prim.Native.Nat.{◌≤◌}
use native.Mathlib.Omega.{arith}
use mathlib.Core.Path.{◌≡◌, refl, sym, ap, ◌∙◌}
use mathlib.Core.Bool.{Bool, true, false, not, ◌&&◌, ◌||◌, and-false, and-true, cond}
use Rattle.policy.specs.Lists.{implies}
use Rattle.policy.proofs.Sets.{false_T}
use mir.Val.{bool_byte}

-- ---- a row that is not named, or is
pub unnamed : (b y x : Bool) → b ≡ y → not b ≡ true → false ≡ y && x
unnamed false y x e h = ap (λ (z : Bool). z && x) e
unnamed true y x e h = absurd (false_T (sym h) tt)

pub named_so : (b y x r : Bool) → b ≡ y → not b ≡ false → r ≡ x → r ≡ y && x
named_so true y x r e h q = q ∙ ap (λ (z : Bool). z && x) e
named_so false y x r e h q = absurd (false_T h tt)

-- ---- an unmet call that asks, and its caller
pub not_asking : (r b x : Bool) → r ≡ b → not r ≡ true → true ≡ implies b x
not_asking false b x e h = ap (λ (z : Bool). not z || x) e
not_asking true b x e h = absurd (false_T (sym h) tt)

pub asking_by : (r b x q : Bool) → r ≡ b → not r ≡ false → q ≡ x → q ≡ implies b x
asking_by true b x q e h p = p ∙ ap (λ (z : Bool). not z || x) e
asking_by false b x q e h p = absurd (false_T h tt)

-- ---- the second of two is tested first
pub other : (b : Bool) (x y : Bool) → b ≡ y → not b ≡ true → false ≡ x && y
other false x y e q = sym (and-false x) ∙ ap (λ (z : Bool). x && z) e
other true x y e q = absurd (false_T (sym q) tt)

pub alike : (b r x y : Bool) → b ≡ y → not b ≡ false → r ≡ x → r ≡ x && y
alike true r x y e q z = z ∙ sym (and-true x) ∙ ap (λ (v : Bool). x && v) e
alike false r x y e q z = absurd (false_T q tt)

-- ---- a test as a number
pub bool_low : (b : Bool) → bool_byte b ≤ 16
bool_low true = omega arith
bool_low false = omega arith

pub bool_is : (b c : Bool) → b ≡ c → bool_byte b ≡ cond c 1 0
bool_is b c e = ap bool_byte e ∙ go c
  where
    go : (c : Bool) → bool_byte c ≡ cond c 1 0
    go true = refl
    go false = refl
