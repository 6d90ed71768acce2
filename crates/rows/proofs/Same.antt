-- Bytes compared: those from an index on against those of a list, in a loop; the last one first.
use Prim.Native.Nat.{ℕ, ◌+◌, ◌-◌, ◌≤◌, ◌<◌}
use native.Mathlib.Omega.{arith}
use native.Mathlib.Numerals.{add-one}
use mathlib.Core.Path.{◌≡◌, refl, sym, ap, ◌∙◌}
use mathlib.Core.Bool.{Bool, true, false, ◌&&◌, and-true, and_assoc}
use mathlib.Core.List.{List, [], ◌∷◌, ◌++◌}
use lib.Dec.{eqb}
use lib.ListN.{length, get_or, take, drop, length-drop}
use lib.Seq.{take-suc, take_all, length-take-le, get_or-drop}
use borrow.Author.Tests.{eq-eqb}
use Rattle.policy.specs.Lists.{eq_bytes}
use Rattle.policy.proofs.Sets.{T_false, eq_bytes→}
use Rattle.rows.specs.Area.{part}
use Rattle.rows.proofs.Over.{length_part, get_d_part}

eq_bytes_snoc : (p q : List ℕ) (x y : ℕ) → length p ≡ length q → eq_bytes (p ++ (x ∷ [])) (q ++ (y ∷ [])) ≡ eq_bytes p q && eqb x y
eq_bytes_snoc [] [] x y e = and-true (eqb x y)
eq_bytes_snoc [] (b ∷ q) x y e = absurd (omega arith)
eq_bytes_snoc (a ∷ p) [] x y e = absurd (omega arith)
eq_bytes_snoc (a ∷ p) (b ∷ q) x y e = ap (λ (z : Bool). eqb a b && z) (eq_bytes_snoc p q x y (omega arith)) ∙ sym (and_assoc (eqb a b) (eq_bytes p q) (eqb x y))

-- the bytes before the last
pub head_long : (b : List ℕ) → length b - 1 ≡ length (take (length b - 1) b)
head_long b = sym (length-take-le (length b - 1) b (omega arith))

module _ (a : List ℕ) (at : ℕ) (b : List ℕ) where
  pub same_none : length b ≡ 0 → true ≡ eq_bytes (part at (length b) a) b
  same_none e = go b e
    where
      go : (q : List ℕ) → length q ≡ 0 → true ≡ eq_bytes (part at (length q) a) q
      go [] p = refl
      go (x ∷ q) p = absurd (omega arith)

  pub last_fell : (length b ≡ 0 → ⊥) → (get_or a (at + (length b - 1)) 0 ≡ get_or b (length b - 1) 0 → ⊥) → false ≡ eq_bytes (part at (length b) a) b
  last_fell h f =
      sym (T_false (eq_bytes (part at (length b) a) b)
      (λ t. f (sym (get_d_part at (length b) a (length b - 1) (omega arith)) ∙ ap (λ (z : List ℕ). get_or z (length b - 1) 0) (eq_bytes→ (part at (length b) a) b t))))

  -- ---- the loop: r compares the first k bytes
  module _ (room : at + length b ≤ length a) (k : ℕ) {r : Bool} (e : r ≡ eq_bytes (part at k a) (take k b)) where
    pub same_turn : k < length b → r && eqb (get_or a (at + k) 0) (get_or b k 0) ≡ eq_bytes (part at (k + 1) a) (take (k + 1) b)
    same_turn h =
        let long : k < length (drop at a) = rw length-drop (omega arith) in
        let same : length (part at k a) ≡ length (take k b) = length_part at k a (omega arith) ∙ sym (length-take-le k b (omega arith)) in
        rw (add-one, take-suc (drop at a) k 0 long, take-suc b k 0 h, get_or-drop at a k 0)
        (ap (λ (z : Bool). z && eqb (get_or a (at + k) 0) (get_or b k 0)) e ∙ sym (eq_bytes_snoc (part at k a) (take k b) (get_or a (at + k) 0) (get_or b k 0) same))

    pub same_end : k ≤ length b → length b ≤ k → r ≡ eq_bytes (part at (length b) a) b
    same_end p q =
        let n : k ≡ length b = omega arith in
        e ∙ ap (λ (x : ℕ). eq_bytes (part at x a) (take x b)) n ∙ ap (eq_bytes (part at (length b) a)) (take_all (length b) b (omega arith))

  -- ---- the last byte was compared before; r compares those before it
  pub same_head : at + length b ≤ length a → at + length (take (length b - 1) b) ≤ length a
  same_head room = omega (arith, head_long b)

  pub same_last : at + length b ≤ length a → (length b ≡ 0 → ⊥) → get_or a (at + (length b - 1)) 0 ≡ get_or b (length b - 1) 0
      → (r : Bool) → r ≡ eq_bytes (part at (length (take (length b - 1) b)) a) (take (length b - 1) b) → r ≡ eq_bytes (part at (length b) a) b
  same_last room h s r p =
      let k = length b - 1 in
      let n : k + 1 ≡ length b = omega arith in
      let q = p ∙ ap (λ (x : ℕ). eq_bytes (part at x a) (take k b)) (sym (head_long b)) in
      let t : eqb (get_or a (at + k) 0) (get_or b k 0) ≡ true = eq-eqb (get_or a (at + k) 0) (get_or b k 0) s in
      sym (and-true r) ∙ ap (λ (x : Bool). r && x) (sym t) ∙ same_turn room k q (omega arith)
      ∙ ap (λ (x : ℕ). eq_bytes (part at x a) (take x b)) n ∙ ap (eq_bytes (part at (length b) a)) (take_all (length b) b (omega arith))
