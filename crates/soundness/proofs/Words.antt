-- Bytes compared as numbers: a part of an image is another when their numbers are the same.
use Prim.Native.Nat.{ℕ, zero, suc, ◌+◌, ◌*◌, ◌-◌, ◌^◌, ◌≤◌, ◌<◌}
use native.Mathlib.Omega.{arith}
use mathlib.Core.Path.{◌≡◌, refl, sym, ap, ap₂, ◌∙◌, subst}
use mathlib.Core.Bool.{Bool, true, false, ◌&&◌, and-true, and_assoc}
use mathlib.Core.List.{List}
use lib.Bits.{bit_or, or_lt, or_add_and, and_le_l, and_le_r}
use lib.Dec.{eqb, ltb, ltb→lt, lt→ltb}
use lib.ListN.{length}
use Rattle.policy.specs.Lists.{every, from, upto}
use Rattle.policy.specs.Layout.{Layout}
use Rattle.policy.proofs.Sets.{T_eq, and_l, and_r, and_i}
use borrow.Author.Tests.{lt-ltb}
use Rattle.std.specs.List.{fold}
use Rattle.geometry.specs.Geometry.{tok_at}
use Rattle.rows.specs.Area.{little}
use Rattle.rows.proofs.Words.{Bytes, byte_is, pair_is, same_split, number_same}
use Rattle.soundness.specs.Check.{byte_at, part_at, same_at, method_ok, methods_ok}

-- ---- the same bytes of an image, by their numbers and in parts
module _ (l : List ℕ) (bytes : Bytes l) where
  pub same_number : (a b n : ℕ) → a + n ≤ length l → b + n ≤ length l → {p q : ℕ} → p ≡ little (part_at l a n) → q ≡ little (part_at l b n) → eqb p q ≡ same_at l a b n
  unfolding same_at
  same_number a b n = number_same l l a b bytes bytes n

  -- n bytes are the same when the first k are and those from e on
  in_parts : (a b n k e : ℕ) → e ≤ k → k ≤ n → same_at l a b k && same_at l (a + e) (b + e) (n - e) ≡ same_at l a b n
  unfolding same_at
  in_parts a b n k e h i = sym (same_split l l a b n k e h i)

  -- two words, two words and a byte, and two words with a last four bytes that may begin in them
  module _ (a b : ℕ) {p q r s : ℕ} (ep : p ≡ little (part_at l a 8)) (eq : q ≡ little (part_at l b 8)) (er : r ≡ little (part_at l (a + 8) 8)) (es : s ≡ little (part_at l (b + 8) 8)) where
    words_same : a + 16 ≤ length l → b + 16 ≤ length l → eqb p q && eqb r s ≡ same_at l a b 16
    words_same h i =
        ap₂ ◌&&◌ (same_number a b 8 (omega arith) (omega arith) ep eq) (same_number (a + 8) (b + 8) 8 (omega arith) (omega arith) er es) ∙ in_parts a b 16 8 8 (omega arith) (omega arith)

    pub aid_same : a + 17 ≤ length l → b + 17 ≤ length l → eqb p q && eqb r s && eqb (byte_at l (a + 16)) (byte_at l (b + 16)) ≡ same_at l a b 17
    aid_same h i =
        ap₂ ◌&&◌ (words_same (omega arith) (omega arith))
        (same_number (a + 16) (b + 16) 1 (omega arith) (omega arith) (byte_is l (a + 16) (omega arith)) (byte_is l (b + 16) (omega arith))) ∙ in_parts a b 17 16 16 (omega arith) (omega arith)

    pub row_same : (n : ℕ) {t u : ℕ} → 16 ≤ n → n ≤ 20 → a + n ≤ length l → b + n ≤ length l → t ≡ little (part_at l (a + (n - 4)) 4) → u ≡ little (part_at l (b + (n - 4)) 4)
        → eqb t u && eqb p q && eqb r s ≡ same_at l a b n
    row_same n {t} {u} g m h i et eu =
        let e : 4 ≡ n - (n - 4) = omega arith in
        turn (eqb t u) (eqb p q) (eqb r s)
        ∙ ap₂ ◌&&◌ (words_same (omega arith) (omega arith)) (same_number (a + (n - 4)) (b + (n - 4)) 4 (omega arith) (omega arith) et eu ∙ ap (same_at l (a + (n - 4)) (b + (n - 4))) e)
        ∙ in_parts a b n 16 (n - 4) (omega arith) (omega arith)
      where
        turn : (x y z : Bool) → x && y && z ≡ y && z && x
        turn true true true = refl
        turn true true false = refl
        turn true false z = refl
        turn false true true = refl
        turn false true false = refl
        turn false false z = refl

-- ---- numbers gathered in one: it is below a power of 2 where all of them are
gathered : (k a b : ℕ) → ltb (bit_or a b) (2 ^ k) ≡ ltb a (2 ^ k) && ltb b (2 ^ k)
gathered k a b = T_eq (ltb (bit_or a b) (2 ^ k)) (ltb a (2 ^ k) && ltb b (2 ^ k))
    (λ t. let h = ltb→lt (bit_or a b) (2 ^ k) t in
    and_i (ltb a (2 ^ k)) (ltb b (2 ^ k)) (lt→ltb a (2 ^ k) (omega (arith, or_add_and a b, and_le_r a b))) (lt→ltb b (2 ^ k) (omega (arith, or_add_and a b, and_le_l a b))))
    (λ t. lt→ltb (bit_or a b) (2 ^ k) (or_lt k a b (ltb→lt a (2 ^ k) (and_l (ltb a (2 ^ k)) (ltb b (2 ^ k)) t)) (ltb→lt b (2 ^ k) (and_r (ltb a (2 ^ k)) (ltb b (2 ^ k)) t))))

-- the numbers that f gives below n are below a power of 2 where each passes p
module _ (top t n : ℕ) (power : top ≡ 2 ^ t) (f : ℕ → ℕ) (p : ℕ → Bool) (each : (k : ℕ) → k < n → ltb (f k) top ≡ p k) where
  gather : (d i a : ℕ) → i + d ≤ n → ltb (fold (λ all k. bit_or all (f k)) a (from i d)) top ≡ ltb a top && every p (from i d)
  gather zero i a h = sym (and-true (ltb a top))
  gather (suc d) i a h =
      gather d (suc i) (bit_or a (f i)) (omega arith)
      ∙ ap (λ (b : Bool). b && every p (from (suc i) d)) (subst (λ (z : ℕ). ltb (bit_or a (f i)) z ≡ ltb a z && ltb (f i) z) (sym power) (gathered t a (f i)) ∙ ap (λ (b : Bool). ltb a top && b) (each i (omega arith)))
      ∙ and_assoc (ltb a top) (p i) (every p (from (suc i) d))

module _ (L : Layout) (top : 256 * L.methods ≡ 2 ^ 15) (l : List ℕ) (bytes : Bytes l) (j : ℕ) where
  -- the method token is the high byte
  pair_low : (at : ℕ) {p : ℕ} → at + 2 ≤ length l → p ≡ little (part_at l at 2) → ltb p (256 * L.methods) ≡ method_ok L l at
  pair_low at {p} h e =
      let q = pair_is l at h in
      let b = bytes at in
      T_eq (ltb p (256 * L.methods)) (method_ok L l at)
      (λ t. let i = ltb→lt p (256 * L.methods) t in lt→ltb (byte_at l (at + 1)) L.methods (omega arith))
      (λ t. let i = ltb→lt (byte_at l (at + 1)) L.methods t in lt→ltb p (256 * L.methods) (omega arith))

  -- all tokens of package j, gathered in one number
  pub methods_of : (n : ℕ) {r : ℕ} → n ≡ L.services → ((k : ℕ) → k < n → tok_at L j k + 2 ≤ length l)
      → r ≡ fold (λ all k. bit_or all (little (part_at l (tok_at L j k) 2))) 0 (upto n) → ltb r (256 * L.methods) ≡ methods_ok L l j
  unfolding methods_ok
  methods_of n {r} e h q =
      ap (λ (z : ℕ). ltb z (256 * L.methods)) q
      ∙ gather (256 * L.methods) 15 n top (λ k. little (part_at l (tok_at L j k) 2)) (λ k. method_ok L l (tok_at L j k)) (λ k i. pair_low (tok_at L j k) (h k i) refl) n 0 0 (omega arith)
      ∙ ap (λ (b : Bool). b && every (λ k. method_ok L l (tok_at L j k)) (upto n)) (lt-ltb 0 (256 * L.methods) (omega arith))
      ∙ ap (λ (z : ℕ). every (λ k. method_ok L l (tok_at L j k)) (upto z)) e
