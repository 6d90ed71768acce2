-- Bytes compared as numbers: a part is another when their numbers are the same.
use Prim.Native.Nat.{ℕ, zero, suc, ◌+◌, ◌*◌, ◌-◌, ◌^◌, ◌≤◌, ◌<◌}
use native.Mathlib.Omega.{arith}
use native.Mathlib.Nat.{pow-suc, pow-le-pow_right, lt_of_lt_of_le, zero-lt-suc}
use mathlib.Core.Path.{◌≡◌, refl, sym, ap, ap₂, ◌∙◌}
use mathlib.Core.Logic.{◌⊎◌, inl, inr}
use mathlib.Core.Bool.{Bool, ◌&&◌}
use mathlib.Core.List.{List, [], ◌∷◌, ◌++◌}
use lib.Dec.{eqb, eqb→eq}
use lib.ListN.{length, get_or, take, drop, length-take, get_or-eq_default}
use lib.Seq.{take-take, take_all}
use Rattle.policy.specs.Lists.{eq_bytes}
use Rattle.policy.proofs.Pieces.{in_or_off}
use Rattle.policy.proofs.Sets.{T_eq, and_l, and_r, and_i, eq_bytes→}
use Rattle.policy.proofs.Equal.{eq_aid_of, eqb_of}
use Rattle.rows.specs.Area.{part, little}
use Rattle.rows.proofs.Parts.{part_length, part_byte, part_rest, part_part, part_cons}

-- ---- bytes
abbrev pub Bytes : List ℕ → Type 0
Bytes l = (k : ℕ) → get_or l k 0 < 256

pub part_bytes : (l : List ℕ) → Bytes l → (at n : ℕ) → Bytes (part at n l)
part_bytes l h at n k = go (in_or_off k n)
  where
    go : (k < n) ⊎ (n ≤ k) → get_or (part at n l) k 0 < 256
    go (inl p) = rw (part_byte l at n k p) (h (at + k))
    go (inr p) =
        let e : length (take n (drop at l)) ≤ k = rw length-take (omega arith) in
        rw (get_or-eq_default (part at n l) 0 e) (omega arith)

-- ---- the number of some bytes
little_inj : (x y : List ℕ) → Bytes x → Bytes y → length x ≡ length y → little x ≡ little y → x ≡ y
little_inj [] [] f g e q = refl
little_inj [] (c ∷ y) f g e q = absurd (omega arith)
little_inj (b ∷ x) [] f g e q = absurd (omega arith)
little_inj (b ∷ x) (c ∷ y) f g e q =
    let h : b < 256 = f 0 in
    let i : c < 256 = g 0 in
    let s : b ≡ c = omega arith in
    let r : little x ≡ little y = omega arith in
    λ z. s z ∷ little_inj x y (λ k. f (suc k)) (λ k. g (suc k)) (omega arith) r z

pub little_eq : (x y : List ℕ) → Bytes x → Bytes y → length x ≡ length y → eqb (little x) (little y) ≡ eq_bytes x y
little_eq x y f g e =
    T_eq (eqb (little x) (little y)) (eq_bytes x y) (λ t. eq_aid_of (little_inj x y f g e (eqb→eq (little x) (little y) t))) (λ t. eqb_of (ap little (eq_bytes→ x y t)))

-- ---- the numbers of parts
module _ (l : List ℕ) where
  little_cons : (at n : ℕ) → at + suc n ≤ length l → little (part at (suc n) l) ≡ get_or l at 0 + 256 * little (part (at + 1) n l)
  little_cons at n h = ap little (part_cons l at n (omega arith))

  pub byte_is : (at : ℕ) → at + 1 ≤ length l → get_or l at 0 ≡ little (part at 1 l)
  byte_is at h = let e : little (part at 1 l) ≡ get_or l at 0 + 256 * 0 = little_cons at 0 h in omega arith

  pub pair_is : (at : ℕ) → at + 2 ≤ length l → get_or l at 0 + 256 * get_or l (at + 1) 0 ≡ little (part at 2 l)
  pair_is at h = let e = little_cons at 1 h in let p = byte_is (at + 1) (omega arith) in omega arith

  -- a word from its back, w of the bytes from the k-th on: one byte more, and all
  module _ (at : ℕ) (h : at + 8 ≤ length l) where
    pub word_turn : (k : ℕ) {w : ℕ} → 0 < k → k ≤ 8 → w ≡ little (part (at + k) (8 - k) l) → w * 256 + get_or l (at + (k - 1)) 0 ≡ little (part (at + (k - 1)) (8 - (k - 1)) l)
    word_turn k p q e =
        let a : at + (k - 1) + 1 ≡ at + k = omega arith in
        let n : suc (8 - k) ≡ 8 - (k - 1) = omega arith in
        let s = little_cons (at + (k - 1)) (8 - k) (omega arith) in
        let o = ap (λ (x : ℕ). little (part x (8 - k) l)) a in
        let u = ap (λ (x : ℕ). little (part (at + (k - 1)) x l)) n in
        omega arith

    pub word_end : (k : ℕ) {w : ℕ} → k ≤ 0 → w ≡ little (part (at + k) (8 - k) l) → w ≡ little (part at 8 l)
    word_end zero p e = let a : at + 0 ≡ at = omega arith in e ∙ ap (λ (x : ℕ). little (part x 8 l)) a
    word_end (suc k) p e = absurd (omega arith)

-- w has room for one byte more, and then for those that are left
pub word_room : (k : ℕ) {w : ℕ} → 0 < k → w < 256 ^ (8 - k) → w < 256 ^ 7
word_room k p h = let m : 256 ^ (8 - k) ≤ 256 ^ 7 = let s : 8 - k ≤ 7 = omega arith in pow-le-pow_right (zero-lt-suc 255) s in lt_of_lt_of_le h m

pub word_fits : (k : ℕ) {w b : ℕ} → 0 < k → k ≤ 8 → w < 256 ^ (8 - k) → b < 256 → w * 256 + b < 256 ^ (8 - (k - 1))
word_fits k {w} {b} p q h i =
    let n : suc (8 - k) ≡ 8 - (k - 1) = omega arith in
    let e = pow-suc 256 (8 - k) in
    let u : 256 ^ suc (8 - k) ≡ 256 ^ (8 - (k - 1)) = ap (λ (x : ℕ). 256 ^ x) n in
    omega arith

-- ---- the same bytes, by their numbers and in parts: those of l from a on, and those of m from b on
module _ (l m : List ℕ) (a b : ℕ) where
  abbrev same : ℕ → ℕ → Bool
  same e n = eq_bytes (part (a + e) n l) (part (b + e) n m)

  -- n bytes are the same when the first k are and those from e on, where the second part begins in the first or at its end
  pub same_split : (n k e : ℕ) → e ≤ k → k ≤ n → eq_bytes (part a n l) (part b n m) ≡ eq_bytes (part a k l) (part b k m) && same e (n - e)
  same_split n k e h i = T_eq (eq_bytes (part a n l) (part b n m)) (front && same e (n - e))
      (λ t. let p = eq_bytes→ (part a n l) (part b n m) t in
      and_i front (same e (n - e)) (eq_aid_of (first l a ∙ ap (take k) p ∙ sym (first m b))) (eq_aid_of (sym (part_rest l a n e (omega arith)) ∙ ap (drop e) p ∙ part_rest m b n e (omega arith))))
      (λ t. eq_aid_of (joined l a ∙ ap₂ (λ (x y : List ℕ). x ++ drop (k - e) y) (eq_bytes→ (part a k l) (part b k m) (and_l front (same e (n - e)) t))
      (eq_bytes→ (part (a + e) (n - e) l) (part (b + e) (n - e) m) (and_r front (same e (n - e)) t)) ∙ sym (joined m b)))
    where
      front : Bool
      front = eq_bytes (part a k l) (part b k m)

      first : (z : List ℕ) (c : ℕ) → part c k z ≡ take k (part c n z)
      first z c = sym (take-take k n (drop c z) i)

      joined : (z : List ℕ) (c : ℕ) → part c n z ≡ part c k z ++ drop (k - e) (part (c + e) (n - e) z)
      joined z c =
          let p : n ≡ k + (n - k) = omega arith in
          let q : c + k ≡ c + e + (k - e) = omega arith in
          let s : n - k ≡ n - e - (k - e) = omega arith in
          ap (λ (x : ℕ). part c x z) p ∙ part_part z c k (n - k) ∙ ap₂ (λ (x y : ℕ). part c k z ++ part x y z) q s
          ∙ ap (λ (y : List ℕ). part c k z ++ y) (sym (part_rest z (c + e) (n - e) (k - e) (omega arith)))

  pub number_same : Bytes l → Bytes m → (n : ℕ) → a + n ≤ length l → b + n ≤ length m → {p q : ℕ} → p ≡ little (part a n l) → q ≡ little (part b n m)
      → eqb p q ≡ eq_bytes (part a n l) (part b n m)
  number_same f g n h i e u =
      (λ z. eqb (e z) (u z)) ∙ little_eq (part a n l) (part b n m) (part_bytes l f a n) (part_bytes m g b n) (part_length l a n h ∙ sym (part_length m b n i))

-- ---- the bytes of a from at on are those of b, by numbers of the first w and of the last w, where b has at most twice as many
module _ (a : List ℕ) (at : ℕ) (b : List ℕ) (f : Bytes a) (g : Bytes b) (w : ℕ) where
  pub ends_same : at + length b ≤ length a → w ≤ length b → length b ≤ w + w → {p q r s : ℕ} → p ≡ little (part at w a) → q ≡ little (part 0 w b)
      → r ≡ little (part (at + (length b - w)) w a) → s ≡ little (part (length b - w) w b) → eqb p q && eqb r s ≡ eq_bytes (part at (length b) a) b
  ends_same h low high ep eq er es =
      let n = length b in
      let e : n - (n - w) ≡ w = omega arith in
      let z : 0 + (n - w) ≡ n - w = omega arith in
      ap₂ ◌&&◌ (number_same a b at 0 f g w (omega arith) (omega arith) ep eq) (number_same a b (at + (n - w)) (n - w) f g w (omega arith) (omega arith) er es)
      ∙ ap₂ (λ (x y : ℕ). eq_bytes (part at w a) (part 0 w b) && eq_bytes (part (at + (n - w)) x a) (part y x b)) (sym e) (sym z)
      ∙ sym (same_split a b at 0 n w (n - w) (omega arith) (omega arith)) ∙ ap (eq_bytes (part at n a)) (take_all n b (omega arith))
