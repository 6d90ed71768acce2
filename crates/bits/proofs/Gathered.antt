-- Rows, counts and masks gathered number by number: what a loop that appends, adds or sets bits has done, and how many pass. Assumes nothing.
use Prim.Native.Nat.{ℕ, zero, suc, ◌+◌, ◌*◌, ◌-◌, ◌≤◌, ◌<◌}
use native.Mathlib.Omega.{arith}
use native.Mathlib.Nat.{add-zero, zero-add, add_assoc}
use mathlib.Core.Path.{◌≡◌, refl, sym, ap, ap₂, ◌∙◌}
use mathlib.Core.Logic.{◌⊎◌, inl, inr}
use mathlib.Core.Bool.{Bool, true, false, not, ◌||◌, cond}
use mathlib.Core.List.{List, [], ◌∷◌, ◌++◌, append-nil}
use lib.Dec.{eqb}
use lib.ListN.{length, length-append}
use mir.Syntax.{w64}
use mir.Val.{Fits}
use borrow.Author.Tests.{eq-eqb, ne_eqb}
use Rattle.policy.specs.Lists.{keep, flat, upto}
use Rattle.policy.specs.ShortCheck.{count, sum}
use Rattle.policy.specs.Tables.{row_of, bit}
use Rattle.policy.proofs.Sets.{flat_append, length_keep, length_from}
use Rattle.policy.proofs.Bits.{bit_none}
use Rattle.policy.proofs.Pieces.{in_or_off}
use Rattle.bits.proofs.Loops.{upto_split}
use Rattle.bits.proofs.Row.{bits_row}

-- ---- lists
module _ {A : Type 0} (h : ℕ → List A) where
  -- one number more
  pub flat_snoc : (i : ℕ) → flat h (upto (i + 1)) ≡ flat h (upto i) ++ h i
  flat_snoc i = ap (flat h) (upto_split i 1) ∙ flat_append h (upto i) (i ∷ []) ∙ ap (λ (z : List A). flat h (upto i) ++ z) (append-nil (h i))

  length_snoc : (i : ℕ) → length (flat h (upto (i + 1))) ≡ length (flat h (upto i)) + length (h i)
  length_snoc i = ap length (flat_snoc i) ∙ length-append (flat h (upto i)) (h i)

  grows : (i d : ℕ) → length (flat h (upto i)) ≤ length (flat h (upto (i + d)))
  grows i zero = rw (add-zero i) (omega arith)
  grows i (suc d) =
      let e = grows i d in
      let s = length_snoc (i + d) in
      let q : i + d + 1 ≡ i + suc d = omega arith in
      let z = ap (λ (x : ℕ). length (flat h (upto x))) q in
      omega arith

  -- the rows of a number below n are among those of all
  pub flat_room : (n i : ℕ) → i < n → length (flat h (upto i)) + length (h i) ≤ length (flat h (upto n))
  flat_room n i l =
      let g = grows (i + 1) (n - (i + 1)) in
      let s = length_snoc i in
      let q : i + 1 + (n - (i + 1)) ≡ n = omega arith in
      let z = ap (λ (x : ℕ). length (flat h (upto x))) q in
      omega arith

-- ---- sums
module _ (f : ℕ → ℕ) where
  sum_append : (l m : List ℕ) → sum f (l ++ m) ≡ sum f l + sum f m
  sum_append [] m = sym (zero-add (sum f m))
  sum_append (x ∷ l) m = ap (λ (n : ℕ). f x + n) (sum_append l m) ∙ sym (add_assoc (f x) (sum f l) (sum f m))

  sum_snoc : (i : ℕ) → sum f (upto (i + 1)) ≡ sum f (upto i) + f i
  sum_snoc i = ap (sum f) (upto_split i 1) ∙ sum_append (upto i) (i ∷ []) ∙ ap (λ (n : ℕ). sum f (upto i) + n) (add-zero (f i))

-- the first i of n numbers have given the total, at most 16 each
pub record Tally (f : ℕ → ℕ) (n i total : ℕ) : Type 0 where
  pub within : i ≤ n
  pub is : total ≡ sum f (upto i)
  pub low : total ≤ i * 16

module _ (f : ℕ → ℕ) where
  pub tally_start : {n : ℕ} → Tally f n 0 0
  tally_start = record { within = omega arith; is = refl; low = omega arith }

  module _ {n i total : ℕ} (t : Tally f n i total) where
    pub tally_less : i < n → n - (i + 1) < n - i
    tally_less l = omega arith

    pub tally_next : i < n → {m : ℕ} → n ≡ m → m ≤ 16 → Fits w64 (i + 1)
    tally_next l e k = omega arith

    -- q is what number i gives
    module _ (l : i < n) (q : ℕ) (h : q ≤ 16) where
      pub tally_fits : {m : ℕ} → n ≡ m → m ≤ 16 → Fits w64 (total + q)
      tally_fits e k = omega (arith, t.low)

      pub tally_turn : q ≡ f i → Tally f n (i + 1) (total + q)
      tally_turn e = record { within = omega arith; is = ap₂ (λ (x y : ℕ). x + y) t.is e ∙ sym (sum_snoc f i); low = omega (arith, t.low) }

    pub tally_end : {m : ℕ} → n ≡ m → n ≤ i → m ≤ 16 → (total ≡ sum f (upto m)) × (total ≤ 256)
    tally_end {m} s l h = let w = t.within in let q : i ≡ m = omega arith in (t.is ∙ ap (λ (x : ℕ). sum f (upto x)) q, omega (arith, t.low))

-- as many as pass
pub sum_count : (g : ℕ → Bool) (l : List ℕ) → sum (λ i. cond (g i) 1 0) l ≡ count g l
sum_count g [] = refl
sum_count g (x ∷ l) = go (g x) (sum_count g l)
  where
    go : (b : Bool) → sum (λ i. cond (g i) 1 0) l ≡ count g l → cond b 1 0 + sum (λ i. cond (g i) 1 0) l ≡ length (cond b (x ∷ keep g l) (keep g l))
    go true e = omega arith
    go false e = omega arith

-- those that do not pass, by those that do
pub count_others : {A : Type 0} (f : A → Bool) (l : List A) → count (λ x. not (f x)) l + count f l ≡ length l
count_others f [] = refl
count_others f (x ∷ l) = go (f x) (count_others f l)
  where
    go : (b : Bool) → count (λ x. not (f x)) l + count f l ≡ length l
        → length (cond (not b) (x ∷ keep (λ x. not (f x)) l) (keep (λ x. not (f x)) l)) + length (cond b (x ∷ keep f l) (keep f l)) ≡ suc (length l)
    go true e = omega arith
    go false e = omega arith

-- ---- no more than there are
pub count_le : (f : ℕ → Bool) (n : ℕ) → count f (upto n) ≤ n
count_le f n = let e = length_from 0 n in omega (arith, length_keep f (upto n))

pub bits_low : (r q : ℕ) → q ≡ length (keep (bit r) (upto 16)) → q ≤ 16
bits_low r q e = omega (arith, count_le (bit r) 16)

-- ---- a mask of the numbers that pass, of those below k
pub record Gathers (f : ℕ → Bool) (n k mask : ℕ) : Type 0 where
  pub within : k ≤ n
  pub on : (z : ℕ) → z < k → bit mask z ≡ f z
  pub off : (z : ℕ) → k ≤ z → bit mask z ≡ false

pub gathers_start : (f : ℕ → Bool) {n : ℕ} → Gathers f n 0 0
gathers_start f = record { within = omega arith; on = λ z h. absurd (omega arith); off = λ z h. bit_none z }

module _ {f : ℕ → Bool} {n k mask : ℕ} (g : Gathers f n k mask) where
  module _ (l : k < n) (low : n ≤ 16) where
    pub gathers_on : (r : ℕ) → r ≡ row_of 16 (λ j. eqb j k || bit mask j) → f k ≡ true → Gathers f n (k + 1) r
    gathers_on r e h = record { within = omega arith; on = λ z p. at z ∙ here z p (in_or_off z k); off = λ z p. at z ∙ past z (omega arith) }
      where
        past : (z : ℕ) → k < z → eqb z k || bit mask z ≡ false
        past z p = ap₂ ◌||◌ (ne_eqb z k (λ q. omega arith)) (g.off z (omega arith))

        at : (z : ℕ) → bit r z ≡ eqb z k || bit mask z
        at z = ap (λ (x : ℕ). bit x z) e ∙ bits_row 16 (λ j. eqb j k || bit mask j) (λ j p. past j (omega arith)) z

        here : (z : ℕ) → z < k + 1 → (z < k) ⊎ (k ≤ z) → eqb z k || bit mask z ≡ f z
        here z p (inl q) = ap₂ ◌||◌ (ne_eqb z k (λ x. omega arith)) (g.on z q)
        here z p (inr q) = let x : z ≡ k = omega arith in ap (λ (b : Bool). b || bit mask z) (eq-eqb z k x) ∙ sym (ap f x ∙ h)

    pub gathers_off : f k ≡ false → Gathers f n (k + 1) mask
    gathers_off h = record { within = omega arith; on = λ z p. here z p (in_or_off z k); off = λ z p. g.off z (omega arith) }
      where
        here : (z : ℕ) → z < k + 1 → (z < k) ⊎ (k ≤ z) → bit mask z ≡ f z
        here z p (inl q) = g.on z q
        here z p (inr q) = let x : z ≡ k = omega arith in g.off z q ∙ sym (ap f x ∙ h)

  pub gathers_end : n ≤ k → ((z : ℕ) → n ≤ z → f z ≡ false) → (z : ℕ) → bit mask z ≡ f z
  gathers_end l out z = go (in_or_off z k)
    where
      go : (z < k) ⊎ (k ≤ z) → bit mask z ≡ f z
      go (inl q) = g.on z q
      go (inr q) = g.off z q ∙ sym (out z (omega arith))
