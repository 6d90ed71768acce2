-- Rows of n bits, in words of 16: their numbers, and one bit changed as `bits` changes it.
use Prim.Native.Nat.{ℕ, ◌^◌, ◌≤◌, ◌<◌}
use native.Mathlib.Nat.{not-le_of_lt}
use mathlib.Core.Path.{◌≡◌, refl, sym, ap, ◌∙◌, subst}
use mathlib.Core.Logic.{◌⊎◌, inl, inr}
use mathlib.Core.Bool.{Bool, true, false, not, ◌&&◌, ◌||◌, cond}
use lib.Dec.{T, eqb}
use borrow.Author.Tests.{ne_eqb}
use Rattle.policy.specs.Tables.{bit, row_of}
use Rattle.policy.specs.Draft.{put}
use Rattle.policy.proofs.Sets.{false_T}
use Rattle.policy.proofs.Pieces.{in_or_off}
use Rattle.policy.proofs.Bits.{row_of_lt}
use Rattle.bits.proofs.Row.{row_is, bit_past, bits_row, row_narrow}

pub row_bits : (n row : ℕ) → row < 2 ^ n → row ≡ row_of n (bit row)
row_bits n row h = row_is n row (bit row) h (λ k l. refl)

-- no bit from n on
abbrev pub Ends : ℕ → (ℕ → Bool) → Type 0
Ends n f = (z : ℕ) → n ≤ z → f z ≡ false

pub ends_in : (n : ℕ) (f : ℕ → Bool) → Ends n f → (z : ℕ) → T (f z) → z < n
ends_in n f off z s = go (in_or_off z n)
  where
    go : (z < n) ⊎ (n ≤ z) → z < n
    go (inl p) = p
    go (inr p) = absurd (false_T (off z p) s)

pub bit_in : (n row : ℕ) → row < 2 ^ n → (z : ℕ) → T (bit row z) → z < n
bit_in n row h = ends_in n (bit row) (λ z p. bit_past n row z h p)

-- ---- bit k of a row changed to v
module _ (n : ℕ) (f : ℕ → Bool) (off : Ends n f) (k : ℕ) (l : k < n) (v : Bool) where
  pub put_ends : Ends n (put k v f)
  put_ends z s = ap (λ (b : Bool). cond b v (f z)) (ne_eqb z k (λ e. not-le_of_lt l (subst (λ (x : ℕ). n ≤ x) e s))) ∙ off z s

  module _ (low : n ≤ 16) (row : ℕ) (is : row ≡ row_of n f) (row' : ℕ) (g : ℕ → Bool) (e : row' ≡ row_of 16 g) (u : g ≡ put k v (bit row)) where
    pub put_is : row' ≡ row_of n (put k v f)
    put_is = e ∙ ap (row_of 16) (u ∙ (λ r. put k v (λ z. (ap (λ (x : ℕ). bit x z) is ∙ bits_row n f off z) r))) ∙ row_narrow n (put k v f) put_ends 16 low

    pub put_lt : row' < 2 ^ n
    put_lt = subst (λ (x : ℕ). x < 2 ^ n) (sym put_is) (row_of_lt n (put k v f))

    pub put_bits : bit row' ≡ put k v f
    put_bits = λ r z. (ap (λ (x : ℕ). bit x z) put_is ∙ bits_row n (put k v f) put_ends z) r

-- what `bits::with_bit` and `bits::without_bit` give
pub bit_set : (k : ℕ) (f : ℕ → Bool) → (λ (z : ℕ). eqb z k || f z) ≡ put k true f
bit_set k f = λ r z. go (eqb z k) (f z) r
  where
    go : (b x : Bool) → b || x ≡ cond b true x
    go true x = refl
    go false x = refl

pub bit_clear : (k : ℕ) (f : ℕ → Bool) → (λ (z : ℕ). not (eqb z k) && f z) ≡ put k false f
bit_clear k f = λ r z. go (eqb z k) (f z) r
  where
    go : (b x : Bool) → not b && x ≡ cond b false x
    go true x = refl
    go false x = refl
