-- A test of every bit, as a fact about those within the sizes of a layout.
use Prim.Native.Nat.{ℕ, ◌<◌}
use mathlib.Core.Bool.{Bool}
use lib.Dec.{T}
use Rattle.policy.specs.Lists.{implies, every, upto}
use Rattle.policy.specs.Layout.{Layout}
use Rattle.policy.specs.Sound.{every_bit}
use Rattle.policy.proofs.Sets.{implies_i, implies_e, below_in, in_below}

module _ (L : Layout) where
  -- numbers of caller and callee, and a service number
  abbrev pub BitIn : ℕ → ℕ → ℕ → Type 0
  BitIn i j k = (i < L.packages) × (j < L.packages) × (k < L.services)

  module _ (f : ℕ → ℕ → ℕ → Bool) where
    abbrev entry : ℕ → ℕ → Bool
    entry i j = every (f i j) (upto L.services)

    abbrev line : ℕ → Bool
    line i = every (entry i) (upto L.packages)

    bit_to : T (every_bit L f) → (i j k : ℕ) → BitIn i j k → T (f i j k)
    bit_to h i j k c = below_in (f i j) L.services (below_in (entry i) L.packages (below_in line L.packages h i c.0) j c.1) k c.2

    bit_back : ((i j k : ℕ) → T (f i j k)) → T (every_bit L f)
    bit_back h = in_below line L.packages (λ i _. in_below (entry i) L.packages (λ j _. in_below (f i j) L.services (λ k _. h i j k)))

  -- every bit of a is one of b
  module _ (a b : ℕ → ℕ → ℕ → Bool) where
    abbrev pub among : Bool
    among = every_bit L (λ i j k. implies (a i j k) (b i j k))

    pub among_to : T among → (i j k : ℕ) → BitIn i j k → T (a i j k) → T (b i j k)
    among_to h i j k c = implies_e (a i j k) (b i j k) (bit_to (λ i j k. implies (a i j k) (b i j k)) h i j k c)

    pub among_back : ((i j k : ℕ) → T (a i j k) → T (b i j k)) → T among
    among_back h = bit_back (λ i j k. implies (a i j k) (b i j k)) (λ i j k. implies_i (a i j k) (b i j k) (h i j k))
