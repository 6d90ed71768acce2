-- The card of an image, by its length, and that of a record, by its version. Assumes nothing.
use Prim.Native.Nat.{ℕ, ◌<◌}
use native.Mathlib.Omega.{arith}
use mathlib.Core.Path.{◌≡◌, refl, sym, ap, ◌∙◌}
use mathlib.Core.Logic.{◌⊎◌, inl, inr}
use mathlib.Core.Bool.{Bool, true, false}
use mathlib.Core.List.{List, [], ◌∷◌}
use mathlib.Core.Option.{Option, none, some}
use lib.Dec.{T, eqb, eqb→eq}
use lib.ListN.{length, get_or}
use borrow.Author.Tests.{ne_eqb}
use Rattle.policy.specs.Layout.{Layout, LayoutOk, size}
use Rattle.policy.specs.Record.{Request, parse}
use Rattle.policy.specs.Judge.{Out, judge}
use Rattle.policy.specs.Sound.{sound}
use Rattle.policy.proofs.Sets.{test, false_T}
use Rattle.policy.proofs.Equal.{eqb_of}
use Rattle.policy.proofs.SoundFacts.{sound_sized}
use Rattle.policy.proofs.Step.{unsound_refused, step}
use Rattle.policy.proofs.KindsRead.{other_version}
use Rattle.policy.proofs.Theorems.{sound_stands}
use Rattle.geometry.specs.Geometry.{layout_of}
use Rattle.geometry.specs.declared.Card.{Card}
use Rattle.geometry.specs.declared.Card.TheVariants.{Small, Large}
use Rattle.geometry.proofs.Bounds.{layout_ok}
use Rattle.card.specs.Calls.{sized, on, versioned, by}

pub on_ok : (image : List ℕ) → LayoutOk (on image)
on_ok image = layout_ok (sized (length image))

-- ---- by the length
pub sized_small : (n : ℕ) → (n ≡ 3639 → ⊥) → sized n ≡ Small
unfolding sized
sized_small n h = rw (ne_eqb n 3639 h)

pub sized_large : (n : ℕ) → n ≡ 3639 → sized n ≡ Large
unfolding sized
sized_large n e = rw e

pub sized_as : (c : Card) (n : ℕ) → n ≡ size (layout_of c) → sized n ≡ c
sized_as Small n e = sized_small n (λ d. omega arith)
sized_as Large n e = sized_large n e

-- a sound image is of its card
pub sound_on : (c : Card) (image : List ℕ) → T (sound (layout_of c) image) → on image ≡ layout_of c
sound_on c image ok = ap layout_of (sized_as c (length image) (sound_sized (layout_of c) image ok))

-- a record leaves the image's length
module _ (L : Layout) (lo : LayoutOk L) (image rec : List ℕ) where
  judged_long : length (judge L image rec).bytes ≡ length image
  judged_long = go (test (sound L image))
    where
      go : T (sound L image) ⊎ (T (sound L image) → ⊥) → length (judge L image rec).bytes ≡ length image
      go (inl ok) = let s = sound_stands L lo image ok in sound_sized L (judge L image rec).bytes (step L lo image rec s.0 s.1).1.is_sound ∙ sym (sound_sized L image ok)
      go (inr bad) = ap (λ (o : Out). length o.bytes) (unsound_refused L image rec bad)

-- and so its card
pub still_on : (image rec : List ℕ) → on (judge (on image) image rec).bytes ≡ on image
still_on image rec = ap (λ (n : ℕ). layout_of (sized n)) (judged_long (on image) (on_ok image) image rec)

-- ---- by the version
pub versioned_as : (c : Card) (v : ℕ) → v ≡ (layout_of c).version → versioned v ≡ c
unfolding versioned
versioned_as Small v e = rw e
versioned_as Large v e = rw e

pub versioned_else : (v : ℕ) → (v ≡ 2 → ⊥) → versioned v ≡ Small
unfolding versioned
versioned_else v n = rw (ne_eqb v 2 n)

-- a record that is too short to have a version
pub short_version : (rec : List ℕ) → length rec < 3 → versioned (get_or rec 2 0) ≡ Small
unfolding versioned
short_version [] h = refl
short_version (a ∷ []) h = refl
short_version (a ∷ b ∷ []) h = refl
short_version (a ∷ b ∷ x ∷ rec) h = absurd (omega arith)

-- what a card reads has its version
pub read_by : (c : Card) (rec : List ℕ) (q : Request) → parse (layout_of c) rec ≡ some q → by rec ≡ layout_of c
read_by c rec q e = go (test (eqb (get_or rec 2 0) (layout_of c).version))
  where
    read : Option Request → Bool
    read none = false
    read (some q) = true

    go : T (eqb (get_or rec 2 0) (layout_of c).version) ⊎ (T (eqb (get_or rec 2 0) (layout_of c).version) → ⊥) → by rec ≡ layout_of c
    go (inl h) = ap layout_of (versioned_as c (get_or rec 2 0) (eqb→eq (get_or rec 2 0) (layout_of c).version h))
    go (inr n) = absurd (false_T (ap read (sym e ∙ (other_version (layout_of c) rec (λ d. n (eqb_of d))).not_read)) tt)
