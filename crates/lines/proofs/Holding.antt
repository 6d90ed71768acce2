-- What the bytes held of an input say of the whole input, whatever else comes. Assumes nothing.
use Prim.Native.Nat.{ℕ, zero, suc, ◌≤◌, ◌<◌}
use mathlib.Core.Path.{◌≡◌, refl, ap, ◌∙◌, subst}
use mathlib.Core.Bool.{Bool, true, false, cond}
use mathlib.Core.List.{List, [], ◌∷◌, ◌++◌, append-nil}
use native.Mathlib.Omega.{arith}
use lib.Dec.{leb, eqb}
use lib.ListN.{length, take, drop, get_or, length-append}
use lib.Seq.{length-take-le, take_at, drop_at, take-append-le, drop-append-le}
use borrow.Author.Tests.{leb-true, leb-false, le-leb}
use Rattle.std.specs.Prelude.{Option, Some, None}
use Rattle.lines.specs.declared.Held.{Held}
use Rattle.lines.specs.declared.Held.TheVariants as held
use Rattle.lines.specs.Frames.{longest, announced, ends, broken, holds, cut, frame, announced_as, held_as}
use Rattle.lines.specs.Reached.{IsFrame}
use Rattle.lines.proofs.Frames.{announced_sizes}

-- ---- by the count of the bytes, as code asks
pub held_short : (l : List ℕ) (ended : Bool) → length l < 2 → held_as l ended ≡ cond ended (cond (eqb (length l) 0) held.End held.Bad) (held.Start 2)
unfolding held_as
held_short [] ended h = refl
held_short (b ∷ []) ended h = refl
held_short (high ∷ low ∷ s) ended h = absurd (omega arith)

pub held_long : (l : List ℕ) (ended : Bool) → 2 ≤ length l → held_as l ended ≡ announced_as (announced (get_or l 0 0) (get_or l 1 0)) (length l) ended
unfolding held_as
held_long [] ended h = absurd (omega arith)
held_long (b ∷ []) ended h = absurd (omega arith)
held_long (high ∷ low ∷ s) ended h = refl

-- ---- what they say of the whole input
-- no more bytes are held than the frame has that they start
abbrev pub Part : List ℕ → Type 0
Part l = (high low : ℕ) (s : List ℕ) (m : ℕ) → l ≡ high ∷ low ∷ s → announced high low ≡ Some m → length l ≤ m

-- a record is held, whatever stands behind it
pub record Whole (l : List ℕ) (n : ℕ) : Type 0 where
  pub least : 4 ≤ n
  pub most : n ≤ longest
  pub within : n ≤ length l
  pub cuts : (rest : List ℕ) → frame (l ++ rest) ≡ holds (take n l) (drop n l ++ rest)
  pub own : IsFrame (take n l)
  pub all : Part l → length l ≡ n

-- the start of a frame is held: more bytes are to come, and up to n of them belong to it
pub record Begun (l : List ℕ) (ended : Bool) (n : ℕ) : Type 0 where
  pub more : length l < n
  pub most : n ≤ longest
  pub going : ended ≡ false
  pub onward : (piece : List ℕ) → length (l ++ piece) ≤ n → Part (l ++ piece)

-- by what the bytes held are; nothing more comes where the input has ended
abbrev pub Sees : List ℕ → Bool → Held → Type 0
Sees l ended (held.Record n) = Whole l n
Sees l ended (held.Start n) = Begun l ended n
Sees l ended held.Bad = (rest : List ℕ) → (ended ≡ true → rest ≡ []) → frame (l ++ rest) ≡ broken
Sees l ended held.End = (rest : List ℕ) → (ended ≡ true → rest ≡ []) → frame (l ++ rest) ≡ ends

-- of two bytes at most
part_short : (l : List ℕ) → length l ≤ 2 → Part l
part_short l h high low s m e a = let z = announced_sizes high low m a in omega (arith, z)

pub sees : (l : List ℕ) (ended : Bool) → Sees l ended (held_as l ended)
unfolding held_as
sees [] true = λ rest last. ap frame (last refl)
sees [] false = record { more = omega arith; most = omega arith; going = refl; onward = λ piece h. part_short piece h }
sees (b ∷ []) true = λ rest last. ap (λ (r : List ℕ). frame (b ∷ r)) (last refl)
sees (b ∷ []) false = record { more = omega arith; most = omega arith; going = refl; onward = λ piece h. part_short (b ∷ piece) h }
sees (high ∷ low ∷ s) ended = go (announced high low) refl
  where
    cutting : (f : Option ℕ) (rest : List ℕ) → announced high low ≡ f → frame (high ∷ low ∷ (s ++ rest)) ≡ cut f (high ∷ low ∷ (s ++ rest))
    cutting f rest e = ap (λ (f : Option ℕ). cut f (high ∷ low ∷ (s ++ rest))) e

    alone : (m : ℕ) → 4 ≤ m → m ≤ length (high ∷ low ∷ s) → announced high low ≡ Some m → IsFrame (take m (high ∷ low ∷ s))
    alone zero p w a rest = absurd (omega arith)
    alone (suc zero) p w a rest = absurd (omega arith)
    alone (suc (suc j)) p w a rest =
        let r : List ℕ = high ∷ low ∷ take j s in
        let n : length r ≡ suc (suc j) = length-take-le (suc (suc j)) (high ∷ low ∷ s) w in
        let v : suc (suc j) ≤ length (r ++ rest) = omega (arith, n, length-append r rest) in
        ap (λ (f : Option ℕ). cut f (r ++ rest)) a
        ∙ rw (le-leb (suc (suc j)) (length (r ++ rest)) v) (λ i. holds (take_at r rest (suc (suc j)) n i) (drop_at r rest (suc (suc j)) n i))

    by : (m : ℕ) → announced high low ≡ Some m → (b e : Bool) → leb m (length (high ∷ low ∷ s)) ≡ b
        → Sees (high ∷ low ∷ s) e (cond b (held.Record m) (cond e held.Bad (held.Start m)))
    by m a true e q =
        let z = announced_sizes high low m a in
        let w : m ≤ length (high ∷ low ∷ s) = leb-true m (length (high ∷ low ∷ s)) q in
        record {
          least = z.1;
          most = z.2;
          within = w;
          cuts = λ rest.
              let v : m ≤ length ((high ∷ low ∷ s) ++ rest) = omega (arith, w, length-append (high ∷ low ∷ s) rest) in
              cutting (Some m) rest a
              ∙ rw (le-leb m (length ((high ∷ low ∷ s) ++ rest)) v) (λ i. holds (take-append-le m (high ∷ low ∷ s) rest w i) (drop-append-le m (high ∷ low ∷ s) rest w i));
          own = alone m z.1 w a;
          all = λ part. let u : length (high ∷ low ∷ s) ≤ m = part high low s m refl a in omega arith;
        }
    by m a false true q = λ rest last. cutting (Some m) rest a ∙ rw (last refl, append-nil s, q)
    by m a false false q =
        let z = announced_sizes high low m a in
        let w : length (high ∷ low ∷ s) < m = leb-false m (length (high ∷ low ∷ s)) q in
        record {
          more = w;
          most = z.2;
          going = refl;
          onward = λ piece h high₂ low₂ s₂ k e a₂. let y : k ≡ m = cc in omega arith;
        }

    go : (f : Option ℕ) → announced high low ≡ f → Sees (high ∷ low ∷ s) ended (announced_as f (length (high ∷ low ∷ s)) ended)
    go None e = λ rest last. cutting None rest e
    go (Some m) e = by m e (leb m (length (high ∷ low ∷ s))) ended refl

pub whole : (l : List ℕ) (ended : Bool) {n : ℕ} → held_as l ended ≡ held.Record n → Whole l n
whole l ended e = subst (λ (h : Held). Sees l ended h) e (sees l ended)
