-- The two numbers of a result are the outcome's answer and second number, for each function. Assumes nothing.
use Prim.Native.Nat.{ℕ, ◌<◌}
use native.Mathlib.Omega.{arith}
use mathlib.Core.Path.{◌≡◌, refl, ap}
use mathlib.Core.Logic.{◌⊎◌, inl, inr, ⊎_elim}
use mathlib.Core.Bool.{Bool, true, false, not, ◌&&◌, cond}
use mathlib.Core.List.{List, [], ◌∷◌, ◌++◌}
use mathlib.Core.List.Memᴰ.{head as here}
use mathlib.Core.List.Memᴰ.{tail as there}
use lib.Dec.{T, eqb, leb, ltb}
use lib.ListN.{length, drop}
use Rattle.policy.specs.Layout.{Layout, size}
use Rattle.policy.specs.Causes.{◌when◌, answer}
use Rattle.policy.specs.Tables.{decode}
use Rattle.policy.specs.Lookup.{contract_at}
use Rattle.policy.specs.Sound.{sound}
use Rattle.policy.specs.Judge.{Out, refusal, judge, check, write_empty, load_record, read_out}
use Rattle.policy.specs.Eras.{carried, convert}
use Rattle.policy.specs.Claims.{RefusesWith}
use Rattle.policy.proofs.Entries.{answers_always}
use Rattle.geometry.proofs.Bounds.{limits}
use Rattle.image.proofs.Laid.{sound_laid}
use Rattle.readout.proofs.Records.{measured}
use Rattle.card.specs.Packed.{answer_of, second_of}
use Rattle.card.specs.Calls.{sized, on, Returned, Checked, Emptied, Carried, Judged, ReadInto}

pub record Tells (o : Out) (r : ℕ) : Type 0 where
  pub answer : answer_of r ≡ o.answered
  pub second : second_of r ≡ o.second

module _ {o : Out} {r : ℕ} {left : List ℕ} (c : Returned o r left) where
  tells : o.second < 65536 → Tells o r
  tells h = let e = c.result in record { answer = omega arith; second = omega arith }

  -- an acceptance whose second number is low, or a refusal
  tells_either : {A : Type 0} {ns : List ℕ} {second : ℕ} {lent : List ℕ} → second < 65536 → (A → o.second < 65536) → A ⊎ RefusesWith ns second lent o → Tells o r
  tells_either h f w = tells (⊎_elim f (λ (n, m, e). let q = ap (λ (z : Out). z.second) e in omega arith) w)

pub checked_tells : (image : List ℕ) {r : ℕ} → Checked image r → Tells (check (on image) image) r
checked_tells image c = tells_either c (omega arith) (λ h. omega (arith, limits (sized (length image)))) ((answers_always (on image)).checking image)

pub emptied_tells : (lent : List ℕ) {r : ℕ} {left : List ℕ} → Emptied lent r left → Tells (write_empty (on lent) lent) r
emptied_tells lent c = tells_either c (omega arith) (λ h. let e = ap (λ (z : Out). z.second) h.0 in omega arith) ((answers_always (on lent)).emptying lent)

-- ---- converting, by its two tests: the image is carried over, or the call is refused
module _ (L M : Layout) (old lent : List ℕ) where
  abbrev pub carry : Out
  carry = record { answered = 0; second = 0; bytes = carried L M old }

  abbrev pub Carry : Bool → Bool → Out → Type 0
  Carry a b o = (o.answered ≡ answer (1 when not (a && b) ∷ [])) × ((T a × T b × (o ≡ carry)) ⊎ RefusesWith (1 ∷ []) 255 lent o)

  carried_by : (a b : Bool) → Carry a b (cond (a && b) carry (refusal 1 255 lent))
  carried_by true true = (refl, inl (tt, tt, refl))
  carried_by true false = (refl, inr (1, here refl, refl))
  carried_by false b = (refl, inr (1, here refl, refl))

  pub converted : Carry (sound L old) (eqb (length lent) (size M)) (convert L M old lent)
  unfolding convert
  converted = carried_by (sound L old) (eqb (length lent) (size M))

  pub converted_tells : {r : ℕ} {left : List ℕ} → Carried L M old lent r left → Tells (convert L M old lent) r
  converted_tells c = tells_either c (omega arith) (λ (ok, long, e). let q = ap (λ (z : Out). z.second) e in omega arith) converted.1

pub judged_tells : (image rec : List ℕ) {r : ℕ} {left : List ℕ} → Judged image rec r left → Tells (judge (on image) image rec) r
judged_tells image rec c = tells_either c (omega arith) (λ h. omega (arith, limits (sized (length image)))) ((answers_always (on image)).judging image rec)

-- ---- reading out, by its three tests: the record is written, or the call is refused for the first that fails
module _ (image : List ℕ) (n : ℕ) (lent : List ℕ) where
  abbrev pub rec : List ℕ
  rec = load_record (on image) (contract_at (on image) (decode (on image) image) n)

  abbrev pub written : Out
  written = record { answered = 0; second = length rec; bytes = rec ++ drop (length rec) lent }

  abbrev pub Wrote : Bool → Bool → Bool → Out → Type 0
  Wrote a b c o =
      (o.answered ≡ answer (1 when not a ∷ 5 when not b ∷ 12 when not c ∷ []))
      × ((T a × T b × (o ≡ written)) ⊎ RefusesWith (1 ∷ 5 ∷ 12 ∷ []) 0 lent o)

  wrote_by : (a b c : Bool) → Wrote a b c (cond a (cond b (cond c written (refusal 12 0 lent)) (refusal 5 0 lent)) (refusal 1 0 lent))
  wrote_by true true true = (refl, inl (tt, tt, refl))
  wrote_by true true false = (refl, inr (12, there (there (here refl)), refl))
  wrote_by true false c = (refl, inr (5, there (here refl), refl))
  wrote_by false b c = (refl, inr (1, here refl, refl))

  pub wrote : Wrote (sound (on image) image) (ltb n (on image).packages && (decode (on image) image).used n) (leb (length rec) (length lent)) (read_out (on image) image n lent)
  unfolding read_out
  wrote = wrote_by (sound (on image) image) (ltb n (on image).packages && (decode (on image) image).used n) (leb (length rec) (length lent))

  pub read_tells : {r : ℕ} {left : List ℕ} → ReadInto image n lent r left → Tells (read_out (on image) image n lent) r
  read_tells c = tells_either c (omega arith) (λ (ok, un, e). let low = measured (sized (length image)) image n (sound_laid (on image) ok) _ refl in let q = ap (λ (z : Out). z.second) e in omega (arith, low.0, low.1)) wrote.1
