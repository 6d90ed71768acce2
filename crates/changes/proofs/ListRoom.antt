-- The room that a list has once the rows of a mask have gone. Assumes nothing.
use Prim.Native.Nat.{ℕ, ◌+◌, ◌-◌, ◌≤◌}
use native.Mathlib.Omega.{arith}
use mathlib.Core.Path.{◌≡◌, ap, ◌∙◌}
use mathlib.Core.Bool.{Bool, not}
use mathlib.Core.List.{List}
use lib.ListN.{length}
use mir.Syntax.{w64}
use mir.Val.{Fits}
use Rattle.policy.specs.Lists.{keep, upto}
use Rattle.policy.specs.Layout.{Layout}
use Rattle.policy.specs.Tables.{Tables, bit}
use Rattle.policy.specs.Room.{Room}
use Rattle.policy.specs.ShortCheck.{count}
use Rattle.policy.proofs.Sets.{length_keep}
use Rattle.geometry.specs.declared.Kept.{Kept}
use Rattle.geometry.specs.declared.Kept.TheVariants.{UnmetCalls, WaitingGrants}
use Rattle.image.specs.Read.{items_of, mask_of}
use Rattle.image.proofs.Masks.{mask_count}
use Rattle.bits.proofs.Gathered.{count_others}

pub rows_fit_lem : {L : Layout} {t : Tables} → Room L t → (l : Kept) → length (items_of l t) ≤ L.capacity
rows_fit_lem room UnmetCalls = room.unmet_fits
rows_fit_lem room WaitingGrants = room.waiting_fits

pub gone_low : (m : ℕ) → length (keep (bit m) (upto 32)) ≤ 32
gone_low m = length_keep (bit m) (upto 32)

-- the sum fits a word
pub sum_fits : (x y u v : ℕ) → x ≡ u → y ≡ v → u ≤ 32 → v ≤ 32 → Fits w64 (x + y)
sum_fits x y u v e q h l = omega arith

-- beside the rows that stay, where the mask names those that go
beside : (stay leave rows gone all : ℕ) → stay + leave ≡ rows → rows ≤ all → gone ≡ leave → stay + (all + gone - rows) ≡ all
beside stay leave rows gone all e h r = omega arith

pub room_beside : {A : Type 0} (f : A → Bool) (l : List A) (mask all : ℕ) → length l ≤ 32 → length l ≤ all → mask ≡ mask_of f l
    → count (λ x. not (f x)) l + (all + count (bit mask) (upto 32) - length l) ≡ all
room_beside f l mask all h k e =
    beside (count (λ x. not (f x)) l) (count f l) (length l) (count (bit mask) (upto 32)) all (count_others f l) k
    (ap (λ (m : ℕ). length (keep (bit m) (upto 32))) e ∙ mask_count f l h)
