-- Causes 9 to 11 of what goes: what is still needed, and how many rows the lists have afterwards. Assumes nothing.
use Prim.Native.Nat.{ℕ}
use native.Mathlib.Omega.{arith}
use mathlib.Core.Path.{◌≡◌}
use mathlib.Core.Bool.{Bool, true, false}
use lib.Dec.{T}
use Rattle.policy.specs.Causes.{answer}
use Rattle.policy.specs.Judge.{look_causes}

-- a check that asks no rights: nothing needed, and both lists fit
abbrev pub found : Bool → Bool → Bool → ℕ
found n u w = answer (look_causes (record { granted = true; needed = n; unmet_fits = u; waiting_fits = w }))

pub both_fit : (n u w : Bool) → 0 ≡ found n u w → T u × T w
both_fit true true true h = (tt, tt)
both_fit true true false h = absurd (omega arith)
both_fit true false w h = absurd (omega arith)
both_fit false u w h = absurd (omega arith)
