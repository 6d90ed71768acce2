-- Kind 4: what a service leaves in the two lists, number by number, as the code writes it.
use Rattle.std.specs.Prelude.{ℕ, ◌+◌, ◌≤◌, Bool, List, length}
use Rattle.policy.specs.Lists.{flat, upto}
use Rattle.policy.specs.Layout.{Layout}
use Rattle.policy.specs.Tables.{Tables}
use Rattle.policy.specs.Lookup.{numbers}
use Rattle.policy.specs.ShortCheck.{count}
use Rattle.geometry.specs.declared.Table.{Table}
use Rattle.geometry.specs.declared.Table.TheVariants.{Calls, Grants, Needs}
use Rattle.geometry.specs.declared.Kept.{Kept}
use Rattle.geometry.specs.declared.Kept.TheVariants.{UnmetCalls, WaitingGrants}
use Rattle.image.specs.Read.{Item, items_of}
use Rattle.changes.specs.Left.{left_one, behind, by_list}

-- the bits of a table for the services of package j and a package i that calls or needs them, or has them granted
abbrev pub between : Table → Tables → ℕ → ℕ → ℕ → Bool
between Calls t j i = t.calls i j
between Grants t j i = t.grants j i
between Needs t j i = t.needs i j

module _ (L : Layout) (l : Kept) (t : Tables) (tb : Table) (j k : ℕ) where
  -- service k of package j goes; the bit of package i becomes a row of the one that calls or grants
  abbrev pub left_bit : ℕ → List (Item l)
  left_bit i = left_one l t (t.aid (by_list l j i)) j (by_list l i j) (between tb t j i) k

  abbrev pub left_bits : List (Item l)
  left_bits = flat left_bit (upto L.packages)

  abbrev pub rows_with_bits : ℕ
  rows_with_bits = length (items_of l t) + count (λ i. between tb t j i k) (numbers L)

-- ---- both lists
module _ (L : Layout) (t : Tables) where
  abbrev pub RoomWithoutService : ℕ → ℕ → Type 0
  RoomWithoutService j k =
      (rows_with_bits L UnmetCalls t Calls j k ≤ L.capacity) × (rows_with_bits L WaitingGrants t Grants j k ≤ L.capacity)

  abbrev pub lists_without_service : ℕ → ℕ → Tables
  lists_without_service j k = behind WaitingGrants (left_bits L WaitingGrants t Grants j k)
      (behind UnmetCalls (left_bits L UnmetCalls t Calls j k) t)
