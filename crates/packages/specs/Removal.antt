-- Kind 2: what a package leaves in the two lists, number by number, as the code writes it.
use Rattle.std.specs.Prelude.{ℕ, ◌+◌, ◌≤◌, false, not, List, [], ◌++◌, eqb}
use Rattle.policy.specs.Lists.{keep, flat, upto}
use Rattle.policy.specs.Contract.{Aid}
use Rattle.policy.specs.Layout.{Layout}
use Rattle.policy.specs.Tables.{Tables}
use Rattle.policy.specs.Draft.{put}
use Rattle.policy.specs.ShortCheck.{count, ones}
use Rattle.geometry.specs.declared.Table.{Table}
use Rattle.geometry.specs.declared.Table.TheVariants.{Calls, Grants, Needs}
use Rattle.geometry.specs.declared.Kept.{Kept}
use Rattle.geometry.specs.declared.Kept.TheVariants.{UnmetCalls, WaitingGrants}
use Rattle.image.specs.Read.{Item, items_of, item_number}
use Rattle.image.specs.Laid.{table_of, with_used, with_aid, with_table, with_items}
use Rattle.image.specs.Wrote.{without_package, without_services}
use Rattle.changes.specs.Left.{left_row, by_list}

module _ (L : Layout) (l : Kept) (t : Tables) (tb : Table) where
  -- package n goes, whose AID is a; the bits of the others in its column become rows, for its services or their own
  abbrev pub left_rows : Aid → ℕ → List (Item l)
  left_rows a n = flat (λ i. left_row L l t a (by_list l n i) i (table_of tb t i n)) (upto L.packages)

  -- how many rows there are then, once its own are gone
  abbrev pub rows_without : ℕ → ℕ
  rows_without n = count (λ x. not (eqb (item_number l x) n)) (items_of l t) + ones L t (λ i k. table_of tb t i n k)

  -- the list changed
  abbrev pub list_without : Aid → ℕ → Tables
  list_without a n = with_items l (keep (λ x. not (eqb (item_number l x) n)) (items_of l t) ++ left_rows a n) t

module _ (L : Layout) (t : Tables) where
  -- ---- both lists have room for what package n leaves behind, and changed
  abbrev pub RoomWithout : ℕ → Type 0
  RoomWithout n = (rows_without L UnmetCalls t Calls n ≤ L.capacity) × (rows_without L WaitingGrants t Grants n ≤ L.capacity)

  abbrev pub lists_without : Aid → ℕ → Tables
  lists_without a n = list_without L WaitingGrants (list_without L UnmetCalls t Calls a n) Grants a n

-- ---- the places of package n cleared: its rows and columns, its number, and all of them
abbrev pub crossed : Table → ℕ → Tables → Tables
crossed tb n t = with_table tb (without_package n (table_of tb t)) t

abbrev pub bits_without : ℕ → Tables → Tables
bits_without n t = crossed Needs n (crossed Grants n (crossed Calls n t))

abbrev pub number_without : ℕ → Tables → Tables
number_without n t = with_used (put n false t.used) t

abbrev pub tables_without : ℕ → Tables → Tables
tables_without n t = number_without n (with_aid n [] (without_services n (bits_without n t)))
