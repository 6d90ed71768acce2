-- The rows that what goes leaves behind in the two lists, as the code writes them.
use Rattle.std.specs.Prelude.{ℕ, ◌+◌, ◌*◌, ◌≤◌, Bool, ◌&&◌, cond, List, [], ◌∷◌, ◌++◌, length}
use Rattle.policy.specs.Lists.{flat, upto}
use Rattle.policy.specs.Contract.{Aid, Tok}
use Rattle.policy.specs.Layout.{Layout}
use Rattle.policy.specs.Tables.{Tables}
use Rattle.policy.specs.ShortCheck.{ones}
use Rattle.geometry.specs.declared.Table.{Table}
use Rattle.geometry.specs.declared.Kept.{Kept}
use Rattle.geometry.specs.declared.Kept.TheVariants.{UnmetCalls, WaitingGrants}
use Rattle.image.specs.Read.{tokens_in, Item, items_of, item}
use Rattle.image.specs.Laid.{table_of, with_items}

-- x where b, else nothing
abbrev pub only : {A : Type 0} → Bool → A → List A
only b x = cond b (x ∷ []) []

-- x for the unmet calls, y for the waiting grants
abbrev pub by_list : Kept → ℕ → ℕ → ℕ
by_list UnmetCalls x y = x
by_list WaitingGrants x y = y

-- ---- list l of the tables t
module _ (l : Kept) where
  -- the rows m behind those that are there
  abbrev pub behind : List (Item l) → Tables → Tables
  behind m t = with_items l (items_of l t ++ m) t

  -- which have room
  abbrev pub RoomBehind : Layout → List (Item l) → Tables → Type 0
  RoomBehind L m t = length (items_of l t) + length m ≤ L.capacity

  -- the row of package i for service k, with tokens s k, and with the AID a, where f names the service
  abbrev pub named_one : (ℕ → Tok) → Aid → ℕ → (ℕ → Bool) → ℕ → List (Item l)
  named_one s a i f k = only (f k) (item l a (s k) i)

  -- for service k of package j
  abbrev pub left_one : Tables → Aid → ℕ → ℕ → (ℕ → Bool) → ℕ → List (Item l)
  left_one t a j i f k = named_one (t.tok j) a i f k

-- the tokens of service k, where those of all services stand in s one after another
abbrev pub token_in : List ℕ → ℕ → Tok
token_in s k = tokens_in s (k * 2)

-- ---- for all the services that f names
module _ (L : Layout) (l : Kept) where
  abbrev pub named_row : (ℕ → Tok) → Aid → ℕ → (ℕ → Bool) → List (Item l)
  named_row s a i f = flat (named_one l s a i f) (upto L.services)

  abbrev pub left_row : Tables → Aid → ℕ → ℕ → (ℕ → Bool) → List (Item l)
  left_row t a j i f = named_row (t.tok j) a i f

-- ---- how many bits column n of a table has, of the services d
module _ (L : Layout) (tb : Table) (t : Tables) where
  abbrev pub in_column : ℕ → (ℕ → Bool) → ℕ
  in_column n d = ones L t (λ i k. table_of tb t i n k && d k)
