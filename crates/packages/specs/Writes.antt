-- Kinds 1 and 11: the tables after each write of a contract that comes.
use Rattle.std.specs.Prelude.{ℕ, ◌<◌, ◌≡◌, Bool, true, ◌&&◌, cond, List, [], ◌∷◌, get_or}
use Rattle.policy.specs.Lists.{exists, flat, upto, or_else}
use Rattle.policy.specs.Contract.{Aid, Tok, eq_tok, Contract}
use Rattle.policy.specs.Layout.{Layout}
use Rattle.policy.specs.Tables.{Tables, Unmet, bit, row_of}
use Rattle.policy.specs.Lookup.{places, free_service}
use Rattle.policy.specs.Draft.{put}
use Rattle.geometry.specs.declared.Kept.TheVariants.{UnmetCalls}
use Rattle.geometry.specs.declared.Table.{Table}
use Rattle.geometry.specs.declared.Table.TheVariants.{Calls, Grants, Needs}
use Rattle.image.specs.Laid.{table_of, with_used, with_aid, with_table}
use Rattle.image.specs.Wrote.{without_row}
use Rattle.changes.specs.Places.{opened, tables_without_service}
use Rattle.changes.specs.Joins.{taken_in, TakesIn}
use Rattle.changes.specs.Left.{token_in, named_row}
use Rattle.changes.specs.Own.{own_rows, OwnFits}
use Rattle.packages.specs.declared.decide.Bring.{Bring}

-- package n is used, with the AID a
abbrev pub named : ℕ → Aid → Tables → Tables
named n a t = with_aid n a (with_used (put n true t.used) t)

-- ---- package n's row of bits in each table is clear
abbrev pub cleared_in : Table → ℕ → Tables → Tables
cleared_in tb n t = with_table tb (without_row n (table_of tb t)) t

abbrev pub rows_cleared : ℕ → Tables → Tables
rows_cleared n t = cleared_in Needs n (cleared_in Grants n (cleared_in Calls n t))

-- service k of package n has gone, if the mask names it; and so have the first m services
abbrev pub dropped_one : ℕ → ℕ → ℕ → Tables → Tables
dropped_one n mask k t = cond (bit mask k) (tables_without_service n k t) t

abbrev pub dropped_from : ℕ → ℕ → List ℕ → Tables → Tables
dropped_from n mask [] t = t
dropped_from n mask (k ∷ l) t = dropped_from n mask l (dropped_one n mask k t)

module _ (L : Layout) where
  -- the old contract of package n is off the card, but for its rows in the lists and for the services that stay
  abbrev pub stripped : ℕ → ℕ → Tables → Tables
  stripped n mask t = dropped_from n mask (places L) (rows_cleared n t)

  -- ---- services of package n: one of the mask has the tokens s
  abbrev pub keeps : ℕ → ℕ → Tok → Tables → Bool
  keeps n kept s t = exists (λ y. bit kept y && eq_tok (t.tok n y) s) (places L)

  -- 'the others take the lowest unused in record order'
  abbrev pub placed_one : ℕ → ℕ → Tok → Tables → Tables
  placed_one n kept s t = cond (keeps n kept s t) t (or_else (free_service L t n) t (λ y. opened n y s t))

  abbrev pub placed_all : ℕ → ℕ → List Tok → Tables → Tables
  placed_all n kept [] t = t
  placed_all n kept (s ∷ l) t = placed_all n kept l (placed_one n kept s t)

  -- beside those that it has
  abbrev pub placed : ℕ → List Tok → Tables → Tables
  placed n p t = placed_all n (row_of L.services (t.provides n)) p t

  -- ---- the contract k comes to number n, whose row of bits is clear: its services, the rows of the others, and its own
  module _ (k : Contract) (b : Bring) (t : Tables) where
    abbrev pub taken : Tables
    taken = taken_in L b.at b.met b.due b.calls b.grants (placed b.at k.provides t)

    abbrev pub brought_in : Tables
    brought_in = own_rows L b.at k.calls k.grants k.needs taken

    -- what the writes ask of the tables
    pub record BringsIn : Type 0 where
      pub package_in : b.at < L.packages
      pub takes_in : TakesIn L b.at b.met b.due (placed b.at k.provides t)
      pub own_fits : OwnFits L b.at k.calls k.grants k.needs taken

  -- ---- the calls of others that the mask names, in their rows and tokens as they were noted
  abbrev pub noted_rows : Aid → List ℕ → List ℕ → List Unmet
  noted_rows a rows tokens = flat (λ i. named_row L UnmetCalls (token_in tokens) a i (bit (get_or rows i 0))) (upto L.packages)

-- the rows of a table's column n, of the services that the mask names
abbrev pub NotedIn : Layout → Tables → ℕ → ℕ → List ℕ → Type 0
NotedIn L t n mask rows = (i : ℕ) → i < L.packages → (k : ℕ) → bit (get_or rows i 0) k ≡ t.calls i n k && bit mask k
