-- The parts of a contract's record, as code writes them one after another.
use Rattle.std.specs.Prelude.{ℕ, ◌+◌, ◌≤◌, ◌<◌, ◌≡◌, Bool, cond, List, [], ◌∷◌, ◌++◌, map, eqb, length}
use Rattle.policy.specs.Lists.{flat, keep, upto}
use Rattle.policy.specs.Contract.{Row}
use Rattle.policy.specs.Layout.{Layout}
use Rattle.policy.specs.Tables.{Tables, write_tok}
use Rattle.policy.specs.Lookup.{contract_at}
use Rattle.policy.specs.Judge.{row_bytes, rows_bytes, load_body}
use Rattle.readout.specs.declared.package.Package.{Package}
use Rattle.readout.specs.declared.pen.Pen.{Pen}
use Rattle.rows.specs.Area.{over}
use Rattle.geometry.specs.declared.Table.{Table}
use Rattle.geometry.specs.declared.Table.TheVariants.{Calls, Grants, Needs}
use Rattle.geometry.specs.declared.Kept.{Kept}
use Rattle.geometry.specs.declared.Kept.TheVariants.{UnmetCalls, WaitingGrants}
use Rattle.image.specs.Image.{lay, tables}
use Rattle.image.specs.Laid.{table_of}
use Rattle.image.specs.Read.{Item, items_of, item_aid, item_tok, item_number, item_at}

-- ---- a pen that put these bytes: where it stands, and what it leaves of a buffer that has room for them
pub record Put (old : Pen) (bytes : List ℕ) (new : Pen) : Type 0 where
  pub lent : new.out.ghost_name ≡ old.out.ghost_name
  pub same : length new.out.now ≡ length old.out.now
  pub ends : new.at ≡ old.at + length bytes
  pub leaves : old.at + length bytes ≤ length old.out.now → new.out.now ≡ over old.at bytes old.out.now

-- a pen that puts them ends where a record may end
abbrev pub Short : Pen → List ℕ → Type 0
Short p bytes = p.at + length bytes < 65536

-- what is said of a layout, tables and a package number, of a package
abbrev pub of : {A : Type 0} → (Layout → Tables → ℕ → A) → Package → A
of f p = f (lay p.img) (tables p.img) p.n

-- bytes that stand only where a test passes
abbrev pub given : Bool → List ℕ → List ℕ
given b l = cond b l []

-- the package whose service a bit of column j is, in the row of package n
abbrev pub server : Table → ℕ → ℕ → ℕ
server Calls n j = j
server Grants n j = n
server Needs n j = j

-- the table beside a list: a call is met or unmet, and a grant is in force or waits
abbrev pub beside : Kept → Table
beside UnmetCalls = Calls
beside WaitingGrants = Grants

-- a row of a list, as a record has it
abbrev pub item_row : (l : Kept) → Item l → Row
item_row l x = record { aid = item_aid l x; tok = item_tok l x }

module _ (L : Layout) (t : Tables) (n : ℕ) where
  -- ---- a table's row of package n: a service of a column, a column, and all of them
  abbrev pub bit_row : Table → ℕ → ℕ → Row
  bit_row tb j k = record { aid = t.aid j; tok = t.tok (server tb n j) k }

  abbrev pub bit_bytes : Table → ℕ → ℕ → List ℕ
  bit_bytes tb j k = given (table_of tb t n j k) (row_bytes (bit_row tb j k))

  abbrev pub column_bytes : Table → ℕ → List ℕ
  column_bytes tb j = flat (bit_bytes tb j) (upto L.services)

  abbrev pub table_bytes : Table → List ℕ
  table_bytes tb = flat (column_bytes tb) (upto L.packages)

  -- ---- the rows of a list that are package n's
  abbrev pub item_bytes : Kept → ℕ → List ℕ
  item_bytes l r = given (eqb (item_number l (item_at l t r)) n) (row_bytes (item_row l (item_at l t r)))

  abbrev pub list_bytes : Kept → List ℕ
  list_bytes l = flat (item_bytes l) (upto (length (items_of l t)))

  -- ---- the tokens of service k, where package n provides it
  abbrev pub tok_bytes : ℕ → List ℕ
  tok_bytes k = given (t.provides n k) (write_tok (t.tok n k))

  -- ---- the rows of a table, and the parts of the record that follow the version and the kind
  abbrev pub table_rows : Table → List Row
  table_rows tb = flat (λ j. map (bit_row tb j) (keep (table_of tb t n j) (upto L.services))) (upto L.packages)

  abbrev pub provide_bytes : List ℕ
  provide_bytes = length (contract_at L t n).provides ∷ flat write_tok (contract_at L t n).provides

  abbrev pub kept_rows : Kept → List Row
  kept_rows UnmetCalls = (contract_at L t n).calls
  kept_rows WaitingGrants = (contract_at L t n).grants

  abbrev pub kept_bytes : Kept → List ℕ
  kept_bytes l = rows_bytes L (kept_rows l)

  abbrev pub need_bytes : List ℕ
  need_bytes = rows_bytes L (contract_at L t n).needs

  abbrev pub row_lists : List ℕ
  row_lists = kept_bytes UnmetCalls ++ (kept_bytes WaitingGrants ++ need_bytes)

  abbrev pub body_bytes : List ℕ
  body_bytes = load_body L (contract_at L t n)
