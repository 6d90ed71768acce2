-- The layout of each card, and where the places of its image stand.
use Rattle.std.specs.Prelude.{ℕ, ◌+◌, ◌*◌, List}
use Rattle.policy.specs.Contract.{Tok}
use Rattle.policy.specs.Layout.{Layout, small, large, aid_size, unmet_size, waiting_size}
use Rattle.policy.specs.Layout.{aids_at, tokens_at, provides_at, calls_at, grants_at, needs_at, unmet_at, waiting_at}
use Rattle.policy.specs.Tables.{Tables, decode}
use Rattle.geometry.specs.declared.Card.{Card}
use Rattle.geometry.specs.declared.Card.TheVariants.{Small, Large}
use Rattle.geometry.specs.declared.Table.{Table}
use Rattle.geometry.specs.declared.Table.TheVariants.{Calls, Grants, Needs}
use Rattle.geometry.specs.declared.Kept.{Kept}
use Rattle.geometry.specs.declared.Kept.TheVariants.{UnmetCalls, WaitingGrants}
use Rattle.geometry.specs.declared.Tokens.{Tokens}

abbrev pub layout_of : Card → Layout
layout_of Small = small
layout_of Large = large

-- the tables of an image of the card
abbrev pub tables_of : Card → List ℕ → Tables
tables_of c img = decode (layout_of c) img

module _ (L : Layout) where
  -- package n's AID
  abbrev pub aid_at : ℕ → ℕ
  aid_at n = aids_at L + n * aid_size

  -- the tokens of service k of package j
  abbrev pub tok_at : ℕ → ℕ → ℕ
  tok_at j k = tokens_at L + (j * (L.services * 2) + k * 2)

  -- the provided services of package j
  abbrev pub prov_at : ℕ → ℕ
  prov_at j = provides_at L + j * L.width

  abbrev pub table_at : Table → ℕ
  table_at Calls = calls_at L
  table_at Grants = grants_at L
  table_at Needs = needs_at L

  -- the entry of a table in row i, column j
  abbrev pub entry_at : Table → ℕ → ℕ → ℕ
  entry_at t i j = table_at t + (i * (L.packages * L.width) + j * L.width)

  -- a list, and the bytes of its rows
  abbrev pub list_at : Kept → ℕ
  list_at UnmetCalls = unmet_at L
  list_at WaitingGrants = waiting_at L

  abbrev pub row_size : Kept → ℕ
  row_size UnmetCalls = unmet_size
  row_size WaitingGrants = waiting_size L

  abbrev pub list_end : Kept → ℕ
  list_end l = list_at l + (1 + L.capacity * row_size l)

  -- row r of a list
  abbrev pub place_at : Kept → ℕ → ℕ
  place_at l r = list_at l + (1 + r * row_size l)

-- where a row has its package number, and its tokens: 'callee AID in 17, tokens, caller number', and of a waiting grant
-- 'caller AID in 17, callee number', tokens
abbrev pub number_in : Kept → ℕ
number_in UnmetCalls = 19
number_in WaitingGrants = 17

abbrev pub tokens_in : Kept → ℕ
tokens_in UnmetCalls = 17
tokens_in WaitingGrants = 18

-- the tokens of a service in code
abbrev pub tok_of : Tokens → Tok
tok_of t = record { itf = t.interface; mth = t.method }
