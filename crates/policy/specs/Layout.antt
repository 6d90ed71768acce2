-- A card's sizes and rules, as a value: where the parts of its image stand, and what its records and contracts may hold.
use Rattle.std.specs.Prelude.{ℕ, ◌+◌, ◌*◌, ◌-◌, ◌^◌, ◌≤◌, ◌<◌, ◌≡◌, Bool, true, false, ◌||◌, cond, List, [], ◌∷◌, T, eqb, leb, length}

pub record Layout : Type 0 where
  -- package numbers, and service numbers of a package
  pub packages : ℕ
  pub services : ℕ
  -- bytes of a row of bits, big-endian
  pub width : ℕ
  -- rows that each list has room for
  pub capacity : ℕ
  -- the image's first three bytes: its length and version
  pub header : List ℕ
  -- the version byte of its records
  pub version : ℕ
  -- bytes of the count of calls, grants and needs, big-endian; the most rows of each; the most callers of kind 3
  pub count_width : ℕ
  pub most_rows : ℕ
  pub most_callers : ℕ
  -- method tokens are below this
  pub methods : ℕ
  -- grants may be given before the service exists; the rows of waiting grants hold tokens, else service numbers
  pub early : Bool
  -- the kinds of record that are read
  pub reads : ℕ → Bool

-- document 01's 'ten kinds of record', R-1's 'kind 11', and R-13: 'Kinds 9 and 10 are retired'
abbrev pub ten : ℕ → Bool
ten k = leb k 10

abbrev pub eleven : ℕ → Bool
eleven k = leb k 11

abbrev pub nine : ℕ → Bool
nine k = leb k 8 || eqb k 11

-- the card of eight packages, with method tokens below m
abbrev pub card_of : ℕ → Bool → (ℕ → Bool) → Layout
card_of m e r = record {
  packages = 8;
  services = 8;
  width = 1;
  capacity = 16;
  header = cond e (4 ∷ 86 ∷ 2 ∷ []) (4 ∷ 70 ∷ 1 ∷ []);
  version = 1;
  count_width = 1;
  most_rows = 72;
  most_callers = 32;
  methods = m;
  early = e;
  reads = r;
}

-- its rules by time: document 01's, 'Each token may be 0 to 255', in an image of 1,094 bytes;
abbrev pub base : Layout
base = card_of 256 false ten

-- R-7's, 'Method tokens stop at 127';
abbrev pub narrow : Layout
narrow = card_of 128 false ten

-- R-2's, 'Grants given before the service exists', in an image of 1,110 bytes;
abbrev pub ahead : Layout
ahead = card_of 128 true ten

-- R-1's, 'an applet's new release brings its whole contract';
abbrev pub renewed : Layout
renewed = card_of 128 true eleven

-- R-13's, 'Needs only with the contract',
abbrev pub retired : Layout
retired = card_of 128 true nine

-- which are in force
abbrev pub small : Layout
small = retired

-- R-9: 'a card with sixteen packages', by the rules in force, in an image of 3,639 bytes
abbrev pub large : Layout
large = record {
  packages = 16;
  services = 16;
  width = 2;
  capacity = 32;
  header = 14 ∷ 55 ∷ 3 ∷ [];
  version = 2;
  count_width = 2;
  most_rows = 272;
  most_callers = 32;
  methods = 128;
  early = true;
  reads = nine;
}

-- bytes of an AID's place and of a row of unmet calls
abbrev pub aid_size : ℕ
aid_size = 17

abbrev pub unmet_size : ℕ
unmet_size = 20

-- ---- where the parts stand
module _ (L : Layout) where
  -- bytes of a row of waiting grants
  abbrev pub waiting_size : ℕ
  waiting_size = cond L.early 20 19

  abbrev pub used_at : ℕ
  used_at = 3

  abbrev pub aids_at : ℕ
  aids_at = used_at + L.width

  abbrev pub tokens_at : ℕ
  tokens_at = aids_at + L.packages * aid_size

  abbrev pub provides_at : ℕ
  provides_at = tokens_at + L.packages * (L.services * 2)

  abbrev pub calls_at : ℕ
  calls_at = provides_at + L.packages * L.width

  abbrev pub grants_at : ℕ
  grants_at = calls_at + L.packages * (L.packages * L.width)

  abbrev pub needs_at : ℕ
  needs_at = grants_at + L.packages * (L.packages * L.width)

  abbrev pub unmet_at : ℕ
  unmet_at = needs_at + L.packages * (L.packages * L.width)

  abbrev pub waiting_at : ℕ
  waiting_at = unmet_at + (1 + L.capacity * unmet_size)

  abbrev pub size : ℕ
  size = waiting_at + (1 + L.capacity * waiting_size)

-- what the numbers of a layout must satisfy for its image to hold its tables, and its records every contract of a card
pub record LayoutOk (L : Layout) : Type 0 where
  pub header_size : length L.header ≡ 3
  pub packages_fit : 2 ^ L.packages ≤ 256 ^ L.width
  pub services_fit : 2 ^ L.services ≤ 256 ^ L.width
  pub rows_fit : (L.packages - 1) * L.services + L.capacity ≤ L.most_rows
  pub counts_fit : L.most_rows < 256 ^ L.count_width
  pub load_read : T (L.reads 1)
  pub records_fit : 4 + (17 + ((1 + L.services * 2) + 3 * (L.count_width + L.most_rows * 19))) < 256 ^ 2
