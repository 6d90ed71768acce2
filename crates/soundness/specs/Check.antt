-- The check of an image, as code makes it: tests of its bytes, for the items of document 01, 'An image is sound when'.
use Rattle.std.specs.Prelude.{ℕ, ◌+◌, ◌*◌, ◌-◌, ◌%◌, Bool, true, false, not, ◌&&◌, cond, eqb, leb, ltb}
use Rattle.std.specs.Prelude.{List, length, get_or, take, drop, Option, Some, None}
use Rattle.std.specs.List.{find}
use Rattle.std.specs.Option.{is_none}
use Rattle.std.specs.Int.Bits.{bit_xor}
use Rattle.policy.specs.Lists.{implies, every, upto, eq_bytes}
use Rattle.policy.specs.Layout.{Layout, narrow, ahead, aid_size, unmet_size, waiting_size, size}
use Rattle.policy.specs.Layout.{used_at, tokens_at, provides_at, calls_at, grants_at, needs_at}
use Rattle.policy.specs.Tables.{bit, read_number}
use Rattle.rows.specs.Area.{little}
use Rattle.geometry.specs.Geometry.{aid_at, tok_at, prov_at, list_at, number_in, tokens_in}
use Rattle.geometry.specs.declared.Kept.{Kept}
use Rattle.geometry.specs.declared.Kept.TheVariants.{UnmetCalls, WaitingGrants}
use Rattle.soundness.specs.declared.rules.Rules.{Rules}
use Rattle.soundness.specs.declared.rules.Rules.TheVariants.{Early, Before}

-- ---- bytes
abbrev pub byte_at : List ℕ → ℕ → ℕ
byte_at l k = get_or l k 0

-- the n bytes from at on
abbrev pub part_at : List ℕ → ℕ → ℕ → List ℕ
part_at l at n = take n (drop at l)

abbrev pub is_zero : ℕ → Bool
is_zero b = eqb b 0

unfoldable pub zeros_at : List ℕ → ℕ → ℕ → Bool
zeros_at l at n = every is_zero (part_at l at n)

unfoldable pub same_at : List ℕ → ℕ → ℕ → ℕ → Bool
same_at l a b n = eq_bytes (part_at l a n) (part_at l b n)

-- numbers below 64 by which code tells most tokens and most rows apart: of tokens as a number, and of the n bytes at at, by their last 16
abbrev pub tok_mark : ℕ → ℕ
tok_mark t = t % 61

abbrev pub row_mark : List ℕ → ℕ → ℕ → ℕ
row_mark l at n = bit_xor (little (part_at l (at + (n - 16)) 8)) (little (part_at l (at + (n - 8)) 8)) % 59

-- a valid AID, and zeros to the end of its place
unfoldable pub aid_ok : List ℕ → ℕ → Bool
aid_ok l at = leb 5 (byte_at l at) && leb (byte_at l at) 16 && zeros_at l (at + (1 + byte_at l at)) (16 - byte_at l at)

-- the code's rules are R-2's
abbrev pub is_early : Rules → Bool
is_early Early = true
is_early Before = false

-- the bytes of a list's rows, by whether R-2's rules are in force
abbrev pub row_size : Bool → Kept → ℕ
row_size early UnmetCalls = unmet_size
row_size early WaitingGrants = cond early (waiting_size ahead) (waiting_size narrow)

-- a row has a service number and no tokens
abbrev pub numbered : Bool → Kept → Bool
numbered early UnmetCalls = false
numbered early WaitingGrants = not early

-- row r of a list at at, of rows of w bytes
abbrev pub place_of : ℕ → ℕ → ℕ → ℕ
place_of at w r = at + (1 + r * w)

-- no row before row r is the same
abbrev pub other_row : List ℕ → ℕ → ℕ → ℕ → ℕ → Bool
other_row l at w r q = not (same_at l (place_of at w r) (place_of at w q) w)

unfoldable pub new_row : List ℕ → ℕ → ℕ → ℕ → Bool
new_row l at w r = every (other_row l at w r) (upto r)

abbrev pub rows_differ : List ℕ → ℕ → ℕ → ℕ → Bool
rows_differ l at w n = every (new_row l at w) (upto n)

-- row r of a card's list, and where its last place ends
abbrev pub place_at : Layout → Bool → Kept → ℕ → ℕ
place_at L early k r = place_of (list_at L k) (row_size early k) r

abbrev pub list_end : Layout → Bool → Kept → ℕ
list_end L early k = place_at L early k L.capacity

-- the package that a row's service would be of: the package n with the row's AID, or the row's own
abbrev pub server : Kept → ℕ → ℕ → ℕ
server UnmetCalls n own = n
server WaitingGrants n own = own

-- what was found is n
abbrev pub is_found : Option ℕ → ℕ → Bool
is_found None n = false
is_found (Some m) n = eqb m n

-- services of which the row prov has those provided, and whose tokens stand in the line of the table toks
module _ (l : List ℕ) (toks line prov : ℕ) where
  abbrev pub tok_place : ℕ → ℕ
  tok_place k = toks + (line + k * 2)

  -- service k has the tokens at at
  abbrev pub has_tok : ℕ → ℕ → Bool
  has_tok at k = bit prov k && same_at l at (tok_place k) 2

  -- none of the first n has
  abbrev pub no_tok : ℕ → ℕ → Bool
  no_tok n at = every (λ k. not (has_tok at k)) (upto n)

  -- the tokens of service k differ from those before it, if their mark was met, and are zero where it is not provided
  abbrev pub tok_fits : Bool → ℕ → Bool
  tok_fits met k = cond (bit prov k) (implies met (no_tok k (tok_place k))) (zeros_at l (tok_place k) 2)

-- each bit of row a is one of row b
abbrev pub within : ℕ → ℕ → Bool
within a b = every (λ k. implies (bit a k) (bit b k)) (upto 16)

-- the row of bits in the w bytes at at
abbrev pub row_in : ℕ → List ℕ → ℕ → ℕ
row_in w l at = read_number 0 (part_at l at w)

-- needs are among the calls, calls among the grants, and grants among those that may be
abbrev pub rows_fit : ℕ → ℕ → ℕ → ℕ → Bool
rows_fit need call grant may = within need call && within call grant && within grant may

-- the tables of n packages, with rows of w bytes, by where they stand
module _ (l : List ℕ) (w n provs calls grants needs : ℕ) where
  -- what callee j may grant to a caller: what it provides, if the caller is used
  abbrev pub may_grant : Bool → ℕ → ℕ
  may_grant used j = cond used (row_in w l (provs + j * w)) 0

  -- of a caller i, which is used or not, and callee j
  abbrev pub pair_fits : ℕ → Bool → ℕ → Bool
  pair_fits i used j = rows_fit (row_in w l (needs + (i * (n * w) + j * w))) (row_in w l (calls + (i * (n * w) + j * w)))
      (row_in w l (grants + (j * (n * w) + i * w))) (may_grant used j)

  -- and the diagonal is zero
  abbrev pub line_fits : ℕ → Bool → Bool
  line_fits i used = every (pair_fits i used) (upto n) && eqb (row_in w l (grants + (i * (n * w) + i * w))) 0

module _ (L : Layout) (l : List ℕ) where
  -- a row of bits
  abbrev pub row_at : ℕ → ℕ
  row_at at = row_in L.width l at

  abbrev pub used_row : ℕ
  used_row = row_at (used_at L)

  abbrev pub prov_row : ℕ → ℕ
  prov_row j = row_at (prov_at L j)

  -- ---- packages and services, found by their bytes; an unused package's place is zero, and so has no valid AID
  abbrev pub is_aid : ℕ → ℕ → Bool
  is_aid at n = same_at l at (aid_at L n) aid_size

  -- the lowest package that has the AID at at
  unfoldable pub number_at : ℕ → Option ℕ
  number_at at = find (is_aid at) (upto L.packages)

  abbrev pub is_tok : ℕ → ℕ → ℕ → Bool
  is_tok at j k = has_tok l (tokens_at L) (j * (L.services * 2)) (prov_row j) at k

  -- none of the first n services of package j has the tokens at at
  unfoldable pub new_tok : ℕ → ℕ → ℕ → Bool
  new_tok n at j = no_tok l (tokens_at L) (j * (L.services * 2)) (prov_row j) n at

  -- ---- 'used AIDs are valid and differ; tokens provided by one package differ; every unused place, fill byte .. is zero'
  unfoldable pub tok_ok : ℕ → ℕ → Bool
  tok_ok j k = tok_fits l (tokens_at L) (j * (L.services * 2)) (prov_row j) true k

  unfoldable pub toks_ok : ℕ → Bool
  toks_ok j = every (tok_ok j) (upto L.services)

  -- R-7: 'A method token of 128 or more .. in an image makes it unsound': of the tokens at at,
  abbrev pub method_ok : ℕ → Bool
  method_ok at = ltb (byte_at l (at + 1)) L.methods

  -- and of all services of package j, since those not provided have zeros
  unfoldable pub methods_ok : ℕ → Bool
  methods_ok j = every (λ k. method_ok (tok_at L j k)) (upto L.services)

  -- the first package with its AID is n
  abbrev pub new_aid : ℕ → Bool
  new_aid n = is_found (number_at (aid_at L n)) n

  unfoldable pub blank_ok : ℕ → Bool
  blank_ok n = zeros_at l (aid_at L n) aid_size && eqb (prov_row n) 0 && zeros_at l (tok_at L n 0) (L.services * 2)

  unfoldable pub package_ok : ℕ → Bool
  package_ok n = cond (bit used_row n) (aid_ok l (aid_at L n) && new_aid n && methods_ok n && toks_ok n) (blank_ok n)

  unfoldable pub packages_ok : Bool
  packages_ok = every package_ok (upto L.packages)

  -- ---- caller i, callee j: 'every unused .. row and column is zero; diagonals are zero; call and grant bits name provided services;
  -- needs are among call bits; the card is lawful'. Needs are among the calls, calls among the grants,
  -- and grants among the provided services, of which an unused callee has none
  unfoldable pub line_ok : ℕ → Bool
  line_ok i = line_fits l L.width L.packages (provides_at L) (calls_at L) (grants_at L) (needs_at L) i (bit used_row i)

  unfoldable pub lines_ok : Bool
  lines_ok = every line_ok (upto L.packages)

  -- ---- rows of the lists with tokens: 'every unmet call has a valid AID other than its caller's, a used caller and no such service on the
  -- card'; R-2: 'A sound row is a grant that waits, of a used callee to another valid AID'
  abbrev pub is_used : ℕ → Bool
  is_used n = ltb n L.packages && bit used_row n

  -- no package was found, or the one found is not the row's own and there is no service with the tokens at at
  abbrev pub unserved : Kept → ℕ → ℕ → Option ℕ → Bool
  unserved k at own None = true
  unserved k at own (Some n) = not (eqb n own) && new_tok L.services at (server k n own)

  unfoldable pub token_row_ok : Kept → ℕ → Bool
  token_row_ok k at =
      is_used (byte_at l (at + number_in k)) && aid_ok l at && method_ok (at + tokens_in k)
      && unserved k (at + tokens_in k) (byte_at l (at + number_in k)) (number_at at)

  -- ---- numbered rows, before R-2: 'every waiting grant has a valid AID that is not installed, a used callee and a provided service'
  abbrev pub is_provided : ℕ → ℕ → Bool
  is_provided j k = ltb j L.packages && ltb k L.services && bit (prov_row j) k

  unfoldable pub number_row_ok : ℕ → Bool
  number_row_ok at =
      is_provided (byte_at l (at + number_in WaitingGrants)) (byte_at l (at + tokens_in WaitingGrants))
      && aid_ok l at && is_none (number_at at)

  -- ---- 'list counts are at most 16; no list row repeats'; and the places past the count are zero
  unfoldable pub row_ok : Bool → Kept → ℕ → Bool
  row_ok early k at = cond (numbered early k) (number_row_ok at) (token_row_ok k at)

  abbrev pub count_of : Kept → ℕ
  count_of k = byte_at l (list_at L k)

  module _ (early : Bool) (k : Kept) where
    abbrev pub place_ok : ℕ → Bool
    place_ok r = row_ok early k (place_at L early k r)

    unfoldable pub list_ok : Bool
    list_ok =
        leb (count_of k) L.capacity && every place_ok (upto (count_of k)) && rows_differ l (list_at L k) (row_size early k) (count_of k)
        && zeros_at l (place_at L early k (count_of k)) ((L.capacity - count_of k) * row_size early k)

  -- ---- the whole, by its version's first bytes and rules; its length too; and by those of L
  unfoldable pub check_by : List ℕ → Bool → Bool
  check_by head early = eq_bytes (take 3 l) head && packages_ok && lines_ok && list_ok early UnmetCalls && list_ok early WaitingGrants

  abbrev pub sized_ok : ℕ → List ℕ → Bool → Bool
  sized_ok long head early = eqb (length l) long && check_by head early

  abbrev pub check_ok : Bool
  check_ok = sized_ok (size L) L.header L.early
