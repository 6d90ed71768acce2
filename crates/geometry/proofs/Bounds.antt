-- Every place of an image lies in it, and the limits that all cards keep. Assumes nothing.
use Prim.Native.Nat.{ℕ, ◌+◌, ◌*◌, ◌^◌, ◌≤◌, ◌<◌}
use native.Mathlib.Omega.{arith}
use native.Mathlib.Nat.{lt_of_lt_of_le, mul-le-mul_right}
use mathlib.Core.Path.{◌≡◌, refl}
use mathlib.Core.Bool.{true}
use borrow.Author.Rules.{rules}
use Rattle.policy.specs.Layout.{LayoutOk, used_at, tokens_at, provides_at, waiting_at, size}
use Rattle.policy.proofs.Pieces.{row_ends}
use Rattle.policy.proofs.Theorems.{small_ok, large_ok}
use Rattle.geometry.specs.declared.Card.{Card}
use Rattle.geometry.specs.declared.Card.TheVariants.{Small, Large}
use Rattle.geometry.specs.declared.Table.{Table}
use Rattle.geometry.specs.declared.Table.TheVariants.{Calls, Grants, Needs}
use Rattle.geometry.specs.declared.Kept.{Kept}
use Rattle.geometry.specs.declared.Kept.TheVariants.{UnmetCalls, WaitingGrants}
use Rattle.geometry.specs.Geometry.{layout_of, aid_at, tok_at, prov_at, table_at, entry_at, list_at, list_end, row_size, place_at, number_in, tokens_in}

-- its .packages-fit is 2 ^ packages ≤ 256 ^ width
pub layout_ok : (c : Card) → LayoutOk (layout_of c)
layout_ok Small = small_ok
layout_ok Large = large_ok

-- the rules in force are R-2's or later, so a waiting grant's row holds tokens
pub early : (c : Card) → (layout_of c).early ≡ true
early Small = refl
early Large = refl

pub record Limits (c : Card) : Type 0 where
  pub packages_some : 0 < (layout_of c).packages
  pub packages_low : (layout_of c).packages ≤ 16
  pub services_low : (layout_of c).services ≤ 16
  pub services_some : 0 < (layout_of c).services
  pub width_some : 0 < (layout_of c).width
  pub width_low : (layout_of c).width ≤ 2
  pub count_some : 0 < (layout_of c).count_width
  pub count_low : (layout_of c).count_width ≤ 2
  pub capacity_low : (layout_of c).capacity ≤ 32
  pub size_low : size (layout_of c) ≤ 4096
  pub used_in : used_at (layout_of c) + (layout_of c).width ≤ size (layout_of c)

pub limits : (c : Card) → Limits c
limits Small = omega arith
limits Large = omega arith

-- ---- the places before the waiting grants, which stand alike in all versions: n is the length of an image that has them, and a the place
pub head_front : (c : Card) (k n : ℕ) → waiting_at (layout_of c) ≤ n → k < 3 → k < n
head_front c k n e h = omega arith

pub used_front : (c : Card) (n : ℕ) → waiting_at (layout_of c) ≤ n → 3 + (layout_of c).width ≤ n
used_front c n e = omega arith

pub aid_front : (c : Card) (i n a : ℕ) → waiting_at (layout_of c) ≤ n → a ≡ aid_at (layout_of c) i → i < (layout_of c).packages → a + 17 ≤ n
aid_front c i n a e p h = omega arith

pub tok_front : (c : Card) (j k n a : ℕ) → waiting_at (layout_of c) ≤ n → a ≡ tok_at (layout_of c) j k → j < (layout_of c).packages → k < (layout_of c).services → a + 2 ≤ n
tok_front c j k n a e p h l = omega (arith, row_ends j (layout_of c).packages ((layout_of c).services * 2) h)

pub prov_front : (c : Card) (j n a : ℕ) → waiting_at (layout_of c) ≤ n → a ≡ prov_at (layout_of c) j → j < (layout_of c).packages → a + (layout_of c).width ≤ n
prov_front c j n a e p h = omega (arith, row_ends j (layout_of c).packages (layout_of c).width h)

-- an entry lies in its table,
entry_within : (c : Card) (t : Table) (i j : ℕ) → i < (layout_of c).packages → j < (layout_of c).packages
    → entry_at (layout_of c) t i j + (layout_of c).width ≤ table_at (layout_of c) t + (layout_of c).packages * ((layout_of c).packages * (layout_of c).width)
entry_within c t i j h l = omega (arith, row_ends i (layout_of c).packages ((layout_of c).packages * (layout_of c).width) h, row_ends j (layout_of c).packages (layout_of c).width l)

-- and that before the waiting grants
table_before : (c : Card) (t : Table) → table_at (layout_of c) t + (layout_of c).packages * ((layout_of c).packages * (layout_of c).width) ≤ waiting_at (layout_of c)
table_before c Calls = omega arith
table_before c Grants = omega arith
table_before c Needs = omega arith

pub entry_front : (c : Card) (t : Table) (i j n a : ℕ) → waiting_at (layout_of c) ≤ n → a ≡ entry_at (layout_of c) t i j → i < (layout_of c).packages → j < (layout_of c).packages
    → a + (layout_of c).width ≤ n
entry_front c t i j n a e p h l = omega (arith, entry_within c t i j h l, table_before c t)

-- ---- the places of an image
pub front_in : (c : Card) → waiting_at (layout_of c) ≤ size (layout_of c)
front_in c = omega arith

pub aid_in_lem : (c : Card) (n : ℕ) → n < (layout_of c).packages → aid_at (layout_of c) n + 17 ≤ size (layout_of c)
aid_in_lem c n h = aid_front c n (size (layout_of c)) (aid_at (layout_of c) n) (front_in c) refl h

pub tok_in : (c : Card) (j k : ℕ) → j < (layout_of c).packages → k < (layout_of c).services → tok_at (layout_of c) j k + 2 ≤ size (layout_of c)
tok_in c j k h l = tok_front c j k (size (layout_of c)) (tok_at (layout_of c) j k) (front_in c) refl h l

pub prov_in : (c : Card) (j : ℕ) → j < (layout_of c).packages → prov_at (layout_of c) j + (layout_of c).width ≤ size (layout_of c)
prov_in c j h = prov_front c j (size (layout_of c)) (prov_at (layout_of c) j) (front_in c) refl h

pub entry_in : (c : Card) (t : Table) (i j : ℕ) → i < (layout_of c).packages → j < (layout_of c).packages
    → entry_at (layout_of c) t i j + (layout_of c).width ≤ size (layout_of c)
entry_in c t i j h l = entry_front c t i j (size (layout_of c)) (entry_at (layout_of c) t i j) (front_in c) refl h l

-- the sums as the code makes them, of s service numbers, n packages and w bytes
pub tok_sum : (c : Card) (j k s : ℕ) → s ≡ (layout_of c).services → (j < (layout_of c).packages) × (k < (layout_of c).services)
    → tokens_at (layout_of c) + (j * (s * 2) + k * 2) ≤ 4096
tok_sum c j k s e (h, l) = rw e (omega (arith, limits c, tok_in c j k h l))

pub prov_sum : (c : Card) (j w : ℕ) → w ≡ (layout_of c).width → j < (layout_of c).packages → provides_at (layout_of c) + j * w ≤ 4096
prov_sum c j w e h = rw e (omega (arith, limits c, prov_in c j h))

pub entry_sum : (c : Card) (t : Table) (i j n w : ℕ) → n ≡ (layout_of c).packages → w ≡ (layout_of c).width → (i < (layout_of c).packages) × (j < (layout_of c).packages)
    → (n * w ≤ 4096) × (table_at (layout_of c) t + (i * (n * w) + j * w) ≤ 4096)
entry_sum c t i j n w d e (h, l) =
    let m = limits c in
    let p : (layout_of c).packages * (layout_of c).width ≤ 16 * (layout_of c).width = mul-le-mul_right (layout_of c).width m.packages_low in
    rw (d, e) (omega arith, omega (arith, entry_in c t i j h l))

-- rows of a list, of 20 bytes
pub row_wide : (c : Card) (l : Kept) → row_size (layout_of c) l ≡ 20
row_wide c UnmetCalls = refl
row_wide c WaitingGrants = rw (early c)

pub list_in : (c : Card) (l : Kept) → list_end (layout_of c) l ≤ size (layout_of c)
list_in c UnmetCalls = omega arith
list_in c WaitingGrants = omega arith

pub row_in : (c : Card) (l : Kept) (r : ℕ) → r < (layout_of c).capacity → place_at (layout_of c) l r + 20 ≤ size (layout_of c)
row_in c l r h = let w = row_wide c l in let e = list_in c l in go (row_size (layout_of c) l) w e
  where
    go : (w : ℕ) → w ≡ 20 → list_at (layout_of c) l + (1 + (layout_of c).capacity * w) ≤ size (layout_of c) → list_at (layout_of c) l + (1 + r * w) + 20 ≤ size (layout_of c)
    go w e i = omega (arith, row_ends r (layout_of c).capacity w h)

-- what a row has after its AID
pub number_in_row : (l : Kept) → (17 ≤ number_in l) × (number_in l < 20)
number_in_row UnmetCalls = (omega arith, omega arith)
number_in_row WaitingGrants = (omega arith, omega arith)

-- the tokens of package j's services stand one after another
pub record TokenRow (c : Card) (j : ℕ) : Type 0 where
  pub some : 0 < (layout_of c).services
  pub inside : tok_at (layout_of c) j 0 + (layout_of c).services * 2 ≤ size (layout_of c)
  pub each : (k : ℕ) → tok_at (layout_of c) j k ≡ tok_at (layout_of c) j 0 + k * 2

pub token_row : (c : Card) (j : ℕ) → j < (layout_of c).packages → TokenRow c j
token_row c j h = record {
  some = (limits c).services_some;
  inside = omega (arith, row_ends j (layout_of c).packages ((layout_of c).services * 2) h);
  each = λ k. omega arith;
}

pub tokens_in_row : (l : Kept) → (17 ≤ tokens_in l) × (tokens_in l + 1 < 20)
tokens_in_row UnmetCalls = (omega arith, omega arith)
tokens_in_row WaitingGrants = (omega arith, omega arith)

-- ---- the same in the form in which the needs ask them, for `search geo`: n is the image's length and a the place
pub package_lt : (c : Card) (i : ℕ) → i < (layout_of c).packages → i < 16
package_lt c i h = omega (arith, limits c)

pub service_lt : (c : Card) (k : ℕ) → k < (layout_of c).services → k < 16
service_lt c k h = omega (arith, limits c)

-- a row of as many bits fits its bytes
pub packages_row : (c : Card) (r : ℕ) → r < 2 ^ (layout_of c).packages → r < 256 ^ (layout_of c).width
packages_row c r h = lt_of_lt_of_le h (layout_ok c).packages_fit

pub services_row : (c : Card) (r : ℕ) → r < 2 ^ (layout_of c).services → r < 256 ^ (layout_of c).width
services_row c r h = lt_of_lt_of_le h (layout_ok c).services_fit

pub head_len : (c : Card) (k n : ℕ) → n ≡ size (layout_of c) → k < 3 → k < n
head_len c k n e h = omega (arith, limits c)

pub used_len : (c : Card) (n : ℕ) → n ≡ size (layout_of c) → 3 + (layout_of c).width ≤ n
used_len c n e = omega (arith, limits c)

pub aid_len : (c : Card) (i n a : ℕ) → n ≡ size (layout_of c) → a ≡ aid_at (layout_of c) i → i < (layout_of c).packages → a + 17 ≤ n
aid_len c i n a e p h = omega (arith, aid_in_lem c i h)

pub tok_len : (c : Card) (j k n a : ℕ) → n ≡ size (layout_of c) → a ≡ tok_at (layout_of c) j k → j < (layout_of c).packages → k < (layout_of c).services → a + 2 ≤ n
tok_len c j k n a e p h l = omega (arith, tok_in c j k h l)

pub prov_len : (c : Card) (j n a : ℕ) → n ≡ size (layout_of c) → a ≡ prov_at (layout_of c) j → j < (layout_of c).packages → a + (layout_of c).width ≤ n
prov_len c j n a e p h = omega (arith, prov_in c j h)

pub entry_len : (c : Card) (t : Table) (i j n a : ℕ) → n ≡ size (layout_of c) → a ≡ entry_at (layout_of c) t i j → i < (layout_of c).packages → j < (layout_of c).packages
    → a + (layout_of c).width ≤ n
entry_len c t i j n a e p h l = omega (arith, entry_in c t i j h l)

pub list_len : (c : Card) (l : Kept) (n a : ℕ) → n ≡ size (layout_of c) → a ≡ list_at (layout_of c) l → a + (1 + (layout_of c).capacity * row_size (layout_of c) l) ≤ n
list_len c l n a e p = omega (arith, list_in c l)

pub ruleset geo = (package_lt, service_lt, packages_row, services_row, head_len, used_len, aid_len, tok_len, prov_len, entry_len, list_len, rules)

-- and for those before the waiting grants alone
pub ruleset front = (package_lt, service_lt, packages_row, services_row, head_front, used_front, aid_front, tok_front, prov_front, entry_front, rules)
