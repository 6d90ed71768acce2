-- Kind 2: the rows that a package leaves behind, how many they are, and the lists with them. Assumes nothing.
use Prim.Native.Nat.{ℕ, ◌+◌, ◌-◌, ◌≤◌}
use native.Mathlib.Omega.{arith}
use native.Mathlib.Nat.{lt_of_lt_of_le}
use mathlib.Core.Path.{◌≡◌, refl, sym, ap, ◌∙◌, subst}
use mathlib.Core.Bool.{Bool, true, not, ◌&&◌, and-true}
use mathlib.Core.List.{List, map}
use lib.ListN.{length}
use Rattle.policy.specs.Lists.{keep, upto, flat}
use Rattle.policy.specs.Contract.{Aid}
use Rattle.policy.specs.Layout.{Layout}
use Rattle.policy.specs.Tables.{Tables, Unmet, Waiting, bit, row_of, decode}
use Rattle.policy.specs.ShortCheck.{count, sum, ones}
use Rattle.policy.proofs.Sets.{flat_ext, keep_ext, upto_in}
use Rattle.geometry.specs.declared.Table.{Table}
use Rattle.geometry.specs.declared.Table.TheVariants.{Calls, Grants}
use Rattle.geometry.specs.declared.Kept.{Kept}
use Rattle.geometry.specs.declared.Kept.TheVariants.{UnmetCalls, WaitingGrants}
use Rattle.image.specs.Read.{Item, item, mask_of, items_of, item_number}
use Rattle.image.specs.Laid.{table_of, with_unmet, with_waiting, with_items}
use Rattle.image.specs.Wrote.{Wrote}
use Rattle.changes.specs.Left.{only, by_list, behind, left_one, left_row, RoomBehind, in_column}
use Rattle.changes.proofs.AppendedRows.{wrote_as, items_are, apart, behind_items}
use lib.Dec.{eqb}
use Rattle.policy.specs.Lookup.{numbers, places, service_at}
use Rattle.policy.specs.Draft.{call_row, left_by}
use Rattle.image.proofs.Masks.{mask_count, keep_mask}
use Rattle.packages.specs.Removal.{left_rows, rows_without, list_without, RoomWithout, lists_without}
use Rattle.changes.proofs.LeftRows.{only_pairs, length_only}
use Rattle.bits.proofs.Gathered.{count_others}
use Rattle.rows.specs.Area.{keep_rows}
use Rattle.image.proofs.Clears.{wrote_then}
use Rattle.changes.proofs.LeftRows.{table_apart}
use Rattle.bits.proofs.Loops.{every_at}
use Rattle.bits.proofs.Row.{row_bit}

module _ (L : Layout) (l : Kept) (t : Tables) (tb : Table) where
  -- the rows that turn i of `leave_rows` leaves: r are the bits that it reads, and j whose services they are of
  module _ (a : Aid) (n i : ℕ) (now : Tables) (same : table_of tb now ≡ table_of tb t) (r j : ℕ) (e : r ≡ row_of L.services (table_of tb now i n)) (q : j ≡ by_list l n i) where
    pub row_left : (u : List Unmet) (w : List Waiting) → left_row L l (with_unmet u (with_waiting w t)) a j i (bit r) ≡ left_row L l t a (by_list l n i) i (table_of tb t i n)
    row_left u w =
        let p : r ≡ row_of L.services (table_of tb t i n) = e ∙ ap (λ (b : ℕ → ℕ → ℕ → Bool). row_of L.services (b i n)) same in
        flat_ext (left_one l t a j i (bit r)) (left_one l t a j i (table_of tb t i n)) (upto L.services)
        (λ k h. ap (λ (b : Bool). only b (item l a (t.tok j k) i)) (row_bit L.services (table_of tb t i n) r p k (upto_in L.services h)))
        ∙ ap (λ (y : ℕ). left_row L l t a y i (table_of tb t i n)) q

-- ---- how many, in either list
module _ (L : Layout) (l : Kept) (t : Tables) (tb : Table) where
  pub left_length : (a : Aid) (n : ℕ) → length (left_rows L l t tb a n) ≡ ones L t (λ i k. table_of tb t i n k)
  left_length a n = length_only (λ i k. item l a (t.tok (by_list l n i) k) i) (λ i k. table_of tb t i n k) (places L) (numbers L)

-- column n, of all services
module _ (L : Layout) (t : Tables) (tb : Table) where
  pub whole_column : L.services ≤ 16 → (n : ℕ) → in_column L tb t n (bit 65535) ≡ ones L t (λ i k. table_of tb t i n k)
  unfolding bit
  whole_column h n = λ z. sum (λ i. length (every_named i z)) (numbers L)
    where
      every_named : (i : ℕ) → keep (λ k. table_of tb t i n k && bit 65535 k) (places L) ≡ keep (table_of tb t i n) (places L)
      every_named i =
          keep_ext (λ k. table_of tb t i n k && bit 65535 k) (table_of tb t i n) (places L)
          (λ k m. ap (λ (b : Bool). table_of tb t i n k && b) (every_at (bit 65535) 16 k refl (lt_of_lt_of_le (upto_in L.services m) h)) ∙ and-true (table_of tb t i n k))

-- ---- the rows are the draft's
module _ (L : Layout) (t : Tables) where
  pub calls_left : (n : ℕ) → left_rows L UnmetCalls t Calls (t.aid n) n ≡ left_by L t t.calls n (λ z. true)
  calls_left n =
      only_pairs (λ i k. call_row i (service_at t n k)) (λ i k. t.calls i n k) (places L) (numbers L)
      ∙ (λ z. flat (λ i. map (λ k. call_row i (service_at t n k)) (keep (λ k. sym (and-true (t.calls i n k)) z) (places L))) (numbers L))

  pub grants_left : (a : Aid) (n : ℕ) → left_rows L WaitingGrants t Grants a n
      ≡ flat (λ j. map (λ k. record { caller = a; callee = j; tok = t.tok j k }) (keep (λ k. t.grants j n k) (places L))) (numbers L)
  grants_left a n = only_pairs (λ j k. record { caller = a; callee = j; tok = t.tok j k }) (λ j k. t.grants j n k) (places L) (numbers L)

-- ---- the rows of a list that stay, by a count and a mask
part_le : (a o x y l : ℕ) → a ≡ l → o ≡ y → x + y ≡ l → o ≤ a
part_le a o x y l p q e = omega arith

part_rest : (a o x y l : ℕ) → a ≡ l → o ≡ y → x + y ≡ l → a - o ≡ x
part_rest a o x y l p q e = omega arith

module _ {A : Type 0} (f : A → Bool) (l : List A) (all mask own : ℕ) (few : length l ≤ 32) (p : all ≡ length l) (m : mask ≡ mask_of f l) (q : own ≡ length (keep (bit mask) (upto 32))) where
  own_is : own ≡ count f l
  own_is = q ∙ ap (λ (x : ℕ). length (keep (bit x) (upto 32))) m ∙ mask_count f l few

  pub own_le : own ≤ all
  own_le = part_le all own (count (λ x. not (f x)) l) (count f l) (length l) p own_is (count_others f l)

  pub rest_is : all - own ≡ count (λ x. not (f x)) l
  rest_is = part_rest all own (count (λ x. not (f x)) l) (count f l) (length l) p own_is (count_others f l)

sums : {x y u v m : ℕ} → x ≡ u → y ≡ v → u + v ≤ m → x + y ≤ m
sums p q h = omega arith

-- ---- `leave_list`: package n goes, whose AID is a
module _ (L : Layout) (l : Kept) (tb : Table) (a : Aid) (n : ℕ) (img : List ℕ) where
  abbrev t : Tables
  t = decode L img

  abbrev stay : List (Item l)
  stay = keep (λ x. not (eqb (item_number l x) n)) (items_of l t)

  -- its own rows dropped
  pub own_dropped : (mask : ℕ) → mask ≡ mask_of (λ x. eqb (item_number l x) n) (items_of l t) → {img1 : List ℕ} → Wrote L img1 (with_items l (keep_rows mask (items_of l t)) t) → Wrote L img1 (with_items l stay t)
  own_dropped mask e w = wrote_as L (ap (λ (m : List (Item l)). with_items l m t) (ap (λ (m : ℕ). keep_rows m (items_of l t)) e ∙ keep_mask (λ x. eqb (item_number l x) n) (items_of l t))) w

  -- the tables with another list l leave the same
  left_apart : left_rows L l (with_items l stay t) tb a n ≡ left_rows L l t tb a n
  left_apart =
      apart l stay t (λ z. left_rows L l z tb a n) (λ u w. ap (λ (b : ℕ → ℕ → ℕ → Bool). flat (λ i. left_row L l t a (by_list l n i) i (b i n)) (numbers L)) (table_apart tb t u w))

  pub left_room : rows_without L l t tb n ≤ L.capacity → {img1 : List ℕ} → Wrote L img1 (with_items l stay t) → RoomBehind l L (left_rows L l (decode L img1) tb a n) (decode L img1)
  left_room r {img1} w =
      sums (ap (λ (z : Tables). length (items_of l z)) w.tables ∙ ap length (items_are l stay t))
      (ap (λ (z : Tables). length (left_rows L l z tb a n)) w.tables ∙ ap length left_apart ∙ left_length L l t tb a n) r

  pub list_left : {img1 img2 : List ℕ} → Wrote L img1 (with_items l stay t) → Wrote L img2 (behind l (left_rows L l (decode L img1) tb a n) (decode L img1)) → Wrote L img2 (list_without L l t tb a n)
  list_left w v =
      wrote_as L (ap (λ (m : List (Item l)). behind l m (with_items l stay t)) left_apart ∙ behind_items l (left_rows L l t tb a n) stay t)
      (wrote_then L (λ z. behind l (left_rows L l z tb a n) z) w v)

-- ---- `leave_lists`
module _ (L : Layout) (a : Aid) (n : ℕ) (img : List ℕ) {img1 : List ℕ} (w : Wrote L img1 (list_without L UnmetCalls (decode L img) Calls a n)) where
  pub waiting_room : RoomWithout L (decode L img) n → rows_without L WaitingGrants (decode L img1) Grants n ≤ L.capacity
  waiting_room r = subst (λ (z : Tables). rows_without L WaitingGrants z Grants n ≤ L.capacity) (sym w.tables) r.1

  pub lists_left : {img2 : List ℕ} → Wrote L img2 (list_without L WaitingGrants (decode L img1) Grants a n) → Wrote L img2 (lists_without L (decode L img) a n)
  lists_left v = wrote_then L (λ z. list_without L WaitingGrants z Grants a n) w v
