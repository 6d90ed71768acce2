-- What stands at each place of a laid image.
use Prim.Native.Nat.{ℕ, suc, ◌+◌, ◌*◌, ◌-◌, ◌^◌, ◌≤◌, ◌<◌}
use native.Mathlib.Omega.{arith}
use native.Mathlib.Nat.{add_assoc, le_trans, le_of_lt}
use mathlib.Core.Path.{◌≡◌, refl, sym, ap, ◌∙◌, subst}
use mathlib.Core.Bool.{Bool, true}
use mathlib.Core.List.{List, [], ◌∷◌, ◌++◌}
use mathlib.Core.List.Memᴰ.{append_left as in_left}
use mathlib.Core.List.{Memᴰ as In}
use lib.ListN.{length, get_or, take, drop, replicate}
use lib.Seq.{split_at, length-take-le}
use Rattle.policy.specs.Lists.{flat}
use Rattle.policy.specs.Contract.{Aid}
use Rattle.policy.specs.Layout.{Layout, LayoutOk, used_at}
use Rattle.policy.specs.Tables.{Tables, no_tok, row_of, read_number, write_aid, write_list, write_bits, decode, encode}
use Rattle.policy.proofs.Sets.{in_row}
use Rattle.policy.proofs.Bits.{length_bits, read_number_lem, row_of_lt}
use Rattle.policy.proofs.Pieces.{length_aid}
use Rattle.geometry.specs.declared.Table.{Table}
use Rattle.geometry.specs.declared.Kept.{Kept}
use Rattle.geometry.specs.declared.Kept.TheVariants.{UnmetCalls, WaitingGrants}
use Rattle.geometry.specs.Geometry.{aid_at, tok_at, prov_at, entry_at, list_at, row_size, place_at, number_in, tokens_in}
use Rattle.image.specs.Read.{Item, items_of, item, item_aid, item_tok, item_number, tail_of, write_item, item_at}
use Rattle.image.specs.Laid.{table_of, Laid, with_items}
use Rattle.image.proofs.Swap.{Swap, swap_read, swap_byte, segment_byte, swap_cast, swap_skip, swap_head, swap_among}
use Rattle.image.proofs.Places.{list_fits, list_short, item_length, items_length, swap_used, swap_aid, swap_tok, swap_row, swap_entry, swap_list}

-- ---- row r of a list
module _ (L : Layout) {A : Type 0} (g : A → List ℕ) (w : ℕ) (l : List A) (wide : (x : A) → In x l → length (g x) ≡ w) {a b : List ℕ} {off : ℕ} where
  list_row : (r : ℕ) (d : A) → r < length l → Swap a b off (write_list L g w l) (write_list L g w l) → Swap a b (off + (1 + r * w)) (g (get_or l r d)) (g (get_or l r d))
  list_row r d lt h =
      let x = get_or l r d in
      let e : l ≡ take r l ++ (x ∷ drop (suc r) l) = split_at l r d lt in
      let zeros = replicate {A = ℕ} ((L.capacity - length l) * w) 0 in
      let rows = swap_head (flat g l) (flat g l) zeros (swap_skip (length l ∷ []) (flat g l ++ zeros) (flat g l ++ zeros) refl h) in
      swap_cast (swap_among g g w (take r l) x x (drop (suc r) l) (λ y m. wide y (subst (λ (z : List A). In y z) (sym e) (in_left (x ∷ drop (suc r) l) m))) (λ y m. refl) (λ y m. refl)
      (swap_cast rows refl (ap (flat g) e) (ap (flat g) e)))
      (ap (λ (z : ℕ). off + 1 + z * w) (length-take-le r l (le_of_lt lt)) ∙ add_assoc off 1 (r * w)) refl refl

-- ---- the places
module _ (L : Layout) (lo : LayoutOk L) (ey : L.early ≡ true) {img : List ℕ} (h : Laid L img) where
  abbrev t : Tables
  t = decode L img

  -- s stands there in the image of the tables, and so in the image
  read : {b : List ℕ} {off : ℕ} {s s' : List ℕ} → Swap (encode L t) b off s s' → (k : ℕ) → length s ≡ k → take k (drop off img) ≡ s
  read {off = off} {s = s} p k e = subst (λ (z : List ℕ). take k (drop off z) ≡ s) h.laid (swap_read p k e)

  byte : {b : List ℕ} {off x : ℕ} {s s' : List ℕ} → Swap (encode L t) b off (x ∷ s) s' → get_or img off 0 ≡ x
  byte {off = off} {x = x} p = subst (λ (z : List ℕ). get_or z off 0 ≡ x) h.laid (swap_byte p 0)

  -- a row of n bits, as a number
  number : (n : ℕ) (f : ℕ → Bool) → 2 ^ n ≤ 256 ^ L.width → {b : List ℕ} {off : ℕ} → Swap (encode L t) b off (write_bits L n f) (write_bits L n f)
      → read_number 0 (take L.width (drop off img)) ≡ row_of n f
  number n f fit p = ap (read_number 0) (read p L.width (length_bits L n f)) ∙ read_number_lem L.width (row_of n f) [] (le_trans (row_of_lt n f) fit)

  -- the bytes of an AID in its place, and what follows it in a row
  bytes : (a : Aid) {b : List ℕ} {off : ℕ} → Swap (encode L t) b off (write_aid a) (write_aid a) → take (length a) (drop (off + 1) img) ≡ a
  bytes a p =
      let zeros = replicate {A = ℕ} (16 - length a) 0 in
      read (swap_head a a zeros (swap_skip (length a ∷ []) (a ++ zeros) (a ++ zeros) refl p)) (length a) refl

  rest : (a : Aid) → length a ≤ 16 → (s : List ℕ) {b : List ℕ} {off : ℕ} → Swap (encode L t) b off (write_aid a ++ s) (write_aid a ++ s)
      → (i : ℕ) → i < length s → get_or img (off + (17 + i)) 0 ≡ get_or s i 0
  rest a short s {off = off} p i lt =
      ap (λ (z : ℕ). get_or img z 0) (sym (add_assoc off 17 i))
      ∙ segment_byte img (off + 17) (length s) i 0 (read (swap_skip (write_aid a) s s (length_aid a short) p) (length s) refl) lt

  -- ---- the used package numbers
  pub used_number : read_number 0 (take L.width (drop (used_at L) img)) ≡ row_of L.packages t.used
  used_number = number L.packages t.used lo.packages_fit (swap_used L lo ey t h.room t.used)

  -- ---- an AID: its length, and its bytes
  module _ (k : ℕ) (p : k < L.packages) where
    pub aid_length : get_or img (aid_at L k) 0 ≡ length (t.aid k)
    aid_length = byte (swap_aid L lo ey t h.room k (t.aid k) p)

    pub aid_bytes_lem : take (length (t.aid k)) (drop (aid_at L k + 1) img) ≡ t.aid k
    aid_bytes_lem = bytes (t.aid k) (swap_aid L lo ey t h.room k (t.aid k) p)

    pub aid_slot : take 17 (drop (aid_at L k) img) ≡ write_aid (t.aid k)
    aid_slot = read (swap_aid L lo ey t h.room k (t.aid k) p) 17 (length_aid (t.aid k) (h.room.aid_short k))

  -- ---- the tokens of a service
  module _ (j k : ℕ) (p : j < L.packages) (q : k < L.services) where
    pub tok_itf : get_or img (tok_at L j k) 0 ≡ (t.tok j k).itf
    tok_itf = byte (swap_tok L lo ey t h.room j k (t.tok j k) p q)

    pub tok_mth : get_or img (tok_at L j k + 1) 0 ≡ (t.tok j k).mth
    tok_mth = let s = t.tok j k in byte (swap_skip (s.itf ∷ []) (s.mth ∷ []) (s.mth ∷ []) refl (swap_tok L lo ey t h.room j k s p q))

  -- ---- the provided services of a package
  pub provides_number : (j : ℕ) → j < L.packages → read_number 0 (take L.width (drop (prov_at L j) img)) ≡ row_of L.services (t.provides j)
  provides_number j p = number L.services (t.provides j) lo.services_fit (swap_row L lo ey t h.room j (t.provides j) p)

  -- ---- an entry of a table of bits
  pub entry_number : (tb : Table) (i j : ℕ) → i < L.packages → j < L.packages → read_number 0 (take L.width (drop (entry_at L tb i j) img)) ≡ row_of L.services (table_of tb t i j)
  entry_number tb i j p q = number L.services (table_of tb t i j) lo.services_fit (swap_entry L lo ey t h.room tb i j (table_of tb t i j) p q)

  -- ---- a list: the whole, its count, and its rows
  module _ (l : Kept) where
    pub list_is : take (1 + L.capacity * row_size L l) (drop (list_at L l) img) ≡ write_list L (write_item l) (row_size L l) (items_of l t)
    list_is = read (swap_list L lo ey t h.room l (items_of l t)) (1 + L.capacity * row_size L l) (items_length L ey l (items_of l t) (list_fits L t h.room l) (list_short L t h.room l))

    pub list_count : get_or img (list_at L l) 0 ≡ length (items_of l t)
    list_count = byte (swap_list L lo ey t h.room l (items_of l t))

    module _ (r : ℕ) (p : r < length (items_of l t)) where
      abbrev x : Item l
      x = item_at l t r

      abbrev tail : List ℕ
      tail = tail_of l (item_tok l x) (item_number l x)

      pub row_short : length (item_aid l (item_at l t r)) ≤ 16
      row_short = list_short L t h.room l x (in_row (items_of l t) r (item l [] no_tok 0) p)

      at_row : Swap (encode L t) (encode L (with_items l (items_of l t) t)) (place_at L l r) (write_item l x) (write_item l x)
      at_row = list_row L (write_item l) (row_size L l) (items_of l t) (λ y i. item_length L ey l y (list_short L t h.room l y i)) r (item l [] no_tok 0) p
          (swap_list L lo ey t h.room l (items_of l t))

      pub row_length : get_or img (place_at L l r) 0 ≡ length (item_aid l (item_at l t r))
      row_length = byte at_row

      pub row_bytes_lem : take (length (item_aid l (item_at l t r))) (drop (place_at L l r + 1) img) ≡ item_aid l (item_at l t r)
      row_bytes_lem = bytes (item_aid l x) (swap_head (write_aid (item_aid l x)) (write_aid (item_aid l x)) tail at_row)

      row_rest : (i : ℕ) → i < length tail → get_or img (place_at L l r + (17 + i)) 0 ≡ get_or tail i 0
      row_rest i = rest (item_aid l x) row_short tail at_row i

  module _ (r : ℕ) where
    pub row_itf : (l : Kept) → r < length (items_of l t) → get_or img (place_at L l r + tokens_in l) 0 ≡ (item_tok l (item_at l t r)).itf
    row_itf UnmetCalls p = row_rest UnmetCalls r p 0 (omega arith)
    row_itf WaitingGrants p = row_rest WaitingGrants r p 1 (omega arith)

    pub row_mth : (l : Kept) → r < length (items_of l t) → get_or img (place_at L l r + (tokens_in l + 1)) 0 ≡ (item_tok l (item_at l t r)).mth
    row_mth UnmetCalls p = row_rest UnmetCalls r p 1 (omega arith)
    row_mth WaitingGrants p = row_rest WaitingGrants r p 2 (omega arith)

    pub row_number : (l : Kept) → r < length (items_of l t) → get_or img (place_at L l r + number_in l) 0 ≡ item_number l (item_at l t r)
    row_number UnmetCalls p = row_rest UnmetCalls r p 2 (omega arith)
    row_number WaitingGrants p = row_rest WaitingGrants r p 0 (omega arith)
