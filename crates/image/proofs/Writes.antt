-- What writing code leaves, as tables.
use Prim.Native.Nat.{ℕ, ◌+◌, ◌-◌, ◌^◌, ◌≤◌, ◌<◌}
use native.Mathlib.Omega.{arith}
use native.Mathlib.Nat.{not-le_of_lt}
use mathlib.Core.Path.{◌≡◌, refl, sym, ap, ap₂, ◌∙◌, subst}
use mathlib.Core.Bool.{Bool, cond}
use mathlib.Core.List.{List, [], ◌∷◌, ◌++◌}
use lib.Dec.{eqb}
use lib.ListN.{length, set, take, drop, replicate, length-append}
use Rattle.policy.specs.Contract.{Aid, Tok}
use Rattle.policy.specs.Layout.{Layout, used_at, size}
use Rattle.policy.specs.Tables.{Tables, bit, row_of, read_number, write_number, write_bits, write_aid, write_tok, decode}
use Rattle.policy.specs.Draft.{put, put2, put3}
use Rattle.policy.proofs.Sets.{T_false}
use Rattle.policy.proofs.Pieces.{length_aid}
use Rattle.rows.specs.Area.{over, HasRoom, appended}
use Rattle.rows.proofs.Over.{lent, over_on, part_at_lem, length_over}
use Rattle.policy.proofs.Bits.{row_of_lt}
use Rattle.geometry.specs.declared.Card.{Card}
use Rattle.geometry.specs.declared.Table.{Table}
use Rattle.geometry.specs.declared.Kept.{Kept}
use Rattle.geometry.specs.declared.Kept.TheVariants.{UnmetCalls, WaitingGrants}
use Rattle.geometry.specs.Geometry.{layout_of, aid_at, tok_at, prov_at, entry_at, list_at, list_end, row_size}
use Rattle.geometry.proofs.Bounds.{layout_ok, early, limits, services_row, tok_len, geo}
use Rattle.image.specs.Read.{Item, items_of, item, item_aid, tail_of, write_item}
use Rattle.image.specs.Laid.{table_of, Laid, with_used, with_aid, with_tok, with_provides, with_table, with_entry, with_items}
use Rattle.image.specs.Wrote.{Wrote}
use Rattle.image.proofs.Laid.{laid_length, entry_in}
use Rattle.image.proofs.Places.{list_fits, list_short, tail_length, item_length}
use Rattle.image.proofs.Access.{entry_number, list_is}
use Rattle.image.proofs.Replace.{Holds, laid_holds, holds_laid, holds_decode, holds_used, holds_aid, holds_tok, holds_provides, holds_entry, holds_list}
use Rattle.image.proofs.Lent.{Rows, rows_room, rows_appended}
use Rattle.image.proofs.Over.{over_byte, over_row, entry_put3, row_put2}
use Rattle.image.proofs.RowBits.{row_bits, bit_in, Ends, ends_in, put_ends, put_is, put_lt, put_bits, bit_set, bit_clear}

-- ---- bytes put one after another
two_bytes : (at x y : ℕ) (img : List ℕ) → at + 2 ≤ length img → set (set img at x) (at + 1) y ≡ over at (x ∷ y ∷ []) img
two_bytes at x y img h =
    ap (λ (z : List ℕ). set z (at + 1) y) (over_byte at x img (omega arith))
    ∙ over_byte (at + 1) y (over at (x ∷ []) img) (rw (length_over at (x ∷ []) img (omega arith)) (omega arith))
    ∙ over_on at (x ∷ []) img (omega arith) (at + 1) (y ∷ []) refl

-- an AID's place: its length, its bytes, zeros
pub slot_made : (at : ℕ) (a img : List ℕ) → length a ≤ 16 → at + 17 ≤ length img
    → over (at + 1 + length a) (replicate (16 - length a) 0) (over (at + 1) a (set img at (length a))) ≡ over at (write_aid a) img
slot_made at a img s h =
    let n = length a in
    let e : set img at n ≡ over at (n ∷ []) img = over_byte at n img (omega arith) in
    let q : over (at + 1) a (over at (n ∷ []) img) ≡ over at (n ∷ a) img = over_on at (n ∷ []) img (omega arith) (at + 1) a refl in
    ap (λ (z : List ℕ). over (at + 1 + n) (replicate (16 - n) 0) (over (at + 1) a z)) e
    ∙ ap (over (at + 1 + n) (replicate (16 - n) 0)) q
    ∙ over_on at (n ∷ a) img (omega arith) (at + 1 + n) (replicate (16 - n) 0) (omega arith)

-- the same of no AID, as a write to a part leaves it
pub slot_cleared : (at : ℕ) (img : List ℕ) {z : List ℕ} → z ≡ replicate (length z) 0 → length z ≡ at + 17 - at
    → take at img ++ (z ++ drop (at + 17 - at) (drop at img)) ≡ over at (write_aid []) img
slot_cleared at img {z} q e =
    let w : at + 17 - at ≡ 17 = omega arith in
    lent at (at + 17 - at) z img e ∙ ap (λ (y : List ℕ). over at y img) (q ∙ ap (λ (k : ℕ). replicate k 0) (e ∙ w))

-- a row: an AID's place, and what follows it
pub row_wide : (a tail : List ℕ) → length a ≤ 16 → length (write_aid a ++ tail) ≡ 17 + length tail
row_wide a tail s = length-append (write_aid a) tail ∙ ap (λ (z : ℕ). z + length tail) (length_aid a s)

pub row_made : (a tail zeros : List ℕ) → length a ≤ 16 → 17 + length tail ≤ length zeros → take (17 + length tail) (over 17 tail (over 0 (write_aid a) zeros)) ≡ write_aid a ++ tail
row_made a tail zeros s h =
    let e : length (write_aid a) ≡ 17 = length_aid a s in
    let q : length (write_aid a ++ tail) ≡ 17 + length tail = row_wide a tail s in
    ap (take (17 + length tail)) (over_on 0 (write_aid a) zeros (omega arith) 17 tail (omega arith)) ∙ part_at_lem 0 (write_aid a ++ tail) zeros (omega arith) (17 + length tail) q

-- a row of bits put at a place of an image
abbrev Put : Layout → List ℕ → List ℕ → ℕ → ℕ → Type 0
Put L img img' at row = img' ≡ take at img ++ write_number L.width row (drop (at + L.width) img)

-- an item's AID, and its row
item_aid_lem : (l : Kept) (a : Aid) (s : Tok) (n : ℕ) → item_aid l (item l a s n) ≡ a
item_aid_lem UnmetCalls a s n = refl
item_aid_lem WaitingGrants a s n = refl

pub tail_three : (l : Kept) (s : Tok) (n : ℕ) {tail : List ℕ} → tail ≡ tail_of l s n → 3 ≡ length tail
tail_three UnmetCalls s n e = sym (ap length e)
tail_three WaitingGrants s n e = sym (ap length e)

-- the same, as writes to parts leave it
pub row_put : (a tail zeros : List ℕ) {row x : List ℕ} → length a ≤ 16 → 17 + length tail ≤ length zeros → row ≡ over 0 (write_aid a) zeros → x ≡ tail
    → take (17 + length tail) (take 17 row ++ (x ++ drop (17 + length tail - 17) (drop 17 row))) ≡ write_aid a ++ tail
row_put a tail zeros {row} {x} s h e p =
    let l : length x ≡ 17 + length tail - 17 = ap length p ∙ omega arith in
    ap (take (17 + length tail)) (lent 17 (17 + length tail - 17) x row l ∙ ap₂ (over 17) p e) ∙ row_made a tail zeros s h

item_row_lem : (l : Kept) (a : Aid) (s : Tok) (n : ℕ) → write_item l (item l a s n) ≡ write_aid a ++ tail_of l s n
item_row_lem UnmetCalls a s n = refl
item_row_lem WaitingGrants a s n = refl

module _ (c : Card) where
  abbrev L : Layout
  L = layout_of c

  pub laid_len : {img : List ℕ} → Laid L img → length img ≡ size L
  laid_len h = laid_length L (layout_ok c) h

  pub holds_wrote : {img : List ℕ} {t : Tables} → Holds L img t → Wrote L img t
  holds_wrote h = record { laid = holds_laid L (layout_ok c) (early c) h; tables = holds_decode L (layout_ok c) (early c) h }

  -- the image that code leaves, and the one of a law
  wrote_as : {img img' : List ℕ} {t : Tables} → img' ≡ img → Holds L img t → Wrote L img' t
  wrote_as {t = t} e h = subst (λ (z : List ℕ). Wrote L z t) (sym e) (holds_wrote h)

  module _ {img : List ℕ} (h : Laid L img) where
    abbrev t : Tables
    t = decode L img

    -- ---- a row of bits
    put_over : (img' : List ℕ) (n at place row : ℕ) (f : ℕ → Bool) → row ≡ row_of n f → at ≡ place → Put L img img' at row → img' ≡ over place (write_bits L n f) img
    put_over img' n at place row f r a e =
        e ∙ ap (λ (z : ℕ). take z img ++ write_number L.width row (drop (z + L.width) img)) a ∙ over_row L n f place row img r

    pub used_wrote : {img' : List ℕ} (row : ℕ) → row < 2 ^ L.packages → Put L img img' 3 row → Wrote L img' (with_used (bit row) t)
    used_wrote {img'} row r e =
        wrote_as (put_over img' L.packages 3 (used_at L) row (bit row) (row_bits L.packages row r) refl e)
        (holds_used L (layout_ok c) (early c) (laid_holds L h) (bit row) (bit_in L.packages row r))

    pub provides_wrote : {img' : List ℕ} (j row at : ℕ) → j < L.packages → row < 2 ^ L.services → at ≡ prov_at L j → Put L img img' at row → Wrote L img' (with_provides j (bit row) t)
    provides_wrote {img'} j row at p r a e =
        wrote_as (put_over img' L.services at (prov_at L j) row (bit row) (row_bits L.services row r) a e)
        (holds_provides L (layout_ok c) (early c) (laid_holds L h) j (bit row) p (bit_in L.services row r))

    -- ---- tokens
    pub tok_wrote : (j k at : ℕ) (s : Tok) → j < L.packages → k < L.services → at ≡ tok_at L j k → Wrote L (set (set img at s.itf) (at + 1) s.mth) (with_tok j k s t)
    tok_wrote j k at s p q a =
        wrote_as (two_bytes at s.itf s.mth img (tok_len c j k (length img) at (laid_len h) a p q) ∙ ap (λ (z : ℕ). over z (write_tok s) img) a)
        (holds_tok L (layout_ok c) (early c) (laid_holds L h) j k s p q)

    -- ---- an AID
    pub aid_wrote : {img' : List ℕ} (n at : ℕ) (a : Aid) → n < L.packages → length a ≤ 16 → at ≡ aid_at L n → img' ≡ over at (write_aid a) img → Wrote L img' (with_aid n a t)
    aid_wrote n at a p s q e = wrote_as (e ∙ ap (λ (z : ℕ). over z (write_aid a) img) q) (holds_aid L (layout_ok c) (early c) (laid_holds L h) n a p s)

    -- ---- a list
    pub items : (l : Kept) → Rows L img (write_item l) (row_size L l) (list_at L l) (item_aid l) (items_of l t) (λ m. with_items l m t)
    items l = record {
      wide = item_length L (early c) l;
      is = list_is L (layout_ok c) (early c) h l;
      few = list_fits L t h.room l;
      short = list_short L t h.room l;
      wrote = λ m p q. holds_wrote (holds_list L (layout_ok c) (early c) (laid_holds L h) l m p q);
    }

    -- a row of it appended, whose bytes are an AID's place and a tail
    module _ (l : Kept) (a : Aid) (s : Tok) (n : ℕ) (short : length a ≤ 16) (few : length (items_of l (decode (layout_of c) img)) < (layout_of c).capacity)
        (tail : List ℕ) (e : tail ≡ tail_of l s n) (at end : ℕ) (p : at ≡ list_at (layout_of c) l) (q : end ≡ list_end (layout_of c) l) where
      abbrev x : Item l
      x = item l a s n

      width : 17 + length tail ≡ row_size L l
      width = ap (λ (z : List ℕ). 17 + length z) e ∙ tail_length L (early c) l s n

      bytes : write_aid a ++ tail ≡ write_item l x
      bytes = ap (λ (z : List ℕ). write_aid a ++ z) e ∙ sym (item_row_lem l a s n)

      short_item : length (item_aid l x) ≤ 16
      short_item = subst (λ (z : Aid). length z ≤ 16) (sym (item_aid_lem l a s n)) short

      pub row_room : HasRoom (17 + length tail) (write_aid a ++ tail) (take (end - at) (drop at img))
      row_room =
          subst (λ (z : ℕ). HasRoom z (write_aid a ++ tail) (take (end - at) (drop at img))) (sym width)
          (subst (λ (z : List ℕ). HasRoom (row_size L l) z (take (end - at) (drop at img))) (sym bytes) (rows_room c (items l) at (end - at) p (omega arith) x short_item few))

      pub row_appended : {new : List ℕ} → new ≡ appended (17 + length tail) (write_aid a ++ tail) (take (end - at) (drop at img))
          → Wrote (layout_of c) (take at img ++ (new ++ drop (end - at) (drop at img))) (with_items l (items_of l (decode (layout_of c) img) ++ (item l a s n ∷ [])) (decode (layout_of c) img))
      row_appended r = rows_appended c (items l) at (end - at) p (omega arith) x short_item few (r ∙ λ i. appended (width i) (bytes i) (take (end - at) (drop at img)))

    -- ---- an entry of a table
    module _ (tb : Table) (i j at : ℕ) (p : i < L.packages) (q : j < L.packages) (a : at ≡ entry_at L tb i j) where
      pub entry_wrote : {img' : List ℕ} (row : ℕ) → row < 2 ^ L.services → Put L img img' at row → Wrote L img' (with_entry tb i j (bit row) t)
      entry_wrote {img'} row r e =
          wrote_as (put_over img' L.services at (entry_at L tb i j) row (bit row) (row_bits L.services row r) a e)
          (holds_entry L (layout_ok c) (early c) (laid_holds L h) tb i j (bit row) p q (bit_in L.services row r))

      -- bit k of it changed to v, as `bits` changes it
      module _ (k : ℕ) (l : k < L.services) (v : Bool) (row : ℕ) (is : row ≡ read_number 0 (take L.width (drop at img))) (row' : ℕ) (g : ℕ → Bool) (e : row' ≡ row_of 16 g)
          (u : g ≡ put k v (bit row)) where
        abbrev f : ℕ → Bool
        f = table_of tb t i j

        ends : Ends L.services f
        ends z s = T_false (f z) (λ b. not-le_of_lt (entry_in L t h.room tb i j z b).2 s)

        bit_row_lem : row' ≡ row_of L.services (put k v f)
        bit_row_lem =
            put_is L.services f ends k l v (limits c).services_low row
            (is ∙ ap (λ (z : ℕ). read_number 0 (take L.width (drop z img))) a ∙ entry_number L (layout_ok c) (early c) h tb i j p q) row' g e u

        pub bit_fits : row' < 256 ^ L.width
        bit_fits = services_row c row' (subst (λ (x : ℕ). x < 2 ^ L.services) (sym bit_row_lem) (row_of_lt L.services (put k v f)))

        pub bit_wrote : {img' : List ℕ} → Put L img img' at row' → Wrote L img' (with_table tb (put3 i j k v (table_of tb t)) t)
        bit_wrote {img'} w =
            subst (λ (b : ℕ → ℕ → ℕ → Bool). Wrote L img' (with_table tb b t)) (entry_put3 i j k v (table_of tb t))
            (wrote_as (put_over img' L.services at (entry_at L tb i j) row' (put k v f) bit_row_lem a w)
            (holds_entry L (layout_ok c) (early c) (laid_holds L h) tb i j (put k v f) p q (ends_in L.services (put k v f) (put_ends L.services f ends k l v))))

    -- ---- the other rows of bits with one bit changed: what callers of `set_used` and `set_provided` have
    module _ (k : ℕ) (v : Bool) (row row' : ℕ) (g : ℕ → Bool) (e : row' ≡ row_of 16 g) (u : g ≡ put k v (bit row)) where
      pub used_put : k < L.packages → row ≡ row_of L.packages t.used → (row' < 2 ^ L.packages) × (bit row' ≡ put k v t.used)
      used_put l is =
          let ends : Ends L.packages t.used = λ z s. T_false (t.used z) (λ b. not-le_of_lt (h.room.used_in z b) s) in
          let low = (limits c).packages_low in
          (put_lt L.packages t.used ends k l v low row is row' g e u, put_bits L.packages t.used ends k l v low row is row' g e u)

      pub provides_put : (j : ℕ) → k < L.services → row ≡ row_of L.services (t.provides j)
          → (row' < 2 ^ L.services) × ((λ (x y : ℕ). cond (eqb x j) (bit row' y) (t.provides x y)) ≡ put2 j k v t.provides)
      provides_put j l is =
          let ends : Ends L.services (t.provides j) = λ z s. T_false (t.provides j z) (λ b. not-le_of_lt (h.room.provides_in j z b).1 s) in
          let low = (limits c).services_low in
          let same = put_bits L.services (t.provides j) ends k l v low row is row' g e u in
          (put_lt L.services (t.provides j) ends k l v low row is row' g e u, (λ r x y. cond (eqb x j) (same r y) (t.provides x y)) ∙ row_put2 j k v t.provides)

-- what writing code leaves: `search writes` at each need
pub ruleset writes = (laid_len, used_wrote, provides_wrote, tok_wrote, aid_wrote, entry_wrote, bit_set, bit_clear, bit_fits, bit_wrote, geo)
