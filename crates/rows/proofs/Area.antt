-- Laws of list areas: the bytes of rows one after the other, and what append, remove and drop leave.
use Prim.Native.Nat.{ℕ, zero, suc, ◌+◌, ◌-◌, ◌*◌, ◌≤◌, ◌<◌, ◌/◌, ◌%◌, ◌^◌}
use native.Mathlib.Nat.{zero-mul, suc-mul, sub-zero, zero-sub, suc-sub-suc, mul-le-mul_right, add-zero, zero-add}
use native.Mathlib.Numerals.{one-add, add-one}
use native.Mathlib.Omega.{arith}
use mathlib.Core.Path.{◌≡◌, refl, sym, ap, subst, ◌∙◌}
use mathlib.Core.Bool.{Bool, true, false, cond}
use mathlib.Core.List.{List, [], ◌∷◌, ◌++◌, append_assoc, append-nil}
use borrow.Author.Tests.{eq-eqb, ne_eqb}
use lib.ListN.{length, get_or, take, drop, replicate, set, length-append, length-drop, length-replicate, replicate-append-replicate}
use lib.Seq.{take_at, drop_at, drop-append-add, drop-append_seam, drop-drop, length-take-le, take-suc, take_all}
use Rattle.policy.specs.Lists.{flat}
use Rattle.policy.specs.Tables.{bit, pieces}
use Rattle.policy.proofs.Sets.{flat_append}
use Rattle.policy.proofs.Pieces.{length_pieces, piece_part, row_ends}
use Rattle.policy.proofs.Bits.{bit_none}
use Rattle.rows.specs.Area.{part, over, area_of, rows_in, IsArea, keep_from, keep_rows, appended, dropped}
use Rattle.rows.proofs.Over.{over_on, part_after, length_over, length_part, over_where_it_stands}

-- ---- rows one after the other
abbrev pub bytes : List (List ℕ) → List ℕ
bytes rs = flat (λ r. r) rs

-- every row has w bytes
abbrev pub Wide : ℕ → List (List ℕ) → Type 0
Wide w [] = Unit {0}
Wide w (r ∷ rs) = (length r ≡ w) × Wide w rs

pub bytes_length : (w : ℕ) (rs : List (List ℕ)) → Wide w rs → length (bytes rs) ≡ length rs * w
bytes_length w [] h = sym (zero-mul w)
bytes_length w (r ∷ rs) h = rw (length-append, suc-mul) (omega (arith, bytes_length w rs h.1, h.0))

wide_take : (w k : ℕ) (rs : List (List ℕ)) → Wide w rs → Wide w (take k rs)
wide_take w zero rs h = tt
wide_take w (suc k) [] h = tt
wide_take w (suc k) (r ∷ rs) h = (h.0, wide_take w k rs h.1)

-- ---- rows that an area holds
pieces_wide : (w n : ℕ) (l : List ℕ) → n * w ≤ length l → Wide w (pieces w n l)
pieces_wide w zero l h = tt
pieces_wide w (suc n) l h =
    let e : suc n * w ≡ n * w + w = suc-mul n w in
    (length-take-le w l (omega arith), pieces_wide w n (drop w l) (simp length-drop (omega arith)))

pieces_bytes : (w : ℕ) (rs : List (List ℕ)) (z : List ℕ) → Wide w rs → pieces w (length rs) (bytes rs ++ z) ≡ rs
pieces_bytes w [] z h = refl
pieces_bytes w (r ∷ rs) z h = rw (append_assoc, take_at r (bytes rs ++ z) w h.0, drop_at r (bytes rs ++ z) w h.0, pieces_bytes w rs z h.1)

pub area_count : (size : ℕ) (rs : List (List ℕ)) → get_or (area_of size rs) 0 0 ≡ length rs
unfolding area_of
area_count size rs = refl

pub area_length : (w size : ℕ) (rs : List (List ℕ)) → Wide w rs → 1 + length rs * w ≤ size → length (area_of size rs) ≡ size
unfolding area_of
area_length w size rs h k = simp (length-append, length-replicate) (omega (arith, bytes_length w rs h))

pub rows_area : (w size : ℕ) (rs : List (List ℕ)) → Wide w rs → rows_in w (area_of size rs) ≡ rs
unfolding rows_in area_of
rows_area w size rs h = pieces_bytes w rs (replicate (size - suc (length (bytes rs))) 0) h

-- rows that fit make an area
pub is_area : (w size : ℕ) (rs : List (List ℕ)) → Wide w rs → 1 + length rs * w ≤ size → IsArea w (area_of size rs)
is_area w size rs h k =
    let e : length (area_of size rs) ≡ size = area_length w size rs h k in
    record { fits = rw (area_count, e) k; is = rw (e, rows_area w size rs h) }

pub rows_length : (w : ℕ) (a : List ℕ) → length (rows_in w a) ≡ get_or a 0 0
unfolding rows_in
rows_length w a = length_pieces w (get_or a 0 0) (drop 1 a)

pub rows_wide : (w : ℕ) (a : List ℕ) → 1 + get_or a 0 0 * w ≤ length a → Wide w (rows_in w a)
unfolding rows_in
rows_wide w a h = pieces_wide w (get_or a 0 0) (drop 1 a) (rw length-drop (omega arith))

pub row_at : (w : ℕ) (a : List ℕ) (r : ℕ) → r < get_or a 0 0 → part (1 + r * w) w a ≡ get_or (rows_in w a) r []
unfolding rows_in
row_at w a r h = sym (piece_part w (get_or a 0 0) (drop 1 a) r h ∙ ap (take w) (drop-drop (r * w) 1 a))

-- ---- rows by a mask
module _ {A : Type 0} (mask : ℕ) where
  keep_append : (k i : ℕ) (l m : List A) → i ≡ k + length l → keep_from k mask (l ++ m) ≡ keep_from k mask l ++ keep_from i mask m
  keep_append k i [] m e = rw (e, add-zero)
  keep_append k i (x ∷ l) m e = go (bit mask k) (keep_from (suc k) mask l) (keep_from i mask m) (keep_from (suc k) mask (l ++ m)) (keep_append (suc k) i l m (omega arith))
    where
      go : (b : Bool) (xs ys zs : List A) → zs ≡ xs ++ ys → cond b zs (x ∷ zs) ≡ cond b xs (x ∷ xs) ++ ys
      go true xs ys zs e = e
      go false xs ys zs e = ap (λ (z : List A). x ∷ z) e

  -- one row more: it goes, or it stays
  keep_more : (r : ℕ) (l : List A) (d : A) → r < length l → keep_rows mask (take (r + 1) l) ≡ keep_rows mask (take r l) ++ cond (bit mask r) [] (get_or l r d ∷ [])
  keep_more r l d h =
      let e : r ≡ 0 + length (take r l) = rw (zero-add, length-take-le r l (omega arith)) refl in
      rw (add-one, take-suc l r d h) (keep_append 0 r (take r l) (get_or l r d ∷ []) e)

  pub kept_short : (k : ℕ) (l : List A) → length (keep_from k mask l) ≤ length l
  kept_short k [] = omega arith
  kept_short k (x ∷ l) = go (bit mask k) (keep_from (suc k) mask l) (kept_short (suc k) l)
    where
      go : (b : Bool) (xs : List A) → length xs ≤ length l → length (cond b xs (x ∷ xs)) ≤ suc (length l)
      go true xs h = omega arith
      go false xs h = omega arith

-- an empty mask takes nothing out
keep_none : {A : Type 0} (k : ℕ) (l : List A) → keep_from k 0 l ≡ l
keep_none k [] = refl
keep_none k (x ∷ l) = rw (bit_none k, keep_none (suc k) l)

wide_keep : (w mask k : ℕ) (rs : List (List ℕ)) → Wide w rs → Wide w (keep_from k mask rs)
wide_keep w mask k [] h = tt
wide_keep w mask k (r ∷ rs) h = go (bit mask k) (keep_from (suc k) mask rs) (wide_keep w mask (suc k) rs h.1)
  where
    go : (b : Bool) (ss : List (List ℕ)) → Wide w ss → Wide w (cond b ss (r ∷ ss))
    go true ss i = i
    go false ss i = (h.0, i)

-- ---- an area's bytes with other rows in place
drop_zeros : (k n : ℕ) → drop {A = ℕ} k (replicate n 0) ≡ replicate (n - k) 0
drop_zeros zero n = rw sub-zero
drop_zeros (suc k) zero = rw zero-sub
drop_zeros (suc k) (suc n) = rw suc-sub-suc (drop_zeros k n)

-- bytes over a first part f, with m zeros after them that reach d bytes past it
filled : (n k z m d : ℕ) (f g : List ℕ) → length g + m ≡ length f + d
    → set (over 1 (g ++ replicate m 0) (n ∷ (f ++ replicate z 0))) 0 k ≡ k ∷ (g ++ replicate (m + (z - d)) 0)
filled n k z m d f g e =
    rw (one-add, length-append, length-replicate, e, drop-append-add, drop_zeros, append_assoc, replicate-append-replicate)

module _ (w : ℕ) (a : List ℕ) (h : IsArea w a) where
  abbrev n : ℕ
  n = get_or a 0 0

  abbrev rs : List (List ℕ)
  rs = rows_in w a

  abbrev z : ℕ
  z = length a - suc (length (bytes rs))

  wide : Wide w rs
  wide = rows_wide w a h.fits

  rs_bytes : length (bytes rs) ≡ n * w
  rs_bytes = bytes_length w rs wide ∙ rw rows_length

  tail : a ≡ length rs ∷ (bytes rs ++ replicate z 0)
  unfolding area_of
  tail = h.is

  -- the new rows stand in front, zeros up to where the old ones ended or further, and the new count
  settled : (new : List (List ℕ)) (m : ℕ) → length (bytes rs) ≤ length (bytes new) + m → length (bytes new) + m < length a
      → set (over 1 (bytes new ++ replicate m 0) a) 0 (length new) ≡ area_of (length a) new
  unfolding area_of
  settled new m l k =
      let d : ℕ = length (bytes new) + m - length (bytes rs) in
      let e : m + (z - d) ≡ length a - suc (length (bytes new)) = omega arith in
      ap (λ (x : List ℕ). set (over 1 (bytes new ++ replicate m 0) x) 0 (length new)) tail
      ∙ filled (length rs) (length new) z m d (bytes rs) (bytes new) (omega arith)
      ∙ ap (λ (x : ℕ). length new ∷ (bytes new ++ replicate x 0)) e

  -- rows in front of the area's bytes, then zeros from there up to where the old rows ended
  settle : (new : List (List ℕ)) (to m k : ℕ) (b : List ℕ) → to ≡ 1 + length (bytes new) → to + m ≡ 1 + n * w → k ≡ length new → b ≡ over 1 (bytes new) a
      → set (over to (replicate m 0) b) 0 k ≡ area_of (length a) new
  settle new to m k b et em ek eb =
      rw (ek, eb, over_on 1 (bytes new) a (omega (arith, h.fits)) to (replicate m 0) et) (settled new m (omega (arith, rs_bytes)) (omega (arith, h.fits)))

  -- rows by a mask: none goes, or those that stay are moved up and what follows them is zeroed
  module _ (mask : ℕ) where
    pub drop_none : mask ≡ 0 → a ≡ dropped w mask a
    drop_none e = h.is ∙ sym (rw (e, keep_none))

    module _ (k : ℕ) (e : k ≡ length (keep_rows mask rs)) where
      pub kept_fits : 1 + k * w ≤ 1 + n * w
      kept_fits = omega (arith, mul-le-mul_right {m = k} {n = n} w (omega (arith, kept_short mask 0 rs, rows_length w a)))

      pub drop_is : (b : List ℕ) → b ≡ over 1 (bytes (keep_rows mask rs)) a → set (over (1 + k * w) (replicate (1 + n * w - (1 + k * w)) 0) b) 0 k ≡ dropped w mask a
      drop_is b eb =
          let el : length (bytes (keep_rows mask rs)) ≡ k * w = bytes_length w (keep_rows mask rs) (wide_keep w mask 0 rs wide) ∙ rw e in
          settle (keep_rows mask rs) (1 + k * w) (1 + n * w - (1 + k * w)) k b (omega (arith, el)) (omega (arith, kept_fits)) e eb

  -- the first rows are in place
  in_place : (p q : List ℕ) → bytes rs ≡ p ++ q → over 1 p a ≡ a
  in_place p q e =
      let f : a ≡ length rs ∷ (p ++ (q ++ replicate z 0)) = tail ∙ rw (e, append_assoc) in
      rw f (rw (one-add, drop-append_seam))

  -- a row put after the last one
  pub append_is : (row : List ℕ) → length row ≡ w → 1 + n * w + w ≤ length a → set (over (1 + n * w) row a) 0 (n + 1) ≡ appended w row a
  append_is row e room =
      let new : List (List ℕ) = rs ++ (row ∷ []) in
      let eb : bytes new ≡ bytes rs ++ row = rw (flat_append, append-nil) in
      let el : length (bytes new) ≡ length (bytes rs) + length row = rw eb (length-append (bytes rs) row) in
      let ec : n + 1 ≡ length new = sym (length-append rs (row ∷ []) ∙ rw rows_length) in
      let es : 1 + n * w ≡ 1 + length (bytes rs) = rw rs_bytes in
      let eo : over (1 + n * w) row a ≡ over 1 (bytes new ++ replicate 0 0) a =
      ap (over (1 + n * w) row) (sym (in_place (bytes rs) [] (sym (append-nil (bytes rs)))))
      ∙ over_on 1 (bytes rs) a (omega (arith, h.fits)) (1 + n * w) row es
      ∙ rw (append-nil, eb) in
      rw (eo, ec) (settled new 0 (omega (arith, el)) (omega (arith, el, rs_bytes)))

-- ---- rows closed up by a mask: r rows of the area are done, and k of them are kept
pub record Closed (w mask : ℕ) (a b : List ℕ) (k r : ℕ) : Type 0 where
  pub area : IsArea w a
  pub within : r ≤ get_or a 0 0
  pub few : k ≤ r
  pub count : k ≡ length (keep_rows mask (take r (rows_in w a)))
  pub same : length b ≡ length a
  pub is : b ≡ over 1 (bytes (keep_rows mask (take r (rows_in w a)))) a

pub closed_none : (w mask : ℕ) (a : List ℕ) → IsArea w a → Closed w mask a a 0 0
closed_none w mask a h =
    record { area = h; within = omega arith; few = omega arith; count = refl; same = refl; is = sym (in_place w a h [] (bytes (rows_in w a)) refl) }

module _ {w mask : ℕ} {a b : List ℕ} {k r : ℕ} (c : Closed w mask a b k r) where
  abbrev all : List (List ℕ)
  all = rows_in w a

  abbrev kept : List (List ℕ)
  kept = keep_rows mask (take r all)

  kept_bytes_lem : length (bytes kept) ≡ k * w
  kept_bytes_lem = bytes_length w kept (wide_keep w mask 0 (take r all) (wide_take w r all (wide w a c.area))) ∙ rw c.count

  pub kept_within : r < get_or a 0 0 → (1 + k * w ≤ 1 + r * w) × (1 + r * w + w ≤ length a)
  kept_within lt = (omega (arith, mul-le-mul_right {m = k} {n = r} w c.few), omega (arith, row_ends r (get_or a 0 0) w lt, c.area.fits))

  -- row r goes
  pub closed_skip : r < get_or a 0 0 → mask / 2 ^ r % 2 ≡ 1 → Closed w mask a b k (r + 1)
  unfolding bit
  closed_skip lt odd =
      let e : bit mask r ≡ true = eq-eqb (mask / 2 ^ r % 2) 1 odd in
      let em : keep_rows mask (take (r + 1) all) ≡ kept = keep_more mask r all [] (rw rows_length lt) ∙ rw (e, append-nil) in
      record { area = c.area; within = omega arith; few = omega arith; count = rw em c.count; same = c.same; is = rw em c.is }

  -- row r stays
  pub closed_keep : r < get_or a 0 0 → (mask / 2 ^ r % 2 ≡ 1 → ⊥) → Closed w mask a (over (1 + k * w) (part (1 + r * w) w b) b) (k + 1) (r + 1)
  unfolding bit
  closed_keep lt even =
      let e : bit mask r ≡ false = ne_eqb (mask / 2 ^ r % 2) 1 even in
      let em : keep_rows mask (take (r + 1) all) ≡ kept ++ (get_or all r [] ∷ []) = keep_more mask r all [] (rw rows_length lt) ∙ rw e in
      let i = kept_within lt in
      let ek : 1 + k * w ≡ 1 + length (bytes kept) = rw kept_bytes_lem in
      let room : 1 + length (bytes kept) ≤ length a = omega (arith, kept_bytes_lem) in
      let ep : part (1 + r * w) w b ≡ get_or all r [] =
      ap (part (1 + r * w) w) c.is ∙ part_after 1 (bytes kept) a room (1 + r * w) w (omega (arith, kept_bytes_lem)) ∙ row_at w a r lt in
      let eo : over (1 + k * w) (part (1 + r * w) w b) b ≡ over 1 (bytes (keep_rows mask (take (r + 1) all))) a =
      ap (λ (x : List ℕ). over (1 + k * w) x b) ep ∙ ap (over (1 + k * w) (get_or all r [])) c.is
      ∙ over_on 1 (bytes kept) a room (1 + k * w) (get_or all r []) ek ∙ rw (em, flat_append, append-nil) in
      record {
        area = c.area;
        within = omega arith;
        few = omega arith;
        count = rw (em, length-append) (omega (arith, c.count));
        same = length_over (1 + k * w) (part (1 + r * w) w b) b (omega (arith, length_part (1 + r * w) w b (omega arith)))
            ∙ c.same;
        is = eo;
      }

  -- and stands in its place
  pub closed_stay : r < get_or a 0 0 → (mask / 2 ^ r % 2 ≡ 1 → ⊥) → r ≤ k → Closed w mask a b (k + 1) (r + 1)
  closed_stay lt even h =
      let e : k ≡ r = omega (arith, c.few) in
      let q : 1 + k * w ≡ 1 + r * w = ap (λ (x : ℕ). 1 + x * w) e in
      subst (λ (x : List ℕ). Closed w mask a x (k + 1) (r + 1)) (sym (over_where_it_stands b (1 + k * w) (1 + r * w) w (omega (arith, kept_within lt, c.same)) q)) (closed_keep lt even)

  pub closed_all : get_or a 0 0 ≤ r → (k ≡ length (keep_rows mask all)) × (b ≡ over 1 (bytes (keep_rows mask all)) a)
  closed_all h =
      let e : take r all ≡ all = take_all r all (rw rows_length h) in
      (rw e at c.count, rw e at c.is)
