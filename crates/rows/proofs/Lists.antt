-- A list as `write_list` writes it is an area of the rows of its elements; what appending and dropping rows makes of it.
use Prim.Native.Nat.{ℕ, suc, ◌+◌, ◌-◌, ◌*◌, ◌≤◌, ◌<◌}
use native.Mathlib.Nat.{add-mul, add-sub_of_le, mul-le-mul_right}
use native.Mathlib.Omega.{arith}
use mathlib.Core.Path.{◌≡◌, refl, sym, ap, ◌∙◌}
use mathlib.Core.Logic.{◌⊎◌, inl, inr}
use mathlib.Core.Bool.{Bool, true, false, cond}
use mathlib.Core.List.{List, [], ◌∷◌, ◌++◌, map, map-append}
use mathlib.Core.List.Memᴰ.{cases_cons as in_cons}
use mathlib.Core.List.Memᴰ.{head as here}
use mathlib.Core.List.Memᴰ.{tail as there}
use mathlib.Core.List.{Memᴰ as In}
use lib.ListN.{length, get_or, length-append, length-map}
use Rattle.policy.specs.Lists.{flat}
use Rattle.policy.specs.Layout.{Layout}
use Rattle.policy.specs.Tables.{bit, write_list}
use Rattle.policy.proofs.Sets.{each_snoc, flat_map}
use Rattle.policy.proofs.Pieces.{length_flat, length_list, row_ends}
use Rattle.rows.specs.Area.{area_of, rows_in, IsArea, HasRoom, keep_from, keep_rows, appended, dropped}
use Rattle.rows.proofs.Area.{Wide, kept_short, is_area, rows_area}

module _ {A : Type 0} (f : A → List ℕ) where
  wide_map : (w : ℕ) (l : List A) → ((x : A) → In x l → length (f x) ≡ w) → Wide w (map f l)
  wide_map w [] h = tt
  wide_map w (x ∷ l) h = (h x (here refl), wide_map w l (λ y m. h y (there m)))

-- ---- rows by a mask
module _ {A : Type 0} (mask : ℕ) where
  pub kept_in : (k : ℕ) (l : List A) {x : A} → In x (keep_from k mask l) → In x l
  kept_in k [] {x = x} m = elim m [ ]
  kept_in k (y ∷ l) {x} m = go (bit mask k) (λ i. kept_in (suc k) l i) m
    where
      old : (In x (keep_from (suc k) mask l) → In x l) → (x ≡ y) ⊎ In x (keep_from (suc k) mask l) → In x (y ∷ l)
      old f (inl e) = here e
      old f (inr i) = there (f i)

      go : (b : Bool) → (In x (keep_from (suc k) mask l) → In x l) → In x (cond b (keep_from (suc k) mask l) (y ∷ keep_from (suc k) mask l)) → In x (y ∷ l)
      go true f i = there (f i)
      go false f i = old f (in_cons i)

  kept_map : (f : A → List ℕ) (k : ℕ) (l : List A) → keep_from k mask (map f l) ≡ map f (keep_from k mask l)
  kept_map f k [] = refl
  kept_map f k (y ∷ l) = go (bit mask k) (kept_map f (suc k) l)
    where
      go : (b : Bool) → keep_from (suc k) mask (map f l) ≡ map f (keep_from (suc k) mask l)
          → cond b (keep_from (suc k) mask (map f l)) (f y ∷ keep_from (suc k) mask (map f l)) ≡ map f (cond b (keep_from (suc k) mask l) (y ∷ keep_from (suc k) mask l))
      go true e = e
      go false e = ap (λ (z : List (List ℕ)). f y ∷ z) e

-- ---- an area that holds the rows of a list
module _ (L : Layout) {A : Type 0} (f : A → List ℕ) (w : ℕ) where
  abbrev size : ℕ
  size = 1 + L.capacity * w

  module _ (l : List A) (wide : (x : A) → In x l → length (f x) ≡ w) (few : length l ≤ L.capacity) where
    fits : 1 + length (map f l) * w ≤ size
    fits = rw length-map (omega (arith, mul-le-mul_right {m = length l} {n = L.capacity} w few))

    pub list_area : write_list L f w l ≡ area_of size (map f l)
    unfolding area_of
    list_area =
        let e : length l * w + (L.capacity - length l) * w ≡ L.capacity * w = sym (add-mul (length l) (L.capacity - length l) w) ∙ ap (λ (z : ℕ). z * w) (add-sub_of_le few) in
        let b : length (flat f l) ≡ length l * w = length_flat f w l wide in
        let z : (L.capacity - length l) * w ≡ size - suc (length (flat f l)) = omega arith in
        rw (z, length-map, flat_map)

    list_rows : rows_in w (write_list L f w l) ≡ map f l
    list_rows = ap (rows_in w) list_area ∙ rows_area w size (map f l) (wide_map f w l wide)

  module _ (l : List A) (wide : (x : A) → In x l → length (f x) ≡ w) (few : length l ≤ L.capacity) (a : List ℕ) (is : a ≡ write_list L f w l) where
    pub list_is : IsArea w a
    list_is = rw (is, list_area l wide few) (is_area w size (map f l) (wide_map f w l wide) (fits l wide few))

    pub list_count : get_or a 0 0 ≡ length l
    list_count = rw is

    rows_are : rows_in w a ≡ map f l
    rows_are = rw is (list_rows l wide few)

    -- the area with other rows
    written : (rs : List (List ℕ)) (m : List A) → ((x : A) → In x m → length (f x) ≡ w) → length m ≤ L.capacity → rs ≡ map f m → area_of (length a) rs ≡ write_list L f w m
    written rs m h k e = rw (is, length_list L f w l wide few, e) (sym (list_area m h k))

    -- one element more
    module _ (x : A) (is_wide : length (f x) ≡ w) (room : length l < L.capacity) where
      pub list_room : length l < 255 → HasRoom w (f x) a
      list_room lt =
          record {
            area = list_is;
            wide = is_wide;
            below = rw list_count lt;
            room = rw (list_count, is, length_list L f w l wide few) (omega (arith, row_ends (length l) L.capacity w room));
          }

      pub list_append : appended w (f x) a ≡ write_list L f w (l ++ (x ∷ []))
      list_append =
          written (rows_in w a ++ (f x ∷ [])) (l ++ (x ∷ [])) (each_snoc {P = λ y. length (f y) ≡ w} l x wide is_wide) (rw length-append (omega arith))
          (rw rows_are (sym (map-append f l (x ∷ []))))

    -- those that a mask leaves
    pub list_drop : (mask : ℕ) → dropped w mask a ≡ write_list L f w (keep_rows mask l)
    list_drop mask =
        written (keep_rows mask (rows_in w a)) (keep_rows mask l) (λ x m. wide x (kept_in mask 0 l m)) (omega (arith, kept_short mask 0 l)) (rw rows_are (kept_map mask f 0 l))
