-- A list of an image, lent as a part: rows dropped by a mask, and a row appended.
use Prim.Native.Nat.{ℕ, ◌+◌, ◌*◌, ◌≤◌, ◌<◌}
use native.Mathlib.Omega.{arith}
use mathlib.Core.Path.{◌≡◌, sym, ap, ap₂, ◌∙◌, subst}
use mathlib.Core.List.{List, [], ◌∷◌, ◌++◌}
use mathlib.Core.List.{Memᴰ as In}
use lib.ListN.{length, get_or, take, drop, length-append}
use Rattle.policy.specs.Contract.{Aid}
use Rattle.policy.specs.Layout.{Layout}
use Rattle.policy.specs.Tables.{Tables, write_list}
use Rattle.rows.specs.Area.{over, IsArea, HasRoom, keep_rows, appended, dropped}
use Rattle.policy.proofs.Sets.{each_snoc}
use Rattle.policy.proofs.Pieces.{length_list}
use Rattle.rows.proofs.Area.{kept_short}
use Rattle.rows.proofs.Lists.{kept_in, list_is, list_count, list_room, list_append, list_drop}
use Rattle.rows.proofs.Over.{lent}
use Rattle.geometry.specs.declared.Card.{Card}
use Rattle.geometry.specs.Geometry.{layout_of}
use Rattle.geometry.proofs.Bounds.{limits}
use Rattle.image.specs.Wrote.{Wrote}

fits_more : {A : Type 0} (l : List A) (x : A) {n : ℕ} → length l < n → length (l ++ (x ∷ [])) ≤ n
fits_more l x h = rw (length-append l (x ∷ [])) (omega arith)

-- ---- a list of an image: its rows, each with a short AID, stand at `place`; rows m in their place leave the tables `after m`
pub record Rows (L : Layout) (img : List ℕ) {A : Type 0} (f : A → List ℕ) (w place : ℕ) (aid : A → Aid) (l : List A) (after : List A → Tables) : Type 0 where
  pub wide : (x : A) → length (aid x) ≤ 16 → length (f x) ≡ w
  pub is : take (1 + L.capacity * w) (drop place img) ≡ write_list L f w l
  pub few : length l ≤ L.capacity
  pub short : (x : A) → In x l → length (aid x) ≤ 16
  pub wrote : (m : List A) → length m ≤ L.capacity → ((x : A) → In x m → length (aid x) ≤ 16) → Wrote L (over place (write_list L f w m) img) (after m)

-- lent as the n bytes at `at`
module _ (c : Card) {img : List ℕ} {A : Type 0} {f : A → List ℕ} {w place : ℕ} {aid : A → Aid} {l : List A} {after : List A → Tables}
    (o : Rows (layout_of c) img f w place aid l after) (at n : ℕ) (a : at ≡ place) (b : n ≡ 1 + (layout_of c).capacity * w) where
  abbrev L : Layout
  L = layout_of c

  abbrev part : List ℕ
  part = take n (drop at img)

  is : part ≡ write_list L f w l
  is = ap₂ (λ (x y : ℕ). take x (drop y img)) b a ∙ o.is

  wide : (x : A) → In x l → length (f x) ≡ w
  wide x i = o.wide x (o.short x i)

  pub rows_area : IsArea w (take n (drop at img)) × (get_or (take n (drop at img)) 0 0 ≤ 32)
  rows_area = (list_is L f w l wide o.few part is, rw (list_count L f w l wide o.few part is) (omega (arith, limits c)))

  -- other rows in their place
  replaced : (m : List A) → length m ≤ L.capacity → ((x : A) → In x m → length (aid x) ≤ 16) → {new : List ℕ} → new ≡ write_list L f w m
      → Wrote L (take at img ++ (new ++ drop n (drop at img))) (after m)
  replaced m k s e =
      subst (λ (z : List ℕ). Wrote L z (after m))
      (sym (ap (λ (z : List ℕ). take at img ++ (z ++ drop n (drop at img))) e
      ∙ lent at n (write_list L f w m) img (length_list L f w m (λ x i. o.wide x (s x i)) k ∙ sym b) ∙ ap (λ (z : ℕ). over z (write_list L f w m) img) a))
      (o.wrote m k s)

  -- rows dropped by `rows::drop_rows`
  pub rows_dropped : (mask : ℕ) {new : List ℕ} → new ≡ dropped w mask (take n (drop at img)) → Wrote L (take at img ++ (new ++ drop n (drop at img))) (after (keep_rows mask l))
  rows_dropped mask e =
      replaced (keep_rows mask l) (omega (arith, kept_short mask 0 l)) (λ x i. o.short x (kept_in mask 0 l i)) (e ∙ list_drop L f w l wide o.few part is mask)

  -- a row put after the last one by `rows::append_row`
  module _ (x : A) (s : length (aid x) ≤ 16) (room : length l < L.capacity) where
    pub rows_room : HasRoom w (f x) (take n (drop at img))
    rows_room = list_room L f w l wide o.few part is x (o.wide x s) room (omega (arith, limits c))

    pub rows_appended : {new : List ℕ} → new ≡ appended w (f x) (take n (drop at img)) → Wrote L (take at img ++ (new ++ drop n (drop at img))) (after (l ++ (x ∷ [])))
    rows_appended e =
        replaced (l ++ (x ∷ [])) (fits_more l x room) (each_snoc {P = λ y. length (aid y) ≤ 16} l x o.short s) (e ∙ list_append L f w l wide o.few part is x (o.wide x s) room)
