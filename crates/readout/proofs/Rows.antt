-- The parts of a record as code writes them are those of the definition. Assumes nothing.
use Prim.Native.Nat.{ℕ, zero, suc, ◌+◌, ◌≤◌}
use mathlib.Core.Path.{◌≡◌, refl, sym, ap, ap₂, ◌∙◌}
use mathlib.Core.Bool.{Bool, true, false, cond}
use mathlib.Core.List.{List, [], ◌∷◌, ◌++◌, map}
use lib.Dec.{eqb}
use lib.ListN.{length, get_or, length-append, length-map}
use Rattle.policy.specs.Lists.{flat, keep, from, upto}
use Rattle.policy.specs.Contract.{Row}
use Rattle.policy.specs.Layout.{Layout}
use Rattle.policy.specs.Tables.{Tables, no_tok, bit, write_number, write_tok}
use Rattle.policy.specs.Lookup.{contract_at}
use Rattle.policy.specs.Judge.{row_bytes, rows_bytes}
use Rattle.policy.proofs.Sets.{flat_append}
use Rattle.policy.proofs.Written.{number_append}
use Rattle.geometry.specs.declared.Table.{Table}
use Rattle.geometry.specs.declared.Table.TheVariants.{Needs}
use Rattle.geometry.specs.declared.Kept.{Kept}
use Rattle.geometry.specs.declared.Kept.TheVariants.{UnmetCalls, WaitingGrants}
use Rattle.image.specs.Laid.{table_of}
use Rattle.image.specs.Read.{mask_of, Item, items_of, item, item_number}
use Rattle.image.proofs.Masks.{mask_count}
use Rattle.readout.specs.declared.pen.Pen.{Pen}
use Rattle.readout.specs.Parts.{Short, given, beside, item_row, bit_row, bit_bytes, table_bytes, table_rows, list_bytes, kept_rows, kept_bytes, tok_bytes, provide_bytes, need_bytes}
use Rattle.readout.proofs.Writers.{Shorts, two_short, three_short}

-- ---- bytes of what is kept
module _ {A B : Type 0} (p : A → Bool) (f : A → B) (g : B → List ℕ) where
  kept_bytes_lem : (l : List A) → flat (λ x. given (p x) (g (f x))) l ≡ flat g (map f (keep p l))
  kept_bytes_lem [] = refl
  kept_bytes_lem (x ∷ l) = go (p x) (kept_bytes_lem l)
    where
      go : (b : Bool) → flat (λ x. given (p x) (g (f x))) l ≡ flat g (map f (keep p l))
          → given b (g (f x)) ++ flat (λ x. given (p x) (g (f x))) l ≡ flat g (map f (cond b (x ∷ keep p l) (keep p l)))
      go true e = ap (λ (z : List ℕ). g (f x) ++ z) e
      go false e = e

flat_flat : {A B : Type 0} (g : B → List ℕ) (f : A → List B) (h : A → List ℕ) → ((x : A) → h x ≡ flat g (f x)) → (l : List A) → flat h l ≡ flat g (flat f l)
flat_flat g f h e [] = refl
flat_flat g f h e (x ∷ l) = ap₂ (λ (a b : List ℕ). a ++ b) (e x) (flat_flat g f h e l) ∙ sym (flat_append g (f x) (flat f l))

-- the rows of a list by their numbers
shift : (h : ℕ → List ℕ) (i n : ℕ) → flat h (from (suc i) n) ≡ flat (λ r. h (suc r)) (from i n)
shift h i zero = refl
shift h i (suc n) = ap (λ (z : List ℕ). h (suc i) ++ z) (shift h (suc i) n)

by_number : {A : Type 0} (g : A → List ℕ) (d : A) (l : List A) → flat (λ r. g (get_or l r d)) (upto (length l)) ≡ flat g l
by_number g d [] = refl
by_number g d (x ∷ l) = ap (λ (z : List ℕ). g x ++ z) (shift (λ r. g (get_or (x ∷ l) r d)) 0 (length l) ∙ by_number g d l)

-- ---- a count, then the rows of two lists
two_lists : (L : Layout) (count : ℕ) (l m : List Row) (x y : List ℕ) → count ≡ length (l ++ m) → x ≡ flat row_bytes l → y ≡ flat row_bytes m
    → write_number L.count_width count [] ++ (x ++ y) ≡ rows_bytes L (l ++ m)
two_lists L count l m x y e p q =
    (λ i. write_number L.count_width (e i) [] ++ (p i ++ q i))
    ∙ ap (λ (z : List ℕ). write_number L.count_width (length (l ++ m)) [] ++ z) (sym (flat_append row_bytes l m))
    ∙ number_append L.count_width (length (l ++ m)) [] (flat row_bytes (l ++ m))

module _ (L : Layout) (t : Tables) (n : ℕ) where
  table_bytes_lem : (tb : Table) → table_bytes L t n tb ≡ flat row_bytes (table_rows L t n tb)
  table_bytes_lem tb = flat_flat row_bytes (λ j. map (bit_row L t n tb j) (keep (table_of tb t n j) (upto L.services))) (λ j. flat (bit_bytes L t n tb j) (upto L.services))
      (λ j. kept_bytes_lem (table_of tb t n j) (bit_row L t n tb j) row_bytes (upto L.services)) (upto L.packages)

  -- ---- a list, and the table beside it
  abbrev mine : (l : Kept) → Item l → Bool
  mine l x = eqb (item_number l x) n

  abbrev own_rows : Kept → List Row
  own_rows l = map (item_row l) (keep (mine l) (items_of l t))

  list_bytes_lem : (l : Kept) → list_bytes L t n l ≡ flat row_bytes (own_rows l)
  list_bytes_lem l = by_number (λ x. given (mine l x) (row_bytes (item_row l x))) (item l [] no_tok 0) (items_of l t) ∙ kept_bytes_lem (mine l) (item_row l) row_bytes (items_of l t)

  kept_rows_lem : (l : Kept) → kept_rows L t n l ≡ table_rows L t n (beside l) ++ own_rows l
  unfolding contract_at
  kept_rows_lem UnmetCalls = refl
  kept_rows_lem WaitingGrants = refl

  module _ (l : Kept) (tb : Table) (b : tb ≡ beside l) where
    rows_are : kept_rows L t n l ≡ table_rows L t n tb ++ own_rows l
    rows_are = kept_rows_lem l ∙ ap (λ (x : Table). table_rows L t n x ++ own_rows l) (sym b)

    -- how many rows there are: those of the table, and those of the list by their mask
    pub kept_counted : (rows mask own : ℕ) → length (items_of l t) ≤ 32 → rows ≡ length (table_rows L t n tb) → mask ≡ mask_of (λ x. eqb (item_number l x) n) (items_of l t)
        → own ≡ length (keep (bit mask) (upto 32)) → rows + own ≡ length (kept_rows L t n l)
    kept_counted rows mask own few p m q =
        ap₂ ◌+◌ p (q ∙ ap (λ (x : ℕ). length (keep (bit x) (upto 32))) m ∙ mask_count (mine l) (items_of l t) few ∙ sym (length-map (keep (mine l) (items_of l t)) (item_row l)))
        ∙ sym (length-append (table_rows L t n tb) (own_rows l)) ∙ sym (ap length rows_are)

    module _ (count : ℕ) (e : count ≡ length (kept_rows L t n l)) where
      pub kept_are : write_number L.count_width count [] ++ (table_bytes L t n tb ++ list_bytes L t n l) ≡ kept_bytes L t n l
      kept_are =
          two_lists L count (table_rows L t n tb) (own_rows l) (table_bytes L t n tb) (list_bytes L t n l) (e ∙ ap length rows_are) (table_bytes_lem tb) (list_bytes_lem l)
          ∙ sym (ap (rows_bytes L) rows_are)

      pub kept_short : (p : Pen) → Short p (kept_bytes L t n l) → Shorts p (write_number L.count_width count []) (table_bytes L t n tb) (list_bytes L t n l)
      kept_short p = three_short (write_number L.count_width count []) (table_bytes L t n tb) (list_bytes L t n l) (kept_bytes L t n l) kept_are p

  -- ---- the parts that code writes one after another, and where each may start
  module _ (count : ℕ) where
    abbrev counted : List ℕ
    counted = write_number L.count_width count []

    abbrev tok_part : List ℕ
    tok_part = flat (tok_bytes L t n) (upto L.services)

    pub needs_are : count ≡ length (table_rows L t n Needs) → write_number L.count_width count [] ++ table_bytes L t n Needs ≡ need_bytes L t n
    unfolding contract_at
    needs_are e =
        ap₂ (λ (x : ℕ) (y : List ℕ). write_number L.count_width x [] ++ y) e (table_bytes_lem Needs)
        ∙ number_append L.count_width (length (table_rows L t n Needs)) [] (flat row_bytes (table_rows L t n Needs))

    pub needs_short : (p : Pen) → count ≡ length (table_rows L t n Needs) → Short p (need_bytes L t n) → Shorts p (write_number L.count_width count []) (table_bytes L t n Needs) []
    needs_short p e = two_short counted (table_bytes L t n Needs) (need_bytes L t n) (needs_are e) p

    module _ (b : ℕ) (e : count ≡ length (keep (t.provides n) (upto L.services))) (low : b ≡ count) where
      pub provides_are : (b ∷ []) ++ flat (tok_bytes L t n) (upto L.services) ≡ provide_bytes L t n
      unfolding contract_at
      provides_are =
          ap₂ (λ (x : ℕ) (y : List ℕ). x ∷ y) (low ∙ e ∙ sym (length-map (keep (t.provides n) (upto L.services)) (t.tok n)))
          (kept_bytes_lem (t.provides n) (t.tok n) write_tok (upto L.services))

      pub provides_short : (p : Pen) → Short p (provide_bytes L t n) → Shorts p (b ∷ []) (flat (tok_bytes L t n) (upto L.services)) []
      provides_short p = two_short (b ∷ []) tok_part (provide_bytes L t n) provides_are p
