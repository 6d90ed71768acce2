-- What code reads of the two lists of a laid image of a card, in the form in which the needs ask it: `search listed`.
use Prim.Native.Nat.{ℕ, ◌+◌, ◌-◌, ◌*◌, ◌≤◌, ◌<◌}
use native.Mathlib.Omega.{arith}
use native.Mathlib.Nat.{add_assoc}
use mathlib.Core.Path.{◌≡◌, ap, ap₂, ◌∙◌}
use mathlib.Core.Bool.{Bool}
use mathlib.Core.List.{List, []}
use lib.ListN.{length, get_or, take, drop}
use mir.Syntax.{w64}
use mir.Val.{bool_byte, Fits}
use borrow.Author.Rules.{rules}
use Rattle.policy.specs.Contract.{Aid, eq_aid, Tok}
use Rattle.policy.specs.Tables.{Tables, no_tok, decode}
use Rattle.geometry.specs.declared.Card.{Card}
use Rattle.geometry.specs.declared.Kept.{Kept}
use Rattle.geometry.specs.Geometry.{layout_of, list_at, place_at, number_in}
use Rattle.geometry.specs.Geometry as geometry
use Rattle.geometry.proofs.Bounds.{layout_ok, early, limits, list_in, row_in, number_in_row, tokens_in_row}
use Rattle.image.specs.Laid.{Laid}
use Rattle.image.specs.Read.{aid_in, tokens_in, Item, items_of, item, item_aid, item_tok, item_number, item_at, mask_of}
use Rattle.image.proofs.Access as at
use Rattle.image.proofs.Places.{list_fits}
use Rattle.image.proofs.LaidImage.{is_laid}
use Rattle.image.proofs.Seen.{aid_held_lem, laid_size}
use Rattle.image.proofs.Masks.{mask_turn, mask_low, mask_doubled, mask_added}

module _ (c : Card) (img : List ℕ) (h : Laid (layout_of c) img) (l : Kept) where
  abbrev t : Tables
  t = decode (layout_of c) img

  -- ---- its count
  pub list_low : length (items_of l (decode (layout_of c) img)) ≤ 32
  list_low = omega (arith, list_fits (layout_of c) t h.room l, limits c)

  pub list_counts : (a : ℕ) → a ≡ list_at (layout_of c) l → a < length img
  list_counts a q = omega (arith, laid_size c img h, list_in c l)

  pub list_counted : (a r : ℕ) → a ≡ list_at (layout_of c) l → r ≡ get_or img a 0 → r ≡ length (items_of l (decode (layout_of c) img))
  list_counted a r q e = e ∙ ap (λ (x : ℕ). get_or img x 0) q ∙ at.list_count (layout_of c) (layout_ok c) (early c) h l

  -- ---- row r, which stands at a
  module _ (r : ℕ) (p : r < length (items_of l (decode (layout_of c) img))) where
    pub row_lt : r ≤ (layout_of c).capacity
    row_lt = omega (arith, list_fits (layout_of c) t h.room l)

    module _ (a : ℕ) (q : a ≡ place_at (layout_of c) l r) where
      row_room : a + 20 ≤ length img
      row_room = omega (arith, laid_size c img h, row_in c l r (omega (arith, list_fits (layout_of c) t h.room l)))

      pub row_sum : (k : ℕ) → k < 20 → Fits w64 (a + k)
      row_sum k g = omega (arith, laid_size c img h, row_room, limits c)

      pub row_aid : a + 17 ≤ length img
      row_aid = omega (arith, row_room)

      pub row_start : a < length img
      row_start = omega (arith, row_room)

      aid_length : get_or img a 0 ≡ length (item_aid l (item_at l t r))
      aid_length = ap (λ (x : ℕ). get_or img x 0) q ∙ at.row_length (layout_of c) (layout_ok c) (early c) h l r p

      pub aid_short : get_or img a 0 ≤ 16
      aid_short = omega (arith, aid_length, at.row_short (layout_of c) (layout_ok c) (early c) h l r p)

      pub aid_seen : aid_in img a ≡ item_aid l (item_at l (decode (layout_of c) img) r)
      aid_seen =
          aid_held_lem img a (item_aid l (item_at l t r)) aid_length
          (ap (λ (x : ℕ). take (length (item_aid l (item_at l t r))) (drop (x + 1) img)) q ∙ at.row_bytes_lem (layout_of c) (layout_ok c) (early c) h l r p)

      -- the AID's bytes as a part of the image
      pub held_sum : Fits w64 (a + 1)
      held_sum = row_sum 1 (omega arith)

      module _ (n : ℕ) (i : n ≡ get_or img a 0) where
        pub held_end : Fits w64 (a + 1 + n)
        held_end = omega (arith, laid_size c img h, row_room, aid_short, limits c)

        pub held_in : a + 1 + n ≤ length img
        held_in = omega (arith, row_room, aid_short)

        pub holder_is : take (a + 1 + n - (a + 1)) (drop (a + 1) img) ≡ item_aid l (item_at l (decode (layout_of c) img) r)
        holder_is = let k : a + 1 + n - (a + 1) ≡ get_or img a 0 = omega (arith, i) in ap (λ (z : ℕ). take z (drop (a + 1) img)) k ∙ aid_seen

      pub aid_is : (aid : List ℕ) (v : Bool) → v ≡ eq_aid (aid_in img a) aid → v ≡ eq_aid (item_aid l (item_at l (decode (layout_of c) img) r)) aid
      aid_is aid v z = z ∙ ap (λ (s : Aid). eq_aid s aid) aid_seen

      -- its number, at k
      module _ (k : ℕ) (i : k ≡ number_in l) where
        pub number_byte : a + k < length img
        number_byte = omega (arith, row_room, number_in_row l)

        pub number_sum : Fits w64 (a + k)
        number_sum = row_sum k (omega (arith, number_in_row l))

        pub number_seen : (n : ℕ) → n ≡ get_or img (a + k) 0 → n ≡ item_number l (item_at l (decode (layout_of c) img) r)
        number_seen n e = e ∙ ap₂ (λ (x y : ℕ). get_or img (x + y) 0) q i ∙ at.row_number (layout_of c) (layout_ok c) (early c) h r l p

      -- its tokens, at k
      module _ (k : ℕ) (i : k ≡ geometry.tokens_in l) where
        pub tokens_sum : Fits w64 (a + k)
        tokens_sum = row_sum k (omega (arith, tokens_in_row l))

        pub tokens_room : a + k + 2 ≤ length img
        tokens_room = omega (arith, row_room, tokens_in_row l)

        pub tok_seen : tokens_in img (a + k) ≡ item_tok l (item_at l (decode (layout_of c) img) r)
        tok_seen =
            ap₂ (λ (x y : ℕ). tokens_in img (x + y)) q i
            ∙ λ j. record {
              itf = at.row_itf (layout_of c) (layout_ok c) (early c) h r l p j;
              mth = (ap (λ (x : ℕ). get_or img x 0) (add_assoc (place_at (layout_of c) l r) (geometry.tokens_in l) 1)
                  ∙ at.row_mth (layout_of c) (layout_ok c) (early c) h r l p) j;
            }

        pub tokens_read : (s : Tok) → s ≡ tokens_in img (a + k) → s ≡ item_tok l (item_at l (decode (layout_of c) img) r)
        tokens_read s e = e ∙ tok_seen

pub ruleset listed = (is_laid, list_counts, list_counted, row_lt, row_aid, row_start, aid_short, held_sum, held_end, held_in, holder_is, aid_is, number_byte, number_sum, number_seen, tokens_sum, tokens_room, tokens_read, rules)

-- ---- the loop that gathers a mask of rows: `search masks`
module _ (l : Kept) (f : Item l → Bool) (m : List (Item l)) (r mask : ℕ) (e : mask ≡ mask_of f (drop r m)) (h : 0 < r) (i : r ≤ length m) where
  pub item_turn : (b : Bool) → b ≡ f (get_or m (r - 1) (item l [] no_tok 0)) → mask * 2 + bool_byte b ≡ mask_of f (drop (r - 1) m)
  item_turn = mask_turn f m r mask e h i (item l [] no_tok 0)

pub ruleset masks = (mask_low, mask_doubled, mask_added, item_turn, list_low, is_laid, rules)
