-- The image of tables and that of the same tables with one part changed differ at that part's place only.
use Prim.Native.Nat.{ℕ, ◌+◌, ◌*◌, ◌≤◌, ◌<◌}
use mathlib.Core.Path.{◌≡◌, refl, sym, ap, ◌∙◌, subst}
use mathlib.Core.Bool.{Bool, true, ◌&&◌, cond}
use mathlib.Core.List.{List, ◌++◌}
use mathlib.Core.List.{Memᴰ as In}
use lib.Dec.{T, eqb, eqb→eq, eqb_refl}
use lib.ListN.{length, length-append}
use Rattle.policy.specs.Lists.{flat, upto}
use Rattle.policy.specs.Contract.{Aid, Tok}
use Rattle.policy.specs.Layout.{Layout, LayoutOk, aid_size, unmet_size, waiting_size, used_at, aids_at, tokens_at, provides_at, calls_at, grants_at, needs_at, unmet_at, waiting_at}
use Rattle.policy.specs.Tables.{Tables, Waiting, write_aid, write_tok, write_unmet, write_waiting, write_list, write_bits, write_table, encode}
use Rattle.policy.proofs.Sets.{true_T, and_l, and_r, and_i, cond_true, cond_false}
use Rattle.policy.proofs.Bits.{length_bits, write_line, length_line, length_lines}
use Rattle.policy.proofs.Pieces.{length_list, length_aid, early_size, early_write}
use Rattle.policy.specs.Room.{Room}
use Rattle.policy.proofs.RoundTrip.{length_aids, length_tokens, length_unmets}
use Rattle.geometry.specs.declared.Table.{Table}
use Rattle.geometry.specs.declared.Table.TheVariants.{Calls, Grants, Needs}
use Rattle.geometry.specs.declared.Kept.{Kept}
use Rattle.geometry.specs.declared.Kept.TheVariants.{UnmetCalls, WaitingGrants}
use Rattle.geometry.specs.Geometry.{aid_at, tok_at, prov_at, table_at, entry_at, list_at, row_size}
use Rattle.image.specs.Read.{Item, items_of, item_aid, item_tok, item_number, tail_of, write_item}
use Rattle.image.specs.Laid.{table_of, with_used, with_aid, with_tok, with_provides, with_table, with_entry, with_items}
use Rattle.image.proofs.Swap.{Swap, swap_cast, swap_after, swap_skip, swap_head, swap_upto, swap_grid}

at_both : (i j : ℕ) → T (eqb i i && eqb j j)
at_both i j = and_i (eqb i i) (eqb j j) (eqb_refl i) (eqb_refl j)

pub both : (x y i j : ℕ) → T (eqb x i && eqb y j) → (x ≡ i) × (y ≡ j)
both x y i j t = (eqb→eq x i (and_l (eqb x i) (eqb y j) t), eqb→eq y j (and_r (eqb x i) (eqb y j) t))

-- R-2: a row of waiting grants holds tokens, so it does not depend on the tables of services
pub waiting_written : (L : Layout) → L.early ≡ true → (p : ℕ → ℕ → Bool) (q : ℕ → ℕ → Tok) → write_waiting L p q ≡ write_item WaitingGrants
waiting_written L e p q = λ i w. early_write L (true_T e) p q w i

-- ---- the two lists alike
module _ (L : Layout) (t : Tables) (room : Room L t) where
  pub list_fits : (l : Kept) → length (items_of l t) ≤ L.capacity
  list_fits UnmetCalls = room.unmet_fits
  list_fits WaitingGrants = room.waiting_fits

  pub list_short : (l : Kept) (x : Item l) → In x (items_of l t) → length (item_aid l x) ≤ 16
  list_short UnmetCalls = room.unmet_short
  list_short WaitingGrants = room.waiting_short

module _ (L : Layout) (ey : L.early ≡ true) where
  -- a row has 20 bytes
  pub tail_length : (l : Kept) (s : Tok) (k : ℕ) → 17 + length (tail_of l s k) ≡ row_size L l
  tail_length UnmetCalls s k = refl
  tail_length WaitingGrants s k = sym (early_size L (true_T ey))

  pub item_length : (l : Kept) (x : Item l) → length (item_aid l x) ≤ 16 → length (write_item l x) ≡ row_size L l
  item_length l x h =
      length-append (write_aid (item_aid l x)) (tail_of l (item_tok l x) (item_number l x)) ∙ ap (λ (z : ℕ). z + length (tail_of l (item_tok l x) (item_number l x))) (length_aid (item_aid l x) h)
      ∙ tail_length l (item_tok l x) (item_number l x)

  pub items_length : (l : Kept) (m : List (Item l)) → length m ≤ L.capacity → ((x : Item l) → In x m → length (item_aid l x) ≤ 16)
      → length (write_list L (write_item l) (row_size L l) m) ≡ 1 + L.capacity * row_size L l
  items_length l m p h = length_list L (write_item l) (row_size L l) m (λ x i. item_length l x (h x i)) p

module _ (L : Layout) where
  abbrev n : ℕ
  n = L.packages

  abbrev m : ℕ
  m = L.services

  abbrev w : ℕ
  w = L.width

  abbrev Tokens : (ℕ → ℕ → Tok) → ℕ → List ℕ
  Tokens tok j = flat (λ k. write_tok (tok j k)) (upto m)

  -- ---- the parts, and what stands after each
  module _ (t : Tables) where
    abbrev Used : List ℕ
    Used = write_bits L n t.used

    abbrev Aids : List ℕ
    Aids = flat (λ i. write_aid (t.aid i)) (upto n)

    abbrev Toks : List ℕ
    Toks = flat (Tokens t.tok) (upto n)

    abbrev Unmets : List ℕ
    Unmets = write_list L write_unmet unmet_size t.unmet

    abbrev Waitings : List ℕ
    Waitings = write_list L (write_waiting L t.provides t.tok) (waiting_size L) t.waiting

    abbrev after_needs : List ℕ
    after_needs = Unmets ++ Waitings

    abbrev after_grants : List ℕ
    after_grants = write_table L t.needs ++ after_needs

    abbrev after_calls : List ℕ
    after_calls = write_table L t.grants ++ after_grants

    abbrev after_provides : List ℕ
    after_provides = write_table L t.calls ++ after_calls

    abbrev after_tokens : List ℕ
    after_tokens = write_line L t.provides ++ after_provides

    abbrev after_aids : List ℕ
    after_aids = Toks ++ after_tokens

    abbrev after_used : List ℕ
    after_used = Aids ++ after_aids

  module _ (lo : LayoutOk L) (ey : L.early ≡ true) (t : Tables) (room : Room L t) where
    -- ---- images that are equal before a place
    abbrev To : (List ℕ → List ℕ) → ℕ → Type 0
    To before off = (r r' : List ℕ) → Swap (before r) (before r') off r r'

    abbrev with_header : List ℕ → List ℕ
    with_header r = L.header ++ r

    abbrev with_used_lem : List ℕ → List ℕ
    with_used_lem r = with_header (Used t ++ r)

    abbrev with_aids : List ℕ → List ℕ
    with_aids r = with_used_lem (Aids t ++ r)

    abbrev with_tokens : List ℕ → List ℕ
    with_tokens r = with_aids (Toks t ++ r)

    abbrev with_provides_lem : List ℕ → List ℕ
    with_provides_lem r = with_tokens (write_line L t.provides ++ r)

    abbrev with_calls_lem : List ℕ → List ℕ
    with_calls_lem r = with_provides_lem (write_table L t.calls ++ r)

    abbrev with_grants_lem : List ℕ → List ℕ
    with_grants_lem r = with_calls_lem (write_table L t.grants ++ r)

    abbrev with_needs_lem : List ℕ → List ℕ
    with_needs_lem r = with_grants_lem (write_table L t.needs ++ r)

    abbrev with_unmet_lem : List ℕ → List ℕ
    with_unmet_lem r = with_needs_lem (Unmets t ++ r)

    to_used : To with_header (used_at L)
    to_used r r' = swap_after L.header r r' lo.header_size

    to_aids : To with_used_lem (aids_at L)
    to_aids r r' = swap_skip (Used t) r r' (length_bits L n t.used) (to_used (Used t ++ r) (Used t ++ r'))

    to_tokens : To with_aids (tokens_at L)
    to_tokens r r' = swap_skip (Aids t) r r' (length_aids L lo t room) (to_aids (Aids t ++ r) (Aids t ++ r'))

    to_provides : To with_tokens (provides_at L)
    to_provides r r' = swap_skip (Toks t) r r' (length_tokens L lo t room) (to_tokens (Toks t ++ r) (Toks t ++ r'))

    to_calls : To with_provides_lem (calls_at L)
    to_calls r r' = let p = write_line L t.provides in swap_skip p r r' (length_line L t.provides) (to_provides (p ++ r) (p ++ r'))

    to_grants : To with_calls_lem (grants_at L)
    to_grants r r' = let p = write_table L t.calls in swap_skip p r r' (length_lines L t.calls) (to_calls (p ++ r) (p ++ r'))

    to_needs : To with_grants_lem (needs_at L)
    to_needs r r' = let p = write_table L t.grants in swap_skip p r r' (length_lines L t.grants) (to_grants (p ++ r) (p ++ r'))

    to_unmet : To with_needs_lem (unmet_at L)
    to_unmet r r' = let p = write_table L t.needs in swap_skip p r r' (length_lines L t.needs) (to_needs (p ++ r) (p ++ r'))

    to_waiting : To with_unmet_lem (waiting_at L)
    to_waiting r r' = swap_skip (Unmets t) r r' (length_unmets L lo t room) (to_unmet (Unmets t ++ r) (Unmets t ++ r'))

    -- the changed image by an equation
    swap_to : {a b c : List ℕ} {off : ℕ} {s r : List ℕ} → b ≡ c → Swap a b off s r → Swap a c off s r
    swap_to {a} {off = off} {s = s} {r = r} e h = subst (λ (z : List ℕ). Swap a z off s r) e h

    -- ---- each part of the image, and other bytes in its place
    part : {before : List ℕ → List ℕ} {off : ℕ} → To before off → (s r rest : List ℕ) → Swap (before (s ++ rest)) (before (r ++ rest)) off s r
    part to s r rest = swap_head s r rest (to (s ++ rest) (r ++ rest))

    swap_aids : (r : List ℕ) → Swap (encode L t) (with_used_lem (r ++ after_aids t)) (aids_at L) (Aids t) r
    unfolding encode
    swap_aids r = part to_aids (Aids t) r (after_aids t)

    swap_tokens : (r : List ℕ) → Swap (encode L t) (with_aids (r ++ after_tokens t)) (tokens_at L) (Toks t) r
    unfolding encode
    swap_tokens r = part to_tokens (Toks t) r (after_tokens t)

    swap_provides : (r : List ℕ) → Swap (encode L t) (with_tokens (r ++ after_provides t)) (provides_at L) (write_line L t.provides) r
    unfolding encode
    swap_provides r = part to_provides (write_line L t.provides) r (after_provides t)

    swap_table : (tb : Table) (b : ℕ → ℕ → ℕ → Bool) → Swap (encode L t) (encode L (with_table tb b t)) (table_at L tb) (write_table L (table_of tb t)) (write_table L b)
    unfolding encode
    swap_table Calls b = part to_calls (write_table L t.calls) (write_table L b) (after_calls t)
    swap_table Grants b = part to_grants (write_table L t.grants) (write_table L b) (after_grants t)
    swap_table Needs b = part to_needs (write_table L t.needs) (write_table L b) (after_needs t)

    -- ---- each place of it, and that of the changed tables
    pub swap_used : (f : ℕ → Bool) → Swap (encode L t) (encode L (with_used f t)) (used_at L) (Used t) (write_bits L n f)
    unfolding encode
    swap_used f = part to_used (Used t) (write_bits L n f) (after_used t)

    waitings_are : (p : ℕ → ℕ → Bool) (q : ℕ → ℕ → Tok) (m : List Waiting)
        → write_list L (write_waiting L p q) (waiting_size L) m ≡ write_list L (write_item WaitingGrants) (waiting_size L) m
    waitings_are p q m = ap (λ (f : Waiting → List ℕ). write_list L f (waiting_size L) m) (waiting_written L ey p q)

    pub swap_list : (l : Kept) (m : List (Item l))
        → Swap (encode L t) (encode L (with_items l m t)) (list_at L l) (write_list L (write_item l) (row_size L l) (items_of l t)) (write_list L (write_item l) (row_size L l) m)
    unfolding encode
    swap_list UnmetCalls m = part to_unmet (Unmets t) (write_list L write_unmet unmet_size m) (Waitings t)
    swap_list WaitingGrants m =
        swap_cast (to_waiting (Waitings t) (write_list L (write_waiting L t.provides t.tok) (waiting_size L) m)) refl
        (waitings_are t.provides t.tok t.waiting) (waitings_are t.provides t.tok m)

    pub swap_aid : (k : ℕ) (a : Aid) → k < n → Swap (encode L t) (encode L (with_aid k a t)) (aid_at L k) (write_aid (t.aid k)) (write_aid a)
    unfolding encode
    swap_aid k a lt =
        let f : ℕ → Aid = λ x. cond (eqb x k) a (t.aid x) in
        swap_cast (swap_upto (λ i. write_aid (t.aid i)) (λ i. write_aid (f i)) aid_size n k lt (λ i p. length_aid (t.aid i) (room.aid_short i))
        (λ i ne. ap write_aid (sym (cond_false (eqb i k) a (t.aid i) (λ e. ne (eqb→eq i k e))))) (swap_aids (flat (λ i. write_aid (f i)) (upto n))))
        refl refl (ap write_aid (cond_true (eqb k k) a (t.aid k) (eqb_refl k)))

    pub swap_tok : (j k : ℕ) (s : Tok) → j < n → k < m → Swap (encode L t) (encode L (with_tok j k s t)) (tok_at L j k) (write_tok (t.tok j k)) (write_tok s)
    unfolding encode
    swap_tok j k s p q =
        let f : ℕ → ℕ → Tok = λ x y. cond (eqb x j && eqb y k) s (t.tok x y) in
        swap_to (ap (λ (z : List ℕ). with_aids (flat (Tokens f) (upto n) ++ (write_line L t.provides ++ (write_table L t.calls ++ (write_table L t.grants ++ (write_table L t.needs ++ (Unmets t ++ z)))))))
        (waitings_are t.provides t.tok t.waiting ∙ sym (waitings_are t.provides f t.waiting)))
        (swap_cast (swap_grid (λ x y. write_tok (t.tok x y)) (λ x y. write_tok (f x y)) 2 n m j k p q (λ x y. refl)
        (λ x y ne. ap write_tok (sym (cond_false (eqb x j && eqb y k) s (t.tok x y) (λ e. ne (both x y j k e))))) (swap_tokens (flat (Tokens f) (upto n))))
        refl refl (ap write_tok (cond_true (eqb j j && eqb k k) s (t.tok j k) (at_both j k))))

    pub swap_row : (j : ℕ) (f : ℕ → Bool) → j < n → Swap (encode L t) (encode L (with_provides j f t)) (prov_at L j) (write_bits L m (t.provides j)) (write_bits L m f)
    unfolding encode
    swap_row j f p =
        let g : ℕ → ℕ → Bool = λ x y. cond (eqb x j) (f y) (t.provides x y) in
        swap_to (ap (λ (z : List ℕ). with_tokens (write_line L g ++ (write_table L t.calls ++ (write_table L t.grants ++ (write_table L t.needs ++ (Unmets t ++ z))))))
        (waitings_are t.provides t.tok t.waiting ∙ sym (waitings_are g t.tok t.waiting)))
        (swap_cast (swap_upto (λ x. write_bits L m (t.provides x)) (λ x. write_bits L m (g x)) w n j p (λ x q. length_bits L m (t.provides x))
        (λ x ne. ap (write_bits L m) (λ i y. sym (cond_false (eqb x j) (f y) (t.provides x y) (λ e. ne (eqb→eq x j e))) i)) (swap_provides (write_line L g)))
        refl refl (ap (write_bits L m) (λ i y. cond_true (eqb j j) (f y) (t.provides j y) (eqb_refl j) i)))

    pub swap_entry : (tb : Table) (i j : ℕ) (f : ℕ → Bool) → i < n → j < n
        → Swap (encode L t) (encode L (with_entry tb i j f t)) (entry_at L tb i j) (write_bits L m (table_of tb t i j)) (write_bits L m f)
    swap_entry tb i j f p q =
        let b : ℕ → ℕ → ℕ → Bool = table_of tb t in
        let g : ℕ → ℕ → ℕ → Bool = λ x y z. cond (eqb x i && eqb y j) (f z) (b x y z) in
        swap_cast (swap_grid (λ x y. write_bits L m (b x y)) (λ x y. write_bits L m (g x y)) w n n i j p q (λ x y. length_bits L m (b x y))
        (λ x y ne. ap (write_bits L m) (λ r z. sym (cond_false (eqb x i && eqb y j) (f z) (b x y z) (λ e. ne (both x y i j e))) r)) (swap_table tb g))
        refl refl (ap (write_bits L m) (λ r z. cond_true (eqb i i && eqb j j) (f z) (b i j z) (at_both i j) r))
