-- The record of a package: its parts, its length and its bytes; and what the four ways through read_out give. Assumes nothing.
use Prim.Native.Nat.{ℕ, ◌+◌, ◌*◌, ◌/◌, ◌%◌, ◌≤◌, ◌<◌}
use native.Mathlib.Omega.{arith}
use native.Mathlib.Nat.{zero-add}
use mathlib.Core.Path.{◌≡◌, refl, sym, ap, ap₂, ◌∙◌, subst}
use mathlib.Core.Bool.{Bool, true, false, not, ◌&&◌, cond}
use mathlib.Core.List.{List, [], ◌∷◌, ◌++◌}
use lib.Dec.{eqb, leb, ltb}
use lib.ListN.{length, drop, length-append}
use borrow.Author.Tests.{ltb-true, le-leb, lt-leb, not-true, not-false}
use Rattle.policy.specs.Lists.{flat, upto}
use Rattle.policy.specs.Contract.{Row}
use Rattle.policy.specs.Layout.{Layout, aid_size}
use Rattle.policy.specs.Tables.{Tables, no_tok, write_number, decode}
use Rattle.policy.specs.Lookup.{contract_at}
use Rattle.policy.specs.Sound.{sound}
use Rattle.policy.specs.Judge.{Out, refusal, aid_bytes, row_bytes, load_record, read_out}
use Rattle.policy.specs.Settled.{Gives}
use Rattle.policy.proofs.Sets.{T_true, true_T, and_l, length_flat_le, length_from, upto_in, in_row}
use Rattle.policy.proofs.Bits.{length_number}
use Rattle.geometry.specs.declared.Card.{Card}
use Rattle.geometry.specs.declared.Card.TheVariants.{Small, Large}
use Rattle.geometry.specs.declared.Table.{Table}
use Rattle.geometry.specs.declared.Table.TheVariants.{Needs}
use Rattle.geometry.specs.declared.Kept.{Kept}
use Rattle.geometry.specs.declared.Kept.TheVariants.{UnmetCalls, WaitingGrants}
use Rattle.geometry.specs.Geometry.{layout_of}
use Rattle.policy.specs.Room.{Room}
use Rattle.image.specs.Laid.{Laid, table_of}
use Rattle.image.specs.Read.{items_of, item, item_number, item_at}
use Rattle.image.proofs.Places.{list_fits, list_short}
use Rattle.image.proofs.Laid.{sound_laid}
use Rattle.rows.specs.Area.{over}
use Rattle.readout.specs.declared.pen.Pen.{Pen}
use Rattle.readout.specs.Parts.{Put, Short, given, beside, item_row, bit_row, bit_bytes, column_bytes, table_bytes, table_rows, item_bytes, list_bytes, kept_rows, kept_bytes, tok_bytes, provide_bytes, need_bytes, row_lists, body_bytes}
use Rattle.readout.proofs.Writers.{Shorts, three_short, two_put}
use Rattle.readout.proofs.Rows.{kept_are, needs_are, provides_are}

-- ---- how long the parts are at most
given_most : (b : Bool) (l : List ℕ) (most : ℕ) → length l ≤ most → length (given b l) ≤ most
given_most true l most h = h
given_most false l most h = omega arith

-- a row of a record at most: an AID's place, and tokens
abbrev row_most : ℕ
row_most = aid_size + 2

row_most_lem : (r : Row) → length r.aid ≤ 16 → length (row_bytes r) ≤ row_most
row_most_lem r h = omega (arith, length-append r.aid (r.tok.itf ∷ r.tok.mth ∷ []))

below_most : (f : ℕ → List ℕ) (m most : ℕ) → ((i : ℕ) → i < m → length (f i) ≤ most) → length (flat f (upto m)) ≤ m * most
below_most f m most h = subst (λ (x : ℕ). length (flat f (upto m)) ≤ x * most) (length_from 0 m) (length_flat_le f most (upto m) (λ i k. h i (upto_in m k)))

module _ (L : Layout) (t : Tables) (room : Room L t) (n : ℕ) where
  table_most : (tb : Table) → length (table_bytes L t n tb) ≤ L.packages * (L.services * row_most)
  table_most tb = below_most (column_bytes L t n tb) L.packages (L.services * row_most)
      (λ j _. below_most (bit_bytes L t n tb j) L.services row_most (λ k _. given_most (table_of tb t n j k) (row_bytes (bit_row L t n tb j k)) row_most (row_most_lem (bit_row L t n tb j k) (room.aid_short j))))

  list_most : (l : Kept) → length (list_bytes L t n l) ≤ length (items_of l t) * row_most
  list_most l = below_most (item_bytes L t n l) (length (items_of l t)) row_most
      (λ r m. given_most (eqb (item_number l (item_at l t r)) n) (row_bytes (item_row l (item_at l t r))) row_most (row_most_lem (item_row l (item_at l t r)) (list_short L t room l (item_at l t r) (in_row (items_of l t) r (item l [] no_tok 0) m))))

  tok_most : length (flat (tok_bytes L t n) (upto L.services)) ≤ L.services * 2
  tok_most = below_most (tok_bytes L t n) L.services 2 (λ k _. given_most (t.provides n k) _ 2 (omega arith))

  -- a count, and at most x and y bytes
  counted_most : (count : ℕ) (a b whole : List ℕ) → write_number L.count_width count [] ++ (a ++ b) ≡ whole → length whole ≡ L.count_width + (length a + length b)
  counted_most count a b whole e =
      let p = length-append (write_number L.count_width count []) (a ++ b) in
      let q = length-append a b in
      let w = length_number L.count_width count [] in
      sym (ap length e) ∙ omega arith

  abbrev most : ℕ
  most = L.packages * (L.services * row_most)

  kept_most : (l : Kept) → length (kept_bytes L t n l) ≤ L.count_width + (most + L.capacity * row_most)
  kept_most l = omega (
    arith,
    counted_most (length (kept_rows L t n l)) (table_bytes L t n (beside l)) (list_bytes L t n l) (kept_bytes L t n l) (kept_are L t n l (beside l) refl _ refl),
    table_most (beside l),
    list_most l,
    list_fits L t room l,
  )

  needs_most : length (need_bytes L t n) ≤ L.count_width + most
  needs_most =
      let p = sym (ap length (needs_are L t n (length (table_rows L t n Needs)) refl)) in
      let q = length-append (write_number L.count_width (length (table_rows L t n Needs)) []) (table_bytes L t n Needs) in
      omega (arith, length_number L.count_width (length (table_rows L t n Needs)) [], table_most Needs)

  provides_most : length (provide_bytes L t n) ≤ 1 + L.services * 2
  provides_most = let p = sym (ap length (provides_are L t n _ _ refl refl)) in omega (arith, tok_most)

  body_most : length (body_bytes L t n) ≤ aid_size + (1 + L.services * 2) + (L.count_width + (most + L.capacity * row_most)) + (L.count_width + (most + L.capacity * row_most)) + (L.count_width + most)
  unfolding contract_at
  body_most =
      let a = length-append (aid_bytes (t.aid n)) (provide_bytes L t n ++ row_lists L t n) in
      let b = length-append (provide_bytes L t n) (row_lists L t n) in
      let d = length-append (kept_bytes L t n UnmetCalls) (kept_bytes L t n WaitingGrants ++ need_bytes L t n) in
      let e = length-append (kept_bytes L t n WaitingGrants) (need_bytes L t n) in
      omega (arith, room.aid_short n, provides_most, kept_most UnmetCalls, kept_most WaitingGrants, needs_most)

pub body_short : (c : Card) (img : List ℕ) → Laid (layout_of c) img → (n : ℕ) → 4 + length (body_bytes (layout_of c) (decode (layout_of c) img) n) < 65536
body_short Small img h n = omega (arith, body_most (layout_of Small) (decode (layout_of Small) img) h.room n)
body_short Large img h n = omega (arith, body_most (layout_of Large) (decode (layout_of Large) img) h.room n)

-- ---- the body's parts
module _ (L : Layout) (t : Tables) (n : ℕ) (own : List ℕ) (e : own ≡ aid_bytes (t.aid n)) where
  pub body_are : own ++ (provide_bytes L t n ++ row_lists L t n) ≡ body_bytes L t n
  unfolding contract_at
  body_are = ap (λ (x : List ℕ). x ++ (provide_bytes L t n ++ row_lists L t n)) e

  pub parts_short : (p : Pen) → Short p (body_bytes L t n) → Shorts p own (provide_bytes L t n) (row_lists L t n)
  parts_short p = three_short own (provide_bytes L t n) (row_lists L t n) (body_bytes L t n) body_are p

module _ (c : Card) (img : List ℕ) (n : ℕ) where
  abbrev L : Layout
  L = layout_of c

  abbrev t : Tables
  t = decode (layout_of c) img

  -- ---- the whole record
  abbrev whole : List ℕ
  whole = load_record L (contract_at L t n)

  record_length : length whole ≡ 4 + length (body_bytes L t n)
  unfolding load_record
  record_length = omega arith

  pub measured : Laid (layout_of c) img → (r : ℕ) → r ≡ 4 + length (body_bytes (layout_of c) (decode (layout_of c) img) n)
      → (r ≡ length (load_record (layout_of c) (contract_at (layout_of c) (decode (layout_of c) img) n))) × (r < 65536)
  measured h r e = (e ∙ sym record_length, omega (arith, body_short c img h n))

  module _ (len v : ℕ) (el : len ≡ length (load_record (layout_of c) (contract_at (layout_of c) (decode (layout_of c) img) n))) (ev : v ≡ (layout_of c).version) where
    abbrev front : List ℕ
    front = (len / 256 % 256) ∷ (len % 256) ∷ v ∷ 1 ∷ []

    is_whole : front ++ body_bytes L t n ≡ whole
    unfolding load_record
    is_whole = ap₂ (λ (x y : ℕ). (x / 256 % 256) ∷ (x % 256) ∷ y ∷ 1 ∷ body_bytes L t n) (el ∙ record_length) ev

    pub written : (p q r : Pen) → p.at ≡ 0 → len ≤ length p.out.now → Put p ((len / 256 % 256) ∷ (len % 256) ∷ v ∷ 1 ∷ []) q
        → Put q (body_bytes (layout_of c) (decode (layout_of c) img) n) r
        → r.out.now ≡ load_record (layout_of c) (contract_at (layout_of c) (decode (layout_of c) img) n) ++ drop len p.out.now
    written p q r z h u w =
        let k : length whole ≡ len = sym el in
        (two_put front (body_bytes L t n) whole is_whole u w).leaves (omega arith)
        ∙ ap (λ (x : ℕ). over x whole p.out.now) z ∙ ap (λ (x : ℕ). whole ++ drop x p.out.now) (zero-add (length whole) ∙ k)

  -- ---- the answers
  module _ (old : List ℕ) where
    abbrev outcome : Bool → Bool → Bool → Out
    outcome s u f =
        cond s (cond u (cond f (record { answered = 0; second = length whole; bytes = whole ++ drop (length whole) old }) (refusal 12 0 old)) (refusal 5 0 old)) (refusal 1 0 old)

    gives : (s u f : Bool) (a b : ℕ) (new : List ℕ) → sound L img ≡ s → ltb n L.packages && t.used n ≡ u → leb (length whole) (length old) ≡ f
        → Gives (outcome s u f) a b new → Gives (read_out L img n old) a b new
    unfolding read_out
    gives s u f a b new p q r h = subst (λ (o : Out). Gives o a b new) (λ i. outcome (sym p i) (sym q i) (sym r i)) h

    module _ (s : Bool) (es : s ≡ sound (layout_of c) img) where
      pub gives_unsound : not s ≡ true → Gives (read_out (layout_of c) img n old) 1 0 old
      gives_unsound g = gives _ _ _ 1 0 old (sym es ∙ not-true s g) refl refl (record { answered = refl; second_is = refl; bytes_are = refl })

      pub sound_is_laid : not s ≡ false → Laid (layout_of c) img
      sound_is_laid g = sound_laid L (true_T (sym es ∙ not-false s g))

      module _ (u : Bool) (eu : u ≡ ltb n (layout_of c).packages && (decode (layout_of c) img).used n) (gs : not s ≡ false) where
        pub gives_absent : not u ≡ true → Gives (read_out (layout_of c) img n old) 5 0 old
        gives_absent g = gives _ _ _ 5 0 old (sym es ∙ not-false s gs) (sym eu ∙ not-true u g) refl (record { answered = refl; second_is = refl; bytes_are = refl })

        pub is_inside : not u ≡ false → n < (layout_of c).packages
        is_inside g = ltb-true n L.packages (T_true (ltb n L.packages) (and_l (ltb n L.packages) (t.used n) (true_T (sym eu ∙ not-false u g))))

        module _ (gu : not u ≡ false) (len : ℕ) (el : len ≡ length (load_record (layout_of c) (contract_at (layout_of c) (decode (layout_of c) img) n))) where
          pub gives_no_room : length old < len → Gives (read_out (layout_of c) img n old) 12 0 old
          gives_no_room h = gives _ _ _ 12 0 old (sym es ∙ not-false s gs) (sym eu ∙ not-false u gu) (lt-leb (length whole) (length old) (omega arith)) (record { answered = refl; second_is = refl; bytes_are = refl })

          pub gives_record : len ≤ length old → (new : List ℕ) → new ≡ load_record (layout_of c) (contract_at (layout_of c) (decode (layout_of c) img) n) ++ drop len old → Gives (read_out (layout_of c) img n old) 0 len new
          gives_record h new e =
              gives _ _ _ 0 len new (sym es ∙ not-false s gs) (sym eu ∙ not-false u gu) (le-leb (length whole) (length old) (omega arith))
              (record { answered = refl; second_is = sym el; bytes_are = ap (λ (x : ℕ). whole ++ drop x old) (sym el) ∙ sym e })
