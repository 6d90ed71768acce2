-- Bytes written at a place of an image, and the tables with that part changed.
use Prim.Native.Nat.{ℕ, ◌≤◌, ◌<◌}
use mathlib.Core.Path.{◌≡◌, refl, sym, ◌∙◌, subst}
use mathlib.Core.Bool.{Bool, true}
use mathlib.Core.List.{List}
use mathlib.Core.List.{Memᴰ as In}
use lib.Dec.{T}
use lib.ListN.{length}
use Rattle.policy.specs.Contract.{Aid, Tok}
use Rattle.policy.specs.Layout.{Layout, LayoutOk, used_at}
use Rattle.policy.specs.Tables.{Tables, write_aid, write_tok, write_list, write_bits, decode, encode}
use Rattle.policy.proofs.Bits.{length_bits}
use Rattle.policy.proofs.Pieces.{length_aid}
use Rattle.policy.specs.Room.{Room}
use Rattle.geometry.specs.declared.Table.{Table}
use Rattle.geometry.specs.declared.Kept.{Kept}
use Rattle.geometry.specs.Geometry.{aid_at, tok_at, prov_at, entry_at, list_at, row_size}
use Rattle.rows.specs.Area.{over}
use Rattle.image.specs.Read.{Item, items_of, item_aid, write_item}
use Rattle.image.specs.Laid.{table_of, Laid, with_used, with_aid, with_tok, with_provides, with_entry, with_items}
use Rattle.image.proofs.Swap.{Swap, swap_write}
use Rattle.image.proofs.Places.{list_fits, list_short, items_length, swap_used, swap_aid, swap_tok, swap_row, swap_entry, swap_list}
use Rattle.image.proofs.Laid.{laid_of, decode_of, room_used, room_aid, room_tok, room_provides, room_entry, room_list}

module _ (L : Layout) (lo : LayoutOk L) (ey : L.early ≡ true) (t : Tables) (room : Room L t) {img : List ℕ} (e : img ≡ encode L t) where
  write : {img' : List ℕ} {off : ℕ} {s s' : List ℕ} {k : ℕ} → Swap (encode L t) img' off s s' → length s ≡ k → length s' ≡ k → img' ≡ over off s' img
  write {img' = img'} {off = off} {s' = s'} p a b = subst (λ (z : List ℕ). img' ≡ over off s' z) (sym e) (swap_write p (a ∙ sym b))

  pub encode_used : (f : ℕ → Bool) → encode L (with_used f t) ≡ over (used_at L) (write_bits L L.packages f) img
  encode_used f = write (swap_used L lo ey t room f) (length_bits L L.packages t.used) (length_bits L L.packages f)

  pub encode_aid : (n : ℕ) (a : Aid) → n < L.packages → length a ≤ 16 → encode L (with_aid n a t) ≡ over (aid_at L n) (write_aid a) img
  encode_aid n a p h = write (swap_aid L lo ey t room n a p) (length_aid (t.aid n) (room.aid_short n)) (length_aid a h)

  pub encode_tok : (j k : ℕ) (s : Tok) → j < L.packages → k < L.services → encode L (with_tok j k s t) ≡ over (tok_at L j k) (write_tok s) img
  encode_tok j k s p q = write {k = 2} (swap_tok L lo ey t room j k s p q) refl refl

  pub encode_provides : (j : ℕ) (f : ℕ → Bool) → j < L.packages → encode L (with_provides j f t) ≡ over (prov_at L j) (write_bits L L.services f) img
  encode_provides j f p = write (swap_row L lo ey t room j f p) (length_bits L L.services (t.provides j)) (length_bits L L.services f)

  pub encode_entry : (tb : Table) (i j : ℕ) (f : ℕ → Bool) → i < L.packages → j < L.packages
      → encode L (with_entry tb i j f t) ≡ over (entry_at L tb i j) (write_bits L L.services f) img
  encode_entry tb i j f p q = write (swap_entry L lo ey t room tb i j f p q) (length_bits L L.services (table_of tb t i j)) (length_bits L L.services f)

  pub encode_list : (l : Kept) (m : List (Item l)) → length m ≤ L.capacity → ((x : Item l) → In x m → length (item_aid l x) ≤ 16)
      → encode L (with_items l m t) ≡ over (list_at L l) (write_list L (write_item l) (row_size L l) m) img
  encode_list l m p h = write (swap_list L lo ey t room l m) (items_length L ey l (items_of l t) (list_fits L t room l) (list_short L t room l)) (items_length L ey l m p h)

-- ---- an image that holds the tables t: what several writes, one after another, keep
pub record Holds (L : Layout) (img : List ℕ) (t : Tables) : Type 0 where
  pub is : img ≡ encode L t
  pub room : Room L t

module _ (L : Layout) where
  pub laid_holds : {img : List ℕ} → Laid L img → Holds L img (decode L img)
  laid_holds h = record { is = sym h.laid; room = h.room }

  module _ (lo : LayoutOk L) (ey : L.early ≡ true) {img : List ℕ} {t : Tables} (h : Holds L img t) where
    pub holds_laid : Laid L img
    holds_laid = laid_of L lo t h.room (sym h.is)

    pub holds_decode : decode L img ≡ t
    holds_decode = decode_of L lo t h.room (sym h.is)

    pub holds_used : (f : ℕ → Bool) → ((x : ℕ) → T (f x) → x < L.packages) → Holds L (over (used_at L) (write_bits L L.packages f) img) (with_used f t)
    holds_used f p = record { is = sym (encode_used L lo ey t h.room h.is f); room = room_used L ey t h.room f p }

    pub holds_aid : (n : ℕ) (a : Aid) → n < L.packages → length a ≤ 16 → Holds L (over (aid_at L n) (write_aid a) img) (with_aid n a t)
    holds_aid n a p q = record { is = sym (encode_aid L lo ey t h.room h.is n a p q); room = room_aid L ey t h.room n a p q }

    pub holds_tok : (j k : ℕ) (s : Tok) → j < L.packages → k < L.services → Holds L (over (tok_at L j k) (write_tok s) img) (with_tok j k s t)
    holds_tok j k s p q = record { is = sym (encode_tok L lo ey t h.room h.is j k s p q); room = room_tok L ey t h.room j k s p q }

    pub holds_provides : (j : ℕ) (f : ℕ → Bool) → j < L.packages → ((y : ℕ) → T (f y) → y < L.services)
        → Holds L (over (prov_at L j) (write_bits L L.services f) img) (with_provides j f t)
    holds_provides j f p q = record { is = sym (encode_provides L lo ey t h.room h.is j f p); room = room_provides L ey t h.room j f p q }

    pub holds_entry : (tb : Table) (i j : ℕ) (f : ℕ → Bool) → i < L.packages → j < L.packages → ((z : ℕ) → T (f z) → z < L.services)
        → Holds L (over (entry_at L tb i j) (write_bits L L.services f) img) (with_entry tb i j f t)
    holds_entry tb i j f p q r = record { is = sym (encode_entry L lo ey t h.room h.is tb i j f p q); room = room_entry L ey t h.room tb i j f p q r }

    pub holds_list : (l : Kept) (m : List (Item l)) → length m ≤ L.capacity → ((x : Item l) → In x m → length (item_aid l x) ≤ 16)
        → Holds L (over (list_at L l) (write_list L (write_item l) (row_size L l) m) img) (with_items l m t)
    holds_list l m p q = record { is = sym (encode_list L lo ey t h.room h.is l m p q); room = room_list L ey t h.room l m p q }
