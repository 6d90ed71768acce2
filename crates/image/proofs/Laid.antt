-- The image of tables that it has room for is laid, and so is a sound image; room is kept by each change.
use Prim.Native.Nat.{ℕ, ◌≤◌, ◌<◌}
use native.Mathlib.Nat.{not-le_of_lt}
use mathlib.Core.Path.{◌≡◌, sym, ap, ◌∙◌, subst}
use mathlib.Core.Logic.{◌⊎◌, inl, inr}
use mathlib.Core.Bool.{Bool, true, ◌&&◌, cond}
use mathlib.Core.List.{List, []}
use mathlib.Core.List.{Memᴰ as In}
use lib.Dec.{T, eqb, eqb→eq}
use lib.ListN.{length, take}
use Rattle.policy.specs.Lists.{eq_bytes}
use Rattle.policy.specs.Contract.{Aid, Tok}
use Rattle.policy.specs.Layout.{Layout, LayoutOk, size}
use Rattle.policy.specs.Tables.{Tables, Waiting, no_tok, decode, encode}
use Rattle.policy.specs.Sound.{sound_tables, sound}
use Rattle.policy.proofs.Sets.{true_T, and_l, and_r, by_test, eq_bytes→}
use Rattle.policy.proofs.EveryBit.{BitIn}
use Rattle.policy.specs.Room.{BitsIn, Room}
use Rattle.policy.proofs.RoundTrip.{formed_room, length_encode, round_trip}
use Rattle.policy.proofs.SoundFacts.{sound_formed, sound_ruled, sound_fitting}
use Rattle.geometry.specs.declared.Table.{Table}
use Rattle.geometry.specs.declared.Table.TheVariants.{Calls, Grants, Needs}
use Rattle.geometry.specs.declared.Kept.{Kept}
use Rattle.geometry.specs.declared.Kept.TheVariants.{UnmetCalls, WaitingGrants}
use Rattle.image.specs.Read.{Item, item_aid}
use Rattle.image.specs.Laid.{table_of, Laid, with_used, with_aid, with_tok, with_provides, with_table, with_entry, with_items}
use Rattle.image.proofs.Places.{both}

pub entry_in : (L : Layout) (t : Tables) → Room L t → (tb : Table) → BitsIn L (table_of tb t)
entry_in L t room Calls = room.calls_in
entry_in L t room Grants = room.grants_in
entry_in L t room Needs = room.needs_in

-- ---- the image of tables that it has room for
module _ (L : Layout) (lo : LayoutOk L) (t : Tables) (room : Room L t) where
  pub laid_encode : Laid L (encode L t)
  laid_encode = record { laid = ap (encode L) (round_trip L lo t room); room = subst (Room L) (sym (round_trip L lo t room)) room }

  -- an image of these tables, by an equation
  module _ {img : List ℕ} (e : encode L t ≡ img) where
    pub laid_of : Laid L img
    laid_of = subst (Laid L) e laid_encode

    pub decode_of : decode L img ≡ t
    decode_of = ap (decode L) (sym e) ∙ round_trip L lo t room

pub laid_length : (L : Layout) → LayoutOk L → {img : List ℕ} → Laid L img → length img ≡ size L
laid_length L lo {img} h = ap length (sym h.laid) ∙ length_encode L lo (decode L img) h.room

-- ---- a sound image is laid
pub sound_laid : (L : Layout) {img : List ℕ} → T (sound L img) → Laid L img
unfolding sound
sound_laid L {img} ok =
    let t = decode L img in
    let first = eqb (length img) (size L) && eq_bytes (take 3 img) L.header in
    let written = eq_bytes (encode L t) img in
    record {
      laid = eq_bytes→ (encode L t) img (and_l written (sound_tables L t) (and_r first (written && sound_tables L t) ok));
      room = formed_room L t (sound_formed L img ok) (sound_ruled L img ok) (sound_fitting L img ok);
    }

-- ---- room is kept by each change: `search` takes the other parts from `room`
module _ (L : Layout) (ey : L.early ≡ true) (t : Tables) (room : Room L t) where
  -- R-2: a row of waiting grants holds tokens, and nothing is asked of its service
  own : (u : Tables) → (T L.early → ⊥) → (v : Waiting) → In v u.waiting → (k : ℕ) × T (u.provides v.callee k) × (u.tok v.callee k ≡ v.tok)
  own u late v i = absurd (late (true_T ey))

  pub room_used : (f : ℕ → Bool) → ((x : ℕ) → T (f x) → x < L.packages) → Room L (with_used f t)
  room_used f h = search

  pub room_aid : (n : ℕ) (a : Aid) → n < L.packages → length a ≤ 16 → Room L (with_aid n a t)
  room_aid n a p h = search (short, off)
    where
      short : (x : ℕ) → length ((with_aid n a t).aid x) ≤ 16
      short x = by_test (λ z. length z ≤ 16) a (t.aid x) (eqb x n) (λ _. h) (λ _. room.aid_short x)

      off : (x : ℕ) → L.packages ≤ x → (with_aid n a t).aid x ≡ []
      off x q = by_test (λ z. z ≡ []) a (t.aid x) (eqb x n) (λ e. absurd (not-le_of_lt p (subst (λ (y : ℕ). L.packages ≤ y) (eqb→eq x n e) q))) (λ _. room.aid_off x q)

  pub room_tok : (j k : ℕ) (s : Tok) → j < L.packages → k < L.services → Room L (with_tok j k s t)
  room_tok j k s p q = search (off, own (with_tok j k s t))
    where
      out : (x y : ℕ) → (x ≡ j) × (y ≡ k) → (L.packages ≤ x) ⊎ (L.services ≤ y) → s ≡ no_tok
      out x y e (inl o) = absurd (not-le_of_lt p (subst (λ (z : ℕ). L.packages ≤ z) e.0 o))
      out x y e (inr o) = absurd (not-le_of_lt q (subst (λ (z : ℕ). L.services ≤ z) e.1 o))

      off : (x y : ℕ) → (L.packages ≤ x) ⊎ (L.services ≤ y) → (with_tok j k s t).tok x y ≡ no_tok
      off x y o = by_test (λ z. z ≡ no_tok) s (t.tok x y) (eqb x j && eqb y k) (λ e. out x y (both x y j k e) o) (λ _. room.tok_off x y o)

  pub room_provides : (j : ℕ) (f : ℕ → Bool) → j < L.packages → ((y : ℕ) → T (f y) → y < L.services) → Room L (with_provides j f t)
  room_provides j f p h = search (inside, own (with_provides j f t))
    where
      inside : (x y : ℕ) → T ((with_provides j f t).provides x y) → (x < L.packages) × (y < L.services)
      inside x y =
          by_test (λ b. T b → (x < L.packages) × (y < L.services)) (f y) (t.provides x y) (eqb x j)
          (λ e s. (subst (λ (z : ℕ). z < L.packages) (sym (eqb→eq x j e)) p, h y s)) (λ _. room.provides_in x y)

  pub room_table : (tb : Table) (b : ℕ → ℕ → ℕ → Bool) → BitsIn L b → Room L (with_table tb b t)
  room_table Calls b h = search
  room_table Grants b h = search
  room_table Needs b h = search

  pub room_entry : (tb : Table) (i j : ℕ) (f : ℕ → Bool) → i < L.packages → j < L.packages → ((z : ℕ) → T (f z) → z < L.services) → Room L (with_entry tb i j f t)
  room_entry tb i j f p q h =
      room_table tb (λ x y z. cond (eqb x i && eqb y j) (f z) (table_of tb t x y z))
      (λ x y z. by_test (λ b. T b → BitIn L x y z) (f z) (table_of tb t x y z) (eqb x i && eqb y j)
      (λ e s. let o = both x y i j e in (subst (λ (k : ℕ). k < L.packages) (sym o.0) p, subst (λ (k : ℕ). k < L.packages) (sym o.1) q, h z s)) (λ _. entry_in L t room tb x y z))

  pub room_list : (l : Kept) (m : List (Item l)) → length m ≤ L.capacity → ((x : Item l) → In x m → length (item_aid l x) ≤ 16) → Room L (with_items l m t)
  room_list UnmetCalls m p h = search
  room_list WaitingGrants m p h = search (own (with_items WaitingGrants m t))
