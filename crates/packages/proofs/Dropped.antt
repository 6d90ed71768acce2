-- A package's old contract: its services that go, and the calls on them that are noted. Assumes nothing.
use Prim.Native.Nat.{ℕ, ◌+◌, ◌≤◌, ◌<◌}
use native.Mathlib.Omega.{arith}
use mathlib.Core.Path.{◌≡◌, refl, sym, ap, ◌∙◌, subst}
use mathlib.Core.Logic.{◌⊎◌, inl, inr}
use mathlib.Core.Bool.{Bool, false, ◌&&◌}
use mathlib.Core.List.{List, [], ◌∷◌, ◌++◌}
use lib.ListN.{length, get_or, set, replicate, length-set, get_or-replicate}
use lib.Seq.{get_or-set_same, get_or-set_other}
use Rattle.policy.specs.Lists.{upto}
use Rattle.policy.specs.Layout.{Layout}
use Rattle.policy.specs.Tables.{Tables, bit, row_of, decode}
use Rattle.policy.specs.Lookup.{places}
use Rattle.policy.proofs.Sets.{T_false}
use Rattle.policy.proofs.Pieces.{in_or_off}
use Rattle.policy.specs.Room.{BitsIn}
use Rattle.bits.proofs.Loops.{upto_split}
use Rattle.bits.proofs.Row.{bits_row}
use Rattle.geometry.specs.declared.Card.{Card}
use Rattle.geometry.specs.Geometry.{layout_of}
use Rattle.geometry.proofs.Bounds.{limits}
use Rattle.image.specs.Wrote.{Wrote}
use Rattle.image.proofs.Clears.{wrote_then}
use Rattle.changes.proofs.AppendedRows.{wrote_as}
use Rattle.packages.specs.Writes.{dropped_one, dropped_from, NotedIn}

-- ---- services that go
module _ (n mask : ℕ) where
  dropped_append : (l m : List ℕ) (t : Tables) → dropped_from n mask (l ++ m) t ≡ dropped_from n mask m (dropped_from n mask l t)
  dropped_append [] m t = refl
  dropped_append (k ∷ l) m t = dropped_append l m (dropped_one n mask k t)

  -- one more
  pub dropped_snoc : (k : ℕ) (t : Tables) → dropped_one n mask k (dropped_from n mask (upto k) t) ≡ dropped_from n mask (upto (k + 1)) t
  dropped_snoc k t = sym (ap (λ (l : List ℕ). dropped_from n mask l t) (upto_split k 1) ∙ dropped_append (upto k) (k ∷ []) t)

-- the first k of so many have been looked at
pub record GoingOff (L : Layout) (n mask : ℕ) (t : Tables) (size k : ℕ) (img : List ℕ) : Type 0 where
  pub within : k ≤ size
  pub wrote : Wrote L img (dropped_from n mask (upto k) t)

module _ {L : Layout} {n mask : ℕ} {t : Tables} {size k : ℕ} {img : List ℕ} (g : GoingOff L n mask t size k img) where
  pub going_turn : k < size → {img' : List ℕ} → Wrote L img' (dropped_one n mask k (decode L img)) → GoingOff L n mask t size (k + 1) img'
  going_turn h w = record { within = omega arith; wrote = wrote_as L (dropped_snoc n mask k t) (wrote_then L (dropped_one n mask k) g.wrote w) }

  pub going_end : size ≡ L.services → size ≤ k → Wrote L img (dropped_from n mask (places L) t)
  going_end e h = let w = g.within in let q : k ≡ L.services = omega arith in wrote_as L (ap (λ (m : ℕ). dropped_from n mask (upto m) t) q) g.wrote

-- ---- calls that are noted: q is what the mask names of a row r that was read
module _ (m : ℕ) (low : m ≤ 16) (f : ℕ → Bool) (off : (k : ℕ) → m ≤ k → f k ≡ false) (mask r q : ℕ) (e : r ≡ row_of m f) (p : q ≡ row_of 16 (λ k. bit r k && bit mask k)) where
  read_is : (k : ℕ) → bit r k ≡ f k
  read_is k = ap (λ (x : ℕ). bit x k) e ∙ bits_row m f off k

  note_is : (k : ℕ) → bit q k ≡ f k && bit mask k
  note_is k =
      ap (λ (x : ℕ). bit x k) p
      ∙ bits_row 16 (λ k. bit r k && bit mask k) (λ k h. ap (λ (b : Bool). b && bit mask k) (read_is k ∙ off k (omega arith))) k
      ∙ ap (λ (b : Bool). b && bit mask k) (read_is k)

-- the calls of the first i packages on services of package n are noted, over zeros
pub record Noted (t : Tables) (n mask size i : ℕ) (rows : List ℕ) : Type 0 where
  pub within : i ≤ size
  pub long : length rows ≡ 16
  pub is : (x : ℕ) → x < i → (k : ℕ) → bit (get_or rows x 0) k ≡ t.calls x n k && bit mask k
  pub rest : (x : ℕ) → i ≤ x → x < 16 → get_or rows x 0 ≡ 0

module _ {t : Tables} {n mask size : ℕ} where
  pub noted_start : Noted t n mask size 0 (replicate 16 0)
  noted_start = record { within = omega arith; long = refl; is = λ x h. absurd (omega arith); rest = λ x _. get_or-replicate 16 x 0 0 }

  module _ {i : ℕ} {rows : List ℕ} (g : Noted t n mask size i rows) where
    noted_more : i < 16 → i < size → (q : ℕ) → ((k : ℕ) → bit q k ≡ t.calls i n k && bit mask k) → Noted t n mask size (i + 1) (set rows i q)
    noted_more low lt q p = record {
      within = omega arith;
      long = length-set rows i q ∙ g.long;
      is = λ x h k. go x h k (in_or_off x i);
      rest = λ x h l. get_or-set_other rows i x q 0 (λ e. omega arith) ∙ g.rest x (omega arith) l;
    }
      where
        go : (x : ℕ) → x < i + 1 → (k : ℕ) → (x < i) ⊎ (i ≤ x) → bit (get_or (set rows i q) x 0) k ≡ t.calls x n k && bit mask k
        go x h k (inl l) = ap (λ (z : ℕ). bit z k) (get_or-set_other rows i x q 0 (λ e. omega arith)) ∙ g.is x l k
        go x h k (inr l) =
            let e : i ≡ x = omega arith in
            subst (λ (y : ℕ). bit (get_or (set rows i q) y 0) k ≡ t.calls y n k && bit mask k) e
            (ap (λ (z : ℕ). bit z k) (get_or-set_same rows i q 0 (omega (arith, g.long))) ∙ p k)

    pub noted_turn : (c : Card) → BitsIn (layout_of c) t.calls → size ≡ (layout_of c).packages → i < size → (r q : ℕ) → r ≡ row_of (layout_of c).services (t.calls i n)
        → q ≡ row_of 16 (λ k. bit r k && bit mask k) → Noted t n mask size (i + 1) (set rows i q)
    noted_turn c inside s lt r q e p =
        noted_more (omega (arith, limits c)) lt q
        (note_is (layout_of c).services (limits c).services_low (t.calls i n) (λ k h. T_false (t.calls i n k) (λ b. omega (arith, (inside i n k b).2))) mask r q e p)

    pub noted_end : (L : Layout) → size ≡ L.packages → size ≤ i → NotedIn L t n mask rows × ((x : ℕ) → L.packages ≤ x → x < 16 → get_or rows x 0 ≡ 0)
    noted_end L s h = (λ x l. g.is x (omega arith), λ x l. g.rest x (omega (arith, g.within)))
