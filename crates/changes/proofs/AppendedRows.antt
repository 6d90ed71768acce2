-- A loop that appends rows to a list of an image: what its turns have left. Assumes nothing.
use Prim.Native.Nat.{ℕ, ◌+◌, ◌≤◌, ◌<◌}
use native.Mathlib.Omega.{arith}
use mathlib.Core.Path.{◌≡◌, refl, sym, ap, ◌∙◌, subst}
use mathlib.Core.List.{List, [], ◌++◌, append-nil, append_assoc}
use lib.ListN.{length, length-append}
use Rattle.policy.specs.Lists.{flat, upto}
use Rattle.policy.specs.Layout.{Layout}
use Rattle.policy.specs.Tables.{Tables, Unmet, Waiting, decode}
use Rattle.geometry.specs.declared.Kept.{Kept}
use Rattle.geometry.specs.declared.Kept.TheVariants.{UnmetCalls, WaitingGrants}
use Rattle.image.specs.Read.{Item, items_of}
use Rattle.image.specs.Laid.{Laid, with_unmet, with_waiting, with_items}
use Rattle.image.specs.Wrote.{Wrote}
use Rattle.image.proofs.Clears.{wrote_then}
use Rattle.changes.specs.Left.{behind, RoomBehind}
use Rattle.bits.proofs.Gathered.{flat_snoc, flat_room}

pub wrote_as : (L : Layout) {img : List ℕ} {t t' : Tables} → t ≡ t' → Wrote L img t → Wrote L img t'
wrote_as L {img} e w = subst (λ (z : Tables). Wrote L img z) e w

-- ---- tables with a list replaced: that list, and what is said without regard to the lists
pub items_are : (l : Kept) (m : List (Item l)) (t : Tables) → items_of l (with_items l m t) ≡ m
items_are UnmetCalls m t = refl
items_are WaitingGrants m t = refl

pub apart : (l : Kept) (m : List (Item l)) (t : Tables) {B : Type 0} (x : Tables → B) {y : B} → ((u : List Unmet) (w : List Waiting) → x (with_unmet u (with_waiting w t)) ≡ y) → x (with_items l m t) ≡ y
apart UnmetCalls m t x f = f m t.waiting
apart WaitingGrants m t x f = f t.unmet m

-- rows behind a replaced list, behind none, and behind others
pub behind_items : (l : Kept) (n m : List (Item l)) (t : Tables) → behind l n (with_items l m t) ≡ with_items l (m ++ n) t
behind_items UnmetCalls n m t = refl
behind_items WaitingGrants n m t = refl

pub behind_none : (l : Kept) (t : Tables) → behind l [] t ≡ t
behind_none UnmetCalls t = ap (λ (m : List Unmet). with_unmet m t) (append-nil t.unmet)
behind_none WaitingGrants t = ap (λ (m : List Waiting). with_waiting m t) (append-nil t.waiting)

behind_more : (l : Kept) (n m : List (Item l)) (t : Tables) → behind l n (behind l m t) ≡ behind l (m ++ n) t
behind_more l n m t = behind_items l n (items_of l t ++ m) t ∙ ap (λ (z : List (Item l)). with_items l z t) (append_assoc (items_of l t) m n)

-- ---- the rows h of the first i of n numbers have gone to the end of list l of the tables t
pub record Appended (L : Layout) (l : Kept) (t : Tables) (h : ℕ → List (Item l)) (n i : ℕ) (img : List ℕ) : Type 0 where
  pub within : i ≤ n
  pub wrote : Wrote L img (behind l (flat h (upto i)) t)

module _ {L : Layout} {l : Kept} where
  pub append_start : {h : ℕ → List (Item l)} {n : ℕ} {img : List ℕ} → Laid L img → Appended L l (decode L img) h n 0 img
  append_start {img = img} w = record { within = omega arith; wrote = record { laid = w; tables = sym (behind_none l (decode L img)) } }

  module _ {t : Tables} {h : ℕ → List (Item l)} {n i : ℕ} {img : List ℕ} (g : Appended L l t h n i img) where
    -- what is said without regard to the lists is what it was
    pub append_apart : {B : Type 0} (x : Tables → B) {y : B} → ((u : List Unmet) (w : List Waiting) → x (with_unmet u (with_waiting w t)) ≡ y) → x (decode L img) ≡ y
    append_apart x e = ap x g.wrote.tables ∙ apart l (items_of l t ++ flat h (upto i)) t x e

    -- x are the rows that the turn appends, which the lists have no part in
    module _ (x : Tables → List (Item l)) (e : (u : List Unmet) (w : List Waiting) → x (with_unmet u (with_waiting w t)) ≡ h i) (lt : i < n) where
      pub append_turn : {img' : List ℕ} → Wrote L img' (behind l (x (decode L img)) (decode L img)) → Appended L l t h n (i + 1) img'
      append_turn v = record {
        within = omega arith;
        wrote =
            wrote_as L
            (ap (λ (m : List (Item l)). behind l m (behind l (flat h (upto i)) t)) (apart l (items_of l t ++ flat h (upto i)) t x e) ∙ behind_more l (h i) (flat h (upto i)) t
            ∙ ap (λ (m : List (Item l)). behind l m t) (sym (flat_snoc h i)))
            (wrote_then L (λ z. behind l (x z) z) g.wrote v);
      }

      pub append_room : {m : ℕ} → n ≡ m → RoomBehind l L (flat h (upto m)) t → RoomBehind l L (x (decode L img)) (decode L img)
      append_room {m} s r =
          let p : length (items_of l (decode L img)) ≡ length (items_of l t) + length (flat h (upto i)) =
          ap (λ (z : Tables). length (items_of l z)) g.wrote.tables ∙ ap length (items_are l (items_of l t ++ flat h (upto i)) t) ∙ length-append (items_of l t) (flat h (upto i)) in
          let q : length (x (decode L img)) ≡ length (h i) = ap length (append_apart x e) in
          omega (arith, flat_room h m i (omega arith))

    pub append_end : {m : ℕ} → n ≡ m → n ≤ i → Wrote L img (behind l (flat h (upto m)) t)
    append_end {m} s lt = let a = g.within in let q : i ≡ m = omega arith in wrote_as L (ap (λ (z : ℕ). behind l (flat h (upto z)) t) q) g.wrote
