-- A loop over a list of a record, each thing of which changes the tables. Assumes nothing.
use Prim.Native.Nat.{ℕ}
use mathlib.Core.Path.{◌≡◌, refl, sym, ap, ◌∙◌, subst}
use mathlib.Core.List.{List, [], ◌∷◌}
use Rattle.policy.specs.Layout.{Layout}
use Rattle.policy.specs.Tables.{Tables, decode}
use Rattle.image.specs.Laid.{Laid}
use Rattle.image.specs.Wrote.{Wrote}

-- ---- what a thing does to the tables and asks of them, and what all things do and ask
pub record Turns (A : Type 0) : Type 1 where
  pub one : A → Tables → Tables
  pub all : List A → Tables → Tables
  pub Asks : A → Tables → Type 0
  pub AllAsk : List A → Tables → Type 0
  pub none_is : (t : Tables) → all [] t ≡ t
  pub first_is : (x : A) (l : List A) (t : Tables) → all (x ∷ l) t ≡ all l (one x t)
  pub here : (x : A) (l : List A) (t : Tables) → AllAsk (x ∷ l) t → Asks x t
  pub still : (x : A) (l : List A) (t : Tables) → AllAsk (x ∷ l) t → AllAsk l (one x t)

-- those of todo are to come, of those of l, which were to go into the tables t
pub record Turning {A : Type 0} (L : Layout) (s : Turns A) (t : Tables) (l : List A) (img : List ℕ) (todo : List A) : Type 0 where
  pub laid : Laid L img
  pub left : s.all todo (decode L img) ≡ s.all l t
  pub asks : s.AllAsk todo (decode L img)

module _ {A : Type 0} {L : Layout} (s : Turns A) where
  pub turning_start : {img : List ℕ} {l : List A} → Laid L img → s.AllAsk l (decode L img) → Turning L s (decode L img) l img l
  turning_start h a = record { laid = h; left = refl; asks = a }

  module _ {t : Tables} {l : List A} {img : List ℕ} {todo : List A} (g : Turning L s t l img todo) where
    pub turning_end : todo ≡ [] → Wrote L img (s.all l t)
    turning_end e = record { laid = g.laid; tables = sym (s.none_is (decode L img)) ∙ ap (λ (m : List A). s.all m (decode L img)) (sym e) ∙ g.left }

    module _ {x : A} {rest : List A} (u : todo ≡ x ∷ rest) where
      asked : s.AllAsk (x ∷ rest) (decode L img)
      asked = subst (λ (m : List A). s.AllAsk m (decode L img)) u g.asks

      pub turning_here : s.Asks x (decode L img)
      turning_here = s.here x rest (decode L img) asked

      pub turning_next : {img' : List ℕ} → Wrote L img' (s.one x (decode L img)) → Turning L s t l img' rest
      turning_next w = record {
        laid = w.laid;
        left = ap (s.all rest) w.tables ∙ sym (s.first_is x rest (decode L img)) ∙ ap (λ (m : List A). s.all m (decode L img)) (sym u) ∙ g.left;
        asks = subst (s.AllAsk rest) (sym w.tables) (s.still x rest (decode L img) asked);
      }
