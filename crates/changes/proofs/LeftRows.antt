-- Rows that what goes leaves behind: read as bits of a row, and written where the row has the bit. Assumes nothing.
use Prim.Native.Nat.{ℕ, ◌<◌}
use native.Mathlib.Omega.{arith}
use mathlib.Core.Path.{◌≡◌, refl, sym, ap, ◌∙◌}
use mathlib.Core.Bool.{Bool, true, false, not, cond}
use mathlib.Core.List.{List, [], ◌∷◌, ◌++◌, map}
use lib.ListN.{length}
use borrow.Author.Tests.{not-true}
use Rattle.policy.specs.Lists.{keep, flat}
use Rattle.policy.specs.Contract.{Aid, Tok}
use Rattle.policy.specs.Layout.{Layout}
use Rattle.policy.specs.Tables.{Tables, Unmet, Waiting, bit, decode}
use Rattle.policy.specs.ShortCheck.{count, sum}
use Rattle.policy.proofs.Sets.{flat_ext, pairs}
use Rattle.geometry.specs.declared.Card.{Card}
use Rattle.geometry.specs.declared.Table.{Table}
use Rattle.geometry.specs.declared.Table.TheVariants.{Calls, Grants, Needs}
use Rattle.geometry.specs.declared.Kept.{Kept}
use Rattle.geometry.specs.declared.Kept.TheVariants.{UnmetCalls, WaitingGrants}
use Rattle.geometry.specs.Geometry.{layout_of}
use Rattle.image.specs.Read.{Item, item}
use Rattle.image.specs.Laid.{Laid, table_of, with_unmet, with_waiting}
use Rattle.image.specs.Wrote.{Wrote}
use Rattle.changes.specs.Left.{only, by_list, behind, named_one}
use Rattle.changes.proofs.AppendedRows.{behind_none}
use Rattle.policy.proofs.Short.{length_pairs}

-- ---- rows where a test has them
pub only_keep : {A : Type 0} (f : ℕ → Bool) (g : ℕ → A) (l : List ℕ) → flat (λ k. only (f k) (g k)) l ≡ map g (keep f l)
only_keep f g [] = refl
only_keep {A} f g (x ∷ l) = go (f x) (only_keep f g l)
  where
    go : (b : Bool) → flat (λ k. only (f k) (g k)) l ≡ map g (keep f l) → only b (g x) ++ flat (λ k. only (f k) (g k)) l ≡ map g (cond b (x ∷ keep f l) (keep f l))
    go true e = ap (λ (z : List A). g x ∷ z) e
    go false e = e

-- the rows of pairs of numbers, and how many they are
module _ {A : Type 0} (g : ℕ → ℕ → A) (f : ℕ → ℕ → Bool) (l m : List ℕ) where
  pub only_pairs : flat (λ i. flat (λ k. only (f i k) (g i k)) l) m ≡ pairs g f l m
  only_pairs = flat_ext (λ i. flat (λ k. only (f i k) (g i k)) l) (λ i. map (g i) (keep (f i) l)) m (λ i _. only_keep (f i) (g i) l)

  pub length_only : length (flat (λ i. flat (λ k. only (f i k) (g i k)) l) m) ≡ sum (λ i. count (f i) l) m
  length_only = ap length only_pairs ∙ length_pairs g f l m

-- ---- one row, where the row of bits has it not
module _ (c : Card) (l : Kept) (img : List ℕ) (h : Laid (layout_of c) img) (tk : ℕ → Tok) (a : Aid) (i row k : ℕ) (b : Bool) (e : b ≡ bit row k) where
  abbrev L : Layout
  L = layout_of c

  abbrev t : Tables
  t = decode L img

  abbrev rows : Bool → Tok → List (Item l)
  rows z s = only z (item l a s i)

  pub named_none : not b ≡ true → Wrote L img (behind l (named_one l tk a i (bit row) k) (decode L img))
  named_none q = record { laid = h; tables = sym (ap (λ (z : Bool). behind l (rows z (tk k)) t) (sym e ∙ not-true b q) ∙ behind_none l t) }

-- ---- rows read from an image whose lists alone were changed
pub table_apart : (tb : Table) (t : Tables) (u : List Unmet) (w : List Waiting) → table_of tb (with_unmet u (with_waiting w t)) ≡ table_of tb t
table_apart Calls t u w = refl
table_apart Grants t u w = refl
table_apart Needs t u w = refl

pub by_list_in : (l : Kept) (x y n r : ℕ) → r ≡ by_list l x y → x < n → y < n → r < n
by_list_in UnmetCalls x y n r e p q = omega arith
by_list_in WaitingGrants x y n r e p q = omega arith
