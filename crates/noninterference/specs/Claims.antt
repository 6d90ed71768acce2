-- R-6: the theorems, as statements, for every layout that is ok.
use Rattle.std.specs.Prelude.{ℕ, ◌≡◌, cond, length}
use mathlib.Core.List.{List, [], ◌∷◌, ◌++◌, map}
use mathlib.Core.List.{Memᴰ as In}
use Rattle.std.proofs.Math.Option.{some}
use Rattle.policy.specs.Contract.{Aid, Row}
use Rattle.policy.specs.Layout.{Layout}
use Rattle.policy.specs.Record.{Request, Change, add_call, remove_call, add_grant, remove_grant, add_need, remove_need, parse}
use Rattle.policy.specs.Tables.{decode}
use Rattle.policy.specs.Judge.{Out, refusal, judge}
use Rattle.policy.specs.History.{image_after}
use Rattle.noninterference.specs.Alike.{Alike}

-- 'A record whose first AID is B's'; a malformed one has no first AID, and counts among them
abbrev pub RecordOf : Layout → Aid → List ℕ → Type 0
RecordOf L b s = (q : Request) → parse L s ≡ some q → q.aid ≡ b

-- what the sender of a record is told: the 'answer and second number'
pub record Told : Type 0 where
  pub answer : ℕ
  pub second : ℕ

abbrev pub told : Out → Told
told o = record { answer = o.answered; second = o.second }

-- ---- 1. 'A record whose first AID is B's gets the same answer and second number on both': of an engine, by image and record
abbrev pub NotWatchedBy : Layout → (List ℕ → List ℕ → Out) → Type 0
NotWatchedBy L engine = (b : Aid) (img₁ img₂ s : List ℕ) → Alike L b img₁ img₂ → RecordOf L b s
    → told (engine img₁ s) ≡ told (engine img₂ s)

-- an engine that looks at a row between two others: whether package 2 calls service 0 of package 0, by their numbers
abbrev pub watching : Layout → List ℕ → List ℕ → Out
watching L img s = cond ((decode L img).calls 2 0 0) (refusal 8 255 img) (judge L img s)

abbrev pub NotWatched : Layout → Type 0
NotWatched L = NotWatchedBy L (judge L)

-- ---- 2. and it leaves them such that the next record of B's does so too
abbrev pub StayAlike : Layout → Type 0
StayAlike L = (b : Aid) (img₁ img₂ s : List ℕ) → Alike L b img₁ img₂ → RecordOf L b s
    → Alike L b (judge L img₁ s).bytes (judge L img₂ s).bytes

-- ---- 3. whole histories, of an observer that may send records of B's alone
-- a turn: what others send to the first card and to the second, before the observer sends its record to both
pub record Turn : Type 0 where
  pub first : List (List ℕ)
  pub second : List (List ℕ)

-- the observer chooses its next record by what it was told so far, the last first
module _ (L : Layout) (next : List Told → List ℕ) where
  -- what it is told over a history of a card, the last first
  unfoldable pub observed : List ℕ → List Told → List (List (List ℕ)) → List Told
  unfolding judge image_after
  observed img so [] = so
  observed img so (ss ∷ turns) = let o = judge L (image_after L img ss) (next so) in observed o.bytes (told o ∷ so) turns

  -- what others send keeps cards alike
  abbrev pub KeptAlike : Aid → List ℕ → List ℕ → List Told → List Turn → Type 0
  KeptAlike b img₁ img₂ so [] = Unit {0}
  KeptAlike b img₁ img₂ so (t ∷ turns) =
      let x₁ = image_after L img₁ t.first in
      let x₂ = image_after L img₂ t.second in
      (Alike L b img₁ img₂ → Alike L b x₁ x₂)
      × KeptAlike b (judge L x₁ (next so)).bytes (judge L x₂ (next so)).bytes (told (judge L x₁ (next so)) ∷ so) turns

-- it is told the same on both: of a card it learns no more than what cards that are alike have in common
abbrev pub NeverTold : Layout → Type 0
NeverTold L = (b : Aid) (next : List Told → List ℕ) → ((so : List Told) → RecordOf L b (next so)) → (img₁ img₂ : List ℕ) (turns : List Turn)
    → Alike L b img₁ img₂ → KeptAlike L next b img₁ img₂ [] turns
    → observed L next img₁ [] (map (λ t. t.first) turns) ≡ observed L next img₂ [] (map (λ t. t.second) turns)

-- ---- 4. what others do among themselves
-- a call, a grant or a need comes or goes, on a row that names another than B: kinds 5 to 8, and 9 and 10 by the rules that read them
abbrev pub Besides : Aid → Change → Type 0
Besides b ch =
    (r : Row) × (r.aid ≡ b → ⊥)
    × In ch (add_call r ∷ remove_call r ∷ add_grant r ∷ remove_grant r ∷ add_need r ∷ remove_need r ∷ [])

-- a record of another package than B about such a row
abbrev pub AmongOthers : Layout → Aid → List ℕ → Type 0
AmongOthers L b s = (q : Request) → parse L s ≡ some q → (q.aid ≡ b → ⊥) × Besides b q.change

-- such records, to each card its own, leave them alike where both lists are as long: of what others do among themselves B sees the list
-- counts alone
abbrev pub Unseen : Layout → Type 0
Unseen L = (b : Aid) (img₁ img₂ : List ℕ) (ss₁ ss₂ : List (List ℕ)) → Alike L b img₁ img₂
    → ((s : List ℕ) → In s (ss₁ ++ ss₂) → AmongOthers L b s)
    → length (decode L (image_after L img₁ ss₁)).unmet ≡ length (decode L (image_after L img₂ ss₂)).unmet
    → length (decode L (image_after L img₁ ss₁)).waiting ≡ length (decode L (image_after L img₂ ss₂)).waiting
    → Alike L b (image_after L img₁ ss₁) (image_after L img₂ ss₂)
