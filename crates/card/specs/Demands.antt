-- The demands, of every call that meets its function's contract, in the two numbers that a host reads from its result.
use Rattle.std.specs.Prelude.{ℕ, ◌≤◌, ◌<◌, ◌≡◌, ◌↔◌, ◌⊎◌, not, ◌&&◌, List, [], ◌∷◌, ◌++◌, map, T, eqb, leb, ltb, length, get_or, take, drop}
use mathlib.Core.List.{Memᴰ as In}
use Rattle.std.proofs.Math.Option.{none, some}
use Rattle.policy.specs.Lists.{from}
use Rattle.policy.specs.Contract.{Aid, Row, Contract, lawful}
use Rattle.policy.specs.Layout.{Layout, narrow, ahead, renewed, small, large, size}
use Rattle.policy.specs.Record.{Request, parse, proper}
use Rattle.policy.specs.Causes.{Cause, ◌when◌}
use Rattle.policy.specs.Machine.{effect, causes4to7}
use Rattle.policy.specs.Tables.{decode, empty_image}
use Rattle.policy.specs.Lookup.{contract_at}
use Rattle.policy.specs.Sound.{sound}
use Rattle.policy.specs.Judge.{load_record}
use Rattle.policy.specs.Records.{load_of, request_of, longest_record}
use Rattle.policy.specs.History.{SameContract, AllValid, StandsFor, image_after, machine_answers, contracts_after}
use Rattle.policy.specs.Numbering.{Numbered}
use Rattle.policy.specs.Placing.{Placed}
use Rattle.policy.specs.Needs.{NeededBy, NeedsOn, MovesNeed}
use Rattle.policy.specs.Eras.{image_then, contracts_then}
use Rattle.policy.specs.Claims.{CallsGranted, NeedsPresent, FitsLimits, IsFirst, all_causes}
use Rattle.geometry.specs.Geometry.{layout_of}
use Rattle.geometry.specs.declared.Card.{Card}
use Rattle.conditions.specs.Claims.{FreeLoad, ThreeConditions}
use Rattle.noninterference.specs.Alike.{Alike}
use Rattle.noninterference.specs.Claims.{RecordOf, AmongOthers}
use Rattle.card.specs.Packed.{answer_of, second_of}
use Rattle.card.specs.Calls.{on, by, Checked, Emptied, Carried, Converted, Enlarged, Judged, ReadInto, AidFound, Calls}

-- ---- demand 1: the answer and its second number are of document 01's table
-- a refusal: one of these answers, this second number, and what was lent is left
pub record Refused (ns : List ℕ) (second : ℕ) (lent : List ℕ) (r : ℕ) (left : List ℕ) : Type 0 where
  pub answer_is : In (answer_of r) ns
  pub second_is : second_of r ≡ second
  pub left_is : left ≡ lent

pub record CallsAnswer : Type 0 where
  pub checking : (image : List ℕ) (r : ℕ) → Checked image r
      → ((answer_of r ≡ 0) × (second_of r ≤ (on image).packages))
      ⊎ Refused (1 ∷ []) 255 image r image
  pub emptying : (lent : List ℕ) (r : ℕ) (left : List ℕ) → Emptied lent r left
      → ((answer_of r ≡ 0) × (second_of r ≡ 0) × (left ≡ empty_image (on lent)) × (length lent ≡ size (on lent)))
      ⊎ Refused (1 ∷ []) 255 lent r left
  pub converting : (L M : Layout) (old lent : List ℕ) (r : ℕ) (left : List ℕ) → Carried L M old lent r left
      → ((answer_of r ≡ 0) × (second_of r ≡ 0) × (length lent ≡ size M))
      ⊎ Refused (1 ∷ []) 255 lent r left
  pub judging : (image rec : List ℕ) (r : ℕ) (left : List ℕ) → Judged image rec r left
      → ((answer_of r ≡ 0) × (second_of r < (on image).packages))
      ⊎ Refused (from 1 11) 255 image r left
  pub reading : (image : List ℕ) (number : ℕ) (lent : List ℕ) (r : ℕ) (left : List ℕ) → ReadInto image number lent r left
      → ((answer_of r ≡ 0) × (length left ≡ length lent) × (drop (second_of r) left ≡ drop (second_of r) lent))
      ⊎ Refused (1 ∷ 5 ∷ 12 ∷ []) 0 lent r left

-- ---- demand 2: 'The lowest number that applies is given, and a number is given only for its cause.'
pub record CallsCause : Type 0 where
  pub checking : (image : List ℕ) (r : ℕ) → Checked image r → IsFirst (answer_of r) (1 when not (sound (on image) image) ∷ [])
  pub emptying : (lent : List ℕ) (r : ℕ) (left : List ℕ) → Emptied lent r left
      → IsFirst (answer_of r) (1 when not (eqb (length lent) (size (on lent))) ∷ [])
  pub converting : (L M : Layout) (old lent : List ℕ) (r : ℕ) (left : List ℕ) → Carried L M old lent r left
      → IsFirst (answer_of r) (1 when not (sound L old && eqb (length lent) (size M)) ∷ [])
  pub reading : (image : List ℕ) (number : ℕ) (lent : List ℕ) (r : ℕ) (left : List ℕ) → ReadInto image number lent r left
      → IsFirst (answer_of r)
      (1 when not (sound (on image) image)
      ∷ 5 when not (ltb number (on image).packages && (decode (on image) image).used number)
      ∷ 12 when not (leb (length (load_record (on image) (contract_at (on image) (decode (on image) image) number))) (length lent))
      ∷ [])

-- the verdict on a record
pub record VerdictOfCall (image rec : List ℕ) (r : ℕ) : Type 0 where
  -- an image that is not sound is cause 1; on a sound one the answer is the first of the others
  pub unsound : (T (sound (on image) image) → ⊥) → answer_of r ≡ 1
  pub first_cause : (cs : List Contract) → StandsFor (on image) image cs → IsFirst (answer_of r) (all_causes (on image) cs rec)
  -- 'a well-formed record free of causes 3 to 6 is accepted exactly when the contracts it would leave installed' are lawful and fit
  pub accepted_exactly : (cs : List Contract) (q : Request) → StandsFor (on image) image cs → parse (on image) rec ≡ some q
      → T (proper (on image) q.aid q.change)
      → ((k : Cause) → In k (causes4to7 (on image) cs q.aid q.change) → k.number < 7 → T k.applies → ⊥)
      → (answer_of r ≡ 0) ↔ (T (lawful (effect (on image) cs q.aid q.change)) × FitsLimits (on image) (effect (on image) cs q.aid q.change))
  -- every sound image stands for some contracts
  pub sound_stands : T (sound (on image) image) → (cs : List Contract) × StandsFor (on image) image cs

abbrev pub CallsVerdict : Type 0
CallsVerdict = (image rec : List ℕ) (r : ℕ) (left : List ℕ) → Judged image rec r left → VerdictOfCall image rec r

-- ---- demand 2: reading out
-- a record is well formed, has no cause 3, and is the contract again; a card of the same size that accepts it holds the same four sets
pub record Restores (L : Layout) (c : Contract) (rec : List ℕ) : Type 0 where
  pub parses : parse L rec ≡ some (request_of c)
  pub is_proper : T (proper L c.aid (load_of c))
  pub loads_again : (image : List ℕ) (r : ℕ) (left : List ℕ) → on image ≡ L → Judged image rec r left → answer_of r ≡ 0
      → (m : ℕ) × T ((decode L left).used m) × SameContract c (contract_at L (decode L left) m)

-- the bytes that an accepted call wrote are the contract of its package number
abbrev pub CallsReadOut : Type 0
CallsReadOut = (image : List ℕ) (number : ℕ) (lent : List ℕ) (r : ℕ) (left : List ℕ) → ReadInto image number lent r left → answer_of r ≡ 0
    → T (sound (on image) image) × T ((decode (on image) image).used number)
    × Restores (on image) (contract_at (on image) (decode (on image) image) number) (take (second_of r) left)

-- ---- the second number of an acceptance, 'returned with it', and where things go
pub record NumberOfCall (image rec : List ℕ) (r : ℕ) (left : List ℕ) (q : Request) : Type 0 where
  pub numbered : Numbered (decode (on image) image) (decode (on image) left) q.aid q.change (second_of r)
  pub placed : Placed (decode (on image) image) (decode (on image) left) (second_of r) q.change

pub record CallsNumber : Type 0 where
  pub checking : (image : List ℕ) (r : ℕ) (cs : List Contract) → Checked image r → StandsFor (on image) image cs
      → (answer_of r ≡ 0) × (second_of r ≡ length cs)
  pub judging : (image rec : List ℕ) (r : ℕ) (left : List ℕ) (q : Request) → Judged image rec r left → answer_of r ≡ 0
      → parse (on image) rec ≡ some q → NumberOfCall image rec r left q
  pub reading : (image : List ℕ) (number : ℕ) (lent : List ℕ) (r : ℕ) (left : List ℕ) → ReadInto image number lent r left → answer_of r ≡ 0
      → second_of r ≤ longest_record (on image)

-- ---- demand 3: calls that judge a record each, by L, with these contracts held at first
pub record HistoryOfCalls (L : Layout) (cs : List Contract) (ss : List (List ℕ)) (rs left : List ℕ) : Type 0 where
  pub equal_answers : map answer_of rs ≡ machine_answers L cs ss
  pub stands_for : StandsFor L left (contracts_after L cs ss)
  pub calls_granted : CallsGranted (contracts_after L cs ss)
  pub needs_present : NeedsPresent (contracts_after L cs ss)

-- each is refused with 1, and the image stays
pub record AllRefused (image rs left : List ℕ) : Type 0 where
  pub unsound : T (sound (on image) image) → ⊥
  pub each : (r : ℕ) → In r rs → (answer_of r ≡ 1) × (second_of r ≡ 255)
  pub left_is : left ≡ image

-- a length that no card has
abbrev pub OtherSize : List ℕ → Type 0
OtherSize image = (length image ≡ 1110 → ⊥) × (length image ≡ 3639 → ⊥)

-- a card of version 01: records by document 01's rules, R-7's change, records by R-7's; its image, and the contracts
-- that the machine then holds
abbrev pub image_old : List (List ℕ) → List (List ℕ) → List ℕ
image_old before middle = image_after narrow (image_then before) middle

abbrev pub contracts_old : List (List ℕ) → List (List ℕ) → List Contract
contracts_old before middle = contracts_after narrow (contracts_then before) middle

pub record CallsHistory : Type 0 where
  -- from a call that wrote the empty image; R-9: 'A history may start on the empty large image'
  pub from_empty : (lent : List ℕ) (r : ℕ) (image : List ℕ) → Emptied lent r image → answer_of r ≡ 0
      → (ss : List (List ℕ)) (rs left : List ℕ) → Calls image ss rs left → HistoryOfCalls (on image) [] ss rs left
  -- from a call that converted a card of version 01
  pub over_conversion : (before middle : List (List ℕ)) (lent : List ℕ) (r : ℕ) (image : List ℕ)
      → Converted (image_old before middle) lent r image → answer_of r ≡ 0
      → (ss : List (List ℕ)) (rs left : List ℕ) → Calls image ss rs left → HistoryOfCalls small (contracts_old before middle) ss rs left
  -- from any card that R-2's rules left, or R-1's, with the contracts that it stands for by them: no byte is converted
  pub over_kinds : (image : List ℕ) (cs : List Contract) → StandsFor ahead image cs ⊎ StandsFor renewed image cs
      → (ss : List (List ℕ)) (rs left : List ℕ) → Calls image ss rs left → HistoryOfCalls small cs ss rs left
  -- R-9: 'or a converted one', from any card with the contracts that it stands for, and so from one that any of the others left
  pub over_enlargement : (image lent : List ℕ) (cs : List Contract) (r : ℕ) (next : List ℕ) → StandsFor small image cs
      → Enlarged image lent r next → answer_of r ≡ 0
      → (ss : List (List ℕ)) (rs left : List ℕ) → Calls next ss rs left → HistoryOfCalls large cs ss rs left
  -- a buffer of the card's size takes every such card but those that R-7 left out, which held a method token of 128 or more at its change
  pub told : (before middle : List (List ℕ)) (lent : List ℕ) (r : ℕ) (left : List ℕ) → Converted (image_old before middle) lent r left
      → length lent ≡ 1110
      → (answer_of r ≡ 0) ↔ AllValid narrow (contracts_then before)

-- ---- 'numbers and list order kept' by a converter: the tables stay, and so do the contracts that they stand for
abbrev pub Keeps : Layout → Layout → Type 0
Keeps L M = (old lent : List ℕ) (r : ℕ) (image : List ℕ) → Carried L M old lent r image → answer_of r ≡ 0
    → T (sound L old) × (decode M image ≡ decode L old) × ((cs : List Contract) → StandsFor L old cs → StandsFor M image cs)

-- R-2's converter; 'the engine gives 1 for' version 01
pub record CallsConvert : Type 0 where
  pub kept : Keeps narrow small
  pub checking : (old : List ℕ) (r : ℕ) → T (sound narrow old) → Checked old r → Refused (1 ∷ []) 255 old r old
  pub reading : (old : List ℕ) (number : ℕ) (lent : List ℕ) (r : ℕ) (left : List ℕ) → T (sound narrow old)
      → ReadInto old number lent r left → Refused (1 ∷ []) 0 lent r left
  pub judging : (old : List ℕ) (ss : List (List ℕ)) (rs left : List ℕ) → T (sound narrow old) → Calls old ss rs left
      → AllRefused old rs left

-- ---- R-9: a card of 16 packages beside that of 8
pub record CallsCards : Type 0 where
  -- an image of 1,110 bytes is the small card's, one of 3,639 the large one's;
  pub small_card : (image : List ℕ) → length image ≡ 1110 → on image ≡ small
  pub large_card : (image : List ℕ) → length image ≡ 3639 → on image ≡ large
  -- of another length, every entry that takes it gives 1
  pub checking : (image : List ℕ) (r : ℕ) → OtherSize image → Checked image r → Refused (1 ∷ []) 255 image r image
  pub emptying : (lent : List ℕ) (r : ℕ) (left : List ℕ) → OtherSize lent → Emptied lent r left → Refused (1 ∷ []) 255 lent r left
  pub judging : (image rec : List ℕ) (r : ℕ) (left : List ℕ) → OtherSize image → Judged image rec r left
      → Refused (1 ∷ []) 255 image r left
  pub reading : (image : List ℕ) (number : ℕ) (lent : List ℕ) (r : ℕ) (left : List ℕ) → OtherSize image
      → ReadInto image number lent r left → Refused (1 ∷ []) 0 lent r left
  -- 'A record of the other card's version gets 2'
  pub other_version : (image rec : List ℕ) (r : ℕ) (left : List ℕ) → Judged image rec r left → T (sound (on image) image)
      → (get_or rec 2 0 ≡ (on image).version → ⊥) → Refused (2 ∷ []) 255 image r left
  -- 'the AID entry takes both': what either card reads, it reads
  pub either_aid : (c : Card) (rec : List ℕ) (q : Request) → parse (layout_of c) rec ≡ some q → by rec ≡ layout_of c
  -- 'A converter carries sound version 02 images over with contracts, numbers and list order kept'
  pub kept : Keeps small large

-- ---- the first AID: 0 for a malformed record, else 5 and the length of the AID, which stands there
pub record AidTold (rec : List ℕ) (r : ℕ) : Type 0 where
  pub malformed : parse (by rec) rec ≡ none → r ≡ 0
  pub whole : (q : Request) → parse (by rec) rec ≡ some q → (answer_of r ≡ 5) × (second_of r ≡ length q.aid)
      × (q.aid ≡ take (second_of r) (drop (answer_of r) rec))

abbrev pub CallsAid : Type 0
CallsAid = (rec : List ℕ) (r : ℕ) → AidFound rec r → AidTold rec r

-- ---- R-13: 'Needs only with the contract'
pub record CallsNeeds : Type 0 where
  -- 'Kinds 9 and 10 are retired and get 2'
  pub retired_kinds : (image rec : List ℕ) (r : ℕ) (left : List ℕ) → Judged image rec r left → T (sound (on image) image)
      → In (get_or rec 3 0) (9 ∷ 10 ∷ []) → Refused (2 ∷ []) 255 image r left
  pub no_aid : (rec : List ℕ) (r : ℕ) → AidFound rec r → In (get_or rec 3 0) (9 ∷ 10 ∷ []) → r ≡ 0
  -- 'Needs set by them stay in force': those of a card that R-1's rules left
  pub go_on : (image : List ℕ) → T (sound renewed image) → (a : Aid) (x : Row) → NeedsOn renewed image a x ↔ NeedsOn small image a x
  -- what the package of an accepted record needs after it, and that the others need what they needed
  pub after : (image rec : List ℕ) (r : ℕ) (left : List ℕ) (q : Request) → Judged image rec r left → answer_of r ≡ 0
      → parse (on image) rec ≡ some q → (a : Aid) (x : Row)
      → ((q.aid ≡ a) → NeedsOn (on image) left a x ↔ NeededBy q.change x (NeedsOn (on image) image a x))
      × ((q.aid ≡ a → ⊥) → NeedsOn (on image) left a x ↔ NeedsOn (on image) image a x)
  -- over records among which no whole contract of a stands (kinds 1, 2 and 11), and none that removes its call on x (kind 6)
  pub stay : (image : List ℕ) (ss : List (List ℕ)) (rs left : List ℕ) → Calls image ss rs left
      → T (sound (on image) image) → (a : Aid) (x : Row) → ((s : List ℕ) → In s ss → MovesNeed (on image) a x s → ⊥)
      → NeedsOn (on image) left a x ↔ NeedsOn (on image) image a x

-- ---- R-3: 'For every load on a sound image free of causes 2 to 7', what its answer says of the report's three conditions
abbrev pub CallsConditions : Type 0
CallsConditions = (image rec : List ℕ) (r : ℕ) (left : List ℕ) (cs : List Contract) (b : Contract) → Judged image rec r left
    → FreeLoad (on image) image rec cs b → ThreeConditions (on image) cs b (answer_of r)

-- ---- R-6: 'Suppliers must not watch each other', of calls on two cards that are alike for B
pub record CallsAlike (b : Aid) (image₁ image₂ : List ℕ) : Type 0 where
  -- 'A record whose first AID is B's gets the same answer and second number on both.'
  pub same : (rec : List ℕ) (r₁ r₂ : ℕ) (left₁ left₂ : List ℕ) → RecordOf (on image₁) b rec
      → Judged image₁ rec r₁ left₁ → Judged image₂ rec r₂ left₂
      → (answer_of r₁ ≡ answer_of r₂) × (second_of r₁ ≡ second_of r₂)
  -- so do all that follow
  pub histories : (ss : List (List ℕ)) (rs₁ rs₂ left₁ left₂ : List ℕ) → ((s : List ℕ) → In s ss → RecordOf (on image₁) b s)
      → Calls image₁ ss rs₁ left₁ → Calls image₂ ss rs₂ left₂ → (rs₁ ≡ rs₂) × Alike (on image₁) b left₁ left₂
  -- what others do among themselves leaves the cards alike where both lists are as long
  pub others : (ss₁ ss₂ : List (List ℕ)) (rs₁ rs₂ left₁ left₂ : List ℕ) → ((s : List ℕ) → In s (ss₁ ++ ss₂) → AmongOthers (on image₁) b s)
      → Calls image₁ ss₁ rs₁ left₁ → Calls image₂ ss₂ rs₂ left₂
      → length (decode (on image₁) left₁).unmet ≡ length (decode (on image₁) left₂).unmet
      → length (decode (on image₁) left₁).waiting ≡ length (decode (on image₁) left₂).waiting
      → Alike (on image₁) b left₁ left₂

abbrev pub CallsNotWatched : Type 0
CallsNotWatched = (b : Aid) (image₁ image₂ : List ℕ) → Alike (on image₁) b image₁ image₂ → CallsAlike b image₁ image₂
