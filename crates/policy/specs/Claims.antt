-- The theorems, as statements; docs/PROOFS.md says each in words, and proofs/Theorems.antt has the proofs.
use Rattle.std.specs.Prelude.{ℕ, ◌≤◌, ◌<◌, ◌≡◌, ◌↔◌, ◌⊎◌, true, false, List, [], ◌∷◌, map, T, length, take, drop}
use mathlib.Core.List.{Memᴰ as In}
use Rattle.std.proofs.Math.Option.{none, some}
use Rattle.policy.specs.Lists.{NoRepeat, keep, upto, or_else}
use Rattle.policy.specs.Contract.{Row, Contract, own_grants, valid_aid, lawful, unmet_calls, waiting_grants}
use Rattle.policy.specs.Layout.{Layout, base, narrow, small, size}
use Rattle.policy.specs.Record.{Request, load, parse, proper, first_aid}
use Rattle.policy.specs.Causes.{Cause, ◌when◌, answer}
use Rattle.policy.specs.Machine.{machine, effect, causes4to7, causes3to11}
use Rattle.policy.specs.Tables.{Tables, decode, empty_image}
use Rattle.policy.specs.Lookup.{contract_at}
use Rattle.policy.specs.Sound.{sound}
use Rattle.policy.specs.Draft.{look, draft}
use Rattle.policy.specs.ShortCheck.{short_look}
use Rattle.policy.specs.Judge.{Out, refusal, table_causes, judge, check, write_empty, load_record, read_out}
use Rattle.policy.specs.History.{SameContract, StandsFor, answers, image_after, machine_answers, contracts_after}
use Rattle.policy.specs.Marked.{lines_from, cases, cases_over, Standing, replacing}

-- ---- 1. the marked cases: whole lines on the engine's definition, and answers on the machine
abbrev pub MarkedCases : Type 0
MarkedCases =
    (map (λ c. lines_from small (empty_image small) c.records) cases ≡ map (λ c. c.lines) cases)
    × (map (λ c. machine_answers small [] c.records) cases ≡ map (λ c. map (λ l. l.answer) c.lines) cases)

-- those over R-7's change
abbrev pub MarkedOver : Type 0
MarkedOver =
    map (λ c. lines_from narrow (image_after base (empty_image base) c.before) c.records) cases_over
    ≡ map (λ c. c.lines) cases_over

-- where R-1's case leaves things, on the engine's definition
abbrev pub standing : Layout → Tables → Standing
standing L t = record {
  places = keep (t.provides 0) (upto L.services);
  services = map (t.tok 0) (keep (t.provides 0) (upto L.services));
  unmet = t.unmet;
  waiting = t.waiting;
}

abbrev pub ReplacingPlaces : Type 0
ReplacingPlaces = standing small (decode small (image_after small (empty_image small) replacing.records)) ≡ replacing.leaves

-- ---- 2. one record: equal answers, and the image after it stands for the machine's contracts after it
abbrev pub Agreement : Layout → Type 0
Agreement L = (img s : List ℕ) (cs : List Contract) → StandsFor L img cs
    → ((judge L img s).answered ≡ (machine L cs s).answered) × StandsFor L (judge L img s).bytes (machine L cs s).contracts

-- ---- 3. demand 3
-- every call to a service present on the card is granted by its provider
abbrev pub CallsGranted : List Contract → Type 0
CallsGranted cs = (c d : Contract) (r : Row) → In c cs → In d cs → In r c.calls → d.aid ≡ r.aid → In r.tok d.provides
    → In (record { aid = c.aid; tok = r.tok }) d.grants

-- every needed service is present
abbrev pub NeedsPresent : List Contract → Type 0
NeedsPresent cs = (c : Contract) (r : Row) → In c cs → In r c.needs
    → (d : Contract) × In d cs × (d.aid ≡ r.aid) × In r.tok d.provides

pub record HistoryOf (L : Layout) (ss : List (List ℕ)) : Type 0 where
  pub equal_answers : answers L (empty_image L) ss ≡ machine_answers L [] ss
  pub stands_for : StandsFor L (image_after L (empty_image L) ss) (contracts_after L [] ss)
  pub calls_granted : CallsGranted (contracts_after L [] ss)
  pub needs_present : NeedsPresent (contracts_after L [] ss)

abbrev pub History : Layout → Type 0
History L = (ss : List (List ℕ)) → HistoryOf L ss

-- R-2: 'Lawful cards are what they were': a grant of a service that its package does not provide makes no odds
abbrev pub LawfulAsBefore : Type 0
LawfulAsBefore = (cs : List Contract) → NoRepeat (map (λ c. c.aid) cs) → lawful cs ≡ lawful (map own_grants cs)

-- ---- 4. demand 2
-- 'fit the stated limits'
pub record FitsLimits (L : Layout) (ds : List Contract) : Type 0 where
  pub packages_fit : length ds ≤ L.packages
  pub services_fit : (c : Contract) → In c ds → length c.provides ≤ L.services
  pub unmet_fit : length (unmet_calls ds) ≤ L.capacity
  pub waiting_fit : length (waiting_grants ds) ≤ L.capacity

-- 'a well-formed record free of causes 3 to 6 is accepted exactly when the contracts it would leave installed' are lawful and fit
abbrev pub AcceptedExactly : Layout → Type 0
AcceptedExactly L = (img s : List ℕ) (cs : List Contract) (q : Request) → StandsFor L img cs → parse L s ≡ some q
    → T (proper L q.aid q.change)
    → ((k : Cause) → In k (causes4to7 L cs q.aid q.change) → k.number < 7 → T k.applies → ⊥)
    → ((judge L img s).answered ≡ 0) ↔ (T (lawful (effect L cs q.aid q.change)) × FitsLimits L (effect L cs q.aid q.change))

-- the causes 2 to 11 of a record's bytes, in order, by the contracts held
abbrev pub all_causes : Layout → List Contract → List ℕ → List Cause
all_causes L cs s = or_else (parse L s) (2 when true ∷ []) (λ q. 2 when false ∷ causes3to11 L cs q)

-- n is 0 and no cause applies, or n is a cause that applies and no lower one does
abbrev pub IsFirst : ℕ → List Cause → Type 0
IsFirst n l =
    ((n ≡ 0) × ((k : Cause) → In k l → T k.applies → ⊥))
    ⊎ ((k : Cause) × In k l × (k.number ≡ n) × T k.applies × ((m : Cause) → In m l → T m.applies → n ≤ m.number))

-- an image that is not sound is cause 1; on a sound one the answer is the first of the others
abbrev pub FirstCause : Layout → Type 0
FirstCause L = (img s : List ℕ)
    → ((T (sound L img) → ⊥) → judge L img s ≡ refusal 1 255 img)
    × ((cs : List Contract) → StandsFor L img cs → IsFirst (judge L img s).answered (all_causes L cs s))

-- every sound image stands for some contracts
abbrev pub SoundStands : Layout → Type 0
SoundStands L = (img : List ℕ) → T (sound L img) → (cs : List Contract) × StandsFor L img cs

-- ---- 5. short check = full look
abbrev pub ShortIsFull : Layout → Type 0
ShortIsFull L = (img s : List ℕ) (q : Request) → T (sound L img) → parse L s ≡ some q → T (proper L q.aid q.change)
    → answer (table_causes L (decode L img) q.aid q.change) ≡ 0
    → look L (draft L (decode L img) q.aid q.change) ≡ short_look L (decode L img) q.aid q.change

-- ---- 6. reading out
-- the record read out is well formed, has no cause 3, and is the contract again; a card that accepts it holds the same four sets
pub record ReadsOut (L : Layout) (img : List ℕ) (n : ℕ) : Type 0 where
  pub parses : (c : Contract) → c ≡ contract_at L (decode L img) n
      → parse L (load_record L c) ≡ some (record { aid = c.aid; change = load c.provides c.calls c.grants c.needs })
  pub is_proper : (c : Contract) → c ≡ contract_at L (decode L img) n
      → T (proper L c.aid (load c.provides c.calls c.grants c.needs))
  pub loads_again : (c : Contract) → c ≡ contract_at L (decode L img) n
      → (img₂ : List ℕ) → (judge L img₂ (load_record L c)).answered ≡ 0
      → (m : ℕ) × T ((decode L (judge L img₂ (load_record L c)).bytes).used m)
      × SameContract c (contract_at L (decode L (judge L img₂ (load_record L c)).bytes) m)

abbrev pub ReadOutAgain : Layout → Type 0
ReadOutAgain L = (img : List ℕ) (n : ℕ) → T (sound L img) → T ((decode L img).used n) → ReadsOut L img n

-- the first AID is the part of the record from byte 5 on; an empty part for a malformed record
abbrev pub FirstAidPart : Layout → Type 0
FirstAidPart L = (s : List ℕ)
    → ((parse L s ≡ none) → first_aid L s ≡ [])
    × ((q : Request) → parse L s ≡ some q → (first_aid L s ≡ q.aid) × (q.aid ≡ take (length q.aid) (drop 5 s)) × T (valid_aid q.aid))

-- ---- 7. demand 1: the answer and its second number are of document 01's table, and a refusal leaves what was lent
abbrev pub RefusesWith : List ℕ → ℕ → List ℕ → Out → Type 0
RefusesWith ns second lent o = (n : ℕ) × In n ns × (o ≡ refusal n second lent)

pub record AnswersAlways (L : Layout) : Type 0 where
  pub judging : (img s : List ℕ) → (((judge L img s).answered ≡ 0) × ((judge L img s).second < L.packages))
      ⊎ RefusesWith (1 ∷ 2 ∷ 3 ∷ 4 ∷ 5 ∷ 6 ∷ 7 ∷ 8 ∷ 9 ∷ 10 ∷ 11 ∷ []) 255 img (judge L img s)
  pub checking : (img : List ℕ) → (((check L img).answered ≡ 0) × ((check L img).second ≤ L.packages) × ((check L img).bytes ≡ img))
      ⊎ RefusesWith (1 ∷ []) 255 img (check L img)
  pub emptying : (b : List ℕ) → ((write_empty L b ≡ record { answered = 0; second = 0; bytes = empty_image L }) × (length b ≡ size L))
      ⊎ RefusesWith (1 ∷ []) 255 b (write_empty L b)
  pub reading : (img : List ℕ) (n : ℕ) (out : List ℕ)
      → (((read_out L img n out).answered ≡ 0) × (length (read_out L img n out).bytes ≡ length out)
      × (drop (read_out L img n out).second (read_out L img n out).bytes ≡ drop (read_out L img n out).second out))
      ⊎ RefusesWith (1 ∷ 5 ∷ 12 ∷ []) 0 out (read_out L img n out)
