-- Rules that change: document 01, 'Requests that change causes, effects or limits change them here, for the records judged after the
-- change; what a history had before was judged by the rules of then, and the machine goes on with the contracts it holds.'
use Rattle.std.specs.Prelude.{ℕ, ◌≤◌, ◌≡◌, Bool, ◌&&◌, cond, List, [], ◌∷◌, ◌++◌, map, T, eqb, length, get_or}
use mathlib.Core.List.{Memᴰ as In}
use Rattle.std.proofs.Math.Option.{none}
use Rattle.policy.specs.Contract.{Contract}
use Rattle.policy.specs.Layout.{Layout, LayoutOk, base, narrow, ahead, renewed, retired, small, large, size}
use Rattle.policy.specs.Record.{parse}
use Rattle.policy.specs.Machine.{machine}
use Rattle.policy.specs.Tables.{decode, encode, empty_image}
use Rattle.policy.specs.Sound.{sound}
use Rattle.policy.specs.Judge.{Out, refusal, judge, check, read_out}
use Rattle.policy.specs.History.{AllValid, AllAllowed, StandsFor, answers, image_after, machine_answers, contracts_after}
use Rattle.policy.specs.Marked.{CaseOver, lines_from, cases_converted, cases_renewed, cases_needs, cases_retired}
use Rattle.policy.specs.Marked.{cases_large, cases_enlarged}
use Rattle.policy.specs.Claims.{CallsGranted, NeedsPresent}

-- ---- the passage from the rules L to the rules M
-- an image of L as one of M: the same tables
unfoldable pub carried : Layout → Layout → List ℕ → List ℕ
unfolding decode encode
carried L M img = encode M (decode L img)

-- a converter: a sound image of L into a buffer of M's size, 'else 1'
unfoldable pub convert : Layout → Layout → List ℕ → List ℕ → Out
unfolding sound carried
convert L M img b =
    cond (sound L img && eqb (length b) (size M)) (record { answered = 0; second = 0; bytes = carried L M img }) (refusal 1 255 b)

-- M has room for what stands under L
pub record Widens (L M : Layout) : Type 0 where
  pub packages : L.packages ≤ M.packages
  pub services : L.services ≤ M.services
  pub capacity : L.capacity ≤ M.capacity

-- the change from L to M, with these contracts held: there is room for them, and the rules of M allow them as those of L did.
-- R-7: 'the history promise leaves out only the histories whose card then still holds such a token'
pub record Passes (L M : Layout) (cs : List Contract) : Type 0 where
  pub is_ok : LayoutOk M
  pub widens : Widens L M
  pub allowed : AllAllowed L cs → AllAllowed M cs

-- the two write the same bytes: nothing is converted
pub record SameBytes (L M : Layout) : Type 0 where
  pub packages : L.packages ≡ M.packages
  pub services : L.services ≡ M.services
  pub width : L.width ≡ M.width
  pub capacity : L.capacity ≡ M.capacity
  pub header : L.header ≡ M.header
  pub early : L.early ≡ M.early

-- M's rules, with the kinds that r reads
abbrev pub with_reads : Layout → (ℕ → Bool) → Layout
with_reads M r = record {
  packages = M.packages;
  services = M.services;
  width = M.width;
  capacity = M.capacity;
  header = M.header;
  version = M.version;
  count_width = M.count_width;
  most_rows = M.most_rows;
  most_callers = M.most_callers;
  methods = M.methods;
  early = M.early;
  reads = r;
}

-- ---- histories over changes of the rules: records under the first rules, then the later eras, each on the image that the last one left
pub record Era : Type 0 where
  pub rules : Layout
  pub records : List (List ℕ)

abbrev pub last_rules : Layout → List Era → Layout
last_rules L [] = L
last_rules L (e ∷ es) = last_rules e.rules es

unfoldable pub answers_over : Layout → List ℕ → List (List ℕ) → List Era → List ℕ
unfolding answers image_after carried
answers_over L img ss [] = answers L img ss
answers_over L img ss (e ∷ es) = answers L img ss ++ answers_over e.rules (carried L e.rules (image_after L img ss)) e.records es

unfoldable pub image_over : Layout → List ℕ → List (List ℕ) → List Era → List ℕ
unfolding image_after carried
image_over L img ss [] = image_after L img ss
image_over L img ss (e ∷ es) = image_over e.rules (carried L e.rules (image_after L img ss)) e.records es

-- 'the machine goes on with the contracts it holds'
unfoldable pub machine_answers_over : Layout → List Contract → List (List ℕ) → List Era → List ℕ
unfolding machine_answers contracts_after
machine_answers_over L cs ss [] = machine_answers L cs ss
machine_answers_over L cs ss (e ∷ es) = machine_answers L cs ss ++ machine_answers_over e.rules (contracts_after L cs ss) e.records es

unfoldable pub contracts_over : Layout → List Contract → List (List ℕ) → List Era → List Contract
unfolding contracts_after
contracts_over L cs ss [] = contracts_after L cs ss
contracts_over L cs ss (e ∷ es) = contracts_over e.rules (contracts_after L cs ss) e.records es

-- every change of the rules on the way is a passage, with the contracts that the machine then holds
abbrev pub AllPass : Layout → List Contract → List (List ℕ) → List Era → Type 0
AllPass L cs ss [] = Unit {0}
AllPass L cs ss (e ∷ es) = Passes L e.rules (contracts_after L cs ss) × AllPass e.rules (contracts_after L cs ss) e.records es

-- ---- the claims
pub record HistoryOver (L : Layout) (img : List ℕ) (cs : List Contract) (ss : List (List ℕ)) (es : List Era) : Type 0 where
  pub equal_answers : answers_over L img ss es ≡ machine_answers_over L cs ss es
  pub stands_for : StandsFor (last_rules L es) (image_over L img ss es) (contracts_over L cs ss es)
  pub calls_granted : CallsGranted (contracts_over L cs ss es)
  pub needs_present : NeedsPresent (contracts_over L cs ss es)

-- demand 3 from an image that stands for contracts, over any changes of the rules
abbrev pub HistoryFrom : Layout → Type 0
HistoryFrom L = (img : List ℕ) (cs : List Contract) → StandsFor L img cs
    → (ss : List (List ℕ)) (es : List Era) → AllPass L cs ss es → HistoryOver L img cs ss es

-- a passage keeps numbers and list order, since it keeps the tables whole, and the contracts that they stand for
abbrev pub Carries : Layout → Layout → List ℕ → List Contract → Type 0
Carries L M img cs = (decode M (carried L M img) ≡ decode L img) × StandsFor M (carried L M img) cs

abbrev pub Passage : Layout → Layout → Type 0
Passage L M = (img : List ℕ) (cs : List Contract) → StandsFor L img cs → Passes L M cs → Carries L M img cs

-- a conversion is a passage of every sound image
abbrev pub Passing : Layout → Layout → Type 0
Passing L M = (img : List ℕ) (cs : List Contract) → StandsFor L img cs → Carries L M img cs

-- 'that card is unsound from then on': every record gets 1 with 255, and nothing changes
pub record LeftOut (L : Layout) (img : List ℕ) : Type 0 where
  pub unsound : T (sound L img) → ⊥
  pub refuses : (ss : List (List ℕ)) (s : List ℕ) → judge L (image_after L img ss) s ≡ refusal 1 255 img

-- every entry that takes an image gives 1, and nothing changes
pub record RefusedAll (L : Layout) (img : List ℕ) : Type 0 where
  pub judging : (s : List ℕ) → judge L img s ≡ refusal 1 255 img
  pub checking : check L img ≡ refusal 1 255 img
  pub reading : (n : ℕ) (out : List ℕ) → read_out L img n out ≡ refusal 1 0 out

-- where the two write the same bytes the image stays as it is: where the rules of M allow the contracts that it stands for it stands
-- for them, else the card is left out; the check tells which
pub record Stays (L M : Layout) : Type 0 where
  pub same_image : (img : List ℕ) → T (sound L img) → carried L M img ≡ img
  pub told : (img : List ℕ) (cs : List Contract) → StandsFor L img cs → T (sound M img) → AllAllowed M cs
  pub goes_on : (img : List ℕ) (cs : List Contract) → StandsFor L img cs → AllAllowed M cs → StandsFor M img cs
  pub left_out : (img : List ℕ) (cs : List Contract) → StandsFor L img cs → (AllAllowed M cs → ⊥) → LeftOut M img

-- a record that the rules L and M answer alike, with the same image and the same contracts left
pub record JudgedAlike (L M : Layout) (s : List ℕ) : Type 0 where
  pub engine : (img : List ℕ) → judge L img s ≡ judge M img s
  pub answers : (cs : List Contract) → (machine L cs s).answered ≡ (machine M cs s).answered
  pub contracts : (cs : List Contract) → (machine L cs s).contracts ≡ (machine M cs s).contracts

-- where only the kinds that are read differ, a record of a kind that both read, or neither, is judged as before
abbrev pub OtherKindsStay : Layout → (ℕ → Bool) → Type 0
OtherKindsStay M r = (s : List ℕ) → r (get_or s 3 0) ≡ M.reads (get_or s 3 0) → JudgedAlike (with_reads M r) M s

-- the kinds ks begin or end, and nothing else changes: no byte is converted, no card is left out, and every record of another kind is
-- judged as before
pub record KindsChange (L M : Layout) (ks : List ℕ) : Type 0 where
  pub same_image : (img : List ℕ) → T (sound L img) → carried L M img ≡ img
  pub goes_on : (img : List ℕ) (cs : List Contract) → StandsFor L img cs → StandsFor M img cs
  pub others : (s : List ℕ) → (In (get_or s 3 0) ks → ⊥) → JudgedAlike M L s

-- the record is malformed: 2 with 255, and nothing changes
pub record Malformed (L : Layout) (s : List ℕ) : Type 0 where
  pub not_read : parse L s ≡ none
  pub engine : (img : List ℕ) → T (sound L img) → judge L img s ≡ refusal 2 255 img
  pub answers : (cs : List Contract) → (machine L cs s).answered ≡ 2
  pub contracts : (cs : List Contract) → (machine L cs s).contracts ≡ cs

-- a record of a kind that is not read is malformed
abbrev pub UnreadMalformed : Layout → Type 0
UnreadMalformed L = (s : List ℕ) → (T (L.reads (get_or s 3 0)) → ⊥) → Malformed L s

-- R-9: 'A record of the other card's version gets 2'
abbrev pub OtherVersion : Layout → Type 0
OtherVersion L = (s : List ℕ) → (get_or s 2 0 ≡ L.version → ⊥) → Malformed L s

-- a converter answers 0 with 0 and writes the carried image, or 1 with 255 and writes nothing
pub record Converts (L M : Layout) (img b : List ℕ) : Type 0 where
  pub taken : T (sound L img) → length b ≡ size M → convert L M img b ≡ record { answered = 0; second = 0; bytes = carried L M img }
  pub not_sound : (T (sound L img) → ⊥) → convert L M img b ≡ refusal 1 255 b
  pub not_sized : (length b ≡ size M → ⊥) → convert L M img b ≡ refusal 1 255 b

-- the marked cases over a conversion: R-2's, and R-9's; and over R-1's change and R-13's
abbrev pub MarkedAcross : Layout → Layout → List CaseOver → Type 0
MarkedAcross L M cs =
    map (λ c. lines_from M (carried L M (image_after L (empty_image L) c.before)) c.records) cs ≡ map (λ c. c.lines) cs

abbrev pub MarkedConverted : Type 0
MarkedConverted = MarkedAcross narrow ahead cases_converted

abbrev pub MarkedEnlarged : Type 0
MarkedEnlarged =
    (map (λ c. lines_from large (empty_image large) c.records) cases_large ≡ map (λ c. c.lines) cases_large)
    × MarkedAcross small large cases_enlarged

abbrev pub MarkedRenewed : Type 0
MarkedRenewed =
    map (λ c. lines_from renewed (image_after ahead (empty_image ahead) c.before) c.records) cases_renewed
    ≡ map (λ c. c.lines) cases_renewed

abbrev pub MarkedRetired : Type 0
MarkedRetired =
    (map (λ c. lines_from renewed (empty_image renewed) c.records) cases_needs ≡ map (λ c. c.lines) cases_needs)
    × (map (λ c. lines_from retired (image_after renewed (empty_image renewed) c.before) c.records) cases_retired
    ≡ map (λ c. c.lines) cases_retired)

-- ---- the card of eight packages so far: records by document 01's rules, R-7's change, records, R-2's conversion, records, R-1's change,
-- records, R-13's change, records
-- the image and the contracts at R-7's change
abbrev pub image_then : List (List ℕ) → List ℕ
image_then ss = image_after base (empty_image base) ss

abbrev pub contracts_then : List (List ℕ) → List Contract
contracts_then ss = contracts_after base [] ss

-- its eras after document 01's
abbrev pub eras_small : List (List ℕ) → List (List ℕ) → List (List ℕ) → List (List ℕ) → List Era
eras_small ts us vs ws =
    record { rules = narrow; records = ts }
    ∷ record { rules = ahead; records = us }
    ∷ record { rules = renewed; records = vs }
    ∷ record { rules = retired; records = ws }
    ∷ []

pub record SoFar : Type 0 where
  -- demand 3, where the card at R-7's change holds no method token of 128 or more
  pub history : (ss ts us vs ws : List (List ℕ)) → AllValid narrow (contracts_then ss)
      → HistoryOver base (empty_image base) [] ss (eras_small ts us vs ws)
  -- R-7: nothing is converted, and the check tells whether it does
  pub same_image : (ss : List (List ℕ)) → carried base narrow (image_then ss) ≡ image_then ss
  pub told : (ss : List (List ℕ)) → T (sound narrow (image_then ss)) → AllValid narrow (contracts_then ss)
  pub goes_on : (ss : List (List ℕ)) → AllValid narrow (contracts_then ss) → StandsFor narrow (image_then ss) (contracts_then ss)
  -- where it holds one
  pub left_out : (ss : List (List ℕ)) → (AllValid narrow (contracts_then ss) → ⊥) → LeftOut narrow (image_then ss)
  -- R-2: 'sound version 01 images, numbers and list order kept': the tables stay, and so do the contracts, by the rules in force;
  pub converted : Passing narrow small
  -- 'the engine gives 1 for them'
  pub refused : (img : List ℕ) → T (sound narrow img) → RefusedAll small img
  -- R-1: kind 11 begins
  pub renewal : KindsChange ahead renewed (11 ∷ [])
  -- R-13: kinds 9 and 10 end, 'and get 2'; 'Needs set by them stay in force', as every contract does
  pub retirement : KindsChange renewed retired (9 ∷ 10 ∷ [])
  pub retired_kinds : (s : List ℕ) → In (get_or s 3 0) (9 ∷ 10 ∷ []) → Malformed retired s

-- ---- the card of sixteen packages: a conversion, and records
abbrev pub on_large : List (List ℕ) → List Era
on_large ss = record { rules = large; records = ss } ∷ []

pub record Larger : Type 0 where
  -- R-9: 'A history may start on the empty large image'
  pub history_empty : (ss : List (List ℕ)) → HistoryOver large (empty_image large) [] ss []
  -- 'or a converted one': on any card that is sound by the rules in force, records, the conversion, records
  pub history_on : (img : List ℕ) (cs : List Contract) → StandsFor small img cs → (ss us : List (List ℕ))
      → HistoryOver small img cs ss (on_large us)
  -- and from the first record by document 01's rules on
  pub history_all : (ss ts us vs ws xs : List (List ℕ)) → AllValid narrow (contracts_then ss)
      → HistoryOver base (empty_image base) [] ss (eras_small ts us vs ws ++ on_large xs)
  -- 'sound version 02 images over with contracts, numbers and list order kept'
  pub enlarged : Passing small large
  -- 'A record of the other card's version gets 2'
  pub other_small : OtherVersion small
  pub other_large : OtherVersion large
