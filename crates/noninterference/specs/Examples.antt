-- R-6, computed: two different cards that are alike for package 3, and two pairs that the list counts alone tell apart.
use Rattle.std.specs.Prelude.{ℕ, ◌≡◌, Bool, true, false, List, [], ◌∷◌, map}
use Rattle.policy.specs.Contract.{Row, Contract, has_row}
use Rattle.policy.specs.Layout.{small}
use Rattle.policy.specs.Tables.{decode, empty_image}
use Rattle.policy.specs.Lookup.{contract_at}
use Rattle.policy.specs.Judge.{judge}
use Rattle.policy.specs.History.{image_after}
use Rattle.policy.specs.Marked.{row_of, load_of, calls_on9, grants_from, row_change, plain_aid, tok_of}
use Rattle.noninterference.specs.Alike.{Alike, tests}
use Rattle.noninterference.specs.Claims.{NotWatchedBy, watching}

-- the card after some records
abbrev pub card_of : List (List ℕ) → List ℕ
card_of ss = image_after small (empty_image small) ss

-- on both package 3 calls and needs service 1 of package 1, calls service 5 of the absent package 9, and grants its service 0 to package 2,
-- which calls it, and to the absent package 8. On the first package 2 calls and needs service 0 of package 1 as well
abbrev pub card₁ : List ℕ
card₁ = card_of (
    load_of 1 (0 ∷ 1 ∷ []) [] (row_of 2 0 ∷ row_of 3 1 ∷ row_of 8 0 ∷ []) []
    ∷ load_of 3 (0 ∷ []) (row_of 1 1 ∷ row_of 9 5 ∷ []) (row_of 2 0 ∷ row_of 8 0 ∷ []) (row_of 1 1 ∷ [])
    ∷ load_of 2 [] (row_of 1 0 ∷ row_of 3 0 ∷ row_of 9 1 ∷ []) [] (row_of 1 0 ∷ [])
    ∷ [])

abbrev pub card₂ : List ℕ
card₂ = card_of (
    load_of 1 (1 ∷ 0 ∷ []) [] (row_of 3 1 ∷ row_of 7 1 ∷ []) []
    ∷ load_of 3 (0 ∷ []) (row_of 1 1 ∷ []) (row_of 2 0 ∷ row_of 8 0 ∷ []) (row_of 1 1 ∷ [])
    ∷ load_of 2 [] (row_of 3 0 ∷ row_of 9 2 ∷ []) [] []
    ∷ row_change 5 3 9 5
    ∷ [])

-- package number n of a card
abbrev pub read : List ℕ → ℕ → Contract
read img n = contract_at small (decode small img) n

-- package number n has on the first card alone the row of service m of package k, or of its own service m for package k
abbrev pub FirstAlone : (Contract → List Row) → ℕ → ℕ → ℕ → Type 0
FirstAlone rows n k m =
    let r : Row = record { aid = plain_aid k; tok = tok_of m } in
    (has_row r (rows (read card₁ n)) ≡ true) × (has_row r (rows (read card₂ n)) ≡ false)

-- the callers of the unmet calls, in the order of the list
abbrev pub callers : List ℕ → List ℕ
callers img = map (λ u. u.caller) (decode small img).unmet

-- they 'differ in what other packages call, need and grant among themselves': packages 1 and 2, which have numbers 0 and 2
pub record Differ : Type 0 where
  pub alike : Alike small (plain_aid 3) card₁ card₂
  pub calls : FirstAlone (λ c. c.calls) 2 1 0
  pub needs : FirstAlone (λ c. c.needs) 2 1 0
  pub grants : FirstAlone (λ c. c.grants) 0 2 0
  -- an unmet call, and a waiting grant
  pub unmet : FirstAlone (λ c. c.calls) 2 9 1
  pub waiting : FirstAlone (λ c. c.grants) 0 8 0
  -- and in the numbers of services, and the order of a list, in which package 3 has number 1
  pub services : ((read card₁ 0).provides ≡ tok_of 0 ∷ tok_of 1 ∷ []) × ((read card₂ 0).provides ≡ tok_of 1 ∷ tok_of 0 ∷ [])
  pub order : (callers card₁ ≡ 1 ∷ 2 ∷ []) × (callers card₂ ≡ 2 ∷ 1 ∷ [])

-- an engine that looks at a row between two others tells them apart
abbrev pub WatchingFails : Type 0
WatchingFails = NotWatchedBy small (watching small) → ⊥

-- ---- what is not hidden: the list counts
-- package 1 alone, which calls a service of the absent package 9, or grants it one, or neither
abbrev pub plain : List ℕ
plain = card_of (load_of 1 [] [] [] [] ∷ [])

abbrev pub calling : List ℕ
calling = card_of (load_of 1 [] (row_of 9 1 ∷ []) [] [] ∷ [])

abbrev pub granting : List ℕ
granting = card_of (load_of 1 [] [] (row_of 9 1 ∷ []) [] ∷ [])

-- two cards pass these tests for package 3, and record s gets these two answers
pub record TellsApart (img₁ img₂ : List ℕ) (passed : List Bool) (s : List ℕ) (m n : ℕ) : Type 0 where
  pub passes : tests small (plain_aid 3) img₁ img₂ ≡ passed
  pub first : (judge small img₁ s).answered ≡ m
  pub second : (judge small img₂ s).answered ≡ n

-- one that asks for the whole of a list learns whether it was empty
pub record CountsShow : Type 0 where
  pub unmet : TellsApart calling plain (true ∷ true ∷ true ∷ true ∷ false ∷ true ∷ []) (load_of 3 [] (calls_on9 16) [] []) 10 0
  pub waiting : TellsApart granting plain (true ∷ true ∷ true ∷ true ∷ true ∷ false ∷ []) (load_of 3 [] [] (grants_from 20 16) []) 11 0
