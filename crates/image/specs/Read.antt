-- What code finds in an image and its tables, as numbers.
use Rattle.std.specs.Prelude.{ℕ, ◌+◌, ◌*◌, Bool, ◌&&◌, cond, List, [], ◌∷◌, ◌++◌, length, get_or, take, drop}
use Rattle.std.specs.Prelude.{Option as Answer, Some, None}
use Rattle.std.proofs.Math.Option.{Option}
use Rattle.policy.specs.Lists.{or_else}
use Rattle.policy.specs.Contract.{Aid, eq_aid, Tok, eq_tok, Row}
use Rattle.policy.specs.Tables.{Tables, Unmet, Waiting, no_tok, bit, write_aid}
use Rattle.policy.specs.Lookup.{Place as Found, Spot as SpotFound}
use Rattle.geometry.specs.declared.Kept.{Kept}
use Rattle.geometry.specs.declared.Kept.TheVariants.{UnmetCalls, WaitingGrants}
use Rattle.geometry.specs.declared.Tokens.{Tokens}
use Rattle.geometry.specs.Geometry.{tok_of}
use Rattle.image.specs.declared.read.Place.{Place}
use Rattle.image.specs.declared.read.Spot.{Spot}

-- what a search finds, as code answers it: a number, or a place of a service or grant
abbrev pub found : {A : Type 0} → Option A → Answer A
found o = or_else o None (λ x. Some x)

abbrev pub found_place : Option Found → Answer Place
found_place o = or_else o None (λ p. Some (record { callee = p.callee; service = p.service }))

abbrev pub found_spot : Option SpotFound → Answer Spot
found_spot o = or_else o None (λ p. Some (record { caller = p.caller; service = p.service }))

-- a number that was found, or d for none
abbrev pub number_or : ℕ → Option ℕ → ℕ
number_or d o = or_else o d (λ n. n)

-- the service of an AID with these tokens
abbrev pub asked : Aid → Tokens → Row
asked a t = record { aid = a; tok = tok_of t }

-- the AID in the place at `at`
abbrev pub aid_in : List ℕ → ℕ → Aid
aid_in img at = take (get_or img at 0) (drop (at + 1) img)

-- the last byte of an AID; 0 for one of no bytes
abbrev pub last_of : Aid → ℕ
last_of a = get_or (0 ∷ a) (length a) 0

-- the tokens at `at`
abbrev pub tokens_in : List ℕ → ℕ → Tok
tokens_in img at = record { itf = get_or img at 0; mth = get_or img (at + 1) 0 }

-- bit k of a row is set, and place k of those from `at` on holds the AID, or the tokens
abbrev pub aid_held : List ℕ → ℕ → ℕ → Aid → ℕ → Bool
aid_held img at row a k = bit row k && eq_aid (aid_in img (at + k * 17)) a

abbrev pub tokens_held : List ℕ → ℕ → ℕ → Tokens → ℕ → Bool
tokens_held img at row t k = bit row k && eq_tok (tokens_in img (at + k * 2)) (tok_of t)

-- a mask of the elements that pass: bit r is the r-th
abbrev pub mask_of : {A : Type 0} → (A → Bool) → List A → ℕ
mask_of f [] = 0
mask_of f (x ∷ l) = cond (f x) 1 0 + 2 * mask_of f l

-- ---- the two lists alike: an item has an AID, tokens and a package number
abbrev pub Item : Kept → Type 0
Item UnmetCalls = Unmet
Item WaitingGrants = Waiting

abbrev pub items_of : (l : Kept) → Tables → List (Item l)
items_of UnmetCalls t = t.unmet
items_of WaitingGrants t = t.waiting

abbrev pub item : (l : Kept) → Aid → Tok → ℕ → Item l
item UnmetCalls a s n = record { callee = a; tok = s; caller = n }
item WaitingGrants a s n = record { caller = a; callee = n; tok = s }

abbrev pub item_aid : (l : Kept) → Item l → Aid
item_aid UnmetCalls u = u.callee
item_aid WaitingGrants w = w.caller

abbrev pub item_tok : (l : Kept) → Item l → Tok
item_tok UnmetCalls u = u.tok
item_tok WaitingGrants w = w.tok

abbrev pub item_number : (l : Kept) → Item l → ℕ
item_number UnmetCalls u = u.caller
item_number WaitingGrants w = w.callee

-- its row: an AID's place, then 'tokens, caller number', or 'callee number' and tokens
abbrev pub tail_of : Kept → Tok → ℕ → List ℕ
tail_of UnmetCalls s n = s.itf ∷ s.mth ∷ n ∷ []
tail_of WaitingGrants s n = n ∷ s.itf ∷ s.mth ∷ []

abbrev pub write_item : (l : Kept) → Item l → List ℕ
write_item l x = write_aid (item_aid l x) ++ tail_of l (item_tok l x) (item_number l x)

-- item r of a list, and what stands for none
abbrev pub item_at : (l : Kept) → Tables → ℕ → Item l
item_at l t r = get_or (items_of l t) r (item l [] no_tok 0)

abbrev pub unmet_row : Tables → ℕ → Unmet
unmet_row t r = item_at UnmetCalls t r

abbrev pub waiting_row : Tables → ℕ → Waiting
waiting_row t r = item_at WaitingGrants t r
