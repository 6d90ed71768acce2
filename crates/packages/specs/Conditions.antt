-- The report's three conditions (definition 7.1) of a contract that comes, as the code works them: by package numbers, bits and masks of
-- list rows. Of a newcomer they are `newcomer_rights`, `newcomer_needs` and `others_rights` of policy's short check (`WorksConditions`).
use Rattle.std.specs.Prelude.{ℕ, Bool, true, not, ◌&&◌, ◌||◌, ◌≡◌, List, T, eqb, length, Option, Some, None}
use Rattle.std.specs.Int.Bits.{bit_and}
use Rattle.policy.specs.Lists.{implies, every, exists, or_else, upto}
use Rattle.policy.specs.Contract.{eq_aid, Tok, eq_tok, Row}
use Rattle.policy.specs.Layout.{Layout}
use Rattle.policy.specs.Tables.{Tables, bit}
use Rattle.policy.specs.Lookup.{Place, places, numbers, server_of}
use Rattle.policy.specs.ShortCheck.{count}
use Rattle.image.specs.Read.{mask_of, unmet_row}
use Rattle.changes.specs.Own.{served}

module _ (L : Layout) (t : Tables) where
  -- ---- 1: 'B ∈ secrules_A(Provides_A ∩ Calls_B)', of the contract that comes to number n
  -- one of the rows of the mask is a grant, by the package of the place, of its service with the tokens s; or a bit is
  abbrev pub waits_at : ℕ → Tok → Place → Bool
  waits_at due s p = not (eqb (bit_and due (mask_of (λ w. eqb w.callee p.callee && eq_tok w.tok s) t.waiting)) 0)

  abbrev pub granted_at : ℕ → ℕ → Tok → Place → Bool
  granted_at due n s p = waits_at due s p || t.grants p.callee n p.service

  -- the server of each call, if any, gives one of them
  abbrev pub call_granted : ℕ → ℕ → Row → Bool
  call_granted due n r = or_else (server_of L t r) true (granted_at due n r.tok)

  abbrev pub own_granted : ℕ → ℕ → List Row → Bool
  own_granted due n calls = every (call_granted due n) calls

  -- what the calls come to: one is not granted, or all are, and so many are not served
  abbrev pub CallsCome : ℕ → ℕ → List Row → Option ℕ → Type 0
  CallsCome due n calls (Some unserved) = T (own_granted due n calls) × (unserved ≡ count (λ r. not (served L t r)) calls)
  CallsCome due n calls None = T (own_granted due n calls) → ⊥

  -- ---- 2: 'funcrules_B ⊆ ⋃ Provides_A'
  abbrev pub needs_served : List Row → Bool
  needs_served needs = every (served L t) needs

  -- ---- 3: 'A ∈ secrules_B(Provides_B ∩ Calls_A)'
  -- the grant g is of the tokens s, and to package i
  abbrev pub grant_fits : ℕ → Tok → Row → Bool
  grant_fits i s g = eq_tok s g.tok && (t.used i && eq_aid (t.aid i) g.aid)

  abbrev pub granted_to : List Row → ℕ → Tok → Bool
  granted_to grants i s = exists (grant_fits i s) grants

  -- each unmet call of the mask has such a grant
  abbrev pub named_granted : List Row → ℕ → ℕ → Bool
  named_granted grants met r = implies (bit met r) (granted_to grants (unmet_row t r).caller (unmet_row t r).tok)

  abbrev pub others_granted : List Row → ℕ → Bool
  others_granted grants met = every (named_granted grants met) (upto (length t.unmet))

  -- and, for kind 11, each call on a service of package n that is not dropped
  abbrev pub service_granted : List Row → ℕ → ℕ → (ℕ → Bool) → ℕ → Bool
  service_granted grants n i calls k = implies (calls k) (granted_to grants i (t.tok n k))

  abbrev pub row_granted : List Row → ℕ → ℕ → (ℕ → Bool) → Bool
  row_granted grants n i calls = every (service_granted grants n i calls) (places L)

  abbrev pub caller_granted : List Row → ℕ → ℕ → ℕ → Bool
  caller_granted grants n dropped i = row_granted grants n i (λ k. t.calls i n k && not (bit dropped k))

  abbrev pub kept_granted : List Row → ℕ → ℕ → Bool
  kept_granted grants n dropped = every (caller_granted grants n dropped) (numbers L)
