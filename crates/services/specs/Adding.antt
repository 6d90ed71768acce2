-- Kind 3 by what is found in the tables: a plan, and the outcome that it comes to.
use Rattle.std.specs.Prelude.{ℕ, ◌+◌, ◌≤◌, ◌<◌, Bool, true, not, ◌&&◌, ◌||◌, cond, List, [], ◌∷◌, ◌++◌, eqb, length}
use Rattle.std.specs.Prelude.{Result, Ok, Err}
use Rattle.std.proofs.Math.Option.{Option, none, some}
use Rattle.policy.specs.Lists.{implies, exists, is_some, or_else}
use Rattle.policy.specs.Contract.{Aid, eq_aid, Tok, eq_tok}
use Rattle.policy.specs.Layout.{Layout}
use Rattle.policy.specs.Tables.{Tables, Unmet, Waiting, decode, encode}
use Rattle.policy.specs.Lookup.{number_of, service_of, free_service}
use Rattle.policy.specs.Draft.{Look, put3, with_grants, now_granted, add_service_at, asks_for}
use Rattle.policy.specs.ShortCheck.{count, short_add_service}
use Rattle.policy.specs.Judge.{Out, refusal}
use Rattle.answers.specs.Numbers.{number}
use Rattle.answers.specs.declared.Refusal.{Refusal}
use Rattle.answers.specs.declared.Refusal.TheVariants.{NotInstalled, Pointless, NoNumber, Ungranted, WaitingFull}
use Rattle.geometry.specs.declared.Tokens.{Tokens}
use Rattle.geometry.specs.Geometry.{tok_of}
use Rattle.image.specs.Laid.{with_waiting}
use Rattle.image.specs.Read.{mask_of}
use Rattle.changes.specs.Masks.{some_listed}
use Rattle.changes.specs.Places.{opened}
use Rattle.changes.specs.Joins.{holder, taken_in, TakesIn}
use Rattle.services.specs.declared.adding.Adding.{Adding}

-- a waiting grant is of package j's service with tokens s
abbrev pub of_service : ℕ → Tok → Waiting → Bool
of_service j s w = eqb w.callee j && eq_tok w.tok s

-- ---- the writes, one after another
-- a grant to the AID a waits among the rows that the mask names
abbrev pub waits_in : ℕ → Tables → Aid → Bool
waits_in mask t a = some_listed (λ w. eq_aid w.caller a) mask 0 t.waiting

-- a grant by package j of its service with tokens s to the AID a waits, if it does not yet
abbrev pub waited_at : ℕ → ℕ → Tok → Aid → Tables → Tables
waited_at mask j s a t = with_waiting (cond (waits_in mask t a) t.waiting
    (t.waiting ++ (record { caller = a; callee = j; tok = s } ∷ []))) t

module _ (L : Layout) where
  -- no package has the AID, and no such grant waits
  abbrev pub is_lone : ℕ → Tables → Aid → Bool
  is_lone mask t a = not (is_some (number_of L t a) || waits_in mask t a)

  -- service k of package j, with tokens s, is granted to the AID a: a bit where it has a number, else it waits
  abbrev pub granted_at : ℕ → ℕ → ℕ → Tok → Aid → Tables → Option ℕ → Tables
  granted_at mask j k s a t none = waited_at mask j s a t
  granted_at mask j k s a t (some i) = with_grants (put3 j i k true t.grants) t.waiting t

  -- to the AIDs of l
  abbrev pub granted_to_each : ℕ → ℕ → ℕ → Tok → List Aid → Tables → Tables
  granted_to_each mask j k s [] t = t
  granted_to_each mask j k s (a ∷ l) t = granted_to_each mask j k s l (granted_at mask j k s a t (number_of L t a))

  abbrev pub granted_to_all : ℕ → ℕ → Tok → List Aid → Tables → Tables
  granted_to_all j k s l t = granted_to_each (mask_of (of_service j s) t.waiting) j k s l t

  -- they have room
  abbrev pub RoomFor : ℕ → Tok → List Aid → Tables → Type 0
  RoomFor j s l t = length t.waiting + count (is_lone (mask_of (of_service j s) t.waiting) t) l ≤ L.capacity

  -- all of them, by the masks of the unmet calls on the service and of the waiting grants that are due: the service is opened first
  abbrev pub added : ℕ → ℕ → ℕ → ℕ → Tok → List Aid → Tables → Tables
  added asking due j k s l t = granted_to_all j k s l (taken_in L j asking due asking due (opened j k s t))

  -- what the writes ask of the tables
  pub record AddFits (asking due j k : ℕ) (s : Tok) (l : List Aid) (t : Tables) : Type 0 where
    pub service_in : k < L.services
    pub takes_in : TakesIn L j asking due (opened j k s t)
    pub room : RoomFor j s l (taken_in L j asking due asking due (opened j k s t))

  -- ---- the checks
  -- a waiting grant of the mask is to package n
  abbrev pub due_to : ℕ → Tables → ℕ → Bool
  due_to due t n = some_listed (λ w. eqb (holder L t w.caller) n) due 0 t.waiting

  -- an unmet call that passes f is by one of the callers l, or a waiting grant of the mask is to its caller
  abbrev pub by_callers : Tables → List Aid → ℕ → (Unmet → Bool) → Unmet → Bool
  by_callers t l due f u = implies (f u) (exists (eq_aid (t.aid u.caller)) l || due_to due t u.caller)

  -- the unmet calls on package j's service with tokens s, and the waiting grants of it that are due
  abbrev pub ask_mask : Tables → Tok → ℕ → ℕ
  ask_mask t s j = mask_of (asks_for L t (t.aid j) s) t.unmet

  abbrev pub due_mask : Tables → Tok → ℕ → ℕ
  due_mask t s j = mask_of (now_granted L t j s) t.waiting

  -- ---- the plan of a record with first AID a
  module _ (t : Tables) (n : Tokens) (l : List Aid) where
    abbrev pub plan_by : ℕ → ℕ → Look → Result Adding Refusal
    plan_by j k look = cond look.granted
        (cond look.waiting_fits
        (Ok (record {
          service = record { provider = j; number = k; tokens = n };
          met = ask_mask t (tok_of n) j;
          due = due_mask t (tok_of n) j;
        }))
        (Err WaitingFull)) (Err Ungranted)

    abbrev pub adding_at : ℕ → ℕ → Result Adding Refusal
    adding_at j k = plan_by j k (short_add_service L t j (tok_of n) l)

    abbrev pub adding_plan : Aid → Result Adding Refusal
    adding_plan a =
        or_else (number_of L t a) (Err NotInstalled)
        (λ j. or_else (service_of L t j (tok_of n)) (or_else (free_service L t j) (Err NoNumber) (adding_at j)) (λ k. Err Pointless))

  -- ---- the outcome of a plan
  module _ (img : List ℕ) (l : List Aid) where
    abbrev pub adding_done : Result Adding Refusal → Out
    adding_done (Err e) = refusal (number e) 255 img
    adding_done (Ok p) =
        let s = p.service in
        record {
          answered = 0;
          second = s.provider;
          bytes = encode L (add_service_at L (decode L img) s.provider s.number (tok_of s.tokens) l).tables;
        }
