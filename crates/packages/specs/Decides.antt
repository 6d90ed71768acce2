-- Kinds 1 and 11, a contract that comes: what its short check asks, in the parts that the code decides.
use Rattle.std.specs.Prelude.{ℕ, ◌+◌, Bool, not, ◌&&◌, ◌||◌, cond, ◌≡◌, List, Result, Ok, Err, eqb, leb}
use Rattle.std.proofs.Math.Option.{none, some}
use Rattle.std.specs.Int.Bits.{bit_or}
use Rattle.policy.specs.Lists.{is_some}
use Rattle.policy.specs.Contract.{Aid, eq_aid, Tok, Row, Contract, has_tok}
use Rattle.policy.specs.Layout.{Layout}
use Rattle.policy.specs.Record.{Change, load, replace}
use Rattle.policy.specs.Causes.{answer}
use Rattle.policy.specs.Tables.{Tables, Waiting, bit, decode, encode}
use Rattle.policy.specs.Lookup.{number_of, service_of, free_number}
use Rattle.policy.specs.Draft.{Draft, Look, load_at, replace_at, dropped_by, installed_aid}
use Rattle.policy.specs.ShortCheck.{count, newcomer_rights, newcomer_needs, now_met, others_rights}
use Rattle.policy.specs.Judge.{look_causes, refusal}
use Rattle.policy.specs.Settled.{settled}
use Rattle.answers.specs.declared.Refusal.{Refusal}
use Rattle.answers.specs.Numbers.{number}
use Rattle.geometry.specs.declared.Kept.TheVariants.{UnmetCalls, WaitingGrants}
use Rattle.geometry.specs.declared.Table.TheVariants.{Calls, Needs}
use Rattle.image.specs.Read.{mask_of}
use Rattle.record.specs.declared.ContractKind.{ContractKind}
use Rattle.record.specs.declared.ContractKind.TheVariants.{Load, Replace}
use Rattle.changes.specs.Joins.{room_after}
use Rattle.changes.specs.Left.{in_column}
use Rattle.changes.specs.Own.{served}
use Rattle.packages.specs.declared.decide.Bring.{Bring}
use Rattle.packages.specs.Conditions.{own_granted, needs_served, others_granted}

module _ (L : Layout) (t : Tables) where
  -- a grant that waits for the package a alone: its service is provided
  abbrev pub comes_due : Aid → Waiting → Bool
  comes_due a w = eq_aid w.caller a && is_some (service_of L t w.callee w.tok)

  -- a grant of a package with the services p is a bit: caller and service are both there
  abbrev pub both_there : List Tok → Row → Bool
  both_there p r = installed_aid L t r.aid && has_tok r.tok p

  -- ---- the lists with room for the rows that go on them after those of the mask go: so many unmet calls, and the grants that wait
  abbrev pub unmet_fit : ℕ → ℕ → Bool
  unmet_fit gone more = leb more (room_after L UnmetCalls gone t)

  abbrev pub waiting_fit : ℕ → List Tok → List Row → Bool
  waiting_fit gone p grants = leb (count (λ r. not (both_there p r)) grants) (room_after L WaitingGrants gone t)

  -- causes 10 and 11, of so many more unmet calls
  abbrev pub limit_cause : ℕ → ℕ → ℕ → List Tok → List Row → ℕ
  limit_cause calls grants more p gs = cond (not (unmet_fit calls more)) 10 (cond (not (waiting_fit grants p gs)) 11 0)

  -- causes 8 to 11 of the contract k, by what was found of it; kind 11 asks before whether what stays is granted (`kept_granted`)
  module _ (k : Contract) (b : Bring) where
    abbrev pub bring_look : Look
    bring_look = record {
      granted = own_granted L t b.due b.at k.calls && others_granted L t k.grants b.met;
      needed = needs_served L t k.needs && eqb (in_column L Needs t b.at (bit b.dropped)) 0;
      unmet_fits = unmet_fit b.calls
          (count (λ r. not (served L t r)) k.calls + in_column L Calls t b.at (bit b.dropped));
      waiting_fits = waiting_fit b.grants k.provides k.grants;
    }

    abbrev pub bring_cause : ℕ
    bring_cause = answer (look_causes bring_look)

    -- where k is a newcomer's, what the code works is the report's three conditions, as policy's short check has them
    pub record WorksConditions : Type 0 where
      pub first : own_granted L t b.due b.at k.calls ≡ newcomer_rights L t k
      pub second : needs_served L t k.needs ≡ newcomer_needs L t k
      pub third : others_granted L t k.grants b.met ≡ others_rights L t k

-- ---- what is found of a contract k that comes to number n
module _ (L : Layout) (t : Tables) (k : Contract) (n : ℕ) where
  -- at a free number no row leaves a list but those that become bits, and there is no service to drop
  pub record Newcomes (b : Bring) : Type 0 where
    pub at_is : b.at ≡ n
    pub met_is : b.met ≡ mask_of (now_met L t k) t.unmet
    pub due_is : b.due ≡ mask_of (comes_due L t k.aid) t.waiting
    pub calls_is : b.calls ≡ b.met
    pub grants_is : b.grants ≡ b.due
    pub none_dropped : b.dropped ≡ 0

  -- at the package's number its own rows leave too, and no grant to it waits for it alone
  pub record Replaces (b : Bring) : Type 0 where
    pub at_is : b.at ≡ n
    pub met_is : b.met ≡ mask_of (now_met L t k) t.unmet
    pub none_due : b.due ≡ 0
    pub calls_is : b.calls ≡ bit_or b.met (mask_of (λ u. eqb u.caller n) t.unmet)
    pub grants_is : b.grants ≡ mask_of (λ w. eqb w.callee n) t.waiting
    pub dropped_is : (z : ℕ) → bit b.dropped z ≡ t.provides n z && dropped_by L t k n z

  -- what both say
  pub record Comes (b : Bring) : Type 0 where
    pub at_is : b.at ≡ n
    pub met_is : b.met ≡ mask_of (now_met L t k) t.unmet
    pub due_is : b.due ≡ mask_of (comes_due L t k.aid) t.waiting
    pub calls_is : b.calls ≡ mask_of (λ u. eqb u.caller n || now_met L t k u) t.unmet
    pub grants_is : b.grants ≡ mask_of (λ w. eqb w.callee n || comes_due L t k.aid w) t.waiting
    pub dropped_is : (z : ℕ) → bit b.dropped z ≡ t.provides n z && dropped_by L t k n z

-- ---- what is decided of it
-- the changes that bring the contract k
abbrev pub load_of : Contract → Change
load_of k = load k.provides k.calls k.grants k.needs

abbrev pub replace_of : Contract → Change
replace_of k = replace k.provides k.calls k.grants k.needs

module _ (L : Layout) (img : List ℕ) (k : Contract) where
  -- a load is accepted: the number that the package takes, and what is found of it there
  pub record Loads (b : Bring) : Type 0 where
    pub outcome : settled L img k.aid (load_of k) ≡ record
        { answered = 0; second = b.at; bytes = encode L (load_at L (decode L img) b.at k).tables }
    pub away : number_of L (decode L img) k.aid ≡ none
    pub free : free_number L (decode L img) ≡ some b.at
    pub found : Comes L (decode L img) k b.at b

  -- a whole contract is accepted: the package's number, and what is found of it there
  pub record Renews (b : Bring) : Type 0 where
    pub outcome : settled L img k.aid (replace_of k) ≡ record
        { answered = 0; second = b.at; bytes = encode L (replace_at L (decode L img) b.at k).tables }
    pub here : number_of L (decode L img) k.aid ≡ some b.at
    pub found : Comes L (decode L img) k b.at b

  -- it is accepted so, or refused, and then stays as it is
  abbrev pub Decides : Change → (Bring → Type 0) → Result Bring Refusal → Type 0
  Decides c Accepts (Ok b) = Accepts b
  Decides c Accepts (Err e) = settled L img k.aid c ≡ refusal (number e) 255 img

-- ---- of either kind: its acceptance, and what the tables come to
abbrev pub AcceptedAs : ContractKind → Layout → List ℕ → Contract → Bring → Type 0
AcceptedAs Load L img k b = Loads L img k b
AcceptedAs Replace L img k b = Renews L img k b

abbrev pub drafted_as : ContractKind → Layout → Tables → ℕ → Contract → Draft
drafted_as Load L t n k = load_at L t n k
drafted_as Replace L t n k = replace_at L t n k
