-- The short check: causes 8 to 11 of a record by the rows with its package at one end, and counts; no draft is built.
use Rattle.std.specs.Prelude.{ℕ, suc, ◌+◌, Bool, true, not, ◌&&◌, ◌||◌, List, [], ◌∷◌, eqb, leb, length}
use Rattle.std.proofs.Math.Option.{Option, none, some}
use Rattle.policy.specs.Lists.{implies, every, exists, keep, is_some, or_else}
use Rattle.policy.specs.Contract.{Aid, eq_aid, Tok, Contract, has_tok, has_row}
use Rattle.policy.specs.Layout.{Layout}
use Rattle.policy.specs.Record.{Change, load, remove}
use Rattle.policy.specs.Record.{add_service, remove_service, add_call, remove_call, add_grant, remove_grant, add_need, remove_need, replace}
use Rattle.policy.specs.Tables.{Tables, Unmet}
use Rattle.policy.specs.Lookup.{Place, Spot, numbers, places, number_of, service_of, server_of, spot_of}
use Rattle.policy.specs.Draft.{Look, asks_for, has_waiting, installed_aid, now_granted, dropped_by}

-- how many pass
abbrev pub count : {A : Type 0} → (A → Bool) → List A → ℕ
count f l = length (keep f l)

abbrev pub sum : (ℕ → ℕ) → List ℕ → ℕ
sum f [] = 0
sum f (x ∷ l) = f x + sum f l

-- nothing to refuse
abbrev pub fine : Look
fine = record { granted = true; needed = true; unmet_fits = true; waiting_fits = true }

module _ (L : Layout) (t : Tables) where
  abbrev pub fits : ℕ → Bool
  fits n = leb n L.capacity

  -- how many bits of f, by package and service number
  abbrev pub ones : (ℕ → ℕ → Bool) → ℕ
  ones f = sum (λ i. count (f i) (places L)) (numbers L)

  -- kind 5: a call of package i
  abbrev pub short_add_call : ℕ → Option Place → Look
  short_add_call i none = record { granted = true; needed = true; unmet_fits = fits (suc (length t.unmet)); waiting_fits = true }
  short_add_call i (some p) = record { granted = t.grants p.callee i p.service; needed = true; unmet_fits = true; waiting_fits = true }

  -- kind 7: a grant that is a bit, or waits
  abbrev pub short_add_grant : Option Spot → Look
  short_add_grant none = record { granted = true; needed = true; unmet_fits = true; waiting_fits = fits (suc (length t.waiting)) }
  short_add_grant (some p) = fine

  -- kind 8: a grant of package j is not called by its caller
  abbrev pub short_remove_grant : ℕ → Option Spot → Look
  short_remove_grant j none = fine
  short_remove_grant j (some p) =
      record { granted = not (t.calls p.caller j p.service); needed = true; unmet_fits = true; waiting_fits = true }

  -- kind 9
  abbrev pub short_add_need : Option Place → Look
  short_add_need o = record { granted = true; needed = is_some o; unmet_fits = true; waiting_fits = true }

  -- kind 3: each unmet call on the new service is by one of the callers, or its grant waits; callers not installed wait, once
  abbrev pub short_add_service : ℕ → Tok → List Aid → Look
  short_add_service j s l = record {
    granted = every (λ u. implies (asks_for L t (t.aid j) s u)
        (exists (eq_aid (t.aid u.caller)) l || has_waiting (record { caller = t.aid u.caller; callee = j; tok = s }) t.waiting))
        t.unmet;
    needed = true;
    unmet_fits = true;
    waiting_fits = fits (count (λ w. not (now_granted L t j s w)) t.waiting
        + count (λ a. not (installed_aid L t a || has_waiting (record { caller = a; callee = j; tok = s }) t.waiting)) l);
  }

  -- kind 4: no package needs the service; its callers' calls are unmet; R-2: its grants wait
  abbrev pub short_remove_service : ℕ → ℕ → Look
  short_remove_service j k = record {
    granted = true;
    needed = every (λ i. not (t.needs i j k)) (numbers L);
    unmet_fits = fits (length t.unmet + count (λ i. t.calls i j k) (numbers L));
    waiting_fits = not L.early || fits (length t.waiting + count (λ i. t.grants j i k) (numbers L));
  }

  -- kind 2: no package needs a service of n; calls on it are unmet, grants to it wait, its own rows go
  abbrev pub short_remove : ℕ → Look
  short_remove n = record {
    granted = true;
    needed = every (λ i. every (λ k. not (t.needs i n k)) (places L)) (numbers L);
    unmet_fits = fits (count (λ u. not (eqb u.caller n)) t.unmet + ones (λ i k. t.calls i n k));
    waiting_fits = fits (count (λ w. not (eqb w.callee n)) t.waiting + ones (λ j k. t.grants j n k));
  }

  -- ---- kind 1: the report's three conditions, section 7.1
  module _ (c : Contract) where
    -- the newcomer's calls are granted: a grant to it waits at each server that it calls
    abbrev pub newcomer_rights : Bool
    newcomer_rights = every (λ r. or_else (server_of L t r) true
        (λ p. has_waiting (record { caller = c.aid; callee = p.callee; tok = r.tok }) t.waiting)) c.calls

    -- its needs are on the card
    abbrev pub newcomer_needs : Bool
    newcomer_needs = every (λ r. is_some (server_of L t r)) c.needs

    -- an unmet call that the newcomer meets
    abbrev pub now_met : Unmet → Bool
    now_met u = eq_aid u.callee c.aid && has_tok u.tok c.provides

    -- calls of those already there are granted by it
    abbrev pub others_rights : Bool
    others_rights = every (λ u. implies (now_met u) (has_row (record { aid = t.aid u.caller; tok = u.tok }) c.grants)) t.unmet

    abbrev pub short_load : Look
    short_load = record {
      granted = newcomer_rights && others_rights;
      needed = newcomer_needs;
      unmet_fits = fits (count (λ u. not (now_met u)) t.unmet + count (λ r. not (is_some (server_of L t r))) c.calls);
      waiting_fits = fits (count (λ w. not (eq_aid w.caller c.aid && is_some (service_of L t w.callee w.tok))) t.waiting
          + count (λ r. not (is_some (number_of L t r.aid) && has_tok r.tok c.provides)) c.grants);
    }

  -- ---- kind 11: the same of the contract c in place of package n's, which others may call and need
  module _ (n : ℕ) (c : Contract) where
    -- its calls are granted to it
    abbrev pub own_rights : Bool
    own_rights = every (λ r. or_else (server_of L t r) true (λ p. t.grants p.callee n p.service)) c.calls

    -- calls on services that it keeps are granted by it
    abbrev pub kept_rights : Bool
    kept_rights = every (λ i. every (λ k. implies (t.calls i n k && not (dropped_by L t c n k))
        (has_row (record { aid = t.aid i; tok = t.tok n k }) c.grants)) (places L)) (numbers L)

    -- and no other package needs a service that it drops
    abbrev pub others_needs : Bool
    others_needs = every (λ i. every (λ k. not (t.needs i n k && dropped_by L t c n k)) (places L)) (numbers L)

    abbrev pub short_replace : Look
    short_replace = record {
      granted = own_rights && (others_rights c && kept_rights);
      needed = newcomer_needs c && others_needs;
      unmet_fits = fits (count (λ u. not (eqb u.caller n || now_met c u)) t.unmet
          + (count (λ r. not (is_some (server_of L t r))) c.calls + ones (λ i k. t.calls i n k && dropped_by L t c n k)));
      waiting_fits = fits (count (λ w. not (eqb w.callee n)) t.waiting
          + count (λ r. not (is_some (number_of L t r.aid) && has_tok r.tok c.provides)) c.grants);
    }

  -- ---- by kind, with first AID a
  abbrev pub short_at : Aid → (ℕ → Look) → Look
  short_at a f = or_else (number_of L t a) fine f

  abbrev pub short_service : ℕ → Tok → (ℕ → Look) → Look
  short_service j s f = or_else (service_of L t j s) fine f

  unfoldable pub short_look : Aid → Change → Look
  unfolding number_of service_of server_of spot_of
  short_look a (load p c g n) = short_load (record { aid = a; provides = p; calls = c; grants = g; needs = n })
  short_look a remove = short_at a short_remove
  short_look a (add_service s l) = short_at a (λ j. short_add_service j s l)
  short_look a (remove_service s) = short_at a (λ j. short_service j s (short_remove_service j))
  short_look a (add_call r) = short_at a (λ i. short_add_call i (server_of L t r))
  short_look a (remove_call r) = fine
  short_look a (add_grant r) = short_at a (λ j. short_add_grant (spot_of L t j r))
  short_look a (remove_grant r) = short_at a (λ j. short_remove_grant j (spot_of L t j r))
  short_look a (add_need r) = short_add_need (server_of L t r)
  short_look a (remove_need r) = fine
  short_look a (replace p c g n) = short_at a (λ i. short_replace i (record { aid = a; provides = p; calls = c; grants = g; needs = n }))
