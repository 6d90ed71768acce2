-- The change that a record asks for, on tables: document 01, 'Where things go'. A draft's lists may pass their limits.
use Rattle.std.specs.Prelude.{ℕ, Bool, true, false, not, ◌&&◌, ◌||◌, cond, List, [], ◌∷◌, ◌++◌, map, eqb, leb, ltb, length, get_or}
use Rattle.std.proofs.Math.Option.{Option, none, some}
use Rattle.policy.specs.Lists.{implies, exists, keep, first, flat, is_nil, is_some, or_else}
use Rattle.policy.specs.Contract.{Aid, eq_aid, Tok, eq_tok, Row, Contract, has_tok, has_row}
use Rattle.policy.specs.Layout.{Layout}
use Rattle.policy.specs.Record.{Change, load, remove}
use Rattle.policy.specs.Record.{add_service, remove_service, add_call, remove_call, add_grant, remove_grant, add_need, remove_need, replace}
use Rattle.policy.specs.Tables.{Tables, Unmet, Waiting, no_tok}
use Rattle.policy.specs.Lookup.{Place, Spot, service_at, numbers, places}
use Rattle.policy.specs.Lookup.{number_of, service_of, server_of, spot_of, free_number, free_service}
use Rattle.policy.specs.Sound.{eq_unmet, eq_waiting, every_bit}

-- the tables after the change, and the needs that it leaves unmet
pub record Draft : Type 0 where
  pub tables : Tables
  pub lost : List Unmet

-- a change that leaves every need met
abbrev pub kept : Tables → Draft
kept t = record { tables = t; lost = [] }

-- the row of a call by package number i
abbrev pub call_row : ℕ → Row → Unmet
call_row i r = record { callee = r.aid; tok = r.tok; caller = i }

-- the row of a grant by package number j
abbrev pub grant_row : ℕ → Row → Waiting
grant_row j r = record { caller = r.aid; callee = j; tok = r.tok }

abbrev pub has_unmet : Unmet → List Unmet → Bool
has_unmet u l = exists (eq_unmet u) l

abbrev pub has_waiting : Waiting → List Waiting → Bool
has_waiting w l = exists (eq_waiting w) l

-- ---- rows of a contract on tables: service z of package y is on the card and one of the rows; and a row whose service is not there
abbrev pub named_on : Tables → List Row → ℕ → ℕ → Bool
named_on t l y z = t.provides y z && has_row (service_at t y z) l

abbrev pub not_served_on : Layout → Tables → Row → Bool
not_served_on L t r = not (is_some (server_of L t r))

-- the services of one package: the places that have one, and their tokens
pub record Services : Type 0 where
  pub tok : ℕ → Tok
  pub provides : ℕ → Bool

-- ---- a function changed at one place
abbrev pub put : {A : Type 0} → ℕ → A → (ℕ → A) → ℕ → A
put n v f x = cond (eqb x n) v (f x)

abbrev pub put2 : {A : Type 0} → ℕ → ℕ → A → (ℕ → ℕ → A) → ℕ → ℕ → A
put2 j k v f x y = cond (eqb x j && eqb y k) v (f x y)

abbrev pub put3 : ℕ → ℕ → ℕ → Bool → (ℕ → ℕ → ℕ → Bool) → ℕ → ℕ → ℕ → Bool
put3 i j k v f x y z = cond (eqb x i && eqb y j && eqb z k) v (f x y z)

-- ---- tables with new calls, grants or needs
abbrev pub with_calls : (ℕ → ℕ → ℕ → Bool) → List Unmet → Tables → Tables
with_calls c u t = record {
  used = t.used;
  aid = t.aid;
  tok = t.tok;
  provides = t.provides;
  calls = c;
  grants = t.grants;
  needs = t.needs;
  unmet = u;
  waiting = t.waiting;
}

abbrev pub with_grants : (ℕ → ℕ → ℕ → Bool) → List Waiting → Tables → Tables
with_grants g w t = record {
  used = t.used;
  aid = t.aid;
  tok = t.tok;
  provides = t.provides;
  calls = t.calls;
  grants = g;
  needs = t.needs;
  unmet = t.unmet;
  waiting = w;
}

abbrev pub with_needs : (ℕ → ℕ → ℕ → Bool) → Tables → Tables
with_needs n t = record {
  used = t.used;
  aid = t.aid;
  tok = t.tok;
  provides = t.provides;
  calls = t.calls;
  grants = t.grants;
  needs = n;
  unmet = t.unmet;
  waiting = t.waiting;
}

-- ---- a service takes the lowest unused place, unless it has one; and so do services in order
module _ (L : Layout) where
  abbrev pub place_service : Services → Tok → Services
  place_service v s = cond (exists (λ k. v.provides k && eq_tok (v.tok k) s) (places L)) v
      (or_else (first (λ k. not (v.provides k)) (places L)) v (λ k. record { tok = put k s v.tok; provides = put k true v.provides }))

  abbrev pub place_services : Services → List Tok → Services
  place_services v [] = v
  place_services v (s ∷ l) = place_services (place_service v s) l

module _ (L : Layout) (t : Tables) where
  -- ---- kinds 5, 6, 9, 10: a row of package i; it is a bit where its service is on the card
  abbrev pub add_call_at : ℕ → Row → Option Place → Draft
  add_call_at i r none = kept (with_calls t.calls (t.unmet ++ (call_row i r ∷ [])) t)
  add_call_at i r (some p) = kept (with_calls (put3 i p.callee p.service true t.calls) t.unmet t)

  -- 'a need on it goes too'
  abbrev pub remove_call_at : ℕ → Row → Option Place → Draft
  remove_call_at i r none = kept (with_calls t.calls (keep (λ u. not (eq_unmet (call_row i r) u)) t.unmet) t)
  remove_call_at i r (some p) =
      kept (with_needs (put3 i p.callee p.service false t.needs)
      (with_calls (put3 i p.callee p.service false t.calls) t.unmet t))

  abbrev pub add_need_at : ℕ → Row → Option Place → Draft
  add_need_at i r none = record { tables = t; lost = call_row i r ∷ [] }
  add_need_at i r (some p) = kept (with_needs (put3 i p.callee p.service true t.needs) t)

  abbrev pub remove_need_at : ℕ → Row → Option Place → Draft
  remove_need_at i r none = kept t
  remove_need_at i r (some p) = kept (with_needs (put3 i p.callee p.service false t.needs) t)

  -- ---- kinds 7, 8: a grant of package j; it is a bit where caller and service are on the card
  abbrev pub add_grant_at : ℕ → Row → Option Spot → Draft
  add_grant_at j r none = kept (with_grants t.grants (t.waiting ++ (grant_row j r ∷ [])) t)
  add_grant_at j r (some p) = kept (with_grants (put3 j p.caller p.service true t.grants) t.waiting t)

  abbrev pub remove_grant_at : ℕ → Row → Option Spot → Draft
  remove_grant_at j r none = kept (with_grants t.grants (keep (λ w. not (eq_waiting (grant_row j r) w)) t.waiting) t)
  remove_grant_at j r (some p) = kept (with_grants (put3 j p.caller p.service false t.grants) t.waiting t)

  -- ---- kind 3: service k of package j, with tokens s and grants to the AIDs of l; unmet calls on it and waiting grants of it become bits
  abbrev pub asks_for : Aid → Tok → Unmet → Bool
  asks_for a s u = eq_aid u.callee a && eq_tok u.tok s

  abbrev pub installed_aid : Aid → Bool
  installed_aid a = is_some (number_of L t a)

  -- a grant of that service by package j waits and its caller is on the card
  abbrev pub now_granted : ℕ → Tok → Waiting → Bool
  now_granted j s w = (eqb w.callee j && eq_tok w.tok s) && installed_aid w.caller

  abbrev pub add_service_at : ℕ → ℕ → Tok → List Aid → Draft
  add_service_at j k s l = kept (record {
    used = t.used;
    aid = t.aid;
    tok = put2 j k s t.tok;
    provides = put2 j k true t.provides;
    calls = λ x y z. t.calls x y z || (eqb y j && eqb z k && has_unmet (record { callee = t.aid j; tok = s; caller = x }) t.unmet);
    grants = λ x y z. t.grants x y z
        || (eqb x j && eqb z k
        && (t.used y && (exists (eq_aid (t.aid y)) l || has_waiting (record { caller = t.aid y; callee = j; tok = s }) t.waiting)));
    needs = t.needs;
    unmet = keep (λ u. not (asks_for (t.aid j) s u)) t.unmet;
    waiting = keep (λ w. not (now_granted j s w)) t.waiting
        ++ map (λ a. record { caller = a; callee = j; tok = s })
        (keep (λ a. not (installed_aid a || has_waiting (record { caller = a; callee = j; tok = s }) t.waiting)) l);
  })

  -- ---- kinds 2 and 4: what calls or needs of others on the services d of package j leave behind, 'by caller number then
  -- the service number it had'
  abbrev pub left_by : (ℕ → ℕ → ℕ → Bool) → ℕ → (ℕ → Bool) → List Unmet
  left_by b j d =
      flat (λ i. map (λ k. call_row i (service_at t j k)) (keep (λ k. b i j k && d k) (places L))) (numbers L)

  -- kind 4: service k of package j goes; 'its grants go too'. R-2: 'kind 4 keeps the grants, which wait behind the rows already there,
  -- by caller number'
  abbrev pub waiting_without : ℕ → ℕ → List Waiting
  waiting_without j k = cond L.early
      (t.waiting ++ map (λ i. record { caller = t.aid i; callee = j; tok = t.tok j k }) (keep (λ i. t.grants j i k) (numbers L)))
      (keep (λ w. not (eqb w.callee j && eq_tok w.tok (t.tok j k))) t.waiting)

  abbrev pub remove_service_at : ℕ → ℕ → Draft
  remove_service_at j k = record {
    tables = record {
      used = t.used;
      aid = t.aid;
      tok = put2 j k no_tok t.tok;
      provides = put2 j k false t.provides;
      calls = λ x y z. t.calls x y z && not (eqb y j && eqb z k);
      grants = λ x y z. t.grants x y z && not (eqb x j && eqb z k);
      needs = λ x y z. t.needs x y z && not (eqb y j && eqb z k);
      unmet = t.unmet ++ left_by t.calls j (λ z. eqb z k);
      waiting = waiting_without j k;
    };
    lost = left_by t.needs j (λ z. eqb z k);
  }

  -- kind 2: package n goes; calls on it are unmet, grants to it wait, 'waiting grants by callee number then service number'
  abbrev pub remove_at : ℕ → Draft
  remove_at n = record {
    tables = record {
      used = put n false t.used;
      aid = put n [] t.aid;
      tok = λ x y. cond (eqb x n) no_tok (t.tok x y);
      provides = λ x y. t.provides x y && not (eqb x n);
      calls = λ x y z. t.calls x y z && not (eqb x n || eqb y n);
      grants = λ x y z. t.grants x y z && not (eqb x n || eqb y n);
      needs = λ x y z. t.needs x y z && not (eqb x n || eqb y n);
      unmet = keep (λ u. not (eqb u.caller n)) t.unmet ++ left_by t.calls n (λ z. true);
      waiting = keep (λ w. not (eqb w.callee n)) t.waiting
          ++ flat (λ j. map (λ k. record { caller = t.aid n; callee = j; tok = t.tok j k })
          (keep (λ k. t.grants j n k) (places L))) (numbers L);
    };
    lost = left_by t.needs n (λ z. true);
  }

  -- ---- kind 1: a contract at number n; 'its services take 0, 1, 2 in record order',
  -- 'loading turns fitting unmet calls and waiting grants into bits'
  module _ (n : ℕ) (c : Contract) where
    abbrev pub loaded_tok : ℕ → ℕ → Tok
    loaded_tok x y = cond (eqb x n) (get_or c.provides y no_tok) (t.tok x y)

    abbrev pub loaded_provides : ℕ → ℕ → Bool
    loaded_provides x y = cond (eqb x n) (ltb y (length c.provides)) (t.provides x y)

    -- the package and its services alone
    abbrev pub loaded_names : Tables
    loaded_names = record {
      used = put n true t.used;
      aid = put n c.aid t.aid;
      tok = loaded_tok;
      provides = loaded_provides;
      calls = t.calls;
      grants = t.grants;
      needs = t.needs;
      unmet = t.unmet;
      waiting = t.waiting;
    }

    abbrev pub load_at : Draft
    load_at = record {
      tables = record {
        used = loaded_names.used;
        aid = loaded_names.aid;
        tok = loaded_tok;
        provides = loaded_provides;
        calls = λ x y z. cond (eqb x n) (named_on loaded_names c.calls y z)
            (cond (eqb y n) (loaded_provides n z && has_unmet (call_row x (service_at loaded_names n z)) t.unmet) (t.calls x y z));
        grants = λ x y z. cond (eqb x n)
            (loaded_provides n z && (t.used y && has_row (record { aid = t.aid y; tok = loaded_tok n z }) c.grants))
            (cond (eqb y n) (t.provides x z && has_waiting (record { caller = c.aid; callee = x; tok = t.tok x z }) t.waiting)
            (t.grants x y z));
        needs = λ x y z. cond (eqb x n) (named_on loaded_names c.needs y z) (t.needs x y z);
        unmet = keep (λ u. not (eq_aid u.callee c.aid && has_tok u.tok c.provides)) t.unmet
            ++ map (call_row n) (keep (not_served_on L loaded_names) c.calls);
        waiting = keep (λ w. not (eq_aid w.caller c.aid && is_some (service_of L t w.callee w.tok))) t.waiting
            ++ map (grant_row n) (keep (λ r. not (is_some (number_of L t r.aid) && has_tok r.tok c.provides)) c.grants);
      };
      lost = map (call_row n) (keep (not_served_on L loaded_names) c.needs);
    }

  -- ---- kind 11: the contract c in place of the one that package n has
  -- a service of package n that c drops
  abbrev pub dropped_by : Contract → ℕ → ℕ → Bool
  dropped_by c n k = not (has_tok (t.tok n k) c.provides)

  -- 'Services in both contracts keep theirs; dropped ones free theirs,
  abbrev pub kept_services : ℕ → Contract → Services
  kept_services n c = record {
    tok = λ k. cond (t.provides n k && has_tok (t.tok n k) c.provides) (t.tok n k) no_tok;
    provides = λ k. t.provides n k && has_tok (t.tok n k) c.provides;
  }

  -- then the others take the lowest unused in record order.'
  unfoldable pub new_services : ℕ → Contract → Services
  new_services n c = place_services L (kept_services n c) c.provides

  -- with the services of package n at these places
  module _ (n : ℕ) (c : Contract) (now : Services) where
    -- 'The package keeps its number'
    abbrev pub replaced_names : Tables
    replaced_names = record {
      used = t.used;
      aid = t.aid;
      tok = λ x y. cond (eqb x n) (now.tok y) (t.tok x y);
      provides = λ x y. cond (eqb x n) (now.provides y) (t.provides x y);
      calls = t.calls;
      grants = t.grants;
      needs = t.needs;
      unmet = t.unmet;
      waiting = t.waiting;
    }

    abbrev pub gone : ℕ → ℕ → Bool
    gone y z = eqb y n && dropped_by c n z

    -- 'The package's own list rows and rows now met leave; its unmet calls follow in record order, then other packages' calls on
    -- dropped services by caller number and service number; its waiting grants follow in record order.'
    abbrev pub replace_with : Draft
    replace_with = record {
      tables = record {
        used = t.used;
        aid = t.aid;
        tok = replaced_names.tok;
        provides = replaced_names.provides;
        calls = λ x y z. cond (eqb x n) (named_on replaced_names c.calls y z)
            ((t.calls x y z && not (gone y z))
            || (eqb y n && (replaced_names.provides n z && has_unmet (call_row x (service_at replaced_names n z)) t.unmet)));
        grants = λ x y z. cond (eqb x n)
            (replaced_names.provides n z && (t.used y && has_row (record { aid = t.aid y; tok = replaced_names.tok n z }) c.grants))
            (t.grants x y z);
        needs = λ x y z. cond (eqb x n) (named_on replaced_names c.needs y z) (t.needs x y z && not (gone y z));
        unmet = keep (λ u. not (eqb u.caller n || (eq_aid u.callee c.aid && has_tok u.tok c.provides))) t.unmet
            ++ (map (call_row n) (keep (not_served_on L replaced_names) c.calls) ++ left_by t.calls n (dropped_by c n));
        waiting = keep (λ w. not (eqb w.callee n)) t.waiting
            ++ map (grant_row n) (keep (λ r. not (is_some (number_of L t r.aid) && has_tok r.tok c.provides)) c.grants);
      };
      lost = map (call_row n) (keep (not_served_on L replaced_names) c.needs) ++ left_by t.needs n (dropped_by c n);
    }

  abbrev pub replace_at : ℕ → Contract → Draft
  replace_at n c = replace_with n c (new_services n c)

  -- ---- the draft of a record with first AID a; where a number is not found, nothing changes: a lower cause applies
  abbrev pub at_package : Aid → (ℕ → Draft) → Draft
  at_package a f = or_else (number_of L t a) (kept t) f

  abbrev pub at_service : ℕ → Tok → (ℕ → Draft) → Draft
  at_service j s f = or_else (service_of L t j s) (kept t) f

  unfoldable pub draft : Aid → Change → Draft
  unfolding number_of service_of server_of spot_of free_number free_service new_services
  draft a (load p c g n) =
      or_else (free_number L t) (kept t) (λ m. load_at m (record { aid = a; provides = p; calls = c; grants = g; needs = n }))
  draft a remove = at_package a remove_at
  draft a (add_service s l) = at_package a (λ j. or_else (free_service L t j) (kept t) (λ k. add_service_at j k s l))
  draft a (remove_service s) = at_package a (λ j. at_service j s (remove_service_at j))
  draft a (add_call r) = at_package a (λ i. add_call_at i r (server_of L t r))
  draft a (remove_call r) = at_package a (λ i. remove_call_at i r (server_of L t r))
  draft a (add_grant r) = at_package a (λ j. add_grant_at j r (spot_of L t j r))
  draft a (remove_grant r) = at_package a (λ j. remove_grant_at j r (spot_of L t j r))
  draft a (add_need r) = at_package a (λ i. add_need_at i r (server_of L t r))
  draft a (remove_need r) = at_package a (λ i. remove_need_at i r (server_of L t r))
  draft a (replace p c g n) = at_package a (λ i. replace_at i (record { aid = a; provides = p; calls = c; grants = g; needs = n }))

  -- the package number of an acceptance: the package's, or the one that a load takes
  unfoldable pub number_for : Aid → ℕ
  unfolding number_of free_number
  number_for a = or_else (number_of L t a) (or_else (free_number L t) 255 (λ n. n)) (λ n. n)

-- ---- the full look at a draft: what causes 8 to 11 ask
pub record Look : Type 0 where
  -- every call bit has its grant bit
  pub granted : Bool
  -- no need is left unmet
  pub needed : Bool
  -- both lists fit
  pub unmet_fits : Bool
  pub waiting_fits : Bool

unfoldable pub look : Layout → Draft → Look
look L d = record {
  granted = every_bit L (λ i j k. implies (d.tables.calls i j k) (d.tables.grants j i k));
  needed = is_nil d.lost;
  unmet_fits = leb (length d.tables.unmet) L.capacity;
  waiting_fits = leb (length d.tables.waiting) L.capacity;
}
