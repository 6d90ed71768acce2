-- The rows of a package, one after another: its calls, its grants, its needs.
use Rattle.std.specs.Prelude.{ℕ, ◌+◌, ◌≤◌, ◌<◌, ◌≡◌, Bool, true, false, not, ◌&&◌, cond, List, [], ◌∷◌, ◌++◌, map, T, eqb, length}
use Rattle.std.proofs.Math.Option.{Option, none, some}
use Rattle.policy.specs.Lists.{every, keep, is_some}
use Rattle.policy.specs.Contract.{Row, has_row}
use Rattle.policy.specs.Layout.{Layout}
use Rattle.policy.specs.Tables.{Tables}
use Rattle.policy.specs.Lookup.{Place, service_at, server_of, spot_of}
use Rattle.policy.specs.Draft.{call_row, grant_row, put3, with_needs, add_call_at, add_grant_at}
use Rattle.policy.specs.ShortCheck.{count}

-- a need of package n more: a bit, at the place of its service
abbrev pub need_at : Tables → ℕ → Option Place → Tables
need_at t n none = t
need_at t n (some p) = with_needs (put3 n p.callee p.service true t.needs) t

module _ (L : Layout) where
  -- the service of a row is on the card
  abbrev pub served : Tables → Row → Bool
  served t r = is_some (server_of L t r)

  abbrev pub called_all : ℕ → List Row → Tables → Tables
  called_all n [] t = t
  called_all n (r ∷ l) t = called_all n l (add_call_at L t n r (server_of L t r)).tables

  abbrev pub granted_all : ℕ → List Row → Tables → Tables
  granted_all n [] t = t
  granted_all n (r ∷ l) t = granted_all n l (add_grant_at L t n r (spot_of L t n r)).tables

  abbrev pub needed_all : ℕ → List Row → Tables → Tables
  needed_all n [] t = t
  needed_all n (r ∷ l) t = needed_all n l (need_at t n (server_of L t r))

  -- all of them
  abbrev pub own_rows : ℕ → List Row → List Row → List Row → Tables → Tables
  own_rows n c g m t = needed_all n m (granted_all n g (called_all n c t))

  -- what their writes ask of the tables: room in the lists, and the services of the needs on the card
  pub record OwnFits (n : ℕ) (c g m : List Row) (t : Tables) : Type 0 where
    pub package_in : n < L.packages
    pub calls_fit : length t.unmet + count (λ r. not (served t r)) c ≤ L.capacity
    pub grants_fit : length t.waiting + count (λ r. not (is_some (spot_of L t n r))) g ≤ L.capacity
    pub needs_on : T (every (served t) m)

  -- ---- the tables with the rows of a package that has none yet
  abbrev pub NoRows : ℕ → Tables → Type 0
  NoRows n t = (y z : ℕ) → (t.calls n y z ≡ false) × (t.grants n y z ≡ false) × (t.needs n y z ≡ false)

  abbrev pub with_own : ℕ → List Row → List Row → List Row → Tables → Tables
  with_own n c g m t = record {
    used = t.used;
    aid = t.aid;
    tok = t.tok;
    provides = t.provides;
    calls = λ x y z. cond (eqb x n) (t.provides y z && has_row (service_at t y z) c) (t.calls x y z);
    grants = λ x y z. cond (eqb x n) ((t.provides n z && t.used y) && has_row (record { aid = t.aid y; tok = t.tok n z }) g)
        (t.grants x y z);
    needs = λ x y z. cond (eqb x n) (t.provides y z && has_row (service_at t y z) m) (t.needs x y z);
    unmet = t.unmet ++ map (call_row n) (keep (λ r. not (served t r)) c);
    waiting = t.waiting ++ map (grant_row n) (keep (λ r. not (is_some (spot_of L t n r))) g);
  }
