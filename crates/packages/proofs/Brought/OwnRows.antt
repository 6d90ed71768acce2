-- The own rows of a contract that comes, written one after another, give the tables of its draft but for the calls of others on services that
-- went. Assumes nothing.
use Prim.Native.Nat.{ℕ, ◌+◌, ◌≤◌}
use native.Mathlib.Omega.{arith}
use mathlib.Core.Path.{◌≡◌, refl, sym, ap, ◌∙◌, subst}
use mathlib.Core.Bool.{Bool, true, false, not, ◌&&◌, ◌||◌, cond, and_assoc}
use mathlib.Core.List.Memᴰ.{cast as in_cast}
use mathlib.Core.List.{List, [], ◌++◌, map, Memᴰ as In}
use mathlib.Core.Option.{Option, none, some}
use lib.Dec.{T, eqb, eqb_refl}
use lib.ListN.{length, length-append, length-map}
use Rattle.policy.specs.Lists.{keep, is_nil, is_some}
use Rattle.policy.specs.Contract.{Tok, Row, Contract, has_tok, has_row, valid_aid}
use Rattle.policy.specs.Layout.{Layout}
use Rattle.policy.specs.Tables.{Tables, Unmet}
use Rattle.policy.specs.Lookup.{Spot, number_of, service_of, server_of, spot_of}
use Rattle.policy.specs.Draft.{Services, call_row, grant_row, named_on, left_by, installed_aid}
use Rattle.policy.proofs.Sets.{T_eq, T_true, T_false, and_l, and_r, and_i, keep_ext, is_nil_lem}
use Rattle.policy.proofs.Equal.{has_tok_lem, tok_has, has_row_lem}
use Rattle.policy.proofs.Put.{at_old, by_number}
use Rattle.policy.proofs.Formed.{Names, Fitting}
use Rattle.policy.proofs.Found.{NumberIs, SpotIs, number_is, spot_is}
use Rattle.policy.proofs.BroughtNames.{Coming, on, dropped, gone, met_bit, waited_bit, unmet_still, left_off, waits_new, brought_at, Brought, brought, tok_in, in_tok, names_brought}
use Rattle.policy.proofs.Short.{nil_append, none_kept}
use Rattle.changes.specs.Own.{NoRows, own_rows, OwnFits, served}
use Rattle.changes.proofs.OwnRows.{own_rows_lem}
use Rattle.packages.specs.Decides.{both_there}
use Rattle.packages.proofs.Brought.Joined.{joined}

module _ (L : Layout) (t : Tables) (n : ℕ) (k : Contract) (now : Services) where
  -- the draft's tables, but for the calls of others on dropped services
  abbrev pub own_done : Tables
  own_done = record {
    used = (on L t n k now).used;
    aid = (on L t n k now).aid;
    tok = (on L t n k now).tok;
    provides = (on L t n k now).provides;
    calls = (brought_at L t n k now).tables.calls;
    grants = (brought_at L t n k now).tables.grants;
    needs = (brought_at L t n k now).tables.needs;
    unmet = keep (unmet_still L t n k now) t.unmet ++ left_off L t n k now k.calls;
    waiting = (brought_at L t n k now).tables.waiting;
  }

-- p: row n
inner : (p w o : Bool) → cond p w (cond p false o) ≡ cond p w o
inner true w o = refl
inner false w o = refl

module _ (L : Layout) (t : Tables) (n : ℕ) (k : Contract) (now : Services) (new : Coming L t n k now) (valid : T (valid_aid k.aid)) where
  abbrev v : Tables
  v = joined L t n k now

  l : Brought L t n k now
  l = brought L t n k now new

  names_joined : Names L (on L t n k now).used (on L t n k now).aid (on L t n k now).tok (on L t n k now).provides
  names_joined = names_brought L t n k now new valid

  -- its grants are to packages that were installed before and of its services, or wait
  there_same : (r : Row) → In r k.grants → is_some (spot_of L v n r) ≡ both_there L t k.provides r
  there_same r m = T_eq (is_some (spot_of L v n r)) (both_there L t k.provides r)
      (to (spot_of L v n r) (spot_is L v names_joined n r))
      (λ h. back (number_of L t r.aid) (number_is L t new.formed.names r.aid) (and_l (installed_aid L t r.aid) (has_tok r.tok k.provides) h)
      (in_tok L t n k now new (has_tok_lem r.tok k.provides (and_r (installed_aid L t r.aid) (has_tok r.tok k.provides) h))) (spot_of L v n r) (spot_is L v names_joined n r))
    where
      installed : (i : ℕ) → T (v.used i) → v.aid i ≡ r.aid → (o : Option ℕ) → NumberIs t r.aid o → T (is_some o)
      installed i u e none h = by_number n (λ (x : ℕ). T (v.used x) → v.aid x ≡ r.aid → ⊥) i
          (λ u e. new.lists.grants_other r m (sym e ∙ l.aid_new)) (λ ne u e. h i (l.used_back i ne u) (sym (l.aid_old i ne) ∙ e)) u e
      installed i u e (some j) h = tt

      to : (o : Option Spot) → SpotIs v n r o → T (is_some o) → T (both_there L t k.provides r)
      to none h q = absurd q
      to (some p) h q = and_i (installed_aid L t r.aid) (has_tok r.tok k.provides)
          (installed p.caller h.0 h.1 (number_of L t r.aid) (number_is L t new.formed.names r.aid))
          (tok_has (in_cast (sym h.3) (tok_in L t n k now new p.service h.2)))

      back : (o : Option ℕ) → NumberIs t r.aid o → T (is_some o) → (y : ℕ) × T (v.provides n y) × (v.tok n y ≡ r.tok) → (s : Option Spot) → SpotIs v n r s → T (is_some s)
      back none f q p s h = absurd q
      back (some i) f q p none h = h i p.0 (l.used_old i f.0) (l.aid_kept i f.0 ∙ f.1) p.1 p.2
      back (some i) f q p (some s) h = tt

  waits_same : keep (λ r. not (is_some (spot_of L v n r))) k.grants ≡ keep (waits_new L t n k now) k.grants
  waits_same = keep_ext (λ r. not (is_some (spot_of L v n r))) (waits_new L t n k now) k.grants (λ r m. ap not (there_same r m))

  granted_same : (y : ℕ) (s : Tok) → v.used y && has_row (record { aid = v.aid y; tok = s }) k.grants ≡ t.used y && has_row (record { aid = t.aid y; tok = s }) k.grants
  granted_same y s = by_number n (λ (x : ℕ). v.used x && has_row (record { aid = v.aid x; tok = s }) k.grants ≡ t.used x && has_row (record { aid = t.aid x; tok = s }) k.grants) y
      (T_false (v.used n && own) (λ q. new.lists.grants_other (record { aid = v.aid n; tok = s }) (has_row_lem (record { aid = v.aid n; tok = s }) k.grants (and_r (v.used n) own q)) l.aid_new)
      ∙ sym (T_false (t.used n && other) (λ q. new.lists.grants_other (record { aid = t.aid n; tok = s }) (has_row_lem (record { aid = t.aid n; tok = s }) k.grants (and_r (t.used n) other q)) (new.own_aid (and_l (t.used n) other q)))))
      (λ ne i. at_old n true (t.used y) y ne i && has_row (record { aid = l.aid_old y ne i; tok = s }) k.grants)
    where
      own : Bool
      own = has_row (record { aid = v.aid n; tok = s }) k.grants

      other : Bool
      other = has_row (record { aid = t.aid n; tok = s }) k.grants

  -- it has no rows yet
  no_rows : NoRows L n v
  no_rows y z = (off _, off _, off _)
    where
      off : (o : Bool) → cond (eqb n n) false o ≡ false
      off o = ap (λ (b : Bool). cond b false o) (T_true (eqb n n) (eqb_refl n))

  -- all of its rows
  pub own_is : own_rows L n k.calls k.grants k.needs (joined L t n k now) ≡ own_done L t n k now
  unfolding number_of service_of server_of spot_of
  own_is = own_rows_lem L v names_joined n k.calls k.grants k.needs no_rows ∙ (λ i. record {
    used = (on L t n k now).used;
    aid = (on L t n k now).aid;
    tok = (on L t n k now).tok;
    provides = (on L t n k now).provides;
    calls = λ x y z. inner (eqb x n) (named_on (on L t n k now) k.calls y z) ((t.calls x y z && not (gone L t n k now y z)) || (eqb y n && met_bit L t n k now x z)) i;
    grants = λ x y z. (inner (eqb x n) (mine y z) (t.grants x y z || (eqb y n && waited_bit L t n k now x z)) ∙ ap (λ (b : Bool). cond (eqb x n) b (t.grants x y z || (eqb y n && waited_bit L t n k now x z)))
        (and_assoc (v.provides n z) (v.used y) (has_row (record { aid = v.aid y; tok = v.tok n z }) k.grants) ∙ ap (λ (b : Bool). v.provides n z && b) (granted_same y (v.tok n z)))) i;
    needs = λ x y z. inner (eqb x n) (named_on (on L t n k now) k.needs y z) (t.needs x y z && not (gone L t n k now y z)) i;
    unmet = (own_done L t n k now).unmet;
    waiting = v.waiting ++ map (grant_row n) (waits_same i);
  })
    where
      mine : ℕ → ℕ → Bool
      mine y z = (v.provides n z && v.used y) && has_row (record { aid = v.aid y; tok = v.tok n z }) k.grants

  -- they have room, and the services of its needs are on the card
  module _ (fit : Fitting L (brought_at L t n k now).tables) (e : (brought_at L t n k now).lost ≡ []) where
    pub own_fits : OwnFits L n k.calls k.grants k.needs (joined L t n k now)
    unfolding number_of service_of server_of spot_of
    own_fits = record {
      package_in = new.number_lt;
      calls_fit =
          let a = length-append v.unmet (left_off L t n k now k.calls ++ left) in
          let b = length-append (left_off L t n k now k.calls) left in
          let c = length-map (keep (λ r. not (served L v r)) k.calls) (call_row n) in
          omega (arith, fit.unmet_fits, a, b, c);
      grants_fit = subst (λ (rs : List Row). length v.waiting + length rs ≤ L.capacity) (sym waits_same)
          (let a = length-append v.waiting (map (grant_row n) (keep (waits_new L t n k now) k.grants)) in
          let c = length-map (keep (waits_new L t n k now) k.grants) (grant_row n) in
          omega (arith, fit.waiting_fits, a, c));
      needs_on = subst T (none_kept (served L v) (call_row n) k.needs)
          (and_l (is_nil (left_off L t n k now k.needs)) (is_nil (left_by L t t.needs n (dropped L t n k now)))
          (subst T (nil_append (left_off L t n k now k.needs) (left_by L t t.needs n (dropped L t n k now))) (is_nil_lem e)));
    }
      where
        left : List Unmet
        left = left_by L t t.calls n (dropped L t n k now)
