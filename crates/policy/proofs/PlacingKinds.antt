-- Each kind's draft puts things where document 01 says, under the number of its package.
use Prim.Native.Nat.{ℕ, ◌≤◌, ◌<◌}
use native.Mathlib.Omega.{arith}
use mathlib.Core.Path.{◌≡◌, refl, sym, ap, ◌∙◌, subst}
use mathlib.Core.Logic.{◌⊎◌, inl, inr}
use mathlib.Core.Bool.{Bool, true, false, not, ◌&&◌, ◌||◌, cond}
use mathlib.Core.List.{List, [], ◌∷◌, ◌++◌, map, map-id}
use mathlib.Core.List.Memᴰ.{cast as in_cast}
use mathlib.Core.List.Sublistᴰ.{cons-cons as stays}
use mathlib.Core.List.Sublistᴰ.{refl as All-stay}
use mathlib.Core.List.Sublistᴰ.{slnil as none_left}
use mathlib.Core.List.{Memᴰ as In, Sublistᴰ as InOrder}
use mathlib.Core.Option.{Option, none, some}
use lib.Dec.{T, eqb, ltb→lt, lt→ltb}
use lib.ListN.{length}
use Rattle.policy.specs.Lists.{keep, or_else}
use Rattle.policy.specs.Contract.{Aid, Tok, eq_tok, Row, Contract}
use Rattle.policy.specs.Layout.{Layout}
use Rattle.policy.specs.Record.{Change, load, remove, add_service, remove_service, add_call, remove_call, add_grant, remove_grant, add_need, remove_need, replace, proper}
use Rattle.policy.specs.Causes.{answer}
use Rattle.policy.specs.Tables.{Tables, Unmet, Waiting}
use Rattle.policy.specs.Lookup.{Place, Spot, numbers, places, service_at, wanted, grant_at, number_of, free_number}
use Rattle.policy.specs.Sound.{eq_unmet, eq_waiting}
use Rattle.policy.specs.Draft.{Draft, Look, Services, call_row, grant_row, has_waiting, installed_aid, now_granted, left_by, not_served_on, new_services, add_call_at, remove_call_at, add_need_at, remove_need_at, add_grant_at, remove_grant_at, add_service_at, remove_service_at, remove_at, load_at, asks_for, draft, number_for}
use Rattle.policy.specs.Judge.{table_causes}
use Rattle.policy.specs.Numbering.{HasNumber, Numbered}
use Rattle.policy.specs.Placing.{Lowest, Stay, following, ClosedUp, CallsOf, GrantsOf, CallsOn, GrantsBy, rule, Placed}
use Rattle.policy.proofs.Sets.{and_l, or_l, or_r, not_e, keep_in, each_append, each_map_keep, each_one, pairs, pairs_in}
use Rattle.policy.proofs.Equal.{eqb_of, waiting_has}
use Rattle.policy.proofs.Put.{at_new, by_number, NewPlace, new_place}
use Rattle.policy.proofs.Pieces.{in_or_off}
use Rattle.policy.specs.Records.{WithinChange}
use Rattle.policy.proofs.Formed.{Formed, ProvidesAt, at, RowAt, GrantAt}
use Rattle.policy.proofs.Found.{NumberIs, FreeIs, free_number_is, number_is}
use Rattle.policy.proofs.Facts.{bit_not_waiting}
use Rattle.policy.proofs.Reach.{reach_2, reach_3, reach_4, reach_5, reach_6, reach_7, reach_8, reach_9, reach_10}
use Rattle.policy.proofs.BroughtNames.{Coming, dropped, now_met, waited_for, on, unmet_still, waits_still, left_off, waits_new, brought_at, Brought, brought}
use Rattle.policy.proofs.KindLoad.{in_order, load_is, load_reached}
use Rattle.policy.proofs.PlacedServices.{taken_anew}
use Rattle.policy.proofs.KindReplace.{replace_reached}
use Rattle.policy.proofs.Dropped.{Without, left_in}
use Rattle.policy.proofs.KindRemove.{dropping as package_dropped}
use Rattle.policy.proofs.KindRemoveService.{dropping as service_dropped}
use Rattle.policy.proofs.PlacingLists.{OldOrNew, stay, keep_order, none_new, none_recorded, recorded, by_numbers, by_firsts, none_by_number}

-- there is one lowest number that is not taken
lowest_one : (taken : ℕ → Bool) (m n : ℕ) → Lowest taken m → Lowest taken n → m ≡ n
lowest_one taken m n a b = go (in_or_off m n) (in_or_off n m)
  where
    go : (m < n) ⊎ (n ≤ m) → (n < m) ⊎ (m ≤ n) → m ≡ n
    go (inl h) k = absurd (a.0 (b.1 m h))
    go (inr h) (inl k) = absurd (b.0 (a.1 n k))
    go (inr h) (inr k) = omega arith

module _ (L : Layout) (t : Tables) (fm : Formed L t) (a : Aid) where
  -- ---- the number of an acceptance
  -- an installed package has it
  number_here : (n : ℕ) → T (t.used n) → t.aid n ≡ a → n ≡ number_for L t a
  unfolding number_for
  number_here n u e = go (number_of L t a) (number_is L t fm.names a)
    where
      go : (o : Option ℕ) → NumberIs t a o → n ≡ or_else o (or_else (free_number L t) 255 (λ n. n)) (λ n. n)
      go none h = absurd (h n u e)
      go (some m) h = fm.names.aid_inj n m u h.0 (e ∙ sym h.1)

  -- a newcomer takes it
  number_new : (m : ℕ) → FreeIs L.packages t.used (some m) → ((x : ℕ) → T (t.used x) → t.aid x ≡ a → ⊥) → m ≡ number_for L t a
  unfolding number_for
  number_new m free away = go (number_of L t a) (number_is L t fm.names a) (free_number L t) (free_number_is L t)
    where
      go : (o : Option ℕ) → NumberIs t a o → (f : Option ℕ) → FreeIs L.packages t.used f → m ≡ or_else o (or_else f 255 (λ n. n)) (λ n. n)
      go none h none f = absurd (free.1 (f m free.0))
      go none h (some n) f = lowest_one t.used m n (free.1, free.2) (f.1, f.2)
      go (some n) h f i = absurd (away n h.0 h.1)

  -- what a kind has to show of the tables that it leaves and the number m
  abbrev pub Settles : Change → Tables → ℕ → Type 0
  Settles c t' m = Numbered t t' a c m × Placed t t' m c

  -- each package and service of t' is old, or new
  packages_in : (t' : Tables) → ((p : ℕ) → T (t'.used p) → OldOrNew t.used t.aid t'.aid p) → Stay t.used t.aid t'.used t'.aid
  packages_in t' = stay t.used t.aid t'.aid fm.names.aid_inj t'.used

  services_in : (t' : Tables) → ((j k : ℕ) → T (t'.provides j k) → OldOrNew (t.provides j) (t.tok j) (t'.tok j) k)
      → (j : ℕ) → Stay (t.provides j) (t.tok j) (t'.provides j) (t'.tok j)
  services_in t' h j = stay (t.provides j) (t.tok j) (t'.tok j) (fm.names.tok_inj j) (t'.provides j) (h j)

  -- ---- kinds 5 to 10: packages and services stay as they are
  module _ (calls grants needs : ℕ → ℕ → ℕ → Bool) (u : List Unmet) (w : List Waiting) where
    abbrev rowed : Tables
    rowed = record {
      used = t.used;
      aid = t.aid;
      tok = t.tok;
      provides = t.provides;
      calls = calls;
      grants = grants;
      needs = needs;
      unmet = u;
      waiting = w;
    }

    rows_settle : (c : Change) (m : ℕ) → Numbered t rowed a c m → (rule t rowed m c).numbers
        → ClosedUp t.unmet u (rule t rowed m c).unmet → ClosedUp t.waiting w (rule t rowed m c).waiting → Settles c rowed m
    rows_settle c m h n x y = (
      h,
      record { packages_stay = packages_in t (λ p v. inl (v, refl)); services_stay = λ j _. services_in t (λ j k v. inl (v, refl)) j; numbers = n; unmet = x; waiting = y },
    )

  -- lists in which nothing is new, whatever rows the record has
  no_calls : (m : ℕ) (rows : List Row) {u : List Unmet} → InOrder u t.unmet → ClosedUp t.unmet u (following (CallsOf m rows))
  no_calls m rows h = none_new h (none_recorded wanted (λ u. u.caller) m rows)

  no_grants : (m : ℕ) (rows : List Row) {w : List Waiting} → InOrder w t.waiting → ClosedUp t.waiting w (following (GrantsOf m rows))
  no_grants m rows h = none_new h (none_recorded grant_at (λ w. w.callee) m rows)

  same_calls : (m : ℕ) (rows : List Row) → ClosedUp t.unmet t.unmet (following (CallsOf m rows))
  same_calls m rows = no_calls m rows (All-stay t.unmet)

  same_grants : (m : ℕ) (rows : List Row) → ClosedUp t.waiting t.waiting (following (GrantsOf m rows))
  same_grants m rows = no_grants m rows (All-stay t.waiting)

  module _ (r : Row) (i : ℕ) (h : HasNumber t a i) where
    add_call_lem : (RowAt t t.calls t.unmet i r → ⊥) → (o : Option Place) → Settles (add_call r) (add_call_at L t i r o).tables i
    add_call_lem fresh none = rows_settle _ _ _ _ _ (add_call r) i h tt
        (record {
          stayed = t.unmet;
          new = call_row i r ∷ [];
          is = refl;
          in_order = All-stay t.unmet;
          left = λ x m l. l;
          unseen = each_one (λ u. In u t.unmet → ⊥) (call_row i r) (λ m. fresh (RowAt.row m));
          ordered = (stays refl none_left, each_one (λ u. u.caller ≡ i) (call_row i r) refl);
        })
        (same_grants i [])
    add_call_lem fresh (some p) = rows_settle _ _ _ _ _ (add_call r) i h tt (same_calls i (r ∷ [])) (same_grants i [])

    remove_call_lem : (o : Option Place) → Settles (remove_call r) (remove_call_at L t i r o).tables i
    remove_call_lem none = rows_settle _ _ _ _ _ (remove_call r) i h tt (no_calls i [] (keep_order (λ u. not (eq_unmet (call_row i r) u)) t.unmet)) (same_grants i [])
    remove_call_lem (some p) = rows_settle _ _ _ _ _ (remove_call r) i h tt (same_calls i []) (same_grants i [])

    add_grant_lem : (GrantAt t i r → ⊥) → (o : Option Spot) → Settles (add_grant r) (add_grant_at L t i r o).tables i
    add_grant_lem fresh none = rows_settle _ _ _ _ _ (add_grant r) i h tt (same_calls i [])
        (record {
          stayed = t.waiting;
          new = grant_row i r ∷ [];
          is = refl;
          in_order = All-stay t.waiting;
          left = λ x m l. l;
          unseen = each_one (λ w. In w t.waiting → ⊥) (grant_row i r) (λ m. fresh (GrantAt.row m));
          ordered = (stays refl none_left, each_one (λ w. w.callee ≡ i) (grant_row i r) refl);
        })
    add_grant_lem fresh (some p) = rows_settle _ _ _ _ _ (add_grant r) i h tt (same_calls i []) (same_grants i (r ∷ []))

    remove_grant_lem : (o : Option Spot) → Settles (remove_grant r) (remove_grant_at L t i r o).tables i
    remove_grant_lem none = rows_settle _ _ _ _ _ (remove_grant r) i h tt (same_calls i []) (no_grants i [] (keep_order (λ w. not (eq_waiting (grant_row i r) w)) t.waiting))
    remove_grant_lem (some p) = rows_settle _ _ _ _ _ (remove_grant r) i h tt (same_calls i []) (same_grants i [])

    add_need_lem : (o : Option Place) → Settles (add_need r) (add_need_at L t i r o).tables i
    add_need_lem none = rows_settle _ _ _ _ _ (add_need r) i h tt (same_calls i []) (same_grants i [])
    add_need_lem (some p) = rows_settle _ _ _ _ _ (add_need r) i h tt (same_calls i []) (same_grants i [])

    remove_need_lem : (o : Option Place) → Settles (remove_need r) (remove_need_at L t i r o).tables i
    remove_need_lem none = rows_settle _ _ _ _ _ (remove_need r) i h tt (same_calls i []) (same_grants i [])
    remove_need_lem (some p) = rows_settle _ _ _ _ _ (remove_need r) i h tt (same_calls i []) (same_grants i [])

  -- ---- kinds 2 and 4: services d of package j go, and calls on them are left
  module _ (t' : Tables) (j : ℕ) (d : ℕ → Bool) (w : Without t t' j d) where
    packages_without : Stay t.used t.aid t'.used t'.aid
    packages_without = packages_in t' (λ p u. inl (w.used_old p u, w.aid_same p u))

    services_without : (y : ℕ) → Stay (t.provides y) (t.tok y) (t'.provides y) (t'.tok y)
    services_without = services_in t' (λ y z p. inl (w.prov_old y z p, w.tok_same y z p))

  left_unseen : (j : ℕ) (d : ℕ → Bool) (u : Unmet) → In u (left_by L t t.calls j d) → In u t.unmet → ⊥
  left_unseen j d u m n =
      let x = left_in L t fm.names j d t.calls fm.calls m in
      fm.unmet.off.off_card u n j x.1 (fm.calls.of_prov x.0 j x.1 x.2) (sym (ap (λ (v : Unmet). v.callee) x.4)) (sym (ap (λ (v : Unmet). v.tok) x.4))

  left_ordered : (j : ℕ) (d : ℕ → Bool) → CallsOn t j (left_by L t t.calls j d)
  left_ordered j d = by_numbers (λ i k. t.calls i j k && d k) (λ i k. call_row i (service_at t j k)) (λ i k. t.calls i j k) (λ i k b. and_l (t.calls i j k) (d k) b) L.services L.packages

  left_placed : (j : ℕ) (d : ℕ → Bool) (stayed : List Unmet) → InOrder stayed t.unmet → ClosedUp t.unmet (stayed ++ left_by L t t.calls j d) (following (CallsOn t j))
  left_placed j d stayed h = record {
    stayed = stayed;
    new = left_by L t t.calls j d;
    is = refl;
    in_order = h;
    left = λ x m l. l;
    unseen = left_unseen j d;
    ordered = left_ordered j d;
  }

  remove_placed : (n : ℕ) → T (t.used n) → Placed t (remove_at L t n).tables n remove
  remove_placed n un = record {
    packages_stay = packages_without (remove_at L t n).tables n (λ z. true) gone;
    services_stay = λ j _. services_without (remove_at L t n).tables n (λ z. true) gone j;
    numbers = tt;
    unmet = left_placed n (λ z. true) (keep (λ u. not (eqb u.caller n)) t.unmet) (keep_order (λ u. not (eqb u.caller n)) t.unmet);
    waiting = record {
      stayed = keep (λ w. not (eqb w.callee n)) t.waiting;
      new = pairs wait_for (λ j. t.grants j n) (places L) (numbers L);
      is = refl;
      in_order = keep_order (λ w. not (eqb w.callee n)) t.waiting;
      left = λ x m l. l;
      unseen = λ w m o.
          let x = pairs_in wait_for (λ j. t.grants j n) (places L) (numbers L) m in
          bit_not_waiting L t fm n x.0 x.1 x.2 (in_cast (sym x.3) o);
      ordered = by_numbers (λ j. t.grants j n) wait_for (λ j. t.grants j n) (λ j k b. b) L.services L.packages;
    };
  }
    where
      gone : Without t (remove_at L t n).tables n (λ z. true)
      gone = (package_dropped L t fm n un).without

      wait_for : ℕ → ℕ → Waiting
      wait_for j k = record { caller = t.aid n; callee = j; tok = t.tok j k }

  remove_service_placed : (s : Tok) (j k : ℕ) → T (t.provides j k) → Placed t (remove_service_at L t j k).tables j (remove_service s)
  remove_service_placed s j k p = record {
    packages_stay = packages_without (remove_service_at L t j k).tables j (λ z. eqb z k) gone;
    services_stay = λ y _. services_without (remove_service_at L t j k).tables j (λ z. eqb z k) gone y;
    numbers = tt;
    unmet = left_placed j (λ z. eqb z k) t.unmet (All-stay t.unmet);
    waiting = after L.early;
  }
    where
      wait_of : ℕ → ℕ → Waiting
      wait_of i z = record { caller = t.aid i; callee = j; tok = t.tok j z }

      others : Waiting → Bool
      others w = not (eqb w.callee j && eq_tok w.tok (t.tok j k))

      after : (b : Bool) → ClosedUp t.waiting
          (cond b (t.waiting ++ map (λ i. record { caller = t.aid i; callee = j; tok = t.tok j k }) (keep (λ i. t.grants j i k) (numbers L)))
          (keep (λ w. not (eqb w.callee j && eq_tok w.tok (t.tok j k))) t.waiting)) (following (GrantsBy t j))
      after true = record {
        stayed = t.waiting;
        new = map (λ i. wait_of i k) (keep (λ i. t.grants j i k) (numbers L));
        is = refl;
        in_order = All-stay t.waiting;
        left = λ x m l. l;
        unseen = each_map_keep (λ i. wait_of i k) (λ w. In w t.waiting → ⊥) (λ i. t.grants j i k) (numbers L) (λ i _ h. bit_not_waiting L t fm i j k h);
        ordered = by_firsts wait_of (t.grants j) (λ i. t.grants j i k) k (λ i h. h) L.packages;
      }
      after false = none_new (keep_order others t.waiting) (none_by_number wait_of (t.grants j))

      gone : Without t (remove_service_at L t j k).tables j (λ z. eqb z k)
      gone = (service_dropped L t fm j k p).without

  -- ---- kind 3: service k of package j is new
  module _ (s : Tok) (l : List Aid) (j k : ℕ) (fresh : ProvidesAt t j s → ⊥) (free : FreeIs L.services (t.provides j) (some k)) where
    abbrev served : Tables
    served = (add_service_at L t j k s l).tables

    place : NewPlace t.tok served.tok t.provides served.provides j k s
    place = new_place t.tok t.provides j k s free.1

    add_service_placed : Placed t served j (add_service s l)
    add_service_placed = record {
      packages_stay = packages_in t (λ p v. inl (v, refl));
      services_stay = λ y _. services_in served (λ y z p. old_or_new y z (place.prov_cases y z p)) y;
      numbers = (k, (free.1, free.2), place.new_prov, place.new_tok);
      unmet = no_calls j [] (keep_order (λ u. not (asks_for L t (t.aid j) s u)) t.unmet);
      waiting = record {
        stayed = keep (λ w. not (now_granted L t j s w)) t.waiting;
        new = map waits (keep lone l);
        is = refl;
        in_order = keep_order (λ w. not (now_granted L t j s w)) t.waiting;
        left = λ x m l. l;
        unseen = each_map_keep waits (λ w. In w t.waiting → ⊥) lone l
            (λ b _ h m. not_e (installed_aid L t b || waiting b) h (or_r (installed_aid L t b) (waiting b) (waiting_has m)));
        ordered = recorded waits lone grant_at (λ w. w.callee) j (λ b. record { aid = b; tok = s }) l (λ b _. refl) (λ b. refl);
      };
    }
      where
        waits : Aid → Waiting
        waits b = record { caller = b; callee = j; tok = s }

        waiting : Aid → Bool
        waiting b = has_waiting (waits b) t.waiting

        lone : Aid → Bool
        lone b = not (installed_aid L t b || waiting b)

        old_or_new : (y z : ℕ) → ((y ≡ j) × (z ≡ k)) ⊎ T (t.provides y z) → OldOrNew (t.provides y) (t.tok y) (served.tok y) z
        old_or_new y z (inl e) = inr (
          λ p. free.1 (rw (← e.0, ← e.1) p),
          λ x p q. fresh (at x (subst (λ (v : ℕ). T (t.provides v x)) e.0 p)
              (sym place.new_tok ∙ (λ i. served.tok (sym e.0 i) (sym e.1 i)) ∙ sym q ∙ (λ i. t.tok (e.0 i) x))),
        )
        old_or_new y z (inr p) = inl (p, place.old_tok y z p)

  -- ---- kinds 1 and 11: the contract comes to number m
  module _ (p : List Tok) (c g n : List Row) (m : ℕ) where
    abbrev contract : Contract
    contract = record { aid = a; provides = p; calls = c; grants = g; needs = n }

    module _ (now : Services) where
      calls_ordered : CallsOf m c (left_off L t m contract now c)
      calls_ordered = subst (λ (rows : List Row). CallsOf m rows (left_off L t m contract now c)) (map-id c)
          (recorded (call_row m) (not_served_on L (on L t m contract now)) wanted (λ u. u.caller) m (λ r. r) c (λ r _. refl) (λ r. refl))

      grants_ordered : GrantsOf m g (map (grant_row m) (keep (waits_new L t m contract now) g))
      grants_ordered = subst (λ (rows : List Row). GrantsOf m rows (map (grant_row m) (keep (waits_new L t m contract now) g))) (map-id g)
          (recorded (grant_row m) (waits_new L t m contract now) grant_at (λ w. w.callee) m (λ r. r) g (λ r _. refl) (λ r. refl))

    -- kind 1: the number is new
    load_settles : (free : FreeIs L.packages t.used (some m)) → ((x : ℕ) → T (t.used x) → t.aid x ≡ a → ⊥) → Coming L t m contract (in_order p)
        → Settles (load p c g n) (load_at L t m contract).tables m
    load_settles free away new = (
      (l.used_new, l.aid_new),
      record {
        packages_stay = packages_in joined (λ x. by_number m (λ (x : ℕ). T (joined.used x) → OldOrNew t.used t.aid joined.aid x) x
            (λ _. inr (free.1, λ y u e. away y u (e ∙ l.aid_new))) (λ ne u. inl (l.used_back x ne u, l.aid_old x ne)));
        services_stay = λ j _. services_in joined (λ y z. by_number m (λ (y : ℕ). T (joined.provides y z) → OldOrNew (t.provides y) (t.tok y) (joined.tok y) z) y
            (λ _. inr (no_service z, λ x q _. no_service x q)) (λ ne q. inl (l.prov_back y z ne q, l.tok_old y z ne))) j;
        numbers = ((free.1, free.2), (λ k. (λ q. ltb→lt k (length p) (l.prov_is k q), λ q. l.prov_new k (lt→ltb k (length p) q))), λ k _. l.tok_new k);
        unmet = record {
          stayed = keep (λ u. not (now_met L t m contract now u)) t.unmet;
          new = left_off L t m contract now c;
          is = refl;
          in_order = keep_order (λ u. not (now_met L t m contract now u)) t.unmet;
          left = λ x m l. l;
          unseen = each_map_keep (call_row m) (λ u. In u t.unmet → ⊥) (not_served_on L (on L t m contract now)) c (λ r _ _ o. free.1 (fm.unmet.off.off_used (call_row m r) o));
          ordered = calls_ordered now;
        };
        waiting = record {
          stayed = keep (λ w. not (waited_for L t m contract now w)) t.waiting;
          new = map (grant_row m) (keep (waits_new L t m contract now) g);
          is = refl;
          in_order = keep_order (λ w. not (waited_for L t m contract now w)) t.waiting;
          left = λ x m l. l;
          unseen = each_map_keep (grant_row m) (λ w. In w t.waiting → ⊥) (waits_new L t m contract now) g (λ r _ _ o. free.1 (fm.waiting.wait_used (grant_row m r) o));
          ordered = grants_ordered now;
        };
      },
    )
      where
        now : Services
        now = in_order p

        joined : Tables
        joined = (load_at L t m contract).tables

        l : Brought L t m contract now
        l = brought L t m contract now new

        no_service : (z : ℕ) → T (t.provides m z) → ⊥
        no_service z q = free.1 (fm.names.prov_used m z q)

    -- kind 11: the number is the package's
    replace_settles : T (t.used m) → t.aid m ≡ a → length p ≤ L.services → Coming L t m contract (new_services L t m contract)
        → Settles (replace p c g n) (brought_at L t m contract (new_services L t m contract)).tables m
    replace_settles um am fit new = (
      (l.used_new, l.aid_new),
      record {
        packages_stay = packages_in after (λ x. by_number m (λ (x : ℕ). T (after.used x) → OldOrNew t.used t.aid after.aid x) x
            (λ _. inl (um, l.aid_kept m um)) (λ ne u. inl (l.used_back x ne u, l.aid_old x ne)));
        services_stay = λ j ne. stay (t.provides j) (t.tok j) (after.tok j) (fm.names.tok_inj j) (after.provides j) (λ k q. inl (l.prov_back j k ne q, l.tok_old j k ne));
        numbers = taken_anew L t m contract fm fit after (λ y. at_new m (now.provides y) (t.provides m y)) l.tok_new;
        unmet = record {
          stayed = keep (unmet_still L t m contract now) t.unmet;
          new = left_off L t m contract now c ++ left_by L t t.calls m (dropped L t m contract now);
          is = refl;
          in_order = keep_order (unmet_still L t m contract now) t.unmet;
          left = λ u i e. not_e (eqb u.caller m || now_met L t m contract now u) (keep_in (unmet_still L t m contract now) t.unmet i).1
              (or_l (eqb u.caller m) (now_met L t m contract now u) (eqb_of e));
          unseen = each_append {P = λ u. In u t.unmet → u.caller ≡ m} (left_off L t m contract now c) (left_by L t t.calls m (dropped L t m contract now))
              (each_map_keep (call_row m) (λ u. In u t.unmet → u.caller ≡ m) (not_served_on L (on L t m contract now)) c (λ r _ _ _. refl))
              (λ u i o. absurd (left_unseen m (dropped L t m contract now) u i o));
          ordered = (left_off L t m contract now c, left_by L t t.calls m (dropped L t m contract now), refl, calls_ordered now, left_ordered m (dropped L t m contract now));
        };
        waiting = record {
          stayed = keep (waits_still L t m contract now) t.waiting;
          new = map (grant_row m) (keep (waits_new L t m contract now) g);
          is = refl;
          in_order = keep_order (waits_still L t m contract now) t.waiting;
          left = λ w i e. not_e (eqb w.callee m || waited_for L t m contract now w) (keep_in (waits_still L t m contract now) t.waiting i).1
              (or_l (eqb w.callee m) (waited_for L t m contract now w) (eqb_of e));
          unseen = each_map_keep (grant_row m) (λ w. In w t.waiting → w.callee ≡ m) (waits_new L t m contract now) g (λ r _ _ _. refl);
          ordered = grants_ordered now;
        };
      },
    )
      where
        now : Services
        now = new_services L t m contract

        after : Tables
        after = (brought_at L t m contract now).tables

        l : Brought L t m contract now
        l = brought L t m contract now new

  -- ---- the eleven kinds
  module _ (c : Change) where
    abbrev Settled : Draft → Look → Type 0
    Settled d _ = Settles c d.tables (number_for L t a)

    -- under the number n of an installed package
    under : {t' : Tables} (n : ℕ) → HasNumber t a n → Settles c t' n → Settles c t' (number_for L t a)
    under {t'} n h = subst (Settles c t') (number_here n h.0 h.1)

  pub settles : (c : Change) → WithinChange L c → T (proper L a c) → answer (table_causes L t a c) ≡ 0 → Settles c (draft L t a c).tables (number_for L t a)
  settles (load p c g n) v pr = load_reached L t a p c g n (Settled (load p c g n)) fm v.0.0 pr (λ m free away new.
      subst (λ (d : Draft). Settles (load p c g n) d.tables (number_for L t a)) (load_is L t m (contract p c g n m) fm free.1)
      (subst (Settles (load p c g n) (load_at L t m (contract p c g n m)).tables) (number_new m free away) (load_settles p c g n m free away new)))
  settles remove v pr = reach_2 L t fm a (Settled remove) (λ n u e. under remove n (u, e) ((u, e), remove_placed n u))
  settles (add_service s l) v pr =
      reach_3 L t fm a (Settled (add_service s l)) s l (λ j k u e fresh free. under (add_service s l) j (u, e) ((u, e), add_service_placed s l j k fresh free))
  settles (remove_service s) v pr =
      reach_4 L t fm a (Settled (remove_service s)) s (λ j k p e _. let h : HasNumber t a j = (fm.names.prov_used j k p, e) in under (remove_service s) j h (h, remove_service_placed s j k p))
  settles (add_call r) v pr = reach_5 L t fm a (Settled (add_call r)) r (λ i u e fresh o _. under (add_call r) i (u, e) (add_call_lem r i (u, e) fresh o))
  settles (remove_call r) v pr = reach_6 L t fm a (Settled (remove_call r)) r (λ i u e o _. under (remove_call r) i (u, e) (remove_call_lem r i (u, e) o))
  settles (add_grant r) v pr = reach_7 L t fm a (Settled (add_grant r)) r (λ j u e fresh o _. under (add_grant r) j (u, e) (add_grant_lem r j (u, e) fresh o))
  settles (remove_grant r) v pr = reach_8 L t fm a (Settled (remove_grant r)) r (λ j u e o _. under (remove_grant r) j (u, e) (remove_grant_lem r j (u, e) o))
  settles (add_need r) v pr = reach_9 L t fm a (Settled (add_need r)) r (λ i u e _ _ o _. under (add_need r) i (u, e) (add_need_lem r i (u, e) o))
  settles (remove_need r) v pr = reach_10 L t fm a (Settled (remove_need r)) r (λ i u e o _. under (remove_need r) i (u, e) (remove_need_lem r i (u, e) o))
  settles (replace p c g n) v pr = replace_reached L t a p c g n (Settled (replace p c g n)) fm v.0.0 pr (λ m u e new.
      under (replace p c g n) m (u, e) (replace_settles p c g n m u e v.0.0 new))
