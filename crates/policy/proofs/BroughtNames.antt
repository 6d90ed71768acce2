-- What kinds 1 and 11 share, the names: the contract k comes to number m, which is free or has the package with k's AID, and its services stand at `now`.
use Prim.Native.Nat.{ℕ, ◌<◌}
use mathlib.Core.Path.{◌≡◌, refl, sym, ◌∙◌, subst}
use mathlib.Core.Bool.{Bool, true, not, ◌&&◌, ◌||◌, cond}
use mathlib.Core.List.{List, [], ◌++◌, map}
use mathlib.Core.List.Memᴰ.{cast as in_cast}
use mathlib.Core.List.{Memᴰ as In}
use lib.Dec.{T, eqb, eqb_refl}
use Rattle.policy.specs.Lists.{every, distinct, keep, is_some, NoRepeat}
use Rattle.policy.specs.Contract.{Aid, eq_aid, Tok, eq_tok, Row, eq_row, Contract, has_tok, has_row, valid_aid}
use Rattle.policy.specs.Layout.{Layout}
use Rattle.policy.specs.Record.{not_own, proper_contract}
use Rattle.policy.specs.Tables.{Tables, Unmet, Waiting, no_tok}
use Rattle.policy.specs.Lookup.{service_at, number_of, service_of}
use Rattle.policy.specs.Draft.{Draft, Services, call_row, grant_row, has_unmet, has_waiting, put, named_on, not_served_on, left_by, dropped_by}
use Rattle.policy.specs.History.{FourSets}
use Rattle.policy.proofs.Sets.{and_l, and_r, and_i, not_e, not_not, every_in, distinct→once}
use Rattle.policy.proofs.Equal.{eq_aid_of, eq_tok→, eq_tok_refl, row_path, eq_row→, eq_row_refl, has_row_lem, has_tok_lem, tok_has}
use Rattle.policy.proofs.Put.{at_new, at_old, by_number}
use Rattle.policy.proofs.Formed.{Names, Formed}

-- ---- the places of the new services: each has one, once, and a service that stays keeps its place
pub record ServicesAt (L : Layout) (t : Tables) (m : ℕ) (p : List Tok) (now : Services) : Type 0 where
  pub prov_lt : (y : ℕ) → T (now.provides y) → y < L.services
  pub tok_in : (y : ℕ) → T (now.provides y) → In (now.tok y) p
  pub in_tok : (s : Tok) → In s p → (y : ℕ) × T (now.provides y) × (now.tok y ≡ s)
  pub tok_inj : (y z : ℕ) → T (now.provides y) → T (now.provides z) → now.tok y ≡ now.tok z → y ≡ z
  pub tok_blank : (y : ℕ) → (T (now.provides y) → ⊥) → now.tok y ≡ no_tok
  pub stays : (y : ℕ) → T (t.provides m y) → In (t.tok m y) p → T (now.provides y) × (now.tok y ≡ t.tok m y)

-- what cause 3 leaves of a contract
pub record Lists (k : Contract) : Type 0 where
  pub sets : FourSets k
  pub calls_other : (r : Row) → In r k.calls → r.aid ≡ k.aid → ⊥
  pub grants_other : (r : Row) → In r k.grants → r.aid ≡ k.aid → ⊥
  pub needs_called : (r : Row) → In r k.needs → In r k.calls

-- ---- what a contract that causes 3 to 7 let pass finds: a number that is free or its own, and no other package with its AID
pub record Coming (L : Layout) (t : Tables) (m : ℕ) (k : Contract) (now : Services) : Type 0 where
  pub formed : Formed L t
  pub number_lt : m < L.packages
  pub own_aid : T (t.used m) → t.aid m ≡ k.aid
  pub only : (n : ℕ) → T (t.used n) → t.aid n ≡ k.aid → n ≡ m
  pub lists : Lists k
  pub placed : ServicesAt L t m k.provides now

module _ (L : Layout) (t : Tables) (m : ℕ) (k : Contract) (now : Services) where
  -- the package and its services alone
  abbrev pub on : Tables
  on = record {
    used = put m true t.used;
    aid = put m k.aid t.aid;
    tok = λ x y. cond (eqb x m) (now.tok y) (t.tok x y);
    provides = λ x y. cond (eqb x m) (now.provides y) (t.provides x y);
    calls = t.calls;
    grants = t.grants;
    needs = t.needs;
    unmet = t.unmet;
    waiting = t.waiting;
  }

  abbrev pub dropped : ℕ → Bool
  dropped = dropped_by L t k m

  abbrev pub gone : ℕ → ℕ → Bool
  gone y z = eqb y m && dropped z

  -- rows that leave the lists: those of number m, calls that are met, and grants that stand as bits
  abbrev pub now_met : Unmet → Bool
  now_met u = eq_aid u.callee k.aid && has_tok u.tok k.provides

  abbrev pub waited_for : Waiting → Bool
  waited_for w = eq_aid w.caller k.aid && is_some (service_of L t w.callee w.tok)

  abbrev pub unmet_still : Unmet → Bool
  unmet_still u = not (eqb u.caller m || now_met u)

  abbrev pub waits_still : Waiting → Bool
  waits_still w = not (eqb w.callee m || waited_for w)

  -- rows that come: k's calls and needs on services that are not on the card, and its grants whose caller and service are not both there
  abbrev pub left_off : List Row → List Unmet
  left_off l = map (call_row m) (keep (not_served_on L on) l)

  abbrev pub both_there : Row → Bool
  both_there r = is_some (number_of L t r.aid) && has_tok r.tok k.provides

  abbrev pub waits_new : Row → Bool
  waits_new r = not (both_there r)

  -- calls and grants that come to be bits
  abbrev pub met_bit : ℕ → ℕ → Bool
  met_bit x z = on.provides m z && has_unmet (call_row x (service_at on m z)) t.unmet

  abbrev pub waited_bit : ℕ → ℕ → Bool
  waited_bit x z = t.provides x z && has_waiting (record { caller = k.aid; callee = x; tok = t.tok x z }) t.waiting

  abbrev pub granted_bit : ℕ → ℕ → Bool
  granted_bit y z = on.provides m z && (t.used y && has_row (record { aid = t.aid y; tok = on.tok m z }) k.grants)

  abbrev pub brought_at : Draft
  brought_at = record {
    tables = record {
      used = on.used;
      aid = on.aid;
      tok = on.tok;
      provides = on.provides;
      calls = λ x y z. cond (eqb x m) (named_on on k.calls y z) ((t.calls x y z && not (gone y z)) || (eqb y m && met_bit x z));
      grants = λ x y z. cond (eqb x m) (granted_bit y z) (t.grants x y z || (eqb y m && waited_bit x z));
      needs = λ x y z. cond (eqb x m) (named_on on k.needs y z) (t.needs x y z && not (gone y z));
      unmet = keep unmet_still t.unmet ++ (left_off k.calls ++ left_by L t t.calls m dropped);
      waiting = keep waits_still t.waiting ++ map (grant_row m) (keep waits_new k.grants);
    };
    lost = left_off k.needs ++ left_by L t t.needs m dropped;
  }

  -- the names afterwards, by old and new numbers
  pub record Brought : Type 0 where
    pub used_new : T (on.used m)
    pub used_old : (x : ℕ) → T (t.used x) → T (on.used x)
    pub used_back : (x : ℕ) → (x ≡ m → ⊥) → T (on.used x) → T (t.used x)
    pub aid_new : on.aid m ≡ k.aid
    pub aid_old : (x : ℕ) → (x ≡ m → ⊥) → on.aid x ≡ t.aid x
    pub aid_kept : (x : ℕ) → T (t.used x) → on.aid x ≡ t.aid x
    pub tok_new : (y : ℕ) → on.tok m y ≡ now.tok y
    pub tok_old : (x y : ℕ) → (x ≡ m → ⊥) → on.tok x y ≡ t.tok x y
    pub prov_new : (y : ℕ) → T (now.provides y) → T (on.provides m y)
    pub prov_is : (y : ℕ) → T (on.provides m y) → T (now.provides y)
    pub prov_old : (x y : ℕ) → (x ≡ m → ⊥) → T (t.provides x y) → T (on.provides x y)
    pub prov_back : (x y : ℕ) → (x ≡ m → ⊥) → T (on.provides x y) → T (t.provides x y)

  module _ (new : Coming L t m k now) where
    pub brought : Brought
    brought = record {
      used_new = subst T (sym (at_new m true (t.used m))) tt;
      used_old = λ x u. by_number m (λ (z : ℕ). T (on.used z)) x (subst T (sym (at_new m true (t.used m))) tt) (λ h. subst T (sym (at_old m true (t.used x) x h)) u);
      used_back = λ x h u. subst T (at_old m true (t.used x) x h) u;
      aid_new = at_new m k.aid (t.aid m);
      aid_old = λ x. at_old m k.aid (t.aid x) x;
      aid_kept = λ x. by_number m (λ (z : ℕ). T (t.used z) → on.aid z ≡ t.aid z) x
          (λ u. at_new m k.aid (t.aid m) ∙ sym (new.own_aid u)) (λ h u. at_old m k.aid (t.aid x) x h);
      tok_new = λ y. at_new m (now.tok y) (t.tok m y);
      tok_old = λ x y. at_old m (now.tok y) (t.tok x y) x;
      prov_new = λ y h. subst T (sym (at_new m (now.provides y) (t.provides m y))) h;
      prov_is = λ y p. subst T (at_new m (now.provides y) (t.provides m y)) p;
      prov_old = λ x y h p. subst T (sym (at_old m (now.provides y) (t.provides x y) x h)) p;
      prov_back = λ x y h p. subst T (at_old m (now.provides y) (t.provides x y) x h) p;
    }

    -- the tokens of the services of m are those of the contract
    pub tok_in : (y : ℕ) → T (on.provides m y) → In (on.tok m y) k.provides
    tok_in y p = in_cast (brought.tok_new y) (new.placed.tok_in y (brought.prov_is y p))

    pub in_tok : {s : Tok} → In s k.provides → (y : ℕ) × T (on.provides m y) × (on.tok m y ≡ s)
    in_tok {s} i = let q = new.placed.in_tok s i in (q.0, brought.prov_new q.0 q.1, brought.tok_new q.0 ∙ q.2)

    pub new_lt : (y : ℕ) → T (on.provides m y) → y < L.services
    new_lt y p = new.placed.prov_lt y (brought.prov_is y p)

    -- a service that is not dropped stands where it stood
    pub service_kept : (x y : ℕ) → T (t.provides x y) → (T (gone x y) → ⊥) → T (on.provides x y) × (service_at on x y ≡ service_at t x y)
    service_kept x y p h = by_number m (λ (z : ℕ). T (t.provides z y) → (T (gone z y) → ⊥) → T (on.provides z y) × (service_at on z y ≡ service_at t z y)) x
        (λ p h. let q = new.placed.stays y p (has_tok_lem (t.tok m y) k.provides (not_dropped y h)) in
        (brought.prov_new y q.0, row_path (brought.aid_kept m (new.formed.names.prov_used m y p)) (brought.tok_new y ∙ q.1)))
        (λ ne p h. (brought.prov_old x y ne p, row_path (brought.aid_old x ne) (brought.tok_old x y ne))) p h
      where
        not_dropped : (y : ℕ) → (T (gone m y) → ⊥) → T (has_tok (t.tok m y) k.provides)
        not_dropped y h = not_not (has_tok (t.tok m y) k.provides) (λ d. h (and_i (eqb m m) (dropped y) (eqb_refl m) d))

    -- a service that is dropped is not among the new ones
    pub dropped_out : (y : ℕ) → T (dropped y) → In (t.tok m y) k.provides → ⊥
    dropped_out y d i = not_e (has_tok (t.tok m y) k.provides) d (tok_has i)

    pub names_brought : T (valid_aid k.aid) → Names L on.used on.aid on.tok on.provides
    names_brought v =
        let l = brought in
        let ns = new.formed.names in
        record {
          used_lt = λ x. by_number m (λ (z : ℕ). T (on.used z) → z < L.packages) x (λ u. new.number_lt) (λ h u. ns.used_lt x (l.used_back x h u));
          prov_lt = λ x y. by_number m (λ (z : ℕ). T (on.provides z y) → y < L.services) x
              (new_lt y) (λ h p. ns.prov_lt x y (l.prov_back x y h p));
          prov_used = λ x y. by_number m (λ (z : ℕ). T (on.provides z y) → T (on.used z)) x
              (λ p. l.used_new) (λ h p. l.used_old x (ns.prov_used x y (l.prov_back x y h p)));
          aid_valid = λ x. by_number m (λ (z : ℕ). T (on.used z) → T (valid_aid (on.aid z))) x
              (λ u. subst (λ (z : Aid). T (valid_aid z)) (sym l.aid_new) v)
              (λ h u. subst (λ (z : Aid). T (valid_aid z)) (sym (l.aid_old x h)) (ns.aid_valid x (l.used_back x h u)));
          aid_blank = λ x. by_number m (λ (z : ℕ). (T (on.used z) → ⊥) → on.aid z ≡ []) x
              (λ n. absurd (n l.used_new)) (λ h n. l.aid_old x h ∙ ns.aid_blank x (λ u. n (l.used_old x u)));
          tok_blank = λ x y. by_number m (λ (z : ℕ). (T (on.provides z y) → ⊥) → on.tok z y ≡ no_tok) x
              (λ n. l.tok_new y ∙ new.placed.tok_blank y (λ h. n (l.prov_new y h)))
              (λ h n. l.tok_old x y h ∙ ns.tok_blank x y (λ p. n (l.prov_old x y h p)));
          aid_inj = λ i j. by_number m (λ (z : ℕ). T (on.used z) → T (on.used j) → on.aid z ≡ on.aid j → z ≡ j) i
              (by_number m (λ (z : ℕ). T (on.used m) → T (on.used z) → on.aid m ≡ on.aid z → m ≡ z) j
              (λ u w e. refl) (λ h u w e. absurd (foreign j h w (sym e))))
              (λ h. by_number m (λ (z : ℕ). T (on.used i) → T (on.used z) → on.aid i ≡ on.aid z → i ≡ z) j
              (λ u w e. absurd (foreign i h u e))
              (λ g u w e. ns.aid_inj i j (l.used_back i h u) (l.used_back j g w) (sym (l.aid_old i h) ∙ e ∙ l.aid_old j g)));
          tok_inj = λ j y z. by_number m (λ (x : ℕ). T (on.provides x y) → T (on.provides x z) → on.tok x y ≡ on.tok x z → y ≡ z) j
              (λ p q e. new.placed.tok_inj y z (l.prov_is y p) (l.prov_is z q) (sym (l.tok_new y) ∙ e ∙ l.tok_new z))
              (λ h p q e. ns.tok_inj j y z (l.prov_back j y h p) (l.prov_back j z h q) (sym (l.tok_old j y h) ∙ e ∙ l.tok_old j z h));
        }
      where
        foreign : (x : ℕ) → (x ≡ m → ⊥) → T (on.used x) → on.aid x ≡ on.aid m → ⊥
        foreign x h u e = h (new.only x (brought.used_back x h u) (sym (brought.aid_old x h) ∙ e ∙ brought.aid_new))

-- ---- the lists of a proper contract
pub lists_of : (L : Layout) (a : Aid) (p : List Tok) (c g n : List Row) → T (proper_contract L a p c g n) → Lists (record { aid = a; provides = p; calls = c; grants = g; needs = n })
lists_of L a p c g n pr =
    let d1 = distinct eq_tok p in
    let d2 = distinct eq_row c in
    let d3 = distinct eq_row g in
    let d4 = distinct eq_row n in
    let o1 = not_own a c in
    let o2 = not_own a g in
    let o3 = not_own a n in
    let i1 = every (λ r. has_row r c) n in
    let i2 = L.early || every (λ r. has_tok r.tok p) g in
    let d = d1 && d2 && d3 && d4 in
    let o = o1 && o2 && o3 in
    let i = i1 && i2 in
    let hd = and_l d o (and_l (d && o) i pr) in
    let ho = and_r d o (and_l (d && o) i pr) in
    let hi = and_r (d && o) i pr in
    let h3 = and_l (d1 && d2 && d3) d4 hd in
    let h2 = and_l (d1 && d2) d3 h3 in
    record {
      sets = record {
        provides = distinct→once eq_tok eq_tok→ eq_tok_refl p (and_l d1 d2 h2);
        calls = rows_once c (and_r d1 d2 h2);
        grants = rows_once g (and_r (d1 && d2) d3 h3);
        needs = rows_once n (and_r (d1 && d2 && d3) d4 hd);
      };
      calls_other = other c (and_l o1 o2 (and_l (o1 && o2) o3 ho));
      grants_other = other g (and_r o1 o2 (and_l (o1 && o2) o3 ho));
      needs_called = λ r m. has_row_lem r c (every_in (λ x. has_row x c) n (and_l i1 i2 hi) m);
    }
  where
    rows_once : (l : List Row) → T (distinct eq_row l) → NoRepeat l
    rows_once l h = distinct→once eq_row eq_row→ eq_row_refl l h

    other : (l : List Row) → T (not_own a l) → (r : Row) → In r l → r.aid ≡ a → ⊥
    other l h r m e = not_e (eq_aid r.aid a) (every_in (λ x. not (eq_aid x.aid a)) l h m) (eq_aid_of e)
