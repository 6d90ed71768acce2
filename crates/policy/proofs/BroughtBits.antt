-- What kinds 1 and 11 share, the bits: the calls, grants and needs of the tables with a contract brought are the contract's, those that it meets or that waited
-- for it, and the old ones that stay.
use Prim.Native.Nat.{ℕ}
use mathlib.Core.Path.{◌≡◌}
use mathlib.Core.Logic.{◌⊎◌, inl, inr, ◌↔◌}
use mathlib.Core.Bool.{Bool, true, false, not, ◌&&◌, ◌||◌, cond}
use mathlib.Core.List.{List}
use mathlib.Core.List.{Memᴰ as In}
use lib.Dec.{T, eqb, eqb→eq}
use Rattle.policy.specs.Contract.{Row, Contract, has_row}
use Rattle.policy.specs.Layout.{Layout}
use Rattle.policy.specs.Tables.{Tables, Waiting}
use Rattle.policy.specs.Lookup.{service_at}
use Rattle.policy.specs.Draft.{Services, call_row, has_unmet, has_waiting, named_on}
use Rattle.policy.proofs.Sets.{T_true, T_false, and_l, and_r, and_i, or_l, or_r, or_e, not_i, not_e}
use Rattle.policy.proofs.Equal.{eqb_of, has_row_lem, row_has, has_unmet_lem, unmet_has, has_waiting_lem, waiting_has}
use Rattle.policy.proofs.BroughtNames.{on, gone, met_bit, waited_bit, granted_bit, brought_at}

-- one test of two, chosen by a third
module _ (a v o : Bool) where
  chosen : {C : Type 0} → (T a → T v → C) → ((T a → ⊥) → T o → C) → T (cond a v o) → C
  chosen {C} f g s = go a f g s
    where
      go : (a : Bool) → (T a → T v → C) → ((T a → ⊥) → T o → C) → T (cond a v o) → C
      go true f g s = f tt s
      go false f g s = g (λ x. x) s

  choose_1 : T a → T v → T (cond a v o)
  choose_1 s h = rw (T_true a s) h

  choose_2 : (T a → ⊥) → T o → T (cond a v o)
  choose_2 n h = rw (T_false a n) h

module _ (L : Layout) (t : Tables) (m : ℕ) (k : Contract) (now : Services) where
  abbrev names : Tables
  names = on L t m k now

  abbrev after : Tables
  after = (brought_at L t m k now).tables

  abbrev Other : ℕ → Type 0
  Other x = x ≡ m → ⊥

  -- the service stays
  abbrev pub Stays : ℕ → ℕ → Type 0
  Stays y z = T (gone L t m k now y z) → ⊥

  -- service z of package y is on the card and one of the contract's rows
  abbrev pub Named : List Row → ℕ → ℕ → Type 0
  Named l y z = T (names.provides y z) × In (service_at names y z) l

  named_is : (l : List Row) (y z : ℕ) → T (named_on names l y z) ↔ Named l y z
  named_is l y z =
      let p = names.provides y z in
      let q = has_row (service_at names y z) l in
      ((λ h. (and_l p q h, has_row_lem (service_at names y z) l (and_r p q h))), (λ h. and_i p q h.0 (row_has h.1)))

  -- a call bit of caller x, callee y and the callee's service z
  pub data CallIs (x y z : ℕ) : Type 0 where
    own : x ≡ m → Named k.calls y z → CallIs x y z
    met : Other x → y ≡ m → T (names.provides m z) → In (call_row x (service_at names m z)) t.unmet → CallIs x y z
    old : Other x → Stays y z → T (t.calls x y z) → CallIs x y z

  -- a grant bit of callee x, caller y and the callee's service z
  pub data GrantIs (x y z : ℕ) : Type 0 where
    own : x ≡ m → T (names.provides m z) → T (t.used y) → In (record { aid = t.aid y; tok = names.tok m z }) k.grants → GrantIs x y z
    waited : Other x → y ≡ m → T (t.provides x z) → In (record { caller = k.aid; callee = x; tok = t.tok x z }) t.waiting → GrantIs x y z
    old : Other x → T (t.grants x y z) → GrantIs x y z

  -- a need bit, as a call bit
  pub data NeedIs (x y z : ℕ) : Type 0 where
    own : x ≡ m → Named k.needs y z → NeedIs x y z
    old : Other x → Stays y z → T (t.needs x y z) → NeedIs x y z

  -- x is not m, as a failed test, and back
  fails : {x : ℕ} → Other x → T (eqb x m) → ⊥
  fails {x} h s = h (eqb→eq x m s)

  other : {x : ℕ} → (T (eqb x m) → ⊥) → Other x
  other h e = h (eqb_of e)

  -- what each bit is chosen from
  pub call_is : (x y z : ℕ) → T (after.calls x y z) ↔ CallIs x y z
  call_is x y z = (
    chosen (eqb x m) v (s || w) (λ e h. CallIs.own (eqb→eq x m e) ((named_is k.calls y z).0 h)) (λ n h. rest (other n) (or_e s w h)),
    back,
  )
    where
      v : Bool
      v = named_on names k.calls y z

      p : Bool
      p = names.provides m z

      u : Bool
      u = has_unmet (call_row x (service_at names m z)) t.unmet

      s : Bool
      s = t.calls x y z && not (gone L t m k now y z)

      w : Bool
      w = eqb y m && met_bit L t m k now x z

      rest : Other x → T (t.calls x y z && not (gone L t m k now y z)) ⊎ T (eqb y m && met_bit L t m k now x z) → CallIs x y z
      rest n (inl h) = CallIs.old n (not_e (gone L t m k now y z) (and_r (t.calls x y z) (not (gone L t m k now y z)) h)) (and_l (t.calls x y z) (not (gone L t m k now y z)) h)
      rest n (inr h) =
          let q = and_r (eqb y m) (p && u) h in
          CallIs.met n (eqb→eq y m (and_l (eqb y m) (p && u) h)) (and_l p u q) (has_unmet_lem (call_row x (service_at names m z)) t.unmet (and_r p u q))

      back : CallIs x y z → T (after.calls x y z)
      back (CallIs.own e h) = choose_1 (eqb x m) v (s || w) (eqb_of e) ((named_is k.calls y z).1 h)
      back (CallIs.met n e h i) = choose_2 (eqb x m) v (s || w) (fails n) (or_r s w (and_i (eqb y m) (p && u) (eqb_of e) (and_i p u h (unmet_has i))))
      back (CallIs.old n g h) = choose_2 (eqb x m) v (s || w) (fails n) (or_l s w (and_i (t.calls x y z) (not (gone L t m k now y z)) h (not_i (gone L t m k now y z) g)))

  pub grant_is_lem : (x y z : ℕ) → T (after.grants x y z) ↔ GrantIs x y z
  grant_is_lem x y z = (
    chosen (eqb x m) v (o || w)
        (λ e h. GrantIs.own (eqb→eq x m e) (and_l p (u && q) h) (and_l u q (and_r p (u && q) h)) (has_row_lem r k.grants (and_r u q (and_r p (u && q) h))))
        (λ n h. rest (other n) (or_e o w h)),
    back,
  )
    where
      r : Row
      r = record { aid = t.aid y; tok = names.tok m z }

      p : Bool
      p = names.provides m z

      u : Bool
      u = t.used y

      q : Bool
      q = has_row r k.grants

      f : Waiting
      f = record { caller = k.aid; callee = x; tok = t.tok x z }

      s : Bool
      s = t.provides x z

      v : Bool
      v = granted_bit L t m k now y z

      o : Bool
      o = t.grants x y z

      w : Bool
      w = eqb y m && waited_bit L t m k now x z

      rest : Other x → T (t.grants x y z) ⊎ T (eqb y m && waited_bit L t m k now x z) → GrantIs x y z
      rest n (inl h) = GrantIs.old n h
      rest n (inr h) =
          let g = and_r (eqb y m) (s && has_waiting f t.waiting) h in
          GrantIs.waited n (eqb→eq y m (and_l (eqb y m) (s && has_waiting f t.waiting) h)) (and_l s (has_waiting f t.waiting) g) (has_waiting_lem f t.waiting (and_r s (has_waiting f t.waiting) g))

      back : GrantIs x y z → T (after.grants x y z)
      back (GrantIs.own e h i j) = choose_1 (eqb x m) v (o || w) (eqb_of e) (and_i p (u && q) h (and_i u q i (row_has j)))
      back (GrantIs.waited n e h i) = choose_2 (eqb x m) v (o || w) (fails n)
          (or_r o w (and_i (eqb y m) (s && has_waiting f t.waiting) (eqb_of e) (and_i s (has_waiting f t.waiting) h (waiting_has i))))
      back (GrantIs.old n h) = choose_2 (eqb x m) v (o || w) (fails n) (or_l o w h)

  pub need_is : (x y z : ℕ) → T (after.needs x y z) ↔ NeedIs x y z
  need_is x y z = (
    chosen (eqb x m) v s (λ e h. NeedIs.own (eqb→eq x m e) ((named_is k.needs y z).0 h))
        (λ n h. NeedIs.old (other n) (not_e g (and_r o (not g) h)) (and_l o (not g) h)),
    back,
  )
    where
      v : Bool
      v = named_on names k.needs y z

      o : Bool
      o = t.needs x y z

      g : Bool
      g = gone L t m k now y z

      s : Bool
      s = o && not g

      back : NeedIs x y z → T (after.needs x y z)
      back (NeedIs.own e h) = choose_1 (eqb x m) v s (eqb_of e) ((named_is k.needs y z).1 h)
      back (NeedIs.old n f h) = choose_2 (eqb x m) v s (fails n) (and_i o (not g) h (not_i g f))
