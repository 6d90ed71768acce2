-- Kind 11 (whole contract): a contract comes to the number that its package has; the package has that contract, and the others keep theirs.
use Prim.Native.Nat.{ℕ, ◌≤◌}
use mathlib.Core.Path.{◌≡◌, refl, sym, ap, ◌∙◌, subst}
use mathlib.Core.Bool.{Bool, true, not, ◌&&◌, ◌||◌, cond, or-false}
use mathlib.Core.List.{List, [], ◌++◌, map}
use mathlib.Core.List.{Memᴰ as In}
use lib.Dec.{T, eqb}
use lib.ListN.{length}
use Rattle.policy.specs.Lists.{keep, is_some}
use Rattle.policy.specs.Contract.{Aid, eq_aid, Tok, Row, Contract, valid_aid}
use Rattle.policy.specs.Layout.{Layout}
use Rattle.policy.specs.Record.{replace, proper}
use Rattle.policy.specs.Causes.{answer}
use Rattle.policy.specs.Machine.{alter, altered}
use Rattle.policy.specs.Tables.{Tables, Waiting}
use Rattle.policy.specs.Lookup.{service_at, service_of}
use Rattle.policy.specs.Draft.{Draft, Look, Services, call_row, grant_row, has_unmet, has_waiting, named_on, not_served_on, put, left_by, new_services, replaced_names, replace_with, draft}
use Rattle.policy.specs.Judge.{table_causes}
use Rattle.policy.specs.ShortCheck.{short_replace, short_look}
use Rattle.policy.proofs.Sets.{T_true, T_false, and_l, and_r, keep_ext}
use Rattle.policy.proofs.Equal.{eq_aid→, has_waiting_lem}
use Rattle.policy.proofs.Put.{at_new, at_old, by_number}
use Rattle.policy.proofs.Formed.{Formed, Stands, Turns, KindTurns}
use Rattle.policy.proofs.Found.{found_provided}
use Rattle.policy.proofs.Reach.{reach_11}
use Rattle.policy.proofs.Alter.{turned_to, stands_turned}
use Rattle.policy.proofs.BroughtNames.{lists_of, Coming, on, dropped, gone, waited_for, unmet_still, waits_new, waited_bit, granted_bit, brought_at}
use Rattle.policy.proofs.BroughtFormed.{brought_formed, brought_lost}
use Rattle.policy.proofs.BroughtStands.{has_new, provides_old, calls_old, grants_old, needs_old}
use Rattle.policy.proofs.PlacedServices.{placed_new}

pub or_never : (a b : Bool) → (T b → ⊥) → a ≡ (a || b)
or_never a b h = sym (ap (λ (x : Bool). a || x) (T_false b h) ∙ or-false a)

-- no grant to a package that is on the card waits for it alone
pub none_waited : (L : Layout) (t : Tables) (n : ℕ) (c : Contract) → Formed L t → T (t.used n) → t.aid n ≡ c.aid
    → (w : Waiting) → In w t.waiting → T (eq_aid w.caller c.aid && is_some (service_of L t w.callee w.tok)) → ⊥
none_waited L t n c f un an w m h =
    let a = eq_aid w.caller c.aid in
    let o = is_some (service_of L t w.callee w.tok) in
    let q = found_provided L t f.names w.callee w.tok (and_r a o h) in
    f.waiting.wait_off w m n q.0 un (an ∙ sym (eq_aid→ w.caller c.aid (and_l a o h))) q.1 q.2

module _ (L : Layout) (t : Tables) (n : ℕ) (c : Contract) (now : Services) (formed : Formed L t) (un : T (t.used n)) (an : t.aid n ≡ c.aid) where
  same_used : (x : ℕ) → t.used x ≡ put n true t.used x
  same_used x = by_number n (λ (z : ℕ). t.used z ≡ put n true t.used z) x (T_true (t.used n) un ∙ sym (at_new n true (t.used n))) (λ h. sym (at_old n true (t.used x) x h))

  same_aid : (x : ℕ) → t.aid x ≡ put n c.aid t.aid x
  same_aid x = by_number n (λ (z : ℕ). t.aid z ≡ put n c.aid t.aid z) x (an ∙ sym (at_new n c.aid (t.aid n))) (λ h. sym (at_old n c.aid (t.aid x) x h))

  names_are : replaced_names L t n c now ≡ on L t n c now
  names_are = λ i. record {
    used = λ x. same_used x i;
    aid = λ x. same_aid x i;
    tok = (replaced_names L t n c now).tok;
    provides = (replaced_names L t n c now).provides;
    calls = t.calls;
    grants = t.grants;
    needs = t.needs;
    unmet = t.unmet;
    waiting = t.waiting;
  }

  -- no grant to the package waits for it
  none_waits : (x z : ℕ) → T (waited_bit L t n c now x z) → ⊥
  none_waits x z h =
      let w : Waiting = record { caller = c.aid; callee = x; tok = t.tok x z } in
      let p = and_l (t.provides x z) (has_waiting w t.waiting) h in
      formed.waiting.wait_off w (has_waiting_lem w t.waiting (and_r (t.provides x z) (has_waiting w t.waiting) h)) n z un an p refl

  pub replace_is : replace_with L t n c now ≡ brought_at L t n c now
  replace_is = λ i. record {
    tables = record {
      used = λ x. same_used x i;
      aid = λ x. same_aid x i;
      tok = (replaced_names L t n c now).tok;
      provides = (replaced_names L t n c now).provides;
      calls = λ x y z. cond (eqb x n) (named_on (names_are i) c.calls y z)
          ((t.calls x y z && not (gone L t n c now y z)) || (eqb y n && ((names_are i).provides n z && has_unmet (call_row x (service_at (names_are i) n z)) t.unmet)));
      grants = λ x y z. cond (eqb x n) (granted_bit L t n c now y z)
          (or_never (t.grants x y z) (eqb y n && waited_bit L t n c now x z) (λ h. none_waits x z (and_r (eqb y n) (waited_bit L t n c now x z) h)) i);
      needs = λ x y z. cond (eqb x n) (named_on (names_are i) c.needs y z) (t.needs x y z && not (gone L t n c now y z));
      unmet = keep (unmet_still L t n c now) t.unmet
          ++ (map (call_row n) (keep (not_served_on L (names_are i)) c.calls) ++ left_by L t t.calls n (dropped L t n c now));
      waiting = keep_ext (λ w. not (eqb w.callee n)) (λ w. not (eqb w.callee n || waited_for L t n c now w)) t.waiting
          (λ w m x. not (or_never (eqb w.callee n) (waited_for L t n c now w) (none_waited L t n c formed un an w m) x)) i
          ++ map (grant_row n) (keep (waits_new L t n c now) c.grants);
    };
    lost = map (call_row n) (keep (not_served_on L (names_are i)) c.needs) ++ left_by L t t.needs n (dropped L t n c now);
  }

-- ---- a record that causes 3 and 5 let pass has such a draft
module _ (L : Layout) (t : Tables) (a : Aid) (p : List Tok) (c g n : List Row) where
  abbrev contract : Contract
  contract = record { aid = a; provides = p; calls = c; grants = g; needs = n }

  -- the contract comes to the number of its package
  pub renewal : Formed L t → length p ≤ L.services → T (proper L a (replace p c g n)) → (i : ℕ) → T (t.used i) → t.aid i ≡ a → Coming L t i contract (new_services L t i contract)
  unfolding proper
  renewal f fit pr i u e = record {
    formed = f;
    number_lt = f.names.used_lt i u;
    own_aid = λ _. e;
    only = λ x v q. f.names.aid_inj x i v u (q ∙ sym e);
    lists = lists_of L a p c g n pr;
    placed = placed_new L t i contract f fit;
  }

  pub replace_reached : (P : Draft → Look → Type 0) → Formed L t → length p ≤ L.services → T (proper L a (replace p c g n))
      → ((i : ℕ) → T (t.used i) → t.aid i ≡ a → Coming L t i contract (new_services L t i contract) → P (brought_at L t i contract (new_services L t i contract)) (short_replace L t i contract))
      → answer (table_causes L t a (replace p c g n)) ≡ 0 → P (draft L t a (replace p c g n)) (short_look L t a (replace p c g n))
  replace_reached P f fit pr h = reach_11 L t f a P p c g n (λ i u e.
      subst (λ (d : Draft). P d (short_replace L t i contract)) (sym (replace_is L t i contract (new_services L t i contract) f u e)) (h i u e (renewal f fit pr i u e)))

module _ (L : Layout) (t : Tables) (m : ℕ) (k : Contract) (now : Services) (new : Coming L t m k now) (valid : T (valid_aid k.aid)) (um : T (t.used m)) where
  replace_stands : (cs : List Contract) → Stands t [] cs
      → Stands (brought_at L t m k now).tables (brought_at L t m k now).lost (alter k.aid (altered L (replace k.provides k.calls k.grants k.needs)) cs)
  replace_stands cs st =
      let own = has_new L t m k now new valid in
      let sets = new.lists.sets in
      stands_turned L t (brought_at L t m k now).tables (brought_at L t m k now).lost cs k.aid m new.formed.names st um (new.own_aid um)
      (sym (λ i x. same_used L t m k now new.formed um (new.own_aid um) x i)) (sym (λ i x. same_aid L t m k now new.formed um (new.own_aid um) x i))
      (turned_to k.provides sets.provides own.provides (provides_old L t m k now new valid))
      (turned_to k.calls sets.calls own.calls (calls_old L t m k now new valid))
      (turned_to k.grants sets.grants own.grants (grants_old L t m k now new valid))
      (turned_to k.needs sets.needs own.needs (needs_old L t m k now new valid))

pub kind_11 : (p : List Tok) (c g n : List Row) → KindTurns (replace p c g n)
kind_11 p c g n L t cs a f st va v pr =
    let k : Contract = record { aid = a; provides = p; calls = c; grants = g; needs = n } in
    replace_reached L t a p c g n (λ d _. Turns L d (alter a (altered L (replace p c g n)) cs)) f v.0.0 pr
    (λ i u e new. record {
      formed = brought_formed L t i k (new_services L t i k) new va (λ r j. (v.1.1 r j).0) (λ r j. (v.2.1 r j).0);
      lost_off = brought_lost L t i k (new_services L t i k) new va;
      stands = replace_stands L t i k (new_services L t i k) new va u cs st;
    })
