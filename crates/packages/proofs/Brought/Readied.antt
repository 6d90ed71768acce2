-- The tables that a contract finds when it comes to number n: the old contract has gone, but for list rows and for the services that stay. A
-- load leaves them by naming its package, a whole contract by stripping the old one. Assumes nothing.
use Prim.Native.Nat.{ℕ}
use mathlib.Core.Path.{◌≡◌, refl, sym, ap, ◌∙◌, subst}
use mathlib.Core.Bool.{Bool, true, false, not, ◌&&◌, ◌||◌, cond}
use mathlib.Core.List.{List, [], ◌∷◌}
use lib.Dec.{T, eqb, eqb→eq, eqb_refl}
use Rattle.policy.specs.Lists.{exists}
use Rattle.policy.specs.Contract.{Tok, Contract, has_tok}
use Rattle.policy.specs.Layout.{Layout}
use Rattle.policy.specs.Tables.{Tables, no_tok, bit}
use Rattle.policy.specs.Lookup.{places}
use Rattle.policy.specs.Draft.{Services, put, dropped_by, kept_services}
use Rattle.policy.proofs.Sets.{T_eq, T_true, T_false, and_l, and_r, and_i, exists_in, in_exists, in_upto}
use Rattle.policy.proofs.Put.{at_new, at_old, by_number}
use Rattle.policy.proofs.Formed.{Formed}
use Rattle.changes.specs.Places.{tables_without_service}
use Rattle.packages.specs.Writes.{named, rows_cleared, dropped_one, dropped_from, stripped}

module _ (L : Layout) (t : Tables) (n : ℕ) (k : Contract) where
  -- with the services w of package n
  abbrev pub readied_with : Services → Tables
  readied_with w = record {
    used = put n true t.used;
    aid = put n k.aid t.aid;
    tok = λ x y. cond (eqb x n) (w.tok y) (t.tok x y);
    provides = λ x y. cond (eqb x n) (w.provides y) (t.provides x y);
    calls = λ x y z. cond (eqb x n) false (t.calls x y z && not (eqb y n && dropped_by L t k n z));
    grants = λ x y z. cond (eqb x n) false (t.grants x y z);
    needs = λ x y z. cond (eqb x n) false (t.needs x y z && not (eqb y n && dropped_by L t k n z));
    unmet = t.unmet;
    waiting = t.waiting;
  }

  abbrev pub readied : Tables
  readied = readied_with (kept_services L t n k)

-- ---- a load: number n is free
-- p: row n; q: column n; o: the old bit; d: its service is dropped
none_there : (p q o d : Bool) → (T p → T o → ⊥) → (T q → T o → ⊥) → o ≡ cond p false (o && not (q && d))
none_there true q true d f g = absurd (f tt tt)
none_there true q false d f g = refl
none_there false true true d f g = absurd (g tt tt)
none_there false true false d f g = refl
none_there false false true d f g = refl
none_there false false false d f g = refl

none_here : (p o : Bool) → (T p → T o → ⊥) → o ≡ cond p false o
none_here true true f = absurd (f tt tt)
none_here true false f = refl
none_here false o f = refl

module _ (L : Layout) (t : Tables) (n : ℕ) (k : Contract) (f : Formed L t) (free : T (t.used n) → ⊥) where
  no_service : (y : ℕ) → T (t.provides n y) → ⊥
  no_service y p = free (f.names.prov_used n y p)

  own : (x : ℕ) → T (eqb x n) → T (t.used x) → ⊥
  own x e u = free (subst (λ (z : ℕ). T (t.used z)) (eqb→eq x n e) u)

  on : (y z : ℕ) → T (eqb y n) → T (t.provides y z) → ⊥
  on y z e p = no_service z (subst (λ (j : ℕ). T (t.provides j z)) (eqb→eq y n e) p)

  toks : (x y : ℕ) → t.tok x y ≡ cond (eqb x n) ((kept_services L t n k).tok y) (t.tok x y)
  toks x y = by_number n (λ (z : ℕ). t.tok z y ≡ cond (eqb z n) ((kept_services L t n k).tok y) (t.tok z y)) x
      (f.names.tok_blank n y (no_service y) ∙ sym (off (t.provides n y) (no_service y) (has_tok (t.tok n y) k.provides) (t.tok n y)) ∙ sym (at_new n ((kept_services L t n k).tok y) (t.tok n y)))
      (λ ne. sym (at_old n ((kept_services L t n k).tok y) (t.tok x y) x ne))
    where
      off : (p : Bool) → (T p → ⊥) → (h : Bool) (s : Tok) → cond (p && h) s no_tok ≡ no_tok
      off true g h s = absurd (g tt)
      off false g h s = refl

  provided : (x y : ℕ) → t.provides x y ≡ cond (eqb x n) ((kept_services L t n k).provides y) (t.provides x y)
  provided x y = by_number n (λ (z : ℕ). t.provides z y ≡ cond (eqb z n) ((kept_services L t n k).provides y) (t.provides z y)) x
      (T_false (t.provides n y) (no_service y) ∙ sym (T_false ((kept_services L t n k).provides y) (λ h. no_service y (and_l (t.provides n y) (has_tok (t.tok n y) k.provides) h)))
      ∙ sym (at_new n ((kept_services L t n k).provides y) (t.provides n y)))
      (λ ne. sym (at_old n ((kept_services L t n k).provides y) (t.provides x y) x ne))

  pub named_readied : named n k.aid t ≡ readied L t n k
  named_readied = λ i. record {
    used = put n true t.used;
    aid = put n k.aid t.aid;
    tok = λ x y. toks x y i;
    provides = λ x y. provided x y i;
    calls = λ x y z. none_there (eqb x n) (eqb y n) (t.calls x y z) (dropped_by L t k n z) (λ e h. own x e (f.calls.by_used x y z h)) (λ e h. on y z e (f.calls.of_prov x y z h)) i;
    grants = λ x y z. none_here (eqb x n) (t.grants x y z) (λ e h. on x z e (f.grants.of_prov y x z h)) i;
    needs = λ x y z. none_there (eqb x n) (eqb y n) (t.needs x y z) (dropped_by L t k n z)
        (λ e h. own x e (f.calls.by_used x y z (f.need_call x y z h))) (λ e h. on y z e (f.calls.of_prov x y z (f.need_call x y z h))) i;
    unmet = t.unmet;
    waiting = t.waiting;
  }

-- ---- a whole contract: the services of the mask go, one after another
module _ (n mask : ℕ) where
  -- service y is one of l that the mask names
  abbrev hit : List ℕ → ℕ → Bool
  hit l y = exists (λ k. bit mask k && eqb y k) l

  abbrev without : (ℕ → Bool) → Tables → Tables
  without d v = record {
    used = v.used;
    aid = v.aid;
    tok = λ x y. cond (eqb x n && d y) no_tok (v.tok x y);
    provides = λ x y. cond (eqb x n && d y) false (v.provides x y);
    calls = λ x y z. v.calls x y z && not (eqb y n && d z);
    grants = λ x y z. v.grants x y z && not (eqb x n && d z);
    needs = λ x y z. v.needs x y z && not (eqb y n && d z);
    unmet = v.unmet;
    waiting = v.waiting;
  }

  twice : {A : Type 0} (p q r : Bool) (u v : A) → cond (p && r) u (cond (p && q) u v) ≡ cond (p && (q || r)) u v
  twice true true true u v = refl
  twice true true false u v = refl
  twice true false r u v = refl
  twice false q r u v = refl

  less : (o p q r : Bool) → (o && not (p && q)) && not (p && r) ≡ o && not (p && (q || r))
  less true true true r = refl
  less true true false r = refl
  less true false q r = refl
  less false p q r = refl

  keep_all : (o p : Bool) → o ≡ o && not (p && false)
  keep_all true true = refl
  keep_all true false = refl
  keep_all false p = refl

  same : {A : Type 0} (p : Bool) (u v : A) → v ≡ cond (p && false) u v
  same true u v = refl
  same false u v = refl

  dropped_all : (l : List ℕ) (v : Tables) → dropped_from n mask l v ≡ without (hit l) v
  dropped_all [] v = λ i. record {
    used = v.used;
    aid = v.aid;
    tok = λ x y. same (eqb x n) no_tok (v.tok x y) i;
    provides = λ x y. same (eqb x n) false (v.provides x y) i;
    calls = λ x y z. keep_all (v.calls x y z) (eqb y n) i;
    grants = λ x y z. keep_all (v.grants x y z) (eqb x n) i;
    needs = λ x y z. keep_all (v.needs x y z) (eqb y n) i;
    unmet = v.unmet;
    waiting = v.waiting;
  }
  dropped_all (k ∷ l) v = dropped_all l (dropped_one n mask k v) ∙ one (bit mask k)
    where
      one : (b : Bool) → without (hit l) (cond b (tables_without_service n k v) v) ≡ without (λ y. (b && eqb y k) || hit l y) v
      one true = λ i. record {
        used = v.used;
        aid = v.aid;
        tok = λ x y. twice (eqb x n) (eqb y k) (hit l y) no_tok (v.tok x y) i;
        provides = λ x y. twice (eqb x n) (eqb y k) (hit l y) false (v.provides x y) i;
        calls = λ x y z. less (v.calls x y z) (eqb y n) (eqb z k) (hit l z) i;
        grants = λ x y z. less (v.grants x y z) (eqb x n) (eqb z k) (hit l z) i;
        needs = λ x y z. less (v.needs x y z) (eqb y n) (eqb z k) (hit l z) i;
        unmet = v.unmet;
        waiting = v.waiting;
      }
      one false = refl

module _ (L : Layout) (t : Tables) (n : ℕ) (k : Contract) (f : Formed L t) (un : T (t.used n)) (an : t.aid n ≡ k.aid) (mask : ℕ)
    (is : (z : ℕ) → bit mask z ≡ t.provides n z && dropped_by L t k n z) where
  -- those of all places are those of the mask
  hit_is : (y : ℕ) → hit n mask (places L) y ≡ bit mask y
  hit_is y = T_eq (hit n mask (places L) y) (bit mask y)
      (λ h. let q = exists_in (λ k. bit mask k && eqb y k) (places L) h in
      subst (λ (z : ℕ). T (bit mask z)) (sym (eqb→eq y q.0 (and_r (bit mask q.0) (eqb y q.0) q.2))) (and_l (bit mask q.0) (eqb y q.0) q.2))
      (λ h. in_exists (λ k. bit mask k && eqb y k) (in_upto L.services y (f.names.prov_lt n y (and_l (t.provides n y) (dropped_by L t k n y) (subst T (is y) h)))) (and_i (bit mask y) (eqb y y) h (eqb_refl y)))

  -- p: row n; q: column n; o: the old bit, on a provided service s; d: that is dropped
  stripped_bit : (p q o s d : Bool) → (T q → T o → T s) → (o && not p) && not (q && (s && d)) ≡ cond p false (o && not (q && d))
  stripped_bit true q true s d g = refl
  stripped_bit true q false s d g = refl
  stripped_bit false true true true d g = refl
  stripped_bit false true true false d g = absurd (g tt tt)
  stripped_bit false true false s d g = refl
  stripped_bit false false true s d g = refl
  stripped_bit false false false s d g = refl

  stripped_row : (p o d : Bool) → (o && not p) && not (p && d) ≡ cond p false o
  stripped_row true true d = refl
  stripped_row true false d = refl
  stripped_row false true d = refl
  stripped_row false false d = refl

  -- s: provided; h: in the new contract
  kept_tok : (p s h : Bool) (v w : Tok) → (T p → v ≡ w) → ((T s → ⊥) → w ≡ no_tok) → cond (p && (s && not h)) no_tok v ≡ cond p (cond (s && h) w no_tok) v
  kept_tok true true true v w e g = e tt
  kept_tok true true false v w e g = refl
  kept_tok true false h v w e g = e tt ∙ g (λ x. x)
  kept_tok false s h v w e g = refl

  kept_bit : (p s h v : Bool) → (T p → v ≡ s) → cond (p && (s && not h)) false v ≡ cond p (s && h) v
  kept_bit true true true v e = e tt
  kept_bit true true false v e = refl
  kept_bit true false h v e = e tt
  kept_bit false s h v e = refl

  same_used : (x : ℕ) → t.used x ≡ put n true t.used x
  same_used x = by_number n (λ (z : ℕ). t.used z ≡ put n true t.used z) x (T_true (t.used n) un ∙ sym (at_new n true (t.used n))) (λ h. sym (at_old n true (t.used x) x h))

  same_aid : (x : ℕ) → t.aid x ≡ put n k.aid t.aid x
  same_aid x = by_number n (λ (z : ℕ). t.aid z ≡ put n k.aid t.aid z) x (an ∙ sym (at_new n k.aid (t.aid n))) (λ h. sym (at_old n k.aid (t.aid x) x h))

  on_provided : (x y z : ℕ) → T (eqb y n) → T (t.calls x y z) → T (t.provides n z)
  on_provided x y z e h = subst (λ (j : ℕ). T (t.provides j z)) (eqb→eq y n e) (f.calls.of_prov x y z h)

  pub stripped_readied : stripped L n mask t ≡ readied L t n k
  stripped_readied =
      dropped_all n mask (places L) (rows_cleared n t)
      ∙ ap (λ (d : ℕ → Bool). without n mask d (rows_cleared n t)) (λ i y. (hit_is y ∙ is y) i)
      ∙ (λ i. record {
        used = λ x. same_used x i;
        aid = λ x. same_aid x i;
        tok = λ x y. kept_tok (eqb x n) (t.provides n y) (has_tok (t.tok n y) k.provides) (t.tok x y) (t.tok n y) (λ e. ap (λ (j : ℕ). t.tok j y) (eqb→eq x n e)) (f.names.tok_blank n y) i;
        provides = λ x y. kept_bit (eqb x n) (t.provides n y) (has_tok (t.tok n y) k.provides) (t.provides x y) (λ e. ap (λ (j : ℕ). t.provides j y) (eqb→eq x n e)) i;
        calls = λ x y z. stripped_bit (eqb x n) (eqb y n) (t.calls x y z) (t.provides n z) (dropped_by L t k n z) (on_provided x y z) i;
        grants = λ x y z. stripped_row (eqb x n) (t.grants x y z) (t.provides n z && dropped_by L t k n z) i;
        needs = λ x y z. stripped_bit (eqb x n) (eqb y n) (t.needs x y z) (t.provides n z) (dropped_by L t k n z) (λ e h. on_provided x y z e (f.need_call x y z h)) i;
        unmet = t.unmet;
        waiting = t.waiting;
      })
