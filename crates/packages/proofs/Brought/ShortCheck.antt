-- Kinds 1 and 11: what the code decides by masks is the short check. Assumes nothing.
use Prim.Native.Nat.{ℕ, suc, ◌+◌, ◌-◌, ◌≤◌, ◌<◌, suc-le-suc}
use native.Mathlib.Omega.{arith}
use native.Mathlib.Nat.{add-zero, add-suc, suc-add, zero-add}
use mathlib.Core.Path.{◌≡◌, refl, sym, ap, ap₂, ◌∙◌, subst}
use mathlib.Core.Bool.{Bool, true, false, not, ◌&&◌, ◌||◌, and_comm, and-true, and-false, or_comm}
use mathlib.Core.List.{List, [], ◌∷◌}
use mathlib.Core.List.{Memᴰ as In}
use mathlib.Core.Option.{Option, none, some}
use lib.Bits.{bit_and}
use lib.Dec.{T, eqb, eqb→eq, leb}
use lib.ListN.{length, get_or}
use borrow.Author.Tests.{eq-eqb, ne_eqb, leb-true, leb-false, le-leb, lt-leb}
use Rattle.policy.specs.Lists.{implies, every, exists, keep, from, upto, is_some, or_else}
use Rattle.policy.specs.Contract.{eq_aid, eq_tok, Row, Contract, has_row}
use Rattle.policy.specs.Layout.{Layout}
use Rattle.policy.specs.Causes.{answer}
use Rattle.policy.specs.Tables.{Tables, Unmet, Waiting, no_tok, bit}
use Rattle.policy.specs.Lookup.{Place, places, numbers, service_of, server_of}
use Rattle.policy.specs.Sound.{eq_waiting}
use Rattle.policy.specs.Draft.{has_waiting, dropped_by}
use Rattle.policy.specs.Judge.{look_causes}
use Rattle.policy.specs.ShortCheck.{count, sum, newcomer_needs, others_rights, short_load, own_rights, kept_rights, others_needs, short_replace, now_met}
use Rattle.policy.proofs.Sets.{T_eq, T_true, T_false, true_T, false_T, and_l, and_r, and_i, not_i, in_every, in_row, keep_in, keep_ext, no_members}
use Rattle.policy.proofs.Equal.{eq_aid→, eq_aid_of, eq_tok→, eq_tok_of, eqb_of}
use Rattle.policy.proofs.Formed.{Formed, Fitting}
use Rattle.policy.proofs.Found.{ServerIs, provided_found, server_is}
use Rattle.policy.proofs.Short.{none_pairs}
use Rattle.policy.proofs.KindReplace.{or_never, none_waited}
use Rattle.policy.proofs.ShortBrought.{newcomer_rights_lem, own_rights_lem}
use Rattle.geometry.specs.declared.Kept.TheVariants.{UnmetCalls}
use Rattle.geometry.specs.declared.Table.{Table}
use Rattle.geometry.specs.declared.Table.TheVariants.{Calls, Needs}
use Rattle.image.specs.Read.{mask_of, item, unmet_row}
use Rattle.image.specs.Laid.{table_of}
use Rattle.image.proofs.Masks.{mask_bit, mask_zero, zero_mask, mask_and, mask_count}
use Rattle.changes.specs.Left.{in_column}
use Rattle.changes.specs.Own.{served}
use Rattle.bits.proofs.Gathered.{count_others}
use Rattle.packages.specs.Conditions.{waits_at, granted_at, own_granted, granted_to, others_granted, kept_granted}
use Rattle.packages.specs.Decides.{both_there, comes_due, bring_look, WorksConditions, Comes}
use Rattle.packages.specs.declared.decide.Bring.{Bring}

-- ---- a list by the numbers of its elements
every_rows : {A : Type 0} (d : A) (F : A → Bool) (G : ℕ → Bool) (i : ℕ) (l : List A) → ((r : ℕ) → r < length l → G (i + r) ≡ F (get_or l r d)) → every G (from i (length l)) ≡ every F l
every_rows d F G i [] h = refl
every_rows d F G i (x ∷ l) h =
    ap₂ ◌&&◌ (ap G (sym (add-zero i)) ∙ h 0 (omega arith))
    (every_rows d F G (suc i) l (λ r p. ap G (suc-add i r ∙ sym (add-suc i r)) ∙ h (suc r) (suc-le-suc p)))

-- ---- the room of a list after some of its rows go
room_left : (k cap gone stay len : ℕ) → stay + gone ≡ len → len ≤ cap → leb k (cap + gone - len) ≡ leb (stay + k) cap
room_left k cap gone stay len e h = go (leb (stay + k) cap) refl
  where
    go : (b : Bool) → leb (stay + k) cap ≡ b → leb k (cap + gone - len) ≡ b
    go true q = let z = leb-true (stay + k) cap q in le-leb k (cap + gone - len) (omega arith)
    go false q = let z = leb-false (stay + k) cap q in lt-leb k (cap + gone - len) (omega arith)

list_room : {A : Type 0} (f : A → Bool) (l : List A) (k cap : ℕ) → length l ≤ cap → length l ≤ 32
    → leb k (cap + length (keep (bit (mask_of f l)) (upto 32)) - length l) ≡ leb (length (keep (λ x. not (f x)) l) + k) cap
list_room f l k cap h low =
    ap (λ (g : ℕ). leb k (cap + g - length l)) (mask_count f l low)
    ∙ room_left k cap (length (keep f l)) (length (keep (λ x. not (f x)) l)) (length l) (count_others f l) h

-- ---- the grants that wait
both_pass : {A : Type 0} (f g : A → Bool) (l : List A) → not (eqb (bit_and (mask_of f l) (mask_of g l)) 0) ≡ exists (λ x. f x && g x) l
both_pass f g l = ap (λ (m : ℕ). not (eqb m 0)) (mask_and f g l) ∙ go (exists (λ x. f x && g x) l) refl
  where
    go : (b : Bool) → exists (λ x. f x && g x) l ≡ b → not (eqb (mask_of (λ x. f x && g x) l) 0) ≡ b
    go false e = ap not (eq-eqb (mask_of (λ x. f x && g x) l) 0 (mask_zero (λ x. f x && g x) l e))
    go true e = ap not (ne_eqb (mask_of (λ x. f x && g x) l) 0 (λ z. false_T (zero_mask (λ x. f x && g x) l z) (true_T e)))

-- ---- the grants of the record, to a package that is used where it matters
granted_same : (x u : Bool) (tk ad : Row → Bool) (gs : List Row) → (T x → u ≡ true) → implies x (exists (λ g. tk g && (u && ad g)) gs) ≡ implies x (exists (λ g. ad g && tk g) gs)
granted_same true u tk ad gs e = ap (λ (f : Row → Bool). exists f gs) (λ i g. (ap (λ (z : Bool). tk g && (z && ad g)) (e tt) ∙ and_comm (tk g) (ad g)) i)
granted_same false u tk ad gs e = refl

-- a test d that is the same as g wherever the bit o is set, on a provided service p
beside_same : (o p d g : Bool) → (T o → T p) → d ≡ p && g → o && d ≡ o && g
beside_same true true d g h e = e
beside_same true false d g h e = absurd (h tt)
beside_same false p d g h e = refl

module _ (L : Layout) (t : Tables) (f : Formed L t) (fit : Fitting L t) (low : L.capacity ≤ 32) (c : Contract) (n : ℕ) (b : Bring) (is : Comes L t c n b) where
  abbrev due : ℕ
  due = mask_of (comes_due L t c.aid) t.waiting

  abbrev to_it : Place → Row → Waiting
  to_it p r = record { caller = c.aid; callee = p.callee; tok = r.tok }

  -- a grant by the server of the row r, of its service, waits for the package alone
  waits_same : (r : Row) (p : Place) → ServerIs t r (some p) → waits_at L t due r.tok p ≡ has_waiting (record { caller = c.aid; callee = p.callee; tok = r.tok }) t.waiting
  waits_same r p h =
      both_pass (comes_due L t c.aid) (λ w. eqb w.callee p.callee && eq_tok w.tok r.tok) t.waiting
      ∙ (λ i. exists (λ w. one w i) t.waiting)
    where
      one : (w : Waiting) → comes_due L t c.aid w && (eqb w.callee p.callee && eq_tok w.tok r.tok) ≡ eq_waiting (record { caller = c.aid; callee = p.callee; tok = r.tok }) w
      one w = T_eq ((a && o) && (j && s)) ((a' && j') && s')
          (λ q. let e = and_l (a && o) (j && s) q in let g = and_r (a && o) (j && s) q in
          and_i (a' && j') s' (and_i a' j' (eq_aid_of (sym (eq_aid→ w.caller c.aid (and_l a o e)))) (eqb_of (sym (eqb→eq w.callee p.callee (and_l j s g))))) (eq_tok_of (sym (eq_tok→ w.tok r.tok (and_r j s g)))))
          (λ q. let e = and_l (a' && j') s' q in
          let ej = sym (eqb→eq p.callee w.callee (and_r a' j' e)) in
          let es = sym (eq_tok→ r.tok w.tok (and_r (a' && j') s' q)) in
          and_i (a && o) (j && s) (and_i a o (eq_aid_of (sym (eq_aid→ c.aid w.caller (and_l a' j' e)))) (provided ej es)) (and_i j s (eqb_of ej) (eq_tok_of es)))
        where
          a : Bool
          a = eq_aid w.caller c.aid

          o : Bool
          o = is_some (service_of L t w.callee w.tok)

          j : Bool
          j = eqb w.callee p.callee

          s : Bool
          s = eq_tok w.tok r.tok

          a' : Bool
          a' = eq_aid c.aid w.caller

          j' : Bool
          j' = eqb p.callee w.callee

          s' : Bool
          s' = eq_tok r.tok w.tok

          provided : w.callee ≡ p.callee → w.tok ≡ r.tok → T o
          provided ej es = provided_found L t f.names w.callee w.tok p.service (subst (λ (x : ℕ). T (t.provides x p.service)) (sym ej) h.0) (ap (λ (x : ℕ). t.tok x p.service) ej ∙ h.2 ∙ sym es)

  -- its calls, by bits and by waiting grants
  abbrev right : Row → Place → Bool
  right r p = t.grants p.callee n p.service || has_waiting (to_it p r) t.waiting

  rights_same : own_granted L t b.due b.at c.calls ≡ every (λ r. or_else (server_of L t r) true (right r)) c.calls
  rights_same =
      ap₂ (λ (d m : ℕ). own_granted L t d m c.calls) is.due_is is.at_is
      ∙ ap (λ (g : Row → Bool). every g c.calls) (λ i r. one r (server_of L t r) (server_is L t f.names r) i)
    where
      one : (r : Row) (o : Option Place) → ServerIs t r o → or_else o true (granted_at L t due n r.tok) ≡ or_else o true (right r)
      one r none h = refl
      one r (some p) h = ap (λ (w : Bool). w || t.grants p.callee n p.service) (waits_same r p h) ∙ or_comm (has_waiting (to_it p r) t.waiting) (t.grants p.callee n p.service)

  others_same : others_granted L t c.grants b.met ≡ others_rights L t c
  others_same =
      ap (others_granted L t c.grants) is.met_is
      ∙ every_rows (item UnmetCalls [] no_tok 0) (λ u. implies (now_met L t c u) (has_row (record { aid = t.aid u.caller; tok = u.tok }) c.grants))
      (λ r. implies (bit met r) (granted_to L t c.grants (unmet_row t r).caller (unmet_row t r).tok)) 0 t.unmet (λ r h. at r h)
    where
      met : ℕ
      met = mask_of (now_met L t c) t.unmet

      at : (r : ℕ) → r < length t.unmet
          → implies (bit met (0 + r)) (granted_to L t c.grants (unmet_row t (0 + r)).caller (unmet_row t (0 + r)).tok)
          ≡ implies (now_met L t c (unmet_row t r)) (has_row (record { aid = t.aid (unmet_row t r).caller; tok = (unmet_row t r).tok }) c.grants)
      at r h =
          let u = unmet_row t r in
          ap (λ (k : ℕ). implies (bit met k) (granted_to L t c.grants (unmet_row t k).caller (unmet_row t k).tok)) (zero-add r)
          ∙ ap (λ (x : Bool). implies x (granted_to L t c.grants u.caller u.tok)) (mask_bit (now_met L t c) t.unmet r _ h)
          ∙ granted_same (now_met L t c u) (t.used u.caller) (λ g. eq_tok u.tok g.tok) (λ g. eq_aid (t.aid u.caller) g.aid) c.grants
          (λ _. T_true (t.used u.caller) (f.unmet.off.off_used u (in_row t.unmet r _ h)))

  -- the mask is that of the dropped services wherever a bit is on one
  dropped_same : (o : Bool) (z : ℕ) → (T o → T (t.provides n z)) → o && bit b.dropped z ≡ o && dropped_by L t c n z
  dropped_same o z h = beside_same o (t.provides n z) (bit b.dropped z) (dropped_by L t c n z) h (is.dropped_is z)

  kept_test : (o d g : Bool) → (T o → d ≡ g) → o && not d ≡ o && not g
  kept_test true d g e = ap not (e tt)
  kept_test false d g e = refl

  kept_same : kept_granted L t c.grants n b.dropped ≡ kept_rights L t n c
  kept_same = λ i. every (λ x. every (λ z. one x z i) (places L)) (numbers L)
    where
      one : (x z : ℕ) → implies (t.calls x n z && not (bit b.dropped z)) (granted_to L t c.grants x (t.tok n z))
          ≡ implies (t.calls x n z && not (dropped_by L t c n z)) (has_row (record { aid = t.aid x; tok = t.tok n z }) c.grants)
      one x z =
          ap (λ (o : Bool). implies o (granted_to L t c.grants x (t.tok n z)))
          (kept_test (t.calls x n z) (bit b.dropped z) (dropped_by L t c n z) (λ h. is.dropped_is z ∙ ap (λ (p : Bool). p && dropped_by L t c n z) (T_true (t.provides n z) (f.calls.of_prov x n z h))))
          ∙ granted_same (t.calls x n z && not (dropped_by L t c n z)) (t.used x) (λ g. eq_tok (t.tok n z) g.tok) (λ g. eq_aid (t.aid x) g.aid) c.grants
          (λ h. T_true (t.used x) (f.calls.by_used x n z (and_l (t.calls x n z) (not (dropped_by L t c n z)) h)))

  -- ---- the column of a table of calls or needs
  column_same : (tb : Table) → ((x z : ℕ) → T (table_of tb t x n z) → T (t.provides n z))
      → in_column L tb t b.at (bit b.dropped) ≡ sum (λ x. count (λ z. table_of tb t x n z && dropped_by L t c n z) (places L)) (numbers L)
  column_same tb h =
      ap (λ (m : ℕ). in_column L tb t m (bit b.dropped)) is.at_is
      ∙ (λ i. sum (λ x. count (λ z. dropped_same (table_of tb t x n z) z (h x z) i) (places L)) (numbers L))

  calls_left : in_column L Calls t b.at (bit b.dropped) ≡ sum (λ x. count (λ z. t.calls x n z && dropped_by L t c n z) (places L)) (numbers L)
  calls_left = column_same Calls (λ x z h. f.calls.of_prov x n z h)

  needs_same : eqb (in_column L Needs t b.at (bit b.dropped)) 0 ≡ others_needs L t n c
  needs_same = ap (λ (m : ℕ). eqb m 0) (column_same Needs (λ x z h. f.calls.of_prov x n z (f.need_call x n z h))) ∙ none_pairs (λ x z. t.needs x n z && dropped_by L t c n z) (places L) (numbers L)

  -- ---- both lists
  unmet_room : (m : ℕ) → leb m (L.capacity + length (keep (bit b.calls) (upto 32)) - length t.unmet) ≡ leb (length (keep (λ u. not (eqb u.caller n || now_met L t c u)) t.unmet) + m) L.capacity
  unmet_room m =
      ap (λ (g : ℕ). leb m (L.capacity + length (keep (bit g) (upto 32)) - length t.unmet)) is.calls_is
      ∙ list_room (λ u. eqb u.caller n || now_met L t c u) t.unmet m L.capacity fit.unmet_fits (let h = fit.unmet_fits in omega arith)

  waiting_room : (m : ℕ) → leb m (L.capacity + length (keep (bit b.grants) (upto 32)) - length t.waiting) ≡ leb (length (keep (λ w. not (eqb w.callee n || comes_due L t c.aid w)) t.waiting) + m) L.capacity
  waiting_room m =
      ap (λ (g : ℕ). leb m (L.capacity + length (keep (bit g) (upto 32)) - length t.waiting)) is.grants_is
      ∙ list_room (λ w. eqb w.callee n || comes_due L t c.aid w) t.waiting m L.capacity fit.waiting_fits (let h = fit.waiting_fits in omega arith)

  abbrev unserved : ℕ
  unserved = count (λ r. not (served L t r)) c.calls

  abbrev waiters : ℕ
  waiters = count (λ r. not (both_there L t c.provides r)) c.grants

  -- a test beside one that no element passes
  or_off : {A : Type 0} (g h : A → Bool) (l : List A) → ((x : A) → In x l → T (g x) → ⊥) → keep (λ x. not (g x || h x)) l ≡ keep (λ x. not (h x)) l
  or_off g h l e = keep_ext (λ x. not (g x || h x)) (λ x. not (h x)) l (λ x m. ap (λ (o : Bool). not (o || h x)) (T_false (g x) (e x m)))

  -- ---- kind 1: the number is free
  module _ (free : T (t.used n) → ⊥) where
    no_service : (z : ℕ) → T (t.provides n z) → ⊥
    no_service z p = free (f.names.prov_used n z p)

    used_else : (x : ℕ) → T (t.used x) → T (eqb x n) → ⊥
    used_else x u e = free (subst (λ (i : ℕ). T (t.used i)) (eqb→eq x n e) u)

    none_needed : others_needs L t n c ≡ true
    none_needed = T_true (others_needs L t n c) (in_every (λ x. every (λ z. not (t.needs x n z && dropped_by L t c n z)) (places L)) (numbers L) (λ x _. in_every (λ z. not (t.needs x n z && dropped_by L t c n z)) (places L)
        (λ z _. not_i (t.needs x n z && dropped_by L t c n z) (λ h. no_service z (f.calls.of_prov x n z (f.need_call x n z (and_l (t.needs x n z) (dropped_by L t c n z) h)))))))

    none_left : (l : List ℕ) → sum (λ x. count (λ z. t.calls x n z && dropped_by L t c n z) (places L)) l ≡ 0
    none_left [] = refl
    none_left (x ∷ l) = ap₂ ◌+◌ (ap length (no_members (keep (λ z. t.calls x n z && dropped_by L t c n z) (places L))
        (λ z m. no_service z (f.calls.of_prov x n z (and_l (t.calls x n z) (dropped_by L t c n z) (keep_in (λ z. t.calls x n z && dropped_by L t c n z) (places L) m).1))))) (none_left l)

    -- R-3: the three conditions
    pub works_conditions : WorksConditions L t c b
    works_conditions = record { first = rights_same ∙ newcomer_rights_lem L t n c f free; second = refl; third = others_same }

    pub load_look : bring_look L t c b ≡ short_load L t c
    load_look = λ i. record {
      granted = works_conditions.first i && works_conditions.third i;
      needed = (ap (λ (g : Bool). newcomer_needs L t c && g) (needs_same ∙ none_needed) ∙ and-true (newcomer_needs L t c)) i;
      unmet_fits = (unmet_room (unserved + in_column L Calls t b.at (bit b.dropped))
          ∙ ap₂ (λ (l : List Unmet) (m : ℕ). leb (length l + m) L.capacity)
          (or_off (λ u. eqb u.caller n) (now_met L t c) t.unmet (λ u m. used_else u.caller (f.unmet.off.off_used u m)))
          (ap (λ (m : ℕ). unserved + m) (calls_left ∙ none_left (numbers L)) ∙ add-zero unserved)) i;
      waiting_fits = (waiting_room waiters ∙ ap (λ (l : List Waiting). leb (length l + waiters) L.capacity)
          (or_off (λ w. eqb w.callee n) (comes_due L t c.aid) t.waiting (λ w m. used_else w.callee (f.waiting.wait_used w m)))) i;
    }

  -- ---- kind 11: the number is the package's
  module _ (un : T (t.used n)) (an : t.aid n ≡ c.aid) where
    -- what stays is not granted
    pub replace_stays : kept_granted L t c.grants n b.dropped ≡ false → 8 ≡ answer (look_causes (short_replace L t n c))
    replace_stays e = λ i. answer (look_causes (record {
      granted = sym (ap (λ (g : Bool). own_rights L t n c && (others_rights L t c && g)) (sym kept_same ∙ e) ∙ ap (λ (g : Bool). own_rights L t n c && g) (and-false (others_rights L t c)) ∙ and-false (own_rights L t n c)) i;
      needed = (short_replace L t n c).needed;
      unmet_fits = (short_replace L t n c).unmet_fits;
      waiting_fits = (short_replace L t n c).waiting_fits;
    }))

    -- and where it is, what the three conditions, the needs of others and the limits say
    pub replace_look : kept_granted L t c.grants n b.dropped ≡ true → bring_look L t c b ≡ short_replace L t n c
    replace_look e = λ i. record {
      granted = ((λ j. (rights_same ∙ own_rights_lem L t n c f un an) j && others_same j) ∙ ap (λ (g : Bool). own_rights L t n c && g) (sym (and-true (others_rights L t c)) ∙ ap (λ (g : Bool). others_rights L t c && g) (sym e ∙ kept_same))) i;
      needed = newcomer_needs L t c && needs_same i;
      unmet_fits = (unmet_room (unserved + in_column L Calls t b.at (bit b.dropped))
          ∙ ap (λ (m : ℕ). leb (count (λ u. not (eqb u.caller n || now_met L t c u)) t.unmet + (unserved + m)) L.capacity) calls_left) i;
      waiting_fits = (waiting_room waiters ∙ ap (λ (l : List Waiting). leb (length l + waiters) L.capacity)
          (keep_ext (λ w. not (eqb w.callee n || comes_due L t c.aid w)) (λ w. not (eqb w.callee n)) t.waiting
          (λ w m. sym (ap not (or_never (eqb w.callee n) (comes_due L t c.aid w) (none_waited L t n c f un an w m)))))) i;
    }
