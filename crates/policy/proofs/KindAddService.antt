-- Kind 3: a service added with its grants. Unmet calls on it become bits, and so do its grants, new or waiting, where the caller is installed; else they wait, each once.
use Prim.Native.Nat.{ℕ, ◌<◌}
use mathlib.Core.Path.{◌≡◌, refl, sym, ap, ◌∙◌, subst}
use mathlib.Core.Logic.{◌⊎◌, inl, inr, ◌↔◌}
use mathlib.Core.Bool.{Bool, not, ◌&&◌, ◌||◌}
use mathlib.Core.List.{List, [], map}
use mathlib.Core.List.{Memᴰ as In}
use mathlib.Core.List.Memᴰ.{append_left as in_left}
use mathlib.Core.List.Memᴰ.{append_right as in_right}
use mathlib.Core.List.Memᴰ.{cast as in_cast}
use mathlib.Core.Option.{Option, none, some}
use lib.Dec.{T, eqb, eqb→eq}
use Rattle.policy.specs.Lists.{every, exists, keep, is_some, distinct, NoRepeat}
use Rattle.policy.specs.Contract.{Aid, eq_aid, Tok, eq_tok, Row, Contract, has_row, valid_aid}
use Rattle.policy.specs.Layout.{Layout}
use Rattle.policy.specs.Record.{add_service, proper}
use Rattle.policy.specs.Machine.{altered, alter}
use Rattle.policy.specs.Tables.{Tables, Unmet, Waiting}
use Rattle.policy.specs.Lookup.{service_at, number_of}
use Rattle.policy.specs.Draft.{call_row, grant_row, has_unmet, has_waiting, asks_for, installed_aid, now_granted, add_service_at}
use Rattle.policy.proofs.Sets.{and_l, and_r, and_i, or_l, or_r, or_e, test, not_i, not_e, none_to, every_in, keep_in, in_keep, once_keep, in_map, map_in, once_map, each_map_keep, once_append, each_append}
use Rattle.policy.proofs.Sets.{distinct→once}
use Rattle.policy.proofs.Equal.{eq_aid→, eq_aid_refl, eq_aid_of, eqb_of, eq_tok→, eq_tok_of, row_path, has_aid, aid_has, has_row_lem, row_has, has_unmet_lem, unmet_has, has_waiting_lem, waiting_has}
use Rattle.policy.proofs.Put.{NewPlace, new_place, or_new, OldOrNew, old_or_new}
use Rattle.policy.proofs.Formed.{Names, Bits, grant_bit, Formed, ProvidesAt, at, RowAt, bit, row, GrantAt, Stands, Turns, KindTurns}
use Rattle.policy.proofs.Found.{NumberIs, number_is}
use Rattle.policy.proofs.Facts.{no_rows, row_cases, row_kept, need_bits}
use Rattle.policy.proofs.Reach.{reach_3}
use Rattle.policy.proofs.Alter.{More, turned_same, turned_union, turned_one, stands_turned}

module _ (L : Layout) (t : Tables) (f : Formed L t) (j k : ℕ) (uj : T (t.used j)) (k< : k < L.services) (free : T (t.provides j k) → ⊥)
    (s : Tok) (fresh : ProvidesAt t j s → ⊥) (l : List Aid) (valid : (b : Aid) → In b l → T (valid_aid b)) (others : (b : Aid) → In b l → b ≡ t.aid j → ⊥) (once : NoRepeat l) where
  abbrev after : Tables
  after = (add_service_at L t j k s l).tables

  place : NewPlace t.tok after.tok t.provides after.provides j k s
  place = new_place t.tok t.provides j k s free

  names : Names L t.used t.aid after.tok after.provides
  names = record {
    used_lt = f.names.used_lt;
    prov_lt = λ x y p. lt (place.prov_cases x y p);
    prov_used = λ x y p. used (place.prov_cases x y p);
    aid_valid = f.names.aid_valid;
    aid_blank = f.names.aid_blank;
    tok_blank = λ x y np. place.none_tok x y np ∙ f.names.tok_blank x y (λ p. np (place.old_prov x y p));
    aid_inj = f.names.aid_inj;
    tok_inj = λ x y z p q e. inj x y z e (place.prov_cases x y p) (place.prov_cases x z q);
  }
    where
      lt : {x y : ℕ} → ((x ≡ j) × (y ≡ k)) ⊎ T (t.provides x y) → y < L.services
      lt (inl e) = rw e.1 k<
      lt {x} {y} (inr p) = f.names.prov_lt x y p

      used : {x y : ℕ} → ((x ≡ j) × (y ≡ k)) ⊎ T (t.provides x y) → T (t.used x)
      used (inl e) = rw e.0 uj
      used {x} {y} (inr p) = f.names.prov_used x y p

      -- no other service of the package has these tokens
      clash : (x y z : ℕ) → x ≡ j → y ≡ k → T (t.provides x z) → after.tok x y ≡ after.tok x z → ⊥
      clash x y z ex ey p e =
          fresh (at z (subst (λ (w : ℕ). T (t.provides w z)) ex p) (sym place.new_tok ∙ (λ i. after.tok (sym ex i) (sym ey i)) ∙ e ∙ place.old_tok x z p ∙ (λ i. t.tok (ex i) z)))

      inj : (x y z : ℕ) → after.tok x y ≡ after.tok x z → ((x ≡ j) × (y ≡ k)) ⊎ T (t.provides x y) → ((x ≡ j) × (z ≡ k)) ⊎ T (t.provides x z) → y ≡ z
      inj x y z e (inl a) (inl b) = a.1 ∙ sym b.1
      inj x y z e (inl a) (inr q) = absurd (clash x y z a.0 a.1 q e)
      inj x y z e (inr p) (inl b) = absurd (clash x z y b.0 b.1 p (sym e))
      inj x y z e (inr p) (inr q) = f.names.tok_inj x y z p q (sym (place.old_tok x y p) ∙ e ∙ place.old_tok x z q)

  module _ (b : ℕ → ℕ → ℕ → Bool) (c : ℕ → Bool) where
    bits : Bits t.used t.provides b → ((x : ℕ) → T (c x) → T (t.used x)) → ((x : ℕ) → T (c x) → x ≡ j → ⊥) → Bits t.used after.provides (or_new j k b c)
    bits old u ne = record {
      by_used = λ x y z h. used x y z ((old_or_new j k b c x y z).0 h);
      of_prov = λ x y z h. prov x y z ((old_or_new j k b c x y z).0 h);
      other = λ x y z h. apart x y z ((old_or_new j k b c x y z).0 h);
    }
      where
        used : (x y z : ℕ) → OldOrNew j k b c x y z → T (t.used x)
        used x y z (inl h) = old.by_used x y z h
        used x y z (inr h) = u x h.2

        prov : (x y z : ℕ) → OldOrNew j k b c x y z → T (after.provides y z)
        prov x y z (inl h) = place.old_prov y z (old.of_prov x y z h)
        prov x y z (inr h) = rw (h.0, h.1) place.new_prov

        apart : (x y z : ℕ) → OldOrNew j k b c x y z → x ≡ y → ⊥
        apart x y z (inl h) e = old.other x y z h e
        apart x y z (inr h) e = ne x h.2 (e ∙ h.0)

  -- an unmet call of package x on the new service; an installed package x that it is granted to
  abbrev asks : ℕ → Unmet
  asks x = call_row x (record { aid = t.aid j; tok = s })

  abbrev asked : ℕ → Bool
  asked x = has_unmet (asks x) t.unmet

  abbrev waits : Aid → Waiting
  waits b = record { caller = b; callee = j; tok = s }

  -- the AID is one of the record's, or its grant waits
  abbrev named : Aid → Bool
  named b = exists (eq_aid b) l || has_waiting (waits b) t.waiting

  abbrev granted : ℕ → Bool
  granted x = t.used x && named (t.aid x)

  was_asked : (x : ℕ) → T (asked x) → In (asks x) t.unmet
  was_asked x h = has_unmet_lem (asks x) t.unmet h

  named_in : (b : Aid) → T (named b) → In b l ⊎ In (waits b) t.waiting
  named_in b h = go (or_e (exists (eq_aid b) l) (has_waiting (waits b) t.waiting) h)
    where
      go : T (exists (eq_aid b) l) ⊎ T (has_waiting (waits b) t.waiting) → In b l ⊎ In (waits b) t.waiting
      go (inl x) = inl (has_aid b l x)
      go (inr x) = inr (has_waiting_lem (waits b) t.waiting x)

  named_other : (b : Aid) → T (named b) → b ≡ t.aid j → ⊥
  named_other b h e = go (named_in b h)
    where
      go : In b l ⊎ In (waits b) t.waiting → ⊥
      go (inl m) = others b m e
      go (inr m) = f.waiting.wait_other (waits b) m e

  -- the old rows that stay, and the AIDs whose grant waits anew
  abbrev still : Waiting → Bool
  still w = not (now_granted L t j s w)

  abbrev lone : Aid → Bool
  lone b = not (installed_aid L t b || has_waiting (waits b) t.waiting)

  lone_off : (b : Aid) → T (lone b) → NumberIs t b none
  lone_off b h = none_to (NumberIs t b) (number_of L t b) (number_is L t f.names b)
      (not_i (installed_aid L t b) (λ x. not_e (installed_aid L t b || has_waiting (waits b) t.waiting) h (or_l (installed_aid L t b) (has_waiting (waits b) t.waiting) x)))

  lone_new : (b : Aid) → T (lone b) → In (waits b) t.waiting → ⊥
  lone_new b h m = not_e (installed_aid L t b || has_waiting (waits b) t.waiting) h (or_r (installed_aid L t b) (has_waiting (waits b) t.waiting) (waiting_has m))

  each_wait : (P : Waiting → Type 0) → ((b : Aid) → In b l → T (lone b) → P (waits b)) → (w : Waiting) → In w (map waits (keep lone l)) → P w
  each_wait P = each_map_keep waits P lone l

  each_row : (P : Waiting → Type 0) → ((w : Waiting) → In w t.waiting → T (still w) → P w) → ((b : Aid) → In b l → T (lone b) → P (waits b))
      → (w : Waiting) → In w after.waiting → P w
  each_row P g h = each_append {P = P} (keep still t.waiting) (map waits (keep lone l)) (λ w m. let q = keep_in still t.waiting m in g w q.0 q.1) (each_wait P h)

  -- a grant of the new service to an installed AID does not stay a row
  now_granted_lem : (w : Waiting) → w.callee ≡ j → w.tok ≡ s → (n : ℕ) → T (t.used n) → t.aid n ≡ w.caller → T (now_granted L t j s w)
  now_granted_lem w ej es n u e = and_i (eqb w.callee j && eq_tok w.tok s) (installed_aid L t w.caller)
      (and_i (eqb w.callee j) (eq_tok w.tok s) (eqb_of ej) (eq_tok_of es)) (go (number_of L t w.caller) (number_is L t f.names w.caller))
    where
      go : (o : Option ℕ) → NumberIs t w.caller o → T (is_some o)
      go none h = h n u e
      go (some i) h = tt

  was_unmet : (u : Unmet) → In u after.unmet → In u t.unmet × (T (asks_for L t (t.aid j) s u) → ⊥)
  was_unmet u m = let p = keep_in (λ v. not (asks_for L t (t.aid j) s v)) t.unmet m in (p.0, not_e (asks_for L t (t.aid j) s u) p.1)

  formed : Formed L after
  formed = record {
    names = names;
    calls = bits t.calls asked f.calls (λ x h. f.unmet.off.off_used (asks x) (was_asked x h))
        (λ x h e. f.unmet.unmet_other (asks x) (was_asked x h) (ap t.aid (sym e)));
    grants = bits (grant_bit t) granted f.grants (λ x h. and_l (t.used x) (named (t.aid x)) h)
        (λ x h e. named_other (t.aid x) (and_r (t.used x) (named (t.aid x)) h) (ap t.aid e));
    need_call = λ x y z h. (old_or_new j k t.calls asked x y z).1 (inl (f.need_call x y z h));
    unmet = record {
      off = record {
        off_used = λ u m. f.unmet.off.off_used u (was_unmet u m).0;
        off_card = λ u m y z p ea et. off u y z (was_unmet u m).0 (was_unmet u m).1 ea et (place.prov_cases y z p);
      };
      unmet_valid = λ u m. f.unmet.unmet_valid u (was_unmet u m).0;
      unmet_other = λ u m. f.unmet.unmet_other u (was_unmet u m).0;
      unmet_once = once_keep (λ v. not (asks_for L t (t.aid j) s v)) t.unmet f.unmet.unmet_once;
    };
    waiting = record {
      wait_valid = each_row (λ w. T (valid_aid w.caller)) (λ w m _. f.waiting.wait_valid w m) (λ b m _. valid b m);
      wait_used = each_row (λ w. T (t.used w.callee)) (λ w m _. f.waiting.wait_used w m) (λ b m _. uj);
      wait_other = each_row (λ w. w.caller ≡ t.aid w.callee → ⊥) (λ w m _. f.waiting.wait_other w m) (λ b m _. others b m);
      wait_off = each_row (λ w. (n z : ℕ) → T (t.used n) → t.aid n ≡ w.caller → T (after.provides w.callee z) → after.tok w.callee z ≡ w.tok → ⊥)
          (λ w m h n z u e p q. waits_off w m h n z u e q (place.prov_cases w.callee z p)) (λ b _ h n z u e p q. lone_off b h n u e);
      wait_once = once_append (keep still t.waiting) (map waits (keep lone l)) (once_keep still t.waiting f.waiting.wait_once)
          (once_map waits (keep lone l) (λ b c m n e. ap (λ (v : Waiting). v.caller) e) (once_keep lone l once))
          (λ w m n. each_wait (λ v. w ≡ v → ⊥) (λ b _ h e. lone_new b h (in_cast (sym e) (keep_in still t.waiting m).0)) w n refl);
    };
  }
    where
      waits_off : (w : Waiting) → In w t.waiting → T (still w) → (n z : ℕ) → T (t.used n) → t.aid n ≡ w.caller → after.tok w.callee z ≡ w.tok
          → ((w.callee ≡ j) × (z ≡ k)) ⊎ T (t.provides w.callee z) → ⊥
      waits_off w m h n z u e q (inl c) =
          not_e (now_granted L t j s w) h (now_granted_lem w c.0 (sym q ∙ (λ i. after.tok (c.0 i) (c.1 i)) ∙ place.new_tok) n u e)
      waits_off w m h n z u e q (inr p) = f.waiting.wait_off w m n z u e p (sym (place.old_tok w.callee z p) ∙ q)

      off : (u : Unmet) (y z : ℕ) → In u t.unmet → (T (asks_for L t (t.aid j) s u) → ⊥) → t.aid y ≡ u.callee → after.tok y z ≡ u.tok
          → ((y ≡ j) × (z ≡ k)) ⊎ T (t.provides y z) → ⊥
      off u y z m no-ask ea et (inl e) =
          no-ask (and_i (eq_aid u.callee (t.aid j)) (eq_tok u.tok s) (eq_aid_of (sym ea ∙ ap t.aid e.0))
          (eq_tok_of (sym et ∙ (λ i. after.tok (e.0 i) (e.1 i)) ∙ place.new_tok)))
      off u y z m no-ask ea et (inr p) = f.unmet.off.off_card u m y z p ea (sym (place.old_tok y z p) ∙ et)

  -- ---- what the packages provide, call, grant and need
  -- the tokens at the new place, and the service at one that was provided
  tok_new : (x y : ℕ) → x ≡ j → y ≡ k → after.tok x y ≡ s
  tok_new x y ex ey = (λ i. after.tok (ex i) (ey i)) ∙ place.new_tok

  service_as : (x y : ℕ) → T (t.provides x y) → service_at after x y ≡ service_at t x y
  service_as x y p = λ i. record { aid = t.aid x; tok = place.old_tok x y p i }

  more_provided : More j (λ x. x ≡ s) (ProvidesAt t) (ProvidesAt after)
  more_provided n x = (cases, back)
    where
      which : (z : ℕ) → x ≡ after.tok n z → ((n ≡ j) × (z ≡ k)) ⊎ T (t.provides n z) → ProvidesAt t n x ⊎ ((n ≡ j) × (x ≡ s))
      which z e (inl q) = inr (q.0, e ∙ tok_new n z q.0 q.1)
      which z e (inr p) = inl (at z p (e ∙ place.old_tok n z p))

      cases : ProvidesAt after n x → ProvidesAt t n x ⊎ ((n ≡ j) × (x ≡ s))
      cases (at z p e) = which z e (place.prov_cases n z p)

      back : ProvidesAt t n x ⊎ ((n ≡ j) × (x ≡ s)) → ProvidesAt after n x
      back (inl (at z p e)) = at z (place.old_prov n z p) (e ∙ sym (place.old_tok n z p))
      back (inr q) = at k (rw q.0 place.new_prov) (q.1 ∙ sym (tok_new n k q.0 refl))

  abbrev grant_to : Aid → Row
  grant_to b = record { aid = b; tok = s }

  more_granted : More j (λ x. In x (map grant_to l)) (GrantAt t) (GrantAt after)
  more_granted n x = (cases, back)
    where
      -- a grant at the new place to an AID of l
      is_new : n ≡ j → x.tok ≡ s → In x.aid l → (n ≡ j) × In x (map grant_to l)
      is_new en es m = (en, in_cast (λ i. record { aid = x.aid; tok = es i }) (in_map grant_to m))

      by_name : (i z : ℕ) → x.aid ≡ t.aid i → x.tok ≡ after.tok n z → n ≡ j → z ≡ k → In (t.aid i) l ⊎ In (waits (t.aid i)) t.waiting → GrantAt t n x ⊎ ((n ≡ j) × In x (map grant_to l))
      by_name i z e q en ez (inl m) = inr (is_new en (q ∙ tok_new n z en ez) (in_cast e m))
      by_name i z e q en ez (inr m) = inl (row (in_cast (λ y. record { caller = e y; callee = en y; tok = (q ∙ tok_new n z en ez) y }) m))

      by_bit : (i z : ℕ) → x.aid ≡ t.aid i → x.tok ≡ after.tok n z → OldOrNew j k (grant_bit t) granted i n z → GrantAt t n x ⊎ ((n ≡ j) × In x (map grant_to l))
      by_bit i z e q (inl b) = inl (bit i z b e (q ∙ place.old_tok n z (f.grants.of_prov i n z b)))
      by_bit i z e q (inr h) = by_name i z e q h.0 h.1 (named_in (t.aid i) (and_r (t.used i) (named (t.aid i)) h.2))

      by_row : (w : Waiting) → In w after.waiting → grant_row n x ≡ w → GrantAt t n x ⊎ ((n ≡ j) × In x (map grant_to l))
      by_row = each_row (λ w. grant_row n x ≡ w → GrantAt t n x ⊎ ((n ≡ j) × In x (map grant_to l))) (λ w m _ e. inl (row (in_cast e m)))
          (λ b m _ e. inr (is_new (ap (λ (v : Waiting). v.callee) e) (ap (λ (v : Waiting). v.tok) e) (in_cast (ap (λ (v : Waiting). v.caller) e) m)))

      cases : GrantAt after n x → GrantAt t n x ⊎ ((n ≡ j) × In x (map grant_to l))
      cases (bit i z b e q) = by_bit i z e q ((old_or_new j k (grant_bit t) granted i n z).0 b)
      cases (row m) = by_row (grant_row n x) m refl

      -- a grant of the new service to an installed AID is a bit
      as_bit : (b : Aid) → T (named b) → (i : ℕ) → NumberIs t b (some i) → GrantAt after j (grant_to b)
      as_bit b h i w = bit i k ((old_or_new j k (grant_bit t) granted i j k).1
          (inr (refl, refl, and_i (t.used i) (named (t.aid i)) w.0 (subst (λ (z : Aid). T (named z)) (sym w.1) h)))) (sym w.1) (sym place.new_tok)

      -- a waiting grant turns where its caller is on the card
      turns : In (grant_row n x) t.waiting → T (now_granted L t j s (grant_row n x)) ⊎ (T (now_granted L t j s (grant_row n x)) → ⊥) → GrantAt after n x
      turns m (inr h) = row (in_left (map waits (keep lone l)) (in_keep still m (not_i (now_granted L t j s (grant_row n x)) h)))
      turns m (inl h) =
          let c = eqb n j in
          let d = eq_tok x.tok s in
          let o = installed_aid L t x.aid in
          let en : n ≡ j = eqb→eq n j (and_l c d (and_l (c && d) o h)) in
          let es : x.tok ≡ s = eq_tok→ x.tok s (and_r c d (and_l (c && d) o h)) in
          let m' : In (waits x.aid) t.waiting = in_cast (λ y. record { caller = x.aid; callee = sym en y; tok = sym es y }) m in
          let w : T (named x.aid) = or_r (exists (eq_aid x.aid) l) (has_waiting (waits x.aid) t.waiting) (waiting_has m') in
          rw en (subst (λ (y : Row). GrantAt after j y) (λ y. record { aid = x.aid; tok = sym es y }) (at_number w (number_of L t x.aid) (number_is L t f.names x.aid) (and_r (c && d) o h)))
        where
          at_number : T (named x.aid) → (o : Option ℕ) → NumberIs t x.aid o → T (is_some o) → GrantAt after j (grant_to x.aid)
          at_number w none h y = absurd y
          at_number w (some i) h y = as_bit x.aid w i h

      old : GrantAt t n x → GrantAt after n x
      old (bit i z b e q) = bit i z ((old_or_new j k (grant_bit t) granted i n z).1 (inl b)) e (q ∙ sym (place.old_tok n z (f.grants.of_prov i n z b)))
      old (row m) = turns m (test (now_granted L t j s (grant_row n x)))

      -- a caller of the record, by whether it is installed and by whether its grant waits
      new : (b : Aid) → In b l → (o : Option ℕ) → NumberIs t b o → number_of L t b ≡ o → GrantAt after j (grant_to b)
      new b m (some i) h e = as_bit b (or_l (exists (eq_aid b) l) (has_waiting (waits b) t.waiting) (aid_has m)) i h
      new b m none h e = go (test (has_waiting (waits b) t.waiting))
        where
          off : T (installed_aid L t b) → ⊥
          off x = subst (λ (o : Option ℕ). T (is_some o)) e x

          go : T (has_waiting (waits b) t.waiting) ⊎ (T (has_waiting (waits b) t.waiting) → ⊥) → GrantAt after j (grant_to b)
          go (inl y) = row (in_left (map waits (keep lone l)) (in_keep still (has_waiting_lem (waits b) t.waiting y)
              (not_i (now_granted L t j s (waits b)) (λ g. off (and_r (eqb j j && eq_tok s s) (installed_aid L t b) g)))))
          go (inr y) = row (in_right (keep still t.waiting) (in_map waits (in_keep lone m (not_i (installed_aid L t b || has_waiting (waits b) t.waiting)
              (λ g. either (or_e (installed_aid L t b) (has_waiting (waits b) t.waiting) g))))))
            where
              either : T (installed_aid L t b) ⊎ T (has_waiting (waits b) t.waiting) → ⊥
              either (inl z) = off z
              either (inr z) = y z

      back : GrantAt t n x ⊎ ((n ≡ j) × In x (map grant_to l)) → GrantAt after n x
      back (inl p) = old p
      back (inr p) =
          let q = map_in grant_to l p.1 in
          rw (p.0, q.2) (new q.0 q.1 (number_of L t q.0) (number_is L t f.names q.0) refl)

  calls_as : (n : ℕ) (r : Row) → RowAt t t.calls t.unmet n r ↔ RowAt after after.calls after.unmet n r
  calls_as n r = (
    row_cases (λ y z b e. bit y z ((old_or_new j k t.calls asked n y z).1 (inl b)) (e ∙ sym (service_as y z (f.calls.of_prov n y z b))))
        (λ m. met m (test (asks_for L t (t.aid j) s (call_row n r)))),
    row_cases (λ y z b e. was y z e ((old_or_new j k t.calls asked n y z).0 b)) (λ m. row (was_unmet (call_row n r) m).0),
  )
    where
      -- an unmet call on the new service is a bit now
      met : In (call_row n r) t.unmet → T (asks_for L t (t.aid j) s (call_row n r)) ⊎ (T (asks_for L t (t.aid j) s (call_row n r)) → ⊥) → RowAt after after.calls after.unmet n r
      met m (inl h) =
          let ea : r.aid ≡ t.aid j = eq_aid→ r.aid (t.aid j) (and_l (eq_aid r.aid (t.aid j)) (eq_tok r.tok s) h) in
          let es : r.tok ≡ s = eq_tok→ r.tok s (and_r (eq_aid r.aid (t.aid j)) (eq_tok r.tok s) h) in
          let e : r.tok ≡ after.tok j k = es ∙ sym place.new_tok in
          let h : T (asked n) = unmet_has (in_cast (λ i. record { callee = sym ea i; tok = sym es i; caller = n }) m) in
          bit j k ((old_or_new j k t.calls asked n j k).1 (inr (refl, refl, h))) (row_path ea e)
      met m (inr h) = row (in_keep (λ v. not (asks_for L t (t.aid j) s v)) m (not_i (asks_for L t (t.aid j) s (call_row n r)) h))

      was : (y z : ℕ) → r ≡ service_at after y z → OldOrNew j k t.calls asked n y z → RowAt t t.calls t.unmet n r
      was y z e (inl b) = bit y z b (e ∙ service_as y z (f.calls.of_prov n y z b))
      was y z e (inr h) =
          let es : r.tok ≡ s = ap (λ (v : Row). v.tok) e ∙ tok_new y z h.0 h.1 in
          let ea : r.aid ≡ t.aid j = ap (λ (v : Row). v.aid) e ∙ ap t.aid h.0 in
          row (in_cast (λ i. record { callee = ea i; tok = es i; caller = n }) (was_asked n h.2))

  needs_as : (n : ℕ) (r : Row) → RowAt t t.needs [] n r ↔ RowAt after t.needs [] n r
  needs_as n = row_kept t after n t.needs [] (λ y z h. sym (service_as y z ((need_bits L t f).of_prov n y z h)))

  -- ---- the package's contract gets the service and its grants
  service_turns : (cs : List Contract) (a : Aid) → Stands t [] cs → t.aid j ≡ a → Turns L (add_service_at L t j k s l) (alter a (altered L (add_service s l)) cs)
  service_turns cs a st aj = record {
    formed = formed;
    lost_off = no_rows after;
    stands = stands_turned L t after [] cs a j f.names st uj aj refl refl
        (turned_one s more_provided fresh)
        (turned_same uj (λ n _. calls_as n))
        (turned_union has_row (λ x g. (has_row_lem x g, row_has)) (map grant_to l) (once_map grant_to l (λ x y m n e. ap (λ (v : Row). v.aid) e) once) more_granted)
        (turned_same uj (λ n _. needs_as n));
  }

pub kind_3 : (s : Tok) (l : List Aid) → KindTurns (add_service s l)
unfolding proper
kind_3 s l L t cs a f st va vl pr =
    reach_3 L t f a (λ d _. Turns L d (alter a (altered L (add_service s l)) cs)) s l (λ j k uj aj fresh free.
    service_turns L t f j k uj free.0 free.1 s fresh l vl.1.1 (λ b m e. apart b m (e ∙ aj))
    (distinct→once eq_aid eq_aid→ eq_aid_refl l (and_r (every (λ b. not (eq_aid b a)) l) (distinct eq_aid l) pr)) cs a st aj)
  where
    apart : (b : Aid) → In b l → b ≡ a → ⊥
    apart b m e = not_e (eq_aid b a) (every_in (λ b. not (eq_aid b a)) l (and_l (every (λ b. not (eq_aid b a)) l) (distinct eq_aid l) pr) m) (eq_aid_of e)
