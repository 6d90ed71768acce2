-- Kind 4: a service goes; calls on it are unmet. Its grants go too, or wait.
use Prim.Native.Nat.{ℕ}
use mathlib.Core.Path.{◌≡◌, refl, sym, ap, ◌∙◌, subst}
use mathlib.Core.Logic.{◌⊎◌, inl, inr}
use mathlib.Core.Bool.{Bool, true, false, not, ◌&&◌, cond}
use mathlib.Core.List.{List, [], ◌++◌, map}
use mathlib.Core.List.Memᴰ.{append_cases as in_append}
use mathlib.Core.List.Memᴰ.{append_left as in_left}
use mathlib.Core.List.Memᴰ.{append_right as in_right}
use mathlib.Core.List.Memᴰ.{cast as in_cast}
use mathlib.Core.List.{Memᴰ as In}
use lib.Dec.{T, eqb, eqb→eq}
use Rattle.policy.specs.Lists.{keep, NoRepeat}
use Rattle.policy.specs.Contract.{Aid, Tok, eq_tok, Row, Contract, valid_aid}
use Rattle.policy.specs.Layout.{Layout}
use Rattle.policy.specs.Record.{remove_service}
use Rattle.policy.specs.Machine.{alter, altered}
use Rattle.policy.specs.Tables.{Tables, Waiting, no_tok}
use Rattle.policy.specs.Lookup.{numbers}
use Rattle.policy.specs.Draft.{grant_row, remove_service_at}
use Rattle.policy.proofs.Sets.{and_l, and_r, and_i, test, not_i, not_e, cond_false, cond_either, cond_off, keep_in, in_keep, once_keep, in_map, once_map, each_map_keep, once_append, each_append, differs, in_upto, once_upto}
use Rattle.policy.proofs.Equal.{eqb_of, eq_tok→, eq_tok_refl, eq_tok_of}
use Rattle.policy.proofs.Formed.{Bits, grant_bit, Formed, ProvidesAt, at, bit, row, GrantAt, Stands, Turns, KindTurns}
use Rattle.policy.proofs.Facts.{need_bits, bit_not_waiting}
use Rattle.policy.proofs.Reach.{reach_4}
use Rattle.policy.proofs.Dropped.{Without, BitsStay, Dropping, formed_dropped, lost_dropped, calls_dropped, needs_dropped}
use Rattle.policy.proofs.Alter.{Turned, turned_same, turned_less, stands_turned}

module _ (L : Layout) (t : Tables) (fm : Formed L t) (j k : ℕ) (pk : T (t.provides j k)) where
  abbrev t' : Tables
  t' = (remove_service_at L t j k).tables

  abbrev d : ℕ → Bool
  d z = eqb z k

  -- with the waiting grants as they are where a grant may stand before its service, or as they are where it may not
  abbrev after : Bool → Tables
  after b = record {
    used = t'.used;
    aid = t'.aid;
    tok = t'.tok;
    provides = t'.provides;
    calls = t'.calls;
    grants = t'.grants;
    needs = t'.needs;
    unmet = t'.unmet;
    waiting = cond b (t.waiting ++ map (λ i. record { caller = t.aid i; callee = j; tok = t.tok j k }) (keep (λ i. t.grants j i k) (numbers L)))
        (keep (λ w. not (eqb w.callee j && eq_tok w.tok (t.tok j k))) t.waiting);
  }

  -- ---- the place of the service, and any other
  abbrev Away : ℕ → ℕ → Type 0
  Away y z = y ≡ j → T (eqb z k) → ⊥

  away : (y z : ℕ) → (T (eqb y j && eqb z k) → ⊥) → Away y z
  away y z h e f = h (and_i (eqb y j) (eqb z k) (eqb_of e) f)

  away_i : (y z : ℕ) → Away y z → T (eqb y j && eqb z k) → ⊥
  away_i y z h f = h (eqb→eq y j (and_l (eqb y j) (eqb z k) f)) (and_r (eqb y j) (eqb z k) f)

  prov_e : (y z : ℕ) → T (t'.provides y z) → T (t.provides y z) × Away y z
  prov_e y z p = let q = cond_off (eqb y j && eqb z k) (t.provides y z) p in (q.0, away y z q.1)

  prov_i : (y z : ℕ) → T (t.provides y z) → Away y z → T (t'.provides y z)
  prov_i y z p ne = rw (cond_false (eqb y j && eqb z k) false (t.provides y z) (away_i y z ne)) p

  tok_same : (y z : ℕ) → Away y z → t'.tok y z ≡ t.tok y z
  tok_same y z ne = cond_false (eqb y j && eqb z k) no_tok (t.tok y z) (away_i y z ne)

  tok_blank_lem : (y z : ℕ) → (T (t'.provides y z) → ⊥) → t'.tok y z ≡ no_tok
  tok_blank_lem y z h = cond_either (eqb y j && eqb z k) no_tok (t.tok y z) (λ f. fm.names.tok_blank y z (λ p. h (prov_i y z p (away y z f))))

  without : Without t t' j d
  without = record {
    used_old = λ x u. u;
    used_stays = λ x u _. u;
    prov_old = λ y z p. (prov_e y z p).0;
    prov_gone = λ y z p. (prov_e y z p).1;
    prov_stays = prov_i;
    prov_used = λ y z p. fm.names.prov_used y z (prov_e y z p).0;
    aid_same = λ x _. refl;
    tok_same = λ y z p. tok_same y z (prov_e y z p).1;
    aid_blank = fm.names.aid_blank;
    tok_blank = tok_blank_lem;
  }

  -- ---- bits on the service go, and its waiting grants
  bits_stay : (b : ℕ → ℕ → ℕ → Bool) → Bits t.used t.provides b → BitsStay t' j d b (λ x y z. b x y z && not (eqb y j && eqb z k))
  bits_stay b bits = record {
    old = λ x y z h. and_l (b x y z) (not (eqb y j && eqb z k)) h;
    used = λ x y z h. bits.by_used x y z (and_l (b x y z) (not (eqb y j && eqb z k)) h);
    gone = λ x y z h. away y z (not_e (eqb y j && eqb z k) (and_r (b x y z) (not (eqb y j && eqb z k)) h));
    stays = λ x y z h _ ne. and_i (b x y z) (not (eqb y j && eqb z k)) h (not_i (eqb y j && eqb z k) (away_i y z ne));
  }

  -- the waiting grants after it: of other services, or all, with the service's grants behind them
  abbrev stay_w : Waiting → Bool
  stay_w w = not (eqb w.callee j && eq_tok w.tok (t.tok j k))

  abbrev now_waits : ℕ → Waiting
  now_waits i = record { caller = t.aid i; callee = j; tok = t.tok j k }

  abbrev callers : ℕ → Bool
  callers i = t.grants j i k

  abbrev behind : List Waiting
  behind = map now_waits (keep callers (numbers L))

  abbrev rows : Bool → List Waiting
  rows b = cond b (t.waiting ++ behind) (keep stay_w t.waiting)

  each_behind : (P : Waiting → Type 0) → ((i : ℕ) → T (t.grants j i k) → P (now_waits i)) → (w : Waiting) → In w behind → P w
  each_behind P h = each_map_keep now_waits P callers (numbers L) (λ i _ c. h i c)

  -- of every row: an old one, or one of the service's grants
  each_row : (P : Waiting → Type 0) → ((w : Waiting) → In w t.waiting → P w) → ((i : ℕ) → T (t.grants j i k) → P (now_waits i)) → (b : Bool) (w : Waiting) → In w (rows b) → P w
  each_row P f h true = each_append {P = P} t.waiting behind f (each_behind P h)
  each_row P f h false = λ w m. f w (keep_in stay_w t.waiting m).0

  uj : T (t.used j)
  uj = fm.names.prov_used j k pk

  once_rows : (b : Bool) → NoRepeat (rows b)
  once_rows true = once_append t.waiting behind fm.waiting.wait_once
      (once_map now_waits (keep callers (numbers L))
      (λ x y m n e. fm.names.aid_inj x y (fm.grants.by_used x j k (keep_in callers (numbers L) m).1) (fm.grants.by_used y j k (keep_in callers (numbers L) n).1) (ap (λ (w : Waiting). w.caller) e))
      (once_keep callers (numbers L) (once_upto L.packages)))
      (λ w m o. each_behind (λ v. w ≡ v → ⊥) (λ i h e. bit_not_waiting L t fm i j k h (in_cast (sym e) m)) w o refl)
  once_rows false = once_keep stay_w t.waiting fm.waiting.wait_once

  pub dropping : Dropping L t t' j d t.unmet
  dropping = record {
    without = without;
    calls_stay = bits_stay t.calls fm.calls;
    grants_stay = bits_stay (grant_bit t) fm.grants;
    needs_stay = bits_stay t.needs (need_bits L t fm);
    unmet_stay = record { old = λ u m. m; used = fm.unmet.off.off_used; stays = λ u m _. m; once = fm.unmet.unmet_once };
    unmet_is = refl;
    waiting = record {
      wait_valid = each_row (λ w. T (valid_aid w.caller)) fm.waiting.wait_valid (λ i h. fm.names.aid_valid i (fm.grants.by_used i j k h)) L.early;
      wait_used = each_row (λ w. T (t.used w.callee)) fm.waiting.wait_used (λ i h. uj) L.early;
      wait_other = each_row (λ w. w.caller ≡ t.aid w.callee → ⊥) fm.waiting.wait_other
          (λ i h e. fm.grants.other i j k h (fm.names.aid_inj i j (fm.grants.by_used i j k h) uj e)) L.early;
      wait_off = each_row (λ w. (x z : ℕ) → T (t.used x) → t.aid x ≡ w.caller → T (t'.provides w.callee z) → t'.tok w.callee z ≡ w.tok → ⊥)
          (λ w m x z u e p f. let q = prov_e w.callee z p in fm.waiting.wait_off w m x z u e q.0 (sym (tok_same w.callee z q.1) ∙ f))
          (λ i h x z u e p f. let q = prov_e j z p in q.1 refl (eqb_of (fm.names.tok_inj j z k q.0 pk (sym (tok_same j z q.1) ∙ f)))) L.early;
      wait_once = once_rows L.early;
    };
  }

  -- ---- what package n provides and grants: all but the service of package j with tokens s
  module _ (s : Tok) (es : t.tok j k ≡ s) (n : ℕ) where
    abbrev Stay : Tok → Type 0
    Stay x = (n ≡ j) × (x ≡ s) → ⊥

    -- by the place of tokens x
    stay_away : (z : ℕ) (x : Tok) → x ≡ t.tok n z → Stay x → Away n z
    stay_away z x e h q f = h (q, e ∙ (λ i. t.tok (q i) (eqb→eq z k f i)) ∙ es)

    away_stay : (z : ℕ) (x : Tok) → T (t.provides n z) → x ≡ t.tok n z → Away n z → Stay x
    away_stay z x p e h q =
        h q.0 (eqb_of (fm.names.tok_inj j z k (subst (λ (y : ℕ). T (t.provides y z)) q.0 p) pk (ap (λ (y : ℕ). t.tok y z) (sym q.0) ∙ sym e ∙ q.1 ∙ sym es)))

    provides_stays : (x : Tok) → ProvidesAt t n x → Stay x → ProvidesAt t' n x
    provides_stays x (at z p e) h = let ne = stay_away z x e h in at z (prov_i n z p ne) (e ∙ sym (tok_same n z ne))

    provides_old : (x : Tok) → ProvidesAt t' n x → ProvidesAt t n x × Stay x
    provides_old x (at z p e) =
        let q = prov_e n z p in
        let f = e ∙ tok_same n z q.1 in
        (at z q.0 f, away_stay z x q.0 f q.1)

    -- ---- its grants go
    grant_stays : (b : Bool) (r : Row) → (T b → ⊥) → GrantAt t n r → Stay r.tok → GrantAt (after b) n r
    grant_stays true r late g h = absurd (late tt)
    grant_stays false r late (bit i z h e f) g = let ne = stay_away z r.tok f g in bit i z (dropping.grants_stay.stays i n z h (fm.grants.by_used i n z h) ne) e (f ∙ sym (tok_same n z ne))
    grant_stays false r late (row m) g =
        row (in_keep stay_w m (not_i (eqb n j && eq_tok r.tok (t.tok j k)) (λ x.
        g (eqb→eq n j (and_l (eqb n j) (eq_tok r.tok (t.tok j k)) x), eq_tok→ r.tok (t.tok j k) (and_r (eqb n j) (eq_tok r.tok (t.tok j k)) x) ∙ es))))

    grant_old : (b : Bool) (r : Row) → (T b → ⊥) → GrantAt (after b) n r → GrantAt t n r × Stay r.tok
    grant_old true r late g = absurd (late tt)
    grant_old false r late (bit i z h e f) =
        let b = dropping.grants_stay.old i n z h in
        let ne = dropping.grants_stay.gone i n z h in
        let g = f ∙ tok_same n z ne in
        (bit i z b e g, away_stay z r.tok (fm.grants.of_prov i n z b) g ne)
    grant_old false r late (row m) =
        let p = keep_in stay_w t.waiting m in
        (row p.0, λ q. not_e (eqb n j && eq_tok r.tok (t.tok j k)) p.1 (and_i (eqb n j) (eq_tok r.tok (t.tok j k)) (eqb_of q.0) (eq_tok_of (q.1 ∙ sym es))))

    -- ---- or wait
    grant_waits : (b : Bool) (r : Row) → T b → GrantAt t n r → GrantAt (after b) n r
    grant_waits false r w g = absurd w
    grant_waits true r w (bit i z h e f) = go (test (eqb n j && eqb z k))
      where
        go : T (eqb n j && eqb z k) ⊎ (T (eqb n j && eqb z k) → ⊥) → GrantAt (after true) n r
        go (inl x) =
            let en : n ≡ j = eqb→eq n j (and_l (eqb n j) (eqb z k) x) in
            let ez : z ≡ k = eqb→eq z k (and_r (eqb n j) (eqb z k) x) in
            let c : T (t.grants j i k) = subst (λ (y : ℕ). T (t.grants j i y)) ez (subst (λ (y : ℕ). T (t.grants y i z)) en h) in
            row (in_right t.waiting (in_cast (λ y. record { caller = e y; callee = en y; tok = (f ∙ (λ v. t.tok (en v) (ez v))) y })
            (in_map now_waits (in_keep callers (in_upto L.packages i (fm.names.used_lt i (fm.grants.by_used i j k c))) c))))
        go (inr x) = let ne = away n z x in bit i z (dropping.grants_stay.stays i n z h (fm.grants.by_used i n z h) ne) e (f ∙ sym (tok_same n z ne))
    grant_waits true r w (row m) = row (in_left behind m)

    grant_was : (b : Bool) (r : Row) → T b → GrantAt (after b) n r → GrantAt t n r
    grant_was false r w g = absurd w
    grant_was true r w (bit i z h e f) = bit i z (dropping.grants_stay.old i n z h) e (f ∙ tok_same n z (dropping.grants_stay.gone i n z h))
    grant_was true r w (row m) = go (in_append t.waiting m)
      where
        go : In (grant_row n r) t.waiting ⊎ In (grant_row n r) behind → GrantAt t n r
        go (inl x) = row x
        go (inr x) = each_behind (λ v. grant_row n r ≡ v → GrantAt t n r)
            (λ i h e.
            let en : n ≡ j = ap (λ (v : Waiting). v.callee) e in
            bit i k (subst (λ (y : ℕ). T (t.grants y i k)) (sym en) h) (ap (λ (v : Waiting). v.caller) e) (ap (λ (v : Waiting). v.tok) e ∙ ap (λ (y : ℕ). t.tok y k) (sym en)))
            (grant_row n r) x refl

  -- the grants of package j: all of them, or those of other services
  grants_turn : (s : Tok) → t.tok j k ≡ s → (b : Bool) → Turned t.used j (λ l. cond b l (keep (λ r. not (eq_tok s r.tok)) l)) (GrantAt t) (GrantAt (after b))
  grants_turn s es true = turned_same uj (λ n _ r. (grant_waits s es n true r tt, grant_was s es n true r tt))
  grants_turn s es false = turned_less (λ r. r.tok ≡ s) (λ r. not (eq_tok s r.tok)) (λ r. differs eq_tok eq_tok→ eq_tok_refl s r.tok)
      (λ n r. (grant_old s es n false r (λ x. x), λ q. grant_stays s es n false r (λ x. x) q.0 q.1))

  turns : (s : Tok) → t.tok j k ≡ s → (cs : List Contract) (a : Aid) → t.aid j ≡ a → Stands t [] cs → Turns L (remove_service_at L t j k) (alter a (altered L (remove_service s)) cs)
  turns s es cs a ea st =
      record {
        formed = formed_dropped L t t' j d t.unmet fm dropping;
        lost_off = lost_dropped L t t' j d t.unmet fm dropping;
        stands = stands_turned L t t' (remove_service_at L t j k).lost cs a j fm.names st uj ea refl refl
            (turned_less (λ x. x ≡ s) (λ x. not (eq_tok s x)) (differs eq_tok eq_tok→ eq_tok_refl s) (λ n x. (provides_old s es n x, λ q. provides_stays s es n x q.0 q.1)))
            (turned_same uj (calls_dropped L t t' j d t.unmet fm dropping))
            (grants_turn s es L.early)
            (turned_same uj (needs_dropped L t t' j d t.unmet fm dropping));
      }

pub kind_4 : (s : Tok) → KindTurns (remove_service s)
kind_4 s L t cs a fm st _ _ _ =
    reach_4 L t fm a (λ d _. Turns L d (alter a (altered L (remove_service s)) cs)) s (λ j k p ea es. turns L t fm j k p s es cs a ea st)
