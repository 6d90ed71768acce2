-- Kind 1 (load): a contract comes to a free number, its services at 0, 1, 2; the newcomer has its contract, and the others keep theirs.
use Prim.Native.Nat.{ℕ, zero, suc, ◌≤◌, ◌<◌, zero-le, suc-le-suc}
use native.Mathlib.Omega.{arith}
use native.Mathlib.Nat.{not-suc-le-zero, le_of_suc-le-suc}
use mathlib.Core.Path.{◌≡◌, refl, sym, ap, ◌∙◌, subst}
use mathlib.Core.Logic.{◌⊎◌, inl, inr}
use mathlib.Core.Bool.{Bool, true, false, not, ◌&&◌, ◌||◌, cond}
use mathlib.Core.List.{List, [], ◌∷◌, ◌++◌, map, append-nil}
use mathlib.Core.List.Memᴰ.{cases_cons as in_cons}
use mathlib.Core.List.Memᴰ.{cast as in_cast}
use mathlib.Core.List.Memᴰ.{head as here}
use mathlib.Core.List.Memᴰ.{tail as there}
use mathlib.Core.List.{Memᴰ as In}
use mathlib.Core.Option.{none, some}
use lib.Dec.{T, eqb, eqb→eq, ltb, ltb→lt, lt→ltb, nltb→le}
use lib.ListN.{length, get_or, get_or-eq_default}
use Rattle.policy.specs.Lists.{keep, NoRepeat}
use Rattle.policy.specs.Contract.{Aid, Tok, Row, Contract, valid_aid}
use Rattle.policy.specs.Layout.{Layout}
use Rattle.policy.specs.Record.{load, proper}
use Rattle.policy.specs.Causes.{answer}
use Rattle.policy.specs.Tables.{Tables, Unmet, no_tok}
use Rattle.policy.specs.Draft.{Draft, Look, Services, grant_row, named_on, left_by, load_at, draft}
use Rattle.policy.specs.Judge.{table_causes}
use Rattle.policy.specs.History.{FourSets}
use Rattle.policy.specs.ShortCheck.{short_load, short_look}
use Rattle.policy.proofs.Sets.{T_false, not_i, no_members, in_row, keep_ext, map_in}
use Rattle.policy.proofs.Put.{by_number}
use Rattle.policy.proofs.Formed.{Bits, Formed, HasContract, Stands, Turns, KindTurns}
use Rattle.policy.proofs.Found.{NumberIs, FreeIs}
use Rattle.policy.proofs.Facts.{need_bits}
use Rattle.policy.proofs.Reach.{reach_1}
use Rattle.policy.proofs.Dropped.{left_in}
use Rattle.policy.proofs.BroughtNames.{ServicesAt, lists_of, Coming, on, dropped, now_met, waited_for, left_off, waits_new, met_bit, waited_bit, granted_bit, brought_at, Brought, brought}
use Rattle.policy.proofs.BroughtFormed.{brought_formed, brought_lost}
use Rattle.policy.proofs.BroughtStands.{has_new, has_old}

-- ---- elements by their index
module _ {A : Type 0} (d : A) where
  in_get_d : {x : A} {l : List A} → In x l → (y : ℕ) × (y < length l) × (get_or l y d ≡ x)
  in_get_d (here e) = (zero, suc-le-suc zero-le, sym e)
  in_get_d (there m) = let p = in_get_d m in (suc p.0, suc-le-suc p.1, p.2)

  get_d_inj : (l : List A) → NoRepeat l → (y z : ℕ) → y < length l → z < length l → get_or l y d ≡ get_or l z d → y ≡ z
  get_d_inj [] n y z a b e = absurd (not-suc-le-zero a)
  get_d_inj (x ∷ l) n zero zero a b e = refl
  get_d_inj (x ∷ l) n zero (suc z) a b e = absurd (n.0 (in_cast e (in_row l z d (le_of_suc-le-suc b))))
  get_d_inj (x ∷ l) n (suc y) zero a b e = absurd (n.0 (in_cast (sym e) (in_row l y d (le_of_suc-le-suc a))))
  get_d_inj (x ∷ l) n (suc y) (suc z) a b e = ap suc (get_d_inj l n.1 y z (le_of_suc-le-suc a) (le_of_suc-le-suc b) e)

-- ---- 'Its services take 0, 1, 2 in record order'
abbrev pub in_order : List Tok → Services
in_order p = record { tok = λ y. get_or p y no_tok; provides = λ y. ltb y (length p) }

-- a bit stays, or comes, where there was none before
bit_comes : (b o d w : Bool) → (T b → T o → ⊥) → cond b w o ≡ ((o && not (b && d)) || (b && w))
bit_comes true true d w n = absurd (n tt tt)
bit_comes true false d w n = refl
bit_comes false true d w n = refl
bit_comes false false d w n = refl

grant_comes : (b o w : Bool) → (T b → T o → ⊥) → cond b w o ≡ (o || (b && w))
grant_comes true true w n = absurd (n tt tt)
grant_comes true false w n = refl
grant_comes false true w n = refl
grant_comes false false w n = refl

bit_stays : (b o d : Bool) → (T b → T o → ⊥) → o ≡ (o && not (b && d))
bit_stays true true d n = absurd (n tt tt)
bit_stays true false d n = refl
bit_stays false true d n = refl
bit_stays false false d n = refl

module _ (L : Layout) (t : Tables) (m : ℕ) (k : Contract) (formed : Formed L t) (free : T (t.used m) → ⊥) where
  abbrev now : Services
  now = in_order k.provides

  -- no bit and no row has the number
  no_prov : (z : ℕ) → T (t.provides m z) → ⊥
  no_prov z p = free (formed.names.prov_used m z p)

  on_free : {b : ℕ → ℕ → ℕ → Bool} → Bits t.used t.provides b → (x y z : ℕ) → T (eqb y m) → T (b x y z) → ⊥
  on_free {b} bits x y z e h = no_prov z (subst (λ (j : ℕ). T (t.provides j z)) (eqb→eq y m e) (bits.of_prov x y z h))

  not_free : (x : ℕ) → T (t.used x) → (d : Bool) → d ≡ (eqb x m || d)
  not_free x u d = ap (λ (b : Bool). b || d) (sym (T_false (eqb x m) (λ e. free (subst (λ (z : ℕ). T (t.used z)) (eqb→eq x m e) u))))

  nothing_left : {b : ℕ → ℕ → ℕ → Bool} → Bits t.used t.provides b → left_by L t b m (dropped L t m k now) ≡ []
  nothing_left {b} bits = no_members (left_by L t b m (dropped L t m k now))
      (λ u i. let p = left_in L t formed.names m (dropped L t m k now) b bits i in no_prov p.1 (bits.of_prov p.0 m p.1 p.2))

  -- the load's draft is that of a contract brought to the number
  pub load_is : load_at L t m k ≡ brought_at L t m k now
  load_is = λ i. record {
    tables = record {
      used = (on L t m k now).used;
      aid = (on L t m k now).aid;
      tok = (on L t m k now).tok;
      provides = (on L t m k now).provides;
      calls = λ x y z. cond (eqb x m) (named_on (on L t m k now) k.calls y z) (bit_comes (eqb y m) (t.calls x y z) (dropped L t m k now z) (met_bit L t m k now x z) (on_free formed.calls x y z) i);
      grants = λ x y z. cond (eqb x m) (granted_bit L t m k now y z) (grant_comes (eqb y m) (t.grants x y z) (waited_bit L t m k now x z) (by_free_lem x y z) i);
      needs = λ x y z. cond (eqb x m) (named_on (on L t m k now) k.needs y z) (bit_stays (eqb y m) (t.needs x y z) (dropped L t m k now z) (on_free (need_bits L t formed) x y z) i);
      unmet = keep_ext (λ u. not (now_met L t m k now u)) (λ u. not (eqb u.caller m || now_met L t m k now u)) t.unmet
          (λ u h. ap not (not_free u.caller (formed.unmet.off.off_used u h) (now_met L t m k now u))) i
          ++ none_more (left_off L t m k now k.calls) (nothing_left formed.calls) i;
      waiting = keep_ext (λ w. not (waited_for L t m k now w)) (λ w. not (eqb w.callee m || waited_for L t m k now w)) t.waiting
          (λ w h. ap not (not_free w.callee (formed.waiting.wait_used w h) (waited_for L t m k now w))) i ++ map (grant_row m) (keep (waits_new L t m k now) k.grants);
    };
    lost = none_more (left_off L t m k now k.needs) (nothing_left (need_bits L t formed)) i;
  }
    where
      by_free_lem : (x y z : ℕ) → T (eqb y m) → T (t.grants x y z) → ⊥
      by_free_lem x y z e h = free (subst (λ (j : ℕ). T (t.used j)) (eqb→eq y m e) (formed.grants.by_used y x z h))

      none_more : (l : List Unmet) {r : List Unmet} → r ≡ [] → l ≡ l ++ r
      none_more l e = sym (append-nil l) ∙ ap (λ (x : List Unmet). l ++ x) (sym e)

  -- ---- the places
  placed_load : NoRepeat k.provides → length k.provides ≤ L.services → ServicesAt L t m k.provides now
  placed_load once fit =
      let p = k.provides in
      let n = length p in
      record {
        prov_lt = λ y h. let q = ltb→lt y n h in omega (arith, fit);
        tok_in = λ y h. in_row p y no_tok (ltb→lt y n h);
        in_tok = λ s i. let q = in_get_d no_tok i in (q.0, lt→ltb q.0 n q.1, q.2);
        tok_inj = λ y z a b. get_d_inj no_tok p once y z (ltb→lt y n a) (ltb→lt z n b);
        tok_blank = λ y h. get_or-eq_default p no_tok (nltb→le y n (not_i (ltb y n) h));
        stays = λ y h i. absurd (no_prov y h);
      }

-- ---- a load that causes 3, 4 and 7 let pass has such a draft
module _ (L : Layout) (t : Tables) (a : Aid) (p : List Tok) (c g n : List Row) where
  abbrev contract : Contract
  contract = record { aid = a; provides = p; calls = c; grants = g; needs = n }

  pub newcomer : Formed L t → length p ≤ L.services → T (proper L a (load p c g n)) → (m : ℕ) → NumberIs t a none → FreeIs L.packages t.used (some m)
      → Coming L t m contract (in_order p)
  unfolding proper
  newcomer f fit pr m away fr =
      let ls = lists_of L a p c g n pr in
      record {
        formed = f;
        number_lt = fr.0;
        own_aid = λ u. absurd (fr.1 u);
        only = λ x u e. absurd (away x u e);
        lists = ls;
        placed = placed_load L t m contract f fr.1 ls.sets.provides fit;
      }

  pub load_reached : (P : Draft → Look → Type 0) → Formed L t → length p ≤ L.services → T (proper L a (load p c g n))
      → ((m : ℕ) → FreeIs L.packages t.used (some m) → ((x : ℕ) → T (t.used x) → t.aid x ≡ a → ⊥) → Coming L t m contract (in_order p) → P (brought_at L t m contract (in_order p)) (short_load L t contract))
      → answer (table_causes L t a (load p c g n)) ≡ 0 → P (draft L t a (load p c g n)) (short_look L t a (load p c g n))
  load_reached P f fit pr h = reach_1 L t f a P p c g n (λ m away fr.
      subst (λ (d : Draft). P d (short_load L t contract)) (sym (load_is L t m contract f fr.1)) (h m fr away (newcomer f fit pr m away fr)))

module _ (L : Layout) (t : Tables) (m : ℕ) (k : Contract) (now : Services) (new : Coming L t m k now) (valid : T (valid_aid k.aid))
    (free : T (t.used m) → ⊥) (absent : (x : ℕ) → T (t.used x) → t.aid x ≡ k.aid → ⊥) where
  l : Brought L t m k now
  l = brought L t m k now new

  abbrev Has : ℕ → Contract → Type 0
  Has = HasContract (brought_at L t m k now).tables (brought_at L t m k now).lost

  load_stands : (cs : List Contract) → Stands t [] cs → Stands (brought_at L t m k now).tables (brought_at L t m k now).lost (k ∷ cs)
  load_stands cs st = record {
    these = λ c i. these c (in_cons i);
    no_others = λ n. by_number m (λ (x : ℕ). T ((on L t m k now).used x) → (c : Contract) × In c (k ∷ cs) × (c.aid ≡ (on L t m k now).aid x)) n
        (λ u. (k, here refl, sym l.aid_new))
        (λ h u. let q = st.no_others n (l.used_back n h u) in (q.0, there q.1, q.2 ∙ sym (l.aid_old n h)));
    one_each = ((λ i. let q = map_in (λ c. c.aid) cs i in let h = st.these q.0 q.1 in absent h.0 h.1 (sym h.2.aid ∙ sym q.2)), st.one_each);
    four_sets = λ c i. four c (in_cons i);
  }
    where
      these : (c : Contract) → (c ≡ k) ⊎ In c cs → (n : ℕ) × T ((on L t m k now).used n) × Has n c
      these c (inl e) = (m, l.used_new, subst (Has m) (sym e) (has_new L t m k now new valid))
      these c (inr i) =
          let h = st.these c i in
          (h.0, l.used_old h.0 h.1, has_old L t m k now new valid h.0 h.1 (λ e. free (subst (λ (z : ℕ). T (t.used z)) e h.1)) c h.2)

      four : (c : Contract) → (c ≡ k) ⊎ In c cs → FourSets c
      four c (inl e) = subst FourSets (sym e) new.lists.sets
      four c (inr i) = st.four_sets c i

pub kind_1 : (p : List Tok) (c g n : List Row) → KindTurns (load p c g n)
kind_1 p c g n L t cs a f st va v pr =
    let k : Contract = record { aid = a; provides = p; calls = c; grants = g; needs = n } in
    load_reached L t a p c g n (λ d _. Turns L d (k ∷ cs)) f v.0.0 pr
    (λ m free away new. record {
      formed = brought_formed L t m k (in_order p) new va (λ r i. (v.1.1 r i).0) (λ r i. (v.2.1 r i).0);
      lost_off = brought_lost L t m k (in_order p) new va;
      stands = load_stands L t m k (in_order p) new va free.1 away cs st;
    })
