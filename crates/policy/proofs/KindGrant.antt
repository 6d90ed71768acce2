-- Kinds 7 and 8: a grant added, a grant removed. It is a bit where its caller and its service are on the card, else a row that waits.
use Prim.Native.Nat.{ℕ}
use mathlib.Core.Path.{◌≡◌, refl, sym, ap, ◌∙◌, subst}
use mathlib.Core.Logic.{◌⊎◌, inl, inr}
use mathlib.Core.Bool.{Bool, true, false, not}
use mathlib.Core.List.{List, [], ◌∷◌, ◌++◌}
use mathlib.Core.List.Memᴰ.{head as here}
use mathlib.Core.List.{Memᴰ as In}
use mathlib.Core.List.Memᴰ.{append_cases as in_append}
use mathlib.Core.List.Memᴰ.{append_left as in_left}
use mathlib.Core.List.Memᴰ.{append_right as in_right}
use mathlib.Core.List.Memᴰ.{cast as in_cast}
use mathlib.Core.Option.{Option, none, some}
use lib.Dec.{T}
use Rattle.policy.specs.Lists.{keep}
use Rattle.policy.specs.Contract.{Aid, eq_aid, Row, Contract, valid_aid}
use Rattle.policy.specs.Layout.{Layout}
use Rattle.policy.specs.Record.{add_grant, remove_grant, proper}
use Rattle.policy.specs.Machine.{altered, alter}
use Rattle.policy.specs.Tables.{Tables, Waiting}
use Rattle.policy.specs.Lookup.{Spot}
use Rattle.policy.specs.Sound.{eq_waiting}
use Rattle.policy.specs.Draft.{grant_row, put3, add_grant_at, remove_grant_at}
use Rattle.policy.proofs.Sets.{not_i, not_e, once_snoc, keep_in, in_keep, once_keep, each_one, each_snoc}
use Rattle.policy.proofs.Equal.{eq_aid_of, row_path, eq_waiting→, eq_waiting_refl}
use Rattle.policy.proofs.Put.{At, put3_new, put3_keep, put3_cases, put3_less}
use Rattle.policy.proofs.Formed.{Formed, bit, row, GrantAt, Stands, Turns, KindTurns}
use Rattle.policy.proofs.Found.{SpotIs}
use Rattle.policy.proofs.Facts.{bits_sub, bits_more}
use Rattle.policy.proofs.Reach.{reach_7, reach_8}
use Rattle.policy.proofs.Alter.{More, Less, turned_one}
use Rattle.policy.proofs.Rows.{turned_without, turns_grants}

-- ---- the grant r of package j
module _ (L : Layout) (t : Tables) (f : Formed L t) (r : Row) (j : ℕ) where
  abbrev asked : Waiting
  asked = grant_row j r

  -- the row of r, and the bit of r
  is_row : (n : ℕ) (x : Row) → grant_row n x ≡ asked → (n ≡ j) × (x ≡ r)
  is_row n x e = (ap (λ (w : Waiting). w.callee) e, λ i. record { aid = (e i).caller; tok = (e i).tok })

  is_bit : (p : Spot) → SpotIs t j r (some p) → (n y z : ℕ) (x : Row) → x.aid ≡ t.aid y → x.tok ≡ t.tok n z → At j p.caller p.service n y z → (n ≡ j) × (x ≡ r)
  is_bit p h n y z x e q c = (c.0, row_path (e ∙ ap t.aid c.1 ∙ h.1) (q ∙ (λ i. t.tok (c.0 i) (c.2 i)) ∙ h.3))

  -- ---- kind 7
  abbrev added : Option Spot → Tables
  added o = (add_grant_at L t j r o).tables

  old : (o : Option Spot) (n : ℕ) (x : Row) → GrantAt t n x → GrantAt (added o) n x
  old none n x (bit i z b e q) = bit i z b e q
  old none n x (row m) = row (in_left (asked ∷ []) m)
  old (some p) n x (bit y z b e q) = bit y z (put3_keep j p.caller p.service t.grants n y z b) e q
  old (some p) n x (row m) = row m

  new : (o : Option Spot) → SpotIs t j r o → GrantAt (added o) j r
  new none h = row (in_right t.waiting (here refl))
  new (some p) h = bit p.caller p.service (put3_new j p.caller p.service t.grants) (sym h.1) (sym h.3)

  cases : (o : Option Spot) → SpotIs t j r o → (n : ℕ) (x : Row) → GrantAt (added o) n x → GrantAt t n x ⊎ ((n ≡ j) × (x ≡ r))
  cases none h n x (bit i z b e q) = inl (bit i z b e q)
  cases none h n x (row m) = split (in_append t.waiting m)
    where
      split : In (grant_row n x) t.waiting ⊎ In (grant_row n x) (asked ∷ []) → GrantAt t n x ⊎ ((n ≡ j) × (x ≡ r))
      split (inl p) = inl (row p)
      split (inr p) = inr (is_row n x (each_one (λ y. y ≡ asked) asked refl (grant_row n x) p))
  cases (some p) h n x (bit y z b e q) = split (put3_cases j p.caller p.service t.grants n y z b)
    where
      split : At j p.caller p.service n y z ⊎ T (t.grants n y z) → GrantAt t n x ⊎ ((n ≡ j) × (x ≡ r))
      split (inl c) = inr (is_bit p h n y z x e q c)
      split (inr b) = inl (bit y z b e q)
  cases (some p) h n x (row m) = inl (row m)

  more : (o : Option Spot) → SpotIs t j r o → More j (λ x. x ≡ r) (GrantAt t) (GrantAt (added o))
  more o h n x = (cases o h n x, back)
    where
      back : GrantAt t n x ⊎ ((n ≡ j) × (x ≡ r)) → GrantAt (added o) n x
      back (inl p) = old o n x p
      back (inr q) = rw (q.0, q.1) (new o h)

  -- ---- kind 8
  abbrev removed : Option Spot → Tables
  removed o = (remove_grant_at L t j r o).tables

  abbrev out : Waiting → Bool
  out w = not (eq_waiting asked w)

  left : (o : Option Spot) → SpotIs t j r o → (n : ℕ) (x : Row) → GrantAt (removed o) n x → GrantAt t n x × ((n ≡ j) × (x ≡ r) → ⊥)
  left none h n x (bit i z b e q) = (
    bit i z b e q,
    λ c. h i z (f.grants.by_used i n z b) (sym e ∙ ap (λ (y : Row). y.aid) c.1) (subst (λ (m : ℕ). T (t.provides m z)) c.0 (f.grants.of_prov i n z b))
        (ap (λ (m : ℕ). t.tok m z) (sym c.0) ∙ sym q ∙ ap (λ (y : Row). y.tok) c.1),
  )
  left none h n x (row m) =
      let k = keep_in out t.waiting m in
      (row k.0, λ c. not_e (eq_waiting asked (grant_row n x)) k.1 (subst (λ (w : Waiting). T (eq_waiting asked w)) (λ i. grant_row (sym c.0 i) (sym c.1 i)) (eq_waiting_refl asked)))
  left (some p) h n x (bit y z b e q) =
      let k = (put3_less j p.caller p.service t.grants n y z).0 b in (
        bit y z k.0 e q,
        λ c. k.1 (
          c.0,
          f.names.aid_inj y p.caller (f.grants.by_used y n z k.0) h.0 (sym e ∙ ap (λ (v : Row). v.aid) c.1 ∙ sym h.1),
          f.names.tok_inj j z p.service (subst (λ (m : ℕ). T (t.provides m z)) c.0 (f.grants.of_prov y n z k.0)) h.2
              (ap (λ (m : ℕ). t.tok m z) (sym c.0) ∙ sym q ∙ ap (λ (v : Row). v.tok) c.1 ∙ sym h.3),
        ),
      )
  left (some p) h n x (row m) =
      (row m, λ c. f.waiting.wait_off asked (in_cast (λ i. grant_row (sym c.0 i) (sym c.1 i)) m) p.caller p.service h.0 h.1 h.2 h.3)

  stays : (o : Option Spot) → SpotIs t j r o → (n : ℕ) (x : Row) → ((n ≡ j) × (x ≡ r) → ⊥) → GrantAt t n x → GrantAt (removed o) n x
  stays none h n x ne (bit i z b e q) = bit i z b e q
  stays none h n x ne (row m) = row (in_keep out m (not_i (eq_waiting asked (grant_row n x)) (λ s. ne (is_row n x (sym (eq_waiting→ asked (grant_row n x) s))))))
  stays (some p) h n x ne (bit y z b e q) = bit y z ((put3_less j p.caller p.service t.grants n y z).1 (b, λ c. ne (is_bit p h n y z x e q c))) e q
  stays (some p) h n x ne (row m) = row m

  less : (o : Option Spot) → SpotIs t j r o → Less j (λ x. x ≡ r) (GrantAt t) (GrantAt (removed o))
  less o h n x = (left o h n x, λ p. stays o h n x p.1 p.0)

  -- ---- both leave tables that turn as the contracts do
  module _ (cs : List Contract) (st : Stands t [] cs) (a : Aid) (uj : T (t.used j)) (aj : t.aid j ≡ a) where
    add_turns : T (valid_aid r.aid) → (r.aid ≡ a → ⊥) → (GrantAt t j r → ⊥) → (o : Option Spot) → SpotIs t j r o
        → Turns L (add_grant_at L t j r o) (alter a (altered L (add_grant r)) cs)
    add_turns valid other fresh none h = turns_grants L t cs a f st j uj aj t.grants (t.waiting ++ (asked ∷ [])) f.grants
        (record {
          wait_valid = each_snoc {P = λ w. T (valid_aid w.caller)} t.waiting asked f.waiting.wait_valid valid;
          wait_used = each_snoc {P = λ w. T (t.used w.callee)} t.waiting asked f.waiting.wait_used uj;
          wait_other = each_snoc {P = λ w. w.caller ≡ t.aid w.callee → ⊥} t.waiting asked f.waiting.wait_other (λ e. other (e ∙ aj));
          wait_off = each_snoc {P = λ w. (n k : ℕ) → T (t.used n) → t.aid n ≡ w.caller → T (t.provides w.callee k) → t.tok w.callee k ≡ w.tok → ⊥}
              t.waiting asked f.waiting.wait_off h;
          wait_once = once_snoc t.waiting asked f.waiting.wait_once (λ m. fresh (row m));
        })
        (turned_one r (more none h) fresh)
    add_turns valid other fresh (some p) h =
        let i = p.caller in
        let k = p.service in
        turns_grants L t cs a f st j uj aj (put3 j i k true t.grants) t.waiting
        (bits_more i j k f.grants h.0 h.2 (λ e. other (sym h.1 ∙ ap t.aid e ∙ aj)) (λ x y z b. swap x y z (put3_cases j i k t.grants y x z b)))
        f.waiting (turned_one r (more (some p) h) fresh)
      where
        swap : (x y z : ℕ) → At j p.caller p.service y x z ⊎ T (t.grants y x z) → At p.caller j p.service x y z ⊎ T (t.grants y x z)
        swap x y z (inl c) = inl (c.1, c.0, c.2)
        swap x y z (inr b) = inr b

    remove_turns : (o : Option Spot) → SpotIs t j r o → Turns L (remove_grant_at L t j r o) (alter a (altered L (remove_grant r)) cs)
    remove_turns none h = turns_grants L t cs a f st j uj aj t.grants (keep (λ w. not (eq_waiting asked w)) t.waiting) f.grants
        (record {
          wait_valid = λ w m. f.waiting.wait_valid w (was m);
          wait_used = λ w m. f.waiting.wait_used w (was m);
          wait_other = λ w m. f.waiting.wait_other w (was m);
          wait_off = λ w m. f.waiting.wait_off w (was m);
          wait_once = once_keep out t.waiting f.waiting.wait_once;
        })
        (turned_without r (less none h))
      where
        was : {w : Waiting} → In w (keep (λ w. not (eq_waiting asked w)) t.waiting) → In w t.waiting
        was m = (keep_in out t.waiting m).0
    remove_turns (some p) h = turns_grants L t cs a f st j uj aj (put3 j p.caller p.service false t.grants) t.waiting
        (bits_sub f.grants (λ x y z b. ((put3_less j p.caller p.service t.grants y x z).0 b).0)) f.waiting (turned_without r (less (some p) h))

-- ---- the two kinds
pub kind_7 : (r : Row) → KindTurns (add_grant r)
unfolding proper
kind_7 r L t cs a f st va vr own =
    reach_7 L t f a (λ d _. Turns L d (alter a (altered L (add_grant r)) cs)) r
    (λ j uj aj. add_turns L t f r j cs st a uj aj vr.0 (λ e. not_e (eq_aid r.aid a) own (eq_aid_of e)))

pub kind_8 : (r : Row) → KindTurns (remove_grant r)
kind_8 r L t cs a f st va vr own =
    reach_8 L t f a (λ d _. Turns L d (alter a (altered L (remove_grant r)) cs)) r (λ j uj aj. remove_turns L t f r j cs st a uj aj)
