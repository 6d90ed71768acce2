-- Lists of contracts that agree for B, and contracts of others; what these say of met, installed and granted.
use mathlib.Core.Path.{◌≡◌, refl, sym, ap, ◌∙◌, subst}
use mathlib.Core.Logic.Iff
use mathlib.Core.Logic.{◌⊎◌, inl, inr}
use mathlib.Core.Bool.{Bool, true, not, ◌&&◌}
use mathlib.Core.List.{List, map}
use mathlib.Core.List.{Memᴰ as In}
use lib.Dec.{T}
use Rattle.policy.specs.Lists.{SameSet, NoRepeat, implies, every, keep}
use Rattle.policy.specs.Contract.{Aid, eq_aid, Tok, eq_tok, Row, Contract, has_tok, has_row, under, installed, met, waits, granted_to, calls_granted, needs_met}
use Rattle.policy.specs.History.{SameContract, FourSets}
use Rattle.policy.specs.Claims.{CallsGranted, NeedsPresent}
use Rattle.policy.proofs.Sets.{T_eq, and_l, and_r, and_i, or_l, or_r, or_e, implies_i, implies_e, test, every_in, in_every, exists_in, in_exists, same_has, keep_in, in_keep}
use Rattle.policy.proofs.Equal.{eq_aid→, eq_aid_of, eq_tok→, eq_tok_refl, has_tok_lem, tok_has, has_row_lem, row_has}
use Rattle.policy.proofs.Effect.{Others}
use Rattle.noninterference.specs.Alike.{at_end, seen_by}

-- ---- contracts that are the same
pub same_refl : (c : Contract) → SameContract c c
same_refl c = record { aid = refl; provides = λ s. Iff.rfl; calls = λ r. Iff.rfl; grants = λ r. Iff.rfl; needs = λ r. Iff.rfl }

pub same_sym : {c k : Contract} → SameContract c k → SameContract k c
same_sym p = record {
  aid = sym p.aid;
  provides = λ s. Iff.symm (p.provides s);
  calls = λ r. Iff.symm (p.calls r);
  grants = λ r. Iff.symm (p.grants r);
  needs = λ r. Iff.symm (p.needs r);
}

pub same_trans : {c k d : Contract} → SameContract c k → SameContract k d → SameContract c d
same_trans p q = record {
  aid = p.aid ∙ q.aid;
  provides = λ s. Iff.trans (p.provides s) (q.provides s);
  calls = λ r. Iff.trans (p.calls r) (q.calls r);
  grants = λ r. Iff.trans (p.grants r) (q.grants r);
  needs = λ r. Iff.trans (p.needs r) (q.needs r);
}

-- what the contracts of a card are
pub record Sets (cs : List Contract) : Type 0 where
  pub one_each : NoRepeat (map (λ c. c.aid) cs)
  pub four_sets : (c : Contract) → In c cs → FourSets c

module _ (b : Aid) where
  -- two contracts agree for B
  abbrev pub Agrees : Contract → Contract → Type 0
  Agrees c k = SameContract (seen_by b c) (seen_by b k)

  -- of rows that agree, one with B at an end
  pub seen : (rows : Contract → List Row) (c k : Contract) → SameSet (keep (at_end b c) (rows c)) (keep (at_end b k) (rows k)) → (r : Row) → T (at_end b c r) → In r (rows c) → In r (rows k)
  seen rows c k same r e h = (keep_in (at_end b k) (rows k) ((same r).0 (in_keep (at_end b c) h e))).0

  -- each contract of cs agrees with one of ds
  abbrev pub Sees : List Contract → List Contract → Type 0
  Sees cs ds = (c : Contract) → In c cs → (k : Contract) × In k ds × Agrees c k

  pub record Agree (cs ds : List Contract) : Type 0 where
    pub to : Sees cs ds
    pub back : Sees ds cs

  pub swap : {cs ds : List Contract} → Agree cs ds → Agree ds cs
  swap a = record { to = a.back; back = a.to }

  -- neither end is B
  pub off : (c : Contract) (r : Row) → (T (at_end b c r) → ⊥) → (c.aid ≡ b → ⊥) × (r.aid ≡ b → ⊥)
  off c r h = (λ e. h (or_l (eq_aid c.aid b) (eq_aid r.aid b) (eq_aid_of e)), λ e. h (or_r (eq_aid c.aid b) (eq_aid r.aid b) (eq_aid_of e)))

  -- ---- a test of the contract under an AID
  under_sees : (cs ds : List Contract) → Sees cs ds → (a : Aid) (f : Contract → Bool) → ((c k : Contract) → In c cs → In k ds → Agrees c k → c.aid ≡ a → T (f c) → T (f k))
      → T (under cs a f) → T (under ds a f)
  under_sees cs ds sees a f h x =
      let (c, mc, t) = exists_in (λ c. eq_aid c.aid a && f c) cs x in
      let (k, mk, p) = sees c mc in
      let e = eq_aid→ c.aid a (and_l (eq_aid c.aid a) (f c) t) in
      in_exists (λ c. eq_aid c.aid a && f c) mk
      (and_i (eq_aid k.aid a) (f k) (eq_aid_of (sym p.aid ∙ e)) (h c k mc mk p e (and_r (eq_aid c.aid a) (f c) t)))

  pub under_same : {cs ds : List Contract} → Agree cs ds → (a : Aid) (f : Contract → Bool) → ((c k : Contract) → In c cs → In k ds → Agrees c k → c.aid ≡ a → f c ≡ f k) → under cs a f ≡ under ds a f
  under_same {cs} {ds} ag a f h = T_eq (under cs a f) (under ds a f)
      (under_sees cs ds ag.to a f (λ c k m n p e. subst T (h c k m n p e)))
      (under_sees ds cs ag.back a f (λ c k m n p e. subst T (sym (h k c n m (same_sym p) (sym p.aid ∙ e)))))

  under_others : (cs ds : List Contract) → Others b cs ds → (a : Aid) → (a ≡ b → ⊥) → (f : Contract → Bool) → T (under cs a f) → T (under ds a f)
  under_others cs ds o a ne f x =
      let (c, mc, t) = exists_in (λ c. eq_aid c.aid a && f c) cs x in
      let e = eq_aid→ c.aid a (and_l (eq_aid c.aid a) (f c) t) in
      in_exists (λ c. eq_aid c.aid a && f c) ((o c (λ q. ne (sym e ∙ q))).0 mc) t

  others_same : {cs ds : List Contract} → Others b cs ds → (a : Aid) → (a ≡ b → ⊥) → (f : Contract → Bool) → under cs a f ≡ under ds a f
  others_same {cs} {ds} o a ne f = T_eq (under cs a f) (under ds a f) (under_others cs ds o a ne f) (under_others ds cs (λ c m. Iff.symm (o c m)) a ne f)

  pub tok_same : (c k : Contract) → Agrees c k → (s : Tok) → has_tok s c.provides ≡ has_tok s k.provides
  tok_same c k a s = same_has eq_tok eq_tok→ eq_tok_refl s c.provides k.provides (a.provides s).0 (a.provides s).1

  -- ---- a call is met, a package is installed and a grant waits on both
  met_same : {cs ds : List Contract} → Agree cs ds → (r : Row) → met cs r ≡ met ds r
  met_same ag r = under_same ag r.aid (λ c. has_tok r.tok c.provides) (λ c k _ _ a _. tok_same c k a r.tok)

  pub installed_same : {cs ds : List Contract} → Agree cs ds → (a : Aid) → installed cs a ≡ installed ds a
  installed_same ag a = under_same ag a (λ c. true) (λ c k _ _ _ _. refl)

  -- what a list of the card asks of a row: the same of contracts that agree, and of those of others
  pub record Asked (rows : Contract → List Row) (f : List Contract → Contract → Row → Bool) : Type 0 where
    pub rows_once : (c : Contract) → FourSets c → NoRepeat (rows c)
    pub rows_agree : (c k : Contract) → Agrees c k → SameSet (keep (at_end b c) (rows c)) (keep (at_end b k) (rows k))
    pub agreed : {cs ds : List Contract} → Agree cs ds → (c k : Contract) → Agrees c k → (r : Row) → f cs c r ≡ f ds k r
    pub of_others : {cs ds : List Contract} → Others b cs ds → (c : Contract) (r : Row) → (r.aid ≡ b → ⊥) → f cs c r ≡ f ds c r

  pub asked_calls : Asked (λ c. c.calls) (λ cs _ r. not (met cs r))
  asked_calls = record {
    rows_once = λ c s. s.calls;
    rows_agree = λ c k a. a.calls;
    agreed = λ ag c k _ r. ap not (met_same ag r);
    of_others = λ o c r ne. ap not (others_same o r.aid ne (λ k. has_tok r.tok k.provides));
  }

  pub asked_grants : Asked (λ c. c.grants) (λ cs. waits cs)
  asked_grants = record {
    rows_once = λ c s. s.grants;
    rows_agree = λ c k a. a.grants;
    agreed = λ ag c k a r. λ i. not (installed_same ag r.aid i && tok_same c k a r.tok i);
    of_others = λ o c r ne. λ i. not (others_same o r.aid ne (λ k. true) i && has_tok r.tok c.provides);
  }

  -- ---- causes 8 and 9, of contracts ds₁ and ds₂ that agree, where the others of ds₂ are those of a lawful card cs₂
  module _ (ds₁ ds₂ cs₂ : List Contract) (ag : Agree ds₁ ds₂) (o : Others b cs₂ ds₂) where
    abbrev allowed : List Contract → Contract → Row → Bool
    allowed ds c r = implies (met ds r) (granted_to ds c.aid r)

    abbrev asked : Contract → Row → Row
    asked c r = record { aid = c.aid; tok = r.tok }

    granted_sees : CallsGranted cs₂ → T (calls_granted ds₁) → T (calls_granted ds₂)
    unfolding calls_granted
    granted_sees law h = in_every (λ c. every (allowed ds₂ c) c.calls) ds₂ (λ c mc.
        in_every (allowed ds₂ c) c.calls (λ r mr. implies_i (met ds₂ r) (granted_to ds₂ c.aid r) (go c mc r mr (test (at_end b c r)))))
      where
        -- the grant of a row with B at an end has B at an end
        end : (c p : Contract) (r : Row) → p.aid ≡ r.aid → T (at_end b c r) → T (at_end b p (asked c r))
        end c p r e t = on (or_e (eq_aid c.aid b) (eq_aid r.aid b) t)
          where
            on : T (eq_aid c.aid b) ⊎ T (eq_aid r.aid b) → T (at_end b p (asked c r))
            on (inl x) = or_r (eq_aid p.aid b) (eq_aid c.aid b) x
            on (inr x) = or_l (eq_aid p.aid b) (eq_aid c.aid b) (eq_aid_of (e ∙ eq_aid→ r.aid b x))

        go : (c : Contract) → In c ds₂ → (r : Row) → In r c.calls → T (at_end b c r) ⊎ (T (at_end b c r) → ⊥) → T (met ds₂ r) → T (granted_to ds₂ c.aid r)
        go c mc r mr (inl e) m =
            let (k, mk, p) = ag.back c mc in
            let g : T (granted_to ds₁ k.aid r) = implies_e (met ds₁ r) (granted_to ds₁ k.aid r)
            (every_in (allowed ds₁ k) k.calls (every_in (λ c. every (allowed ds₁ c) c.calls) ds₁ h mk) (seen (λ c. c.calls) c k p.calls r e mr)) (subst T (met_same (swap ag) r) m) in
            let g' : T (granted_to ds₁ c.aid r) = subst (λ (a : Aid). T (granted_to ds₁ a r)) (sym p.aid) g in
            under_sees ds₁ ds₂ ag.to r.aid (λ p. has_row (asked c r) p.grants)
            (λ p q _ _ a ep x. row_has (seen (λ c. c.grants) p q a.grants (asked c r) (end c p r ep e) (has_row_lem (asked c r) p.grants x))) g'
        go c mc r mr (inr ne) m =
            let (p, mp, t) = exists_in (λ p. eq_aid p.aid r.aid && has_tok r.tok p.provides) ds₂ m in
            let t₁ = eq_aid p.aid r.aid in
            let t₂ = has_tok r.tok p.provides in
            let e = eq_aid→ p.aid r.aid (and_l t₁ t₂ t) in
            let (no-c, no-r) = off c r ne in
            let g = law c p r ((o c no-c).1 mc) ((o p (λ q. no-r (sym e ∙ q))).1 mp) mr e (has_tok_lem r.tok p.provides (and_r t₁ t₂ t)) in
            in_exists (λ p. eq_aid p.aid r.aid && has_row (asked c r) p.grants) mp (and_i t₁ (has_row (asked c r) p.grants) (and_l t₁ t₂ t) (row_has g))

    needed_sees : NeedsPresent cs₂ → T (needs_met ds₁) → T (needs_met ds₂)
    unfolding needs_met
    needed_sees law h = in_every (λ c. every (met ds₂) c.needs) ds₂ (λ c mc. in_every (met ds₂) c.needs (λ r mr. go c mc r mr (test (at_end b c r))))
      where
        go : (c : Contract) → In c ds₂ → (r : Row) → In r c.needs → T (at_end b c r) ⊎ (T (at_end b c r) → ⊥) → T (met ds₂ r)
        go c mc r mr (inl e) =
            let (k, mk, p) = ag.back c mc in
            subst T (met_same ag r) (every_in (met ds₁) k.needs (every_in (λ c. every (met ds₁) c.needs) ds₁ h mk) (seen (λ c. c.needs) c k p.needs r e mr))
        go c mc r mr (inr ne) =
            let (no-c, no-r) = off c r ne in
            let (p, mp, e, s) = law c r ((o c no-c).1 mc) mr in
            in_exists (λ p. eq_aid p.aid r.aid && has_tok r.tok p.provides) ((o p (λ q. no-r (sym e ∙ q))).0 mp)
            (and_i (eq_aid p.aid r.aid) (has_tok r.tok p.provides) (eq_aid_of e) (tok_has s))

  module _ {cs₁ cs₂ ds₁ ds₂ : List Contract} (ag : Agree ds₁ ds₂) (o₁ : Others b cs₁ ds₁) (o₂ : Others b cs₂ ds₂) where
    pub granted_same : CallsGranted cs₁ → CallsGranted cs₂ → calls_granted ds₁ ≡ calls_granted ds₂
    granted_same l₁ l₂ = T_eq (calls_granted ds₁) (calls_granted ds₂) (granted_sees ds₁ ds₂ cs₂ ag o₂ l₂) (granted_sees ds₂ ds₁ cs₁ (swap ag) o₁ l₁)

    pub needed_same : NeedsPresent cs₁ → NeedsPresent cs₂ → needs_met ds₁ ≡ needs_met ds₂
    needed_same l₁ l₂ = T_eq (needs_met ds₁) (needs_met ds₂) (needed_sees ds₁ ds₂ cs₂ ag o₂ l₂) (needed_sees ds₂ ds₁ cs₁ (swap ag) o₁ l₁)
