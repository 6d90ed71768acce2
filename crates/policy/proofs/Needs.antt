-- The theorems of specs/Needs.antt.
use Prim.Native.Nat.{ℕ, ◌<◌}
use native.Mathlib.Omega.{arith}
use mathlib.Core.Path.{◌≡◌, refl, sym, ap, ◌∙◌, subst}
use mathlib.Core.Logic.Iff
use mathlib.Core.Logic.{◌⊎◌, inl, inr, ◌↔◌}
use mathlib.Core.Bool.{Bool, true, false, not, cond}
use mathlib.Core.List.{List, [], ◌∷◌, map}
use mathlib.Core.List.Memᴰ.{cases_cons as in_cons}
use mathlib.Core.List.Memᴰ.{head as here}
use mathlib.Core.List.Memᴰ.{tail as there}
use mathlib.Core.List.{Memᴰ as In}
use mathlib.Core.List.Memᴰ.{append_cases as in_append}
use mathlib.Core.List.Memᴰ.{append_left as in_left}
use mathlib.Core.List.Memᴰ.{append_right as in_right}
use mathlib.Core.Option.{Option, none, some}
use lib.Dec.{T}
use Rattle.policy.specs.Lists.{from}
use Rattle.policy.specs.Contract.{Aid, eq_aid, Row, eq_row, Contract}
use Rattle.policy.specs.Layout.{Layout, LayoutOk, renewed, retired}
use Rattle.policy.specs.Record.{Request, Change, load, remove, add_service, remove_service, add_call, remove_call, add_grant, remove_grant, add_need, remove_need, replace, parse}
use Rattle.policy.specs.Machine.{without_row, altered, alter, effect}
use Rattle.policy.specs.Tables.{Tables, decode}
use Rattle.policy.specs.Lookup.{contract_at}
use Rattle.policy.specs.Sound.{sound}
use Rattle.policy.specs.Judge.{Out, judge}
use Rattle.policy.specs.Records.{kind_of}
use Rattle.policy.specs.History.{StandsFor, image_after}
use Rattle.policy.specs.Numbering.{HasNumber, Numbered}
use Rattle.policy.specs.Claims.{RefusesWith}
use Rattle.policy.specs.Needs.{NeededBy, NeedsOn, NeedsAfter, MovesNeed, NeedsStay, NeedsGoOn}
use Rattle.policy.proofs.Sets.{test, not_i, not_e, cond_true, each_one, keep_in, in_keep, in_map, map_in}
use Rattle.policy.proofs.Equal.{eq_aid→, eq_aid_of, eq_row→, eq_row_refl}
use Rattle.policy.proofs.Effect.{effect_others}
use Rattle.policy.proofs.ParseFacts.{parsed_kind}
use Rattle.policy.proofs.SoundFacts.{sound_formed}
use Rattle.policy.proofs.Settled.{judge_malformed}
use Rattle.policy.proofs.Step.{step}
use Rattle.policy.proofs.Theorems.{sound_stands, accepted_contracts, renewed_ok, so_far}
use Rattle.policy.proofs.Entries.{answers_always}
use Rattle.policy.proofs.Numbering.{second_number}

-- ---- by contracts: that of a needs r
abbrev Held : List Contract → Aid → (Contract → List Row) → Row → Type 0
Held cs a f r = (c : Contract) × In c cs × (c.aid ≡ a) × In r (f c)

abbrev Needs : List Contract → Aid → Row → Type 0
Needs cs a r = Held cs a (λ c. c.needs) r

-- one contract is altered, that of b
module _ (cs : List Contract) (b : Aid) (f : Contract → Contract) (same : (k : Contract) → (f k).aid ≡ k.aid) (a : Aid) where
  abbrev turned : Contract → Contract
  turned k = cond (eq_aid k.aid b) (f k) k

  aid_kept : (k : Contract) → (turned k).aid ≡ k.aid
  aid_kept k = go (eq_aid k.aid b)
    where
      go : (x : Bool) → (cond x (f k) k).aid ≡ k.aid
      go true = same k
      go false = refl

  of_contract : {d : Contract} → In d (alter b f cs) → d.aid ≡ a → (c : Contract) × In c cs × (c.aid ≡ a) × (d ≡ turned c)
  of_contract m e = let (c, mc, ed) = map_in turned cs m in (c, mc, sym (aid_kept c) ∙ ap (λ (z : Contract). z.aid) (sym ed) ∙ e, ed)

  of_own : b ≡ a → (r : Row) → Needs (alter b f cs) a r ↔ Held cs a (λ c. (f c).needs) r
  of_own q r = (
    λ (d, m, e, h). let (c, mc, ec, ed) = of_contract m e in (c, mc, ec, subst (λ (z : Contract). In r z.needs) (ed ∙ is c ec) h),
    λ (c, m, e, h). (turned c, in_map turned m, aid_kept c ∙ e, subst (λ (z : Contract). In r z.needs) (sym (is c e)) h),
  )
    where
      is : (c : Contract) → c.aid ≡ a → turned c ≡ f c
      is c e = cond_true (eq_aid c.aid b) (f c) c (eq_aid_of (e ∙ sym q))

-- ---- by kind
module _ (L : Layout) (cs : List Contract) (b a : Aid) (r : Row) where
  -- the others
  other : (b ≡ a → ⊥) → (c : Change) → Needs (effect L cs b c) a r ↔ Needs cs a r
  other n c = (
    λ (d, m, e, h). (d, (effect_others L b c cs d (λ q. n (sym q ∙ e))).1 m, e, h),
    λ (d, m, e, h). (d, (effect_others L b c cs d (λ q. n (sym q ∙ e))).0 m, e, h),
  )

  -- the record's own package, on an image that stands for what the record leaves; B says whether it needed r
  module _ (e : b ≡ a) (t : Tables) (img : List ℕ) (m : ℕ) (B : Type 0) (was : B ↔ Needs cs a r) where
    own_stays : (c : Change) → ((k : Contract) → (altered L c k).aid ≡ k.aid) → ((k : Contract) → (altered L c k).needs ≡ k.needs) → Needs (alter b (altered L c) cs) a r ↔ B
    own_stays c same needs = Iff.trans (of_own cs b (altered L c) same a e r) (Iff.trans (
      λ (d, md, ed, h). (d, md, ed, subst (λ (z : List Row). In r z) (needs d) h),
      λ (d, md, ed, h). (d, md, ed, subst (λ (z : List Row). In r z) (sym (needs d)) h),
    ) (Iff.symm was))

    -- the row x goes from the needs
    own_without : (c : Change) (x : Row) → ((k : Contract) → (altered L c k).aid ≡ k.aid) → ((k : Contract) → (altered L c k).needs ≡ without_row x k.needs)
        → Needs (alter b (altered L c) cs) a r ↔ (B × (x ≡ r → ⊥))
    own_without c x same needs = Iff.trans (of_own cs b (altered L c) same a e r) (
      λ (d, md, ed, h). let k = keep_in (λ y. not (eq_row x y)) d.needs (subst (λ (z : List Row). In r z) (needs d) h) in
          (was.1 (d, md, ed, k.0), λ q. not_e (eq_row x r) k.1 (subst (λ (z : Row). T (eq_row x z)) q (eq_row_refl x))),
      λ (y, n). let (d, md, ed, h) = was.0 y in
          (d, md, ed, subst (λ (z : List Row). In r z) (sym (needs d)) (in_keep (λ y. not (eq_row x y)) h (not_i (eq_row x r) (λ q. n (eq_row→ x r q))))),
    )

    -- a package whose contract was altered had one
    had : (f : Contract → Contract) → ((k : Contract) → (f k).aid ≡ k.aid) → StandsFor L img (alter b f cs) → HasNumber (decode L img) b m → (k : Contract) × In k cs × (k.aid ≡ a)
    had f same st num =
        let (d, md, ed) = st.no_others m num.0 in
        let (k, mk, ek, _) = of_contract cs b f same a md (ed ∙ num.1 ∙ e) in
        (k, mk, ek)

    own : (c : Change) → StandsFor L img (effect L cs b c) → Numbered t (decode L img) b c m → Needs (effect L cs b c) a r ↔ NeededBy c r B
    own (load p c g l) f num = (λ (d, md, ed, h). go d ed h (in_cons md), λ h. (_, here refl, e, h))
      where
        go : (d : Contract) → d.aid ≡ a → In r d.needs → (d ≡ record { aid = b; provides = p; calls = c; grants = g; needs = l }) ⊎ In d cs → In r l
        go d ed h (inl x) = subst (λ (z : Contract). In r z.needs) x h
        go d ed h (inr md) = absurd (f.one_each.0 (subst (λ (z : Aid). In z (map (λ c. c.aid) cs)) (ed ∙ sym e) (in_map (λ c. c.aid) md)))
    own remove f num = (λ (d, md, ed, h). not_e (eq_aid d.aid b) (keep_in (λ k. not (eq_aid k.aid b)) cs md).1 (eq_aid_of (ed ∙ sym e)), λ h. absurd h)
    own (add_service s l) f num = own_stays (add_service s l) (λ k. refl) (λ k. refl)
    own (remove_service s) f num = own_stays (remove_service s) (λ k. refl) (λ k. refl)
    own (add_call x) f num = own_stays (add_call x) (λ k. refl) (λ k. refl)
    own (remove_call x) f num = own_without (remove_call x) x (λ k. refl) (λ k. refl)
    own (add_grant x) f num = own_stays (add_grant x) (λ k. refl) (λ k. refl)
    own (remove_grant x) f num = own_stays (remove_grant x) (λ k. refl) (λ k. refl)
    own (add_need x) f num = Iff.trans (of_own cs b (altered L (add_need x)) (λ k. refl) a e r) (λ (d, md, ed, h). to d md ed (in_append d.needs h), back)
      where
        to : (d : Contract) → In d cs → d.aid ≡ a → In r d.needs ⊎ In r (x ∷ []) → B ⊎ (x ≡ r)
        to d md ed (inl h) = inl (was.1 (d, md, ed, h))
        to d md ed (inr h) = inr (each_one (λ y. x ≡ y) x refl r h)

        back : B ⊎ (x ≡ r) → Held cs a (λ c. (altered L (add_need x) c).needs) r
        back (inl y) = let (d, md, ed, h) = was.0 y in (d, md, ed, in_left (x ∷ []) h)
        back (inr q) = let (k, mk, ek) = had (altered L (add_need x)) (λ k. refl) f num in (k, mk, ek, in_right k.needs (here (sym q)))
    own (remove_need x) f num = own_without (remove_need x) x (λ k. refl) (λ k. refl)
    own (replace p c g l) f num =
        let (k, mk, ek) = had (altered L (replace p c g l)) (λ k. refl) f num in
        Iff.trans (of_own cs b (altered L (replace p c g l)) (λ k. refl) a e r) (λ (d, md, ed, h). h, λ h. (k, mk, ek, h))

-- ---- on images
module _ (L : Layout) where
  needs_held : (img : List ℕ) (cs : List Contract) → StandsFor L img cs → (a : Aid) (r : Row) → NeedsOn L img a r ↔ Needs cs a r
  unfolding contract_at
  needs_held img cs f a r = (to, λ (c, mc, e, m). let (n, u, same) = f.these c mc in (n, u, sym same.aid ∙ e, (same.needs r).0 m))
    where
      to : NeedsOn L img a r → Needs cs a r
      to (n, u, e, m) =
          let (c, mc, ec) = f.no_others n u in
          let (k, uk, same) = f.these c mc in
          let at : k ≡ n = (sound_formed L img f.is_sound).names.aid_inj k n uk u (sym same.aid ∙ ec) in
          (c, mc, ec ∙ e, (same.needs r).1 (subst (λ (z : ℕ). In r (contract_at L (decode L img) z).needs) (sym at) m))

module _ (L : Layout) (lo : LayoutOk L) where
  pub needs_after : NeedsAfter L
  needs_after img s q ok e z a r =
      let (cs, f) = sound_stands L lo img ok in
      let after = accepted_contracts L lo img s cs q f e z in
      let was = needs_held L img cs f a r in
      let is = needs_held L (judge L img s).bytes (effect L cs q.aid q.change) after a r in (
        λ same. Iff.trans is (own L cs q.aid a r same (decode L img) (judge L img s).bytes (judge L img s).second (NeedsOn L img a r) was q.change
            after (second_number L lo img s q ok e z)),
        λ n. Iff.trans is (Iff.trans (other L cs q.aid a r n q.change) (Iff.symm was)),
      )

module _ (L : Layout) (lo : LayoutOk L) (no_9 : T (L.reads 9) → ⊥) (no-10 : T (L.reads 10) → ⊥) where
  -- one record that moves no need r of a
  module _ (img s : List ℕ) (a : Aid) (r : Row) (ok : T (sound L img)) (off : MovesNeed L a r s → ⊥) where
    stays : (q : Request) → parse L s ≡ some q → (q.aid ≡ a) → {B : Type 0} → NeededBy q.change r B ↔ B
    stays q e same {B} = go q.change (λ h. off (q, e, same, h)) (parsed_kind L s q e)
      where
        go : (c : Change) → (In (kind_of c) (1 ∷ 2 ∷ 11 ∷ []) ⊎ (c ≡ remove_call r) → ⊥) → T (L.reads (kind_of c)) → NeededBy c r B ↔ B
        go (load p c g l) n on = absurd (n (inl (here refl)))
        go remove n on = absurd (n (inl (there (here refl))))
        go (add_service x l) n on = Iff.rfl
        go (remove_service x) n on = Iff.rfl
        go (add_call x) n on = Iff.rfl
        go (remove_call x) n on = (λ h. h.0, λ h. (h, λ q. n (inr (ap remove_call q))))
        go (add_grant x) n on = Iff.rfl
        go (remove_grant x) n on = Iff.rfl
        go (add_need x) n on = absurd (no_9 on)
        go (remove_need x) n on = absurd (no-10 on)
        go (replace p c g l) n on = absurd (n (inl (there (there (here refl)))))

    accepted : (judge L img s).answered ≡ 0 → (o : Option Request) → parse L s ≡ o → NeedsOn L (judge L img s).bytes a r ↔ NeedsOn L img a r
    accepted z none e = absurd (two (sym (ap (λ (o : Out). o.answered) (judge_malformed L img s ok e)) ∙ z))
      where
        two : ◌≡◌ {A = ℕ} 2 0 → ⊥
        two h = omega arith
    accepted z (some q) e = go (test (eq_aid q.aid a))
      where
        go : T (eq_aid q.aid a) ⊎ (T (eq_aid q.aid a) → ⊥) → NeedsOn L (judge L img s).bytes a r ↔ NeedsOn L img a r
        go (inl h) = let same = eq_aid→ q.aid a h in Iff.trans ((needs_after L lo img s q ok e z a r).0 same) (stays q e same)
        go (inr h) = (needs_after L lo img s q ok e z a r).1 (λ same. h (eq_aid_of same))

    one_stays : NeedsOn L (judge L img s).bytes a r ↔ NeedsOn L img a r
    one_stays = go ((answers_always L).judging img s)
      where
        go : (((judge L img s).answered ≡ 0) × ((judge L img s).second < L.packages)) ⊎ RefusesWith (from 1 11) 255 img (judge L img s) → NeedsOn L (judge L img s).bytes a r ↔ NeedsOn L img a r
        go (inl h) = accepted h.0 (parse L s) refl
        go (inr (n, _, e)) = subst (λ (z : List ℕ). NeedsOn L z a r ↔ NeedsOn L img a r) (ap (λ (o : Out). o.bytes) (sym e)) Iff.rfl

  pub needs_stay : NeedsStay L
  unfolding image_after
  needs_stay img [] a r ok off = Iff.rfl
  needs_stay img (s ∷ ss) a r ok off =
      let (cs, f) = sound_stands L lo img ok in
      Iff.trans (needs_stay (judge L img s).bytes ss a r (step L lo img s cs f).1.is_sound (λ x m. off x (there m))) (one_stays img s a r ok (off s (here refl)))

pub needs_go_on : NeedsGoOn
needs_go_on img ok a r =
    let (cs, f) = sound_stands renewed renewed_ok img ok in
    Iff.trans (needs_held renewed img cs f a r) (Iff.symm (needs_held retired img cs (so_far.retirement.goes_on img cs f) a r))
