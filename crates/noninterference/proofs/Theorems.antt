-- R-6: a record of B's on two cards that are alike.
use Prim.Native.Nat.{ℕ, zero, suc, ◌<◌}
use native.Mathlib.Omega.{arith}
use mathlib.Core.Path.{◌≡◌, refl, sym, ap, ◌∙◌, subst}
use mathlib.Core.Logic.{◌⊎◌, inl, inr}
use mathlib.Core.Bool.{not, ◌&&◌}
use mathlib.Core.List.{List, [], ◌∷◌, ◌++◌, map}
use mathlib.Core.List.{Memᴰ as In}
use mathlib.Core.Option.{Option, none, some}
use lib.Dec.{T, leb}
use lib.ListN.{length}
use Rattle.policy.specs.Lists.{from, first, or_else}
use Rattle.policy.specs.Contract.{Aid, eq_aid, Contract, met, waits, unmet_calls, waiting_grants}
use Rattle.policy.specs.Layout.{Layout, LayoutOk}
use Rattle.policy.specs.Record.{Request, Change, load, remove, add_service, remove_service, add_call, remove_call, add_grant, remove_grant, add_need, remove_need, replace, parse, proper}
use Rattle.policy.specs.Causes.{Cause, ◌when◌, answer}
use Rattle.policy.specs.Machine.{effect, causes4to7, causes8to11, causes3to11}
use Rattle.policy.specs.Tables.{Tables, decode}
use Rattle.policy.specs.Lookup.{numbers, number_of, free_number, contract_at}
use Rattle.policy.specs.Draft.{draft, number_for}
use Rattle.policy.specs.Judge.{Out, judge_causes, judged, judge}
use Rattle.policy.specs.History.{SameContract, StandsFor, image_after}
use Rattle.policy.specs.Numbering.{HasNumber, Numbered}
use Rattle.policy.specs.Claims.{RefusesWith}
use Rattle.policy.proofs.Sets.{T_eq, test, not_e, from_in, keep_in}
use Rattle.policy.proofs.Equal.{eq_aid→, eq_aid_of}
use Rattle.policy.proofs.Answers.{answer_append}
use Rattle.policy.proofs.ParseFacts.{parsed_within}
use Rattle.policy.proofs.SoundFacts.{sound_formed}
use Rattle.policy.proofs.Tests.{tests_agree}
use Rattle.policy.proofs.Effect.{effect_others}
use Rattle.policy.proofs.Step.{standing_allowed, turns, answers_agree}
use Rattle.policy.proofs.Theorems.{sound_stands, accepted_contracts}
use Rattle.policy.proofs.Entries.{answers_always}
use Rattle.policy.proofs.Settled.{judge_read, judge_malformed}
use Rattle.policy.proofs.Placing.{placing}
use Rattle.policy.proofs.Numbering.{second_number}
use Rattle.noninterference.specs.Alike.{Alike}
use Rattle.noninterference.specs.Claims.{Told, told, NotWatched, StayAlike, Turn, observed, KeptAlike, NeverTold}
use Rattle.noninterference.proofs.Agree.{same_sym, same_trans, Sets, Agrees, Sees, Agree, asked_calls, asked_grants, granted_same, needed_same}
use Rattle.noninterference.proofs.Counts.{count_same}
use Rattle.noninterference.proofs.Card.{formed, stands, sets, granted, needed, unmet_is, waiting_is, contract_at_lem}
use Rattle.noninterference.proofs.Effect.{same_agrees, effect_agree, early_same}

alike_sym : {L : Layout} {b : Aid} {x y : List ℕ} → Alike L b x y → Alike L b y x
alike_sym {L} {b} {x} {y} al = record {
  sound₁ = al.sound₂;
  sound₂ = al.sound₁;
  used = λ n. sym (al.used n);
  contracts = λ n u. same_sym (al.contracts n (subst T (sym (al.used n)) u));
  unmet_count = sym al.unmet_count;
  waiting_count = sym al.waiting_count;
}

-- ---- two cards that are alike, and what they stand for
module _ (L : Layout) (b : Aid) where
  alike_sees : (img₁ img₂ : List ℕ) (cs₁ cs₂ : List Contract) → StandsFor L img₁ cs₁ → StandsFor L img₂ cs₂ → Alike L b img₁ img₂ → Sees b cs₁ cs₂
  alike_sees img₁ img₂ cs₁ cs₂ f₁ f₂ al c mc =
      let (n, u, same) = f₁.these c mc in
      let (k, mk, at) = contract_at_lem L img₂ cs₂ f₂ n (subst T (al.used n) u) in (
        k,
        mk,
        same_trans (same_agrees b c (contract_at L (decode L img₁) n) same)
            (same_trans (al.contracts n u) (same_sym (same_agrees b k (contract_at L (decode L img₂) n) at))),
      )

  module _ (img₁ img₂ : List ℕ) (al : Alike L b img₁ img₂) where
    abbrev t₁ : Tables
    t₁ = decode L img₁

    abbrev t₂ : Tables
    t₂ = decode L img₂

    aid_same : (n : ℕ) → t₁.aid n ≡ t₂.aid n
    unfolding contract_at
    aid_same n = go (test (t₁.used n))
      where
        go : T (t₁.used n) ⊎ (T (t₁.used n) → ⊥) → t₁.aid n ≡ t₂.aid n
        go (inl u) = (al.contracts n u).aid
        go (inr u) = (sound_formed L img₁ al.sound₁).names.aid_blank n u ∙ sym ((sound_formed L img₂ al.sound₂).names.aid_blank n (λ v. u (subst T (sym (al.used n)) v)))

    -- the number that an acceptance returns
    number_same : (a : Aid) → number_for L t₁ a ≡ number_for L t₂ a
    unfolding number_for number_of free_number
    number_same a = λ i. or_else (first (λ n. al.used n i && eq_aid (aid_same n i) a) (numbers L)) (or_else (first (λ n. not (al.used n i)) (numbers L)) 255 (λ n. n)) (λ n. n)

-- what is told of an answer, with the number that an acceptance returns
abbrev told_of : ℕ → ℕ → Told
told_of m zero = record { answer = 0; second = m }
told_of m (suc n) = record { answer = suc n; second = 255 }

told_judged : (L : Layout) (img : List ℕ) (m : ℕ) (t : Tables) (n : ℕ) → told (judged L img m t n) ≡ told_of m n
told_judged L img m t zero = refl
told_judged L img m t (suc n) = refl

-- ---- a record that was read
module _ (L : Layout) (lo : LayoutOk L) (s : List ℕ) (q : Request) (e : parse L s ≡ some q) where
  abbrev b : Aid
  b = q.aid

  abbrev ch : Change
  ch = q.change

  abbrev early : List Contract → List Cause
  early cs = 3 when not (proper L b ch) ∷ causes4to7 L cs b ch

  module _ (img : List ℕ) (cs : List Contract) (f : StandsFor L img cs) where
    -- what it would leave are sets
    leaves_sets : answer (early cs) ≡ 0 → Sets (effect L cs b ch)
    leaves_sets z =
        let v = parsed_within L s q e in
        let same = tests_agree L (decode L img) cs (formed L img cs f) (stands L img cs f) b ch in
        let h = turns L lo (decode L img) cs (formed L img cs f) (stands L img cs f) q v.0 v.1 (standing_allowed L img cs f)
        (ap (λ (l : List Cause). answer (3 when not (proper L b ch) ∷ l)) same ∙ z) in
        record { one_each = h.stands.one_each; four_sets = h.stands.four_sets }

    told_is : told (judge L img s) ≡ told_of (number_for L (decode L img) b) (answer (causes3to11 L cs q))
    told_is =
        let v = parsed_within L s q e in
        let same = answers_agree L lo (decode L img) cs (formed L img cs f) (stands L img cs f) q v.0 v.1 (standing_allowed L img cs f) in
        ap told (judge_read L img s f.is_sound (some q) e)
        ∙ told_judged L img (number_for L (decode L img) b) (draft L (decode L img) b ch).tables (answer (judge_causes L (decode L img) q))
        ∙ ap (told_of (number_for L (decode L img) b)) same

  -- ---- on two cards
  module _ (img₁ img₂ : List ℕ) (cs₁ cs₂ : List Contract) (f₁ : StandsFor L img₁ cs₁) (f₂ : StandsFor L img₂ cs₂) (al : Alike L b img₁ img₂) where
    abbrev ds₁ : List Contract
    ds₁ = effect L cs₁ b ch

    abbrev ds₂ : List Contract
    ds₂ = effect L cs₂ b ch

    before : Agree b cs₁ cs₂
    before = record { to = alike_sees L b img₁ img₂ cs₁ cs₂ f₁ f₂ al; back = alike_sees L b img₂ img₁ cs₂ cs₁ f₂ f₁ (alike_sym al) }

    after : Agree b ds₁ ds₂
    after = effect_agree L b ch before

    early_is : early cs₁ ≡ early cs₂
    early_is = ap (λ (l : List Cause). 3 when not (proper L b ch) ∷ l) (early_same L b before (sets L img₁ cs₁ f₁) (sets L img₂ cs₂ f₂) ch)

    module _ (sd₁ : Sets ds₁) (sd₂ : Sets ds₂) where
      unmet_same : length (unmet_calls ds₁) ≡ length (unmet_calls ds₂)
      unfolding unmet_calls
      unmet_same = count_same b (λ c. c.calls) (λ cs _ r. not (met cs r)) (asked_calls b) cs₁ cs₂ ds₁ ds₂ (sets L img₁ cs₁ f₁) (sets L img₂ cs₂ f₂) sd₁ sd₂
          before after (effect_others L b ch cs₁) (effect_others L b ch cs₂) (sym (unmet_is L img₁ cs₁ f₁) ∙ al.unmet_count ∙ unmet_is L img₂ cs₂ f₂)

      waiting_same : length (waiting_grants ds₁) ≡ length (waiting_grants ds₂)
      unfolding waiting_grants
      waiting_same = count_same b (λ c. c.grants) (λ cs. waits cs) (asked_grants b) cs₁ cs₂ ds₁ ds₂ (sets L img₁ cs₁ f₁) (sets L img₂ cs₂ f₂) sd₁ sd₂
          before after (effect_others L b ch cs₁) (effect_others L b ch cs₂) (sym (waiting_is L img₁ cs₁ f₁) ∙ al.waiting_count ∙ waiting_is L img₂ cs₂ f₂)

      late_is : causes8to11 L ds₁ ≡ causes8to11 L ds₂
      late_is = λ i.
          8 when not (granted_same b after (effect_others L b ch cs₁) (effect_others L b ch cs₂) (granted L img₁ cs₁ f₁) (granted L img₂ cs₂ f₂) i)
          ∷ 9 when not (needed_same b after (effect_others L b ch cs₁) (effect_others L b ch cs₂) (needed L img₁ cs₁ f₁) (needed L img₂ cs₂ f₂) i)
          ∷ 10 when not (leb (unmet_same i) L.capacity)
          ∷ 11 when not (leb (waiting_same i) L.capacity)
          ∷ []

    answers_same : answer (causes3to11 L cs₁ q) ≡ answer (causes3to11 L cs₂ q)
    answers_same =
        answer_append (early cs₁) (causes8to11 L ds₁) (causes8to11 L ds₂)
        (λ z. ap answer (late_is (leaves_sets img₁ cs₁ f₁ z) (leaves_sets img₂ cs₂ f₂ (ap answer (sym early_is) ∙ z))))
        ∙ ap (λ (l : List Cause). answer (l ++ causes8to11 L ds₂)) early_is

    told_same : told (judge L img₁ s) ≡ told (judge L img₂ s)
    told_same = told_is img₁ cs₁ f₁ ∙ (λ i. told_of (number_same L b img₁ img₂ al b i) (answers_same i)) ∙ sym (told_is img₂ cs₂ f₂)

  -- ---- what an acceptance leaves
  module _ (img : List ℕ) (cs : List Contract) (f : StandsFor L img cs) (z : (judge L img s).answered ≡ 0) where
    abbrev left : Tables
    left = decode L (judge L img s).bytes

    left_stands : StandsFor L (judge L img s).bytes (effect L cs b ch)
    left_stands = accepted_contracts L lo img s cs q f e z

    -- B's number is the second number, where B is installed
    own_number : (n : ℕ) → T (left.used n) → left.aid n ≡ b → n ≡ (judge L img s).second
    own_number n u is = go ch (second_number L lo img s q f.is_sound e z) left_stands
      where
        at : HasNumber left b (judge L img s).second → n ≡ (judge L img s).second
        at h = (formed L (judge L img s).bytes (effect L cs b ch) left_stands).names.aid_inj n (judge L img s).second u h.0 (is ∙ sym h.1)

        go : (c : Change) → Numbered (decode L img) left b c (judge L img s).second → StandsFor L (judge L img s).bytes (effect L cs b c) → n ≡ (judge L img s).second
        go (load p c g l) h st = at h
        go remove h st =
            let (c, mc, ec) = st.no_others n u in
            absurd (not_e (eq_aid c.aid b) (keep_in (λ k. not (eq_aid k.aid b)) cs mc).1 (eq_aid_of (ec ∙ is)))
        go (add_service x l) h st = at h
        go (remove_service x) h st = at h
        go (add_call r) h st = at h
        go (remove_call r) h st = at h
        go (add_grant r) h st = at h
        go (remove_grant r) h st = at h
        go (add_need r) h st = at h
        go (remove_need r) h st = at h
        go (replace p c g l) h st = at h

    -- another package has the number that it had
    other_number : (c : Contract) → In c (effect L cs b ch) → (c.aid ≡ b → ⊥) → (n : ℕ) → T (left.used n) → c.aid ≡ left.aid n → HasNumber (decode L img) c.aid n
    unfolding contract_at
    other_number c mc ne n u is =
        let (m, um, same) = f.these c ((effect_others L b ch cs c ne).1 mc) in
        let at : m ≡ n = ((placing L lo img s q f.is_sound e z).packages_stay m n um u).0 (sym same.aid ∙ is) in
        subst (λ (k : ℕ). HasNumber (decode L img) c.aid k) at (um, sym same.aid)

  -- a number used on the first card is used on the second, and the contracts of both agree
  matched : (img₁ img₂ : List ℕ) (cs₁ cs₂ : List Contract) (f₁ : StandsFor L img₁ cs₁) (f₂ : StandsFor L img₂ cs₂) (al : Alike L b img₁ img₂)
      → (z₁ : (judge L img₁ s).answered ≡ 0) (z₂ : (judge L img₂ s).answered ≡ 0) (n : ℕ) → T ((left img₁ cs₁ f₁ z₁).used n)
      → T ((left img₂ cs₂ f₂ z₂).used n) × Agrees b (contract_at L (left img₁ cs₁ f₁ z₁) n) (contract_at L (left img₂ cs₂ f₂ z₂) n)
  unfolding contract_at
  matched img₁ img₂ cs₁ cs₂ f₁ f₂ al z₁ z₂ n u =
      let (c, mc, at₁) = contract_at_lem L (judge L img₁ s).bytes (effect L cs₁ b ch) (left_stands img₁ cs₁ f₁ z₁) n u in
      let (k, mk, a) = (after img₁ img₂ cs₁ cs₂ f₁ f₂ al).to c mc in
      let (m, um, at₂) = (left_stands img₂ cs₂ f₂ z₂).these k mk in
      let same : n ≡ m = go c k m mc mk um at₁.aid at₂.aid a.aid (test (eq_aid c.aid b)) in (
        subst (λ (z : ℕ). T ((left img₂ cs₂ f₂ z₂).used z)) (sym same) um,
        same_trans (same_sym (same_agrees b c (contract_at L (left img₁ cs₁ f₁ z₁) n) at₁))
            (same_trans a (same_agrees b k (contract_at L (left img₂ cs₂ f₂ z₂) n) (subst (λ (z : ℕ). SameContract k (contract_at L (left img₂ cs₂ f₂ z₂) z)) (sym same) at₂))),
      )
    where
      go : (c k : Contract) (m : ℕ) → In c (effect L cs₁ b ch) → In k (effect L cs₂ b ch) → T ((left img₂ cs₂ f₂ z₂).used m)
          → c.aid ≡ (left img₁ cs₁ f₁ z₁).aid n → k.aid ≡ (left img₂ cs₂ f₂ z₂).aid m → c.aid ≡ k.aid → T (eq_aid c.aid b) ⊎ (T (eq_aid c.aid b) → ⊥) → n ≡ m
      go c k m mc mk um e₁ e₂ is (inl t) =
          let own = eq_aid→ c.aid b t in
          own_number img₁ cs₁ f₁ z₁ n u (sym e₁ ∙ own) ∙ ap (λ (o : Told). o.second) (told_same img₁ img₂ cs₁ cs₂ f₁ f₂ al) ∙ sym (own_number img₂ cs₂ f₂ z₂ m um (sym e₂ ∙ sym is ∙ own))
      go c k m mc mk um e₁ e₂ is (inr ne) =
          let h₁ = other_number img₁ cs₁ f₁ z₁ c mc (λ x. ne (eq_aid_of x)) n u e₁ in
          let h₂ = other_number img₂ cs₂ f₂ z₂ k mk (λ x. ne (eq_aid_of (is ∙ x))) m um e₂ in
          (formed L img₂ cs₂ f₂).names.aid_inj n m (subst T (al.used n) h₁.0) h₂.0 (sym (aid_same L b img₁ img₂ al n) ∙ h₁.1 ∙ is ∙ sym h₂.1)

  accepted_alike : (img₁ img₂ : List ℕ) (cs₁ cs₂ : List Contract) (f₁ : StandsFor L img₁ cs₁) (f₂ : StandsFor L img₂ cs₂) → Alike L b img₁ img₂
      → (judge L img₁ s).answered ≡ 0 → (judge L img₂ s).answered ≡ 0 → Alike L b (judge L img₁ s).bytes (judge L img₂ s).bytes
  accepted_alike img₁ img₂ cs₁ cs₂ f₁ f₂ al z₁ z₂ =
      let g₁ = left_stands img₁ cs₁ f₁ z₁ in
      let g₂ = left_stands img₂ cs₂ f₂ z₂ in
      let x₁ = (judge L img₁ s).bytes in
      let x₂ = (judge L img₂ s).bytes in
      let ds₁ = effect L cs₁ b ch in
      let ds₂ = effect L cs₂ b ch in
      let to = matched img₁ img₂ cs₁ cs₂ f₁ f₂ al z₁ z₂ in
      record {
        sound₁ = g₁.is_sound;
        sound₂ = g₂.is_sound;
        used = λ n. T_eq ((decode L x₁).used n) ((decode L x₂).used n) (λ u. (to n u).0) (λ u. (matched img₂ img₁ cs₂ cs₁ f₂ f₁ (alike_sym al) z₂ z₁ n u).0);
        contracts = λ n u. (to n u).1;
        unmet_count = unmet_is L x₁ ds₁ g₁ ∙ unmet_same img₁ img₂ cs₁ cs₂ f₁ f₂ al (sets L x₁ ds₁ g₁) (sets L x₂ ds₂ g₂) ∙ sym (unmet_is L x₂ ds₂ g₂);
        waiting_count = waiting_is L x₁ ds₁ g₁ ∙ waiting_same img₁ img₂ cs₁ cs₂ f₁ f₂ al (sets L x₁ ds₁ g₁) (sets L x₂ ds₂ g₂) ∙ sym (waiting_is L x₂ ds₂ g₂);
      }

-- ---- the theorems
module _ (L : Layout) (lo : LayoutOk L) where
  pub not_watched : NotWatched L
  not_watched b img₁ img₂ s al of = go (parse L s) refl
    where
      go : (o : Option Request) → parse L s ≡ o → told (judge L img₁ s) ≡ told (judge L img₂ s)
      go none e = ap told (judge_malformed L img₁ s al.sound₁ e) ∙ ap told (sym (judge_malformed L img₂ s al.sound₂ e))
      go (some q) e =
          let (cs₁, f₁) = sound_stands L lo img₁ al.sound₁ in
          let (cs₂, f₂) = sound_stands L lo img₂ al.sound₂ in
          told_same L lo s q e img₁ img₂ cs₁ cs₂ f₁ f₂ (subst (λ (a : Aid). Alike L a img₁ img₂) (sym (of q e)) al)

  -- a refusal leaves the image
  refused_stays : (img s : List ℕ) → ((judge L img s).answered ≡ 0 → ⊥) → (judge L img s).bytes ≡ img
  refused_stays img s n = go ((answers_always L).judging img s)
    where
      go : (((judge L img s).answered ≡ 0) × ((judge L img s).second < L.packages)) ⊎ RefusesWith (from 1 11) 255 img (judge L img s) → (judge L img s).bytes ≡ img
      go (inl h) = absurd (n h.0)
      go (inr (_, _, e)) = ap (λ (o : Out). o.bytes) e

  pub stay_alike : StayAlike L
  stay_alike b img₁ img₂ s al of = go ((answers_always L).judging img₁ s) (parse L s) refl
    where
      same : (judge L img₁ s).answered ≡ (judge L img₂ s).answered
      same = ap (λ (o : Told). o.answer) (not_watched b img₁ img₂ s al of)

      refused : ((judge L img₁ s).answered ≡ 0 → ⊥) → Alike L b (judge L img₁ s).bytes (judge L img₂ s).bytes
      refused n = subst (λ (x : List ℕ). Alike L b x (judge L img₂ s).bytes) (sym (refused_stays img₁ s n))
          (subst (λ (x : List ℕ). Alike L b img₁ x) (sym (refused_stays img₂ s (λ z. n (same ∙ z)))) al)

      go : (((judge L img₁ s).answered ≡ 0) × ((judge L img₁ s).second < L.packages)) ⊎ RefusesWith (from 1 11) 255 img₁ (judge L img₁ s) → (o : Option Request) → parse L s ≡ o
          → Alike L b (judge L img₁ s).bytes (judge L img₂ s).bytes
      go (inr (n, m, e)) o p = refused (λ z. let h = from_in 1 11 m in let k : n ≡ 0 = sym (ap (λ (o : Out). o.answered) e) ∙ z in omega arith)
      go (inl (z, _)) none p = refused (λ z. let k = sym (ap (λ (o : Out). o.answered) (judge_malformed L img₁ s al.sound₁ p)) ∙ z in omega arith)
      go (inl (z, _)) (some q) p =
          let (cs₁, f₁) = sound_stands L lo img₁ al.sound₁ in
          let (cs₂, f₂) = sound_stands L lo img₂ al.sound₂ in
          subst (λ (a : Aid). Alike L a (judge L img₁ s).bytes (judge L img₂ s).bytes) (of q p)
          (accepted_alike L lo s q p img₁ img₂ cs₁ cs₂ f₁ f₂ (subst (λ (a : Aid). Alike L a img₁ img₂) (sym (of q p)) al) z (sym same ∙ z))

  pub never_told : NeverTold L
  unfolding observed
  never_told b next of img₁ img₂ turns al kept = go img₁ img₂ [] turns al kept
    where
      go : (img₁ img₂ : List ℕ) (so : List Told) (turns : List Turn) → Alike L b img₁ img₂ → KeptAlike L next b img₁ img₂ so turns
          → observed L next img₁ so (map (λ t. t.first) turns) ≡ observed L next img₂ so (map (λ t. t.second) turns)
      go img₁ img₂ so [] al kept = refl
      go img₁ img₂ so (t ∷ turns) al (keep, kept) =
          let x₁ = image_after L img₁ t.first in
          let x₂ = image_after L img₂ t.second in
          let al' = keep al in
          let same = not_watched b x₁ x₂ (next so) al' (of so) in
          go (judge L x₁ (next so)).bytes (judge L x₂ (next so)).bytes (told (judge L x₁ (next so)) ∷ so) turns (stay_alike b x₁ x₂ (next so) al' (of so)) kept
          ∙ ap (λ (o : Told). observed L next (judge L x₂ (next so)).bytes (o ∷ so) (map (λ t. t.second) turns)) same
