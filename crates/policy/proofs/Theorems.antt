-- The theorems of specs/Claims.antt, for every layout that is ok, and at the cards of eight packages and of sixteen.
use Prim.Native.Nat.{ℕ, zero, suc, ◌<◌}
use native.Mathlib.Omega.{arith}
use mathlib.Core.Path.{◌≡◌, refl, sym, ap, ◌∙◌, subst}
use mathlib.Core.Logic.{◌⊎◌, inl, inr}
use mathlib.Core.Bool.{Bool, true, false, not, ◌&&◌, cond}
use mathlib.Core.List.{List, [], ◌∷◌, ◌++◌, map}
use mathlib.Core.List.Memᴰ.{cases_cons as in_cons}
use mathlib.Core.List.Memᴰ.{head as here}
use mathlib.Core.List.Memᴰ.{not-nil as in_nil}
use mathlib.Core.List.Memᴰ.{tail as there}
use mathlib.Core.List.{Memᴰ as In}
use mathlib.Core.List.Memᴰ.{append_cases as in_append}
use mathlib.Core.List.Memᴰ.{cast as in_cast}
use mathlib.Core.Option.{Option, none, some}
use lib.Dec.{T, leb, leb→le, le→leb, ltb, ltb→lt, lit≤}
use lib.ListN.{length, get_or, take, drop, length-append}
use Rattle.policy.specs.Lists.{every, or_else}
use Rattle.policy.specs.Contract.{Aid, eq_aid, Tok, Contract, under, lawful, calls_granted, needs_met, unmet_calls, waiting_grants}
use Rattle.policy.specs.Layout.{Layout, LayoutOk, eleven, nine, card_of, base, narrow, ahead, renewed, retired, small, large, aids_at, tokens_at, provides_at, calls_at, grants_at, needs_at, unmet_at, waiting_at, size}
use Rattle.policy.specs.Record.{Request, Change, load, remove, add_service, remove_service, add_call, remove_call, add_grant, remove_grant, add_need, remove_need, replace, valid_tok, parse, proper}
use Rattle.policy.specs.Causes.{Cause, ◌when◌, answer}
use Rattle.policy.specs.Machine.{Held, held, effect, altered, causes4to7, causes8to11, causes3to11, machine}
use Rattle.policy.specs.Tables.{write_waiting, write_list, decode, empty_image}
use Rattle.policy.specs.Lookup.{used_numbers, contract_at}
use Rattle.policy.specs.Sound.{sound}
use Rattle.policy.specs.Judge.{Out, refusal, judge_tables, judge, load_record}
use Rattle.policy.specs.Records.{load_of, request_of}
use Rattle.policy.specs.History.{SameContract, AllValid, AllAllowed, StandsFor, image_after, machine_answers, contracts_after}
use Rattle.policy.specs.Marked.{Line, line_of, lines_from, removal_of, load_h, load_b, cases, CaseOver, providing128, calling128, holding127, cases_converted, cases_renewed, cases_needs, cases_retired, cases_large, cases_enlarged, replacing}
use Rattle.policy.specs.Eras.{carried, Widens, SameBytes, Passes, Era, AllPass, answers_over, image_over, machine_answers_over, contracts_over, LeftOut, Stays, KindsChange, Passing, MarkedConverted, MarkedRenewed, MarkedRetired, MarkedEnlarged, image_then, contracts_then, eras_small, SoFar, on_large, Larger}
use Rattle.policy.specs.Claims.{MarkedCases, MarkedOver, Agreement, History, FitsLimits, AcceptedExactly, IsFirst, FirstCause, SoundStands, ShortIsFull, ReadOutAgain, standing, ReplacingPlaces}
use Rattle.policy.proofs.Sets.{and_l, and_r, and_i, test, not_e, cond_true, cond_false, every_in, exists_in, in_map, each_cons, each_one}
use Rattle.policy.proofs.Answers.{ascends, answer_append_zero, first_is, ascends_front, none_of_four, four_none}
use Rattle.policy.proofs.ContractAt.{same_contract_lem, stands_self}
use Rattle.policy.proofs.ParseFacts.{parsed_within}
use Rattle.policy.proofs.RoundTrip.{empty_tables, empty_formed, empty_fitting, empty_encode}
use Rattle.policy.proofs.SoundFacts.{sound_sized, sound_formed, sound_ruled, sound_lawful, sound_fitting}
use Rattle.policy.proofs.ReadOut.{read_out_parses, read_out_proper}
use Rattle.policy.proofs.Tests.{packages_fit, services_fit}
use Rattle.policy.proofs.AllKinds.{kinds}
use Rattle.policy.proofs.Step.{stands_of, image_stands, standing_allowed, unsound_refused, step}
use Rattle.policy.proofs.Eras.{refused_all, passage, stays, carried_is, history_from}
use Rattle.policy.proofs.KindsRead.{same_allowed, kinds_change, but_11, but_9_and_10, unread_malformed, other_version}

-- ---- 2. one record
pub agreement : (L : Layout) → LayoutOk L → Agreement L
agreement L lo img s cs f = step L lo img s cs f

-- ---- 3. histories
-- the empty image stands for no contracts
pub empty_stands : (L : Layout) → LayoutOk L → StandsFor L (empty_image L) []
empty_stands L lo = subst (λ (z : List ℕ). StandsFor L z []) (empty_encode L lo)
    (image_stands L lo empty_tables [] (empty_formed L) (λ i j k b. absurd b) (empty_fitting L)
    (record { these = λ c m. absurd (in_nil m); no_others = λ n u. absurd u; one_each = tt; four_sets = λ c m. absurd (in_nil m) }) (λ c m. absurd (in_nil m)))

-- no change of the rules
pub history : (L : Layout) → LayoutOk L → History L
unfolding answers_over image_over machine_answers_over contracts_over
history L lo ss =
    let h = history_from L lo (empty_image L) [] (empty_stands L lo) ss [] tt in
    record { equal_answers = h.equal_answers; stands_for = h.stands_for; calls_granted = h.calls_granted; needs_present = h.needs_present }

-- ---- 4. demand 2
module _ (L : Layout) (lo : LayoutOk L) where
  -- the machine's answer to a record, by what was read
  machine_answer : (cs ds : List Contract) (n : ℕ) → (held L cs ds n).answered ≡ n
  machine_answer cs ds zero = refl
  machine_answer cs ds (suc n) = refl

  machine_read : (cs : List Contract) (s : List ℕ) (o : Option Request) → parse L s ≡ o
      → machine L cs s ≡ elim o [ none ↦ held L cs cs 2 | some q ↦ held L cs (effect L cs q.aid q.change) (answer (causes3to11 L cs q)) ]
  unfolding machine
  machine_read cs s o e = ap (λ (o : Option Request). elim o [ none ↦ held L cs cs 2 | some q ↦ held L cs (effect L cs q.aid q.change) (answer (causes3to11 L cs q)) ]) e

  pub read_answer : (img s : List ℕ) (cs : List Contract) (q : Request) → StandsFor L img cs → parse L s ≡ some q → (judge L img s).answered ≡ answer (causes3to11 L cs q)
  read_answer img s cs q f e = (step L lo img s cs f).0 ∙ ap (λ (h : Held L). h.answered) (machine_read cs s (some q) e) ∙ machine_answer cs (effect L cs q.aid q.change) (answer (causes3to11 L cs q))

  -- causes go up
  causes_ascend : (cs ds : List Contract) (a : Aid) (b : Bool) (c : Change) → T (ascends 1 (2 when false ∷ 3 when b ∷ causes4to7 L cs a c ++ causes8to11 L ds))
  causes_ascend cs ds a b (load p c g n) = tt
  causes_ascend cs ds a b remove = tt
  causes_ascend cs ds a b (add_service s l) = tt
  causes_ascend cs ds a b (remove_service s) = tt
  causes_ascend cs ds a b (add_call r) = tt
  causes_ascend cs ds a b (remove_call r) = tt
  causes_ascend cs ds a b (add_grant r) = tt
  causes_ascend cs ds a b (remove_grant r) = tt
  causes_ascend cs ds a b (add_need r) = tt
  causes_ascend cs ds a b (remove_need r) = tt
  causes_ascend cs ds a b (replace p c g n) = tt

  machine_ascends : (cs : List Contract) (a : Aid) (b : Bool) (c : Change) → T (ascends 1 (2 when false ∷ 3 when b ∷ causes4to7 L cs a c))
  machine_ascends cs a b c = ascends_front 1 (2 when false ∷ 3 when b ∷ causes4to7 L cs a c) (causes8to11 L []) (causes_ascend cs [] a b c)

  pub first_cause : FirstCause L
  first_cause img s = (unsound_refused L img s, λ cs f. go cs f (parse L s) refl)
    where
      go : (cs : List Contract) → StandsFor L img cs → (o : Option Request) → parse L s ≡ o → IsFirst (judge L img s).answered (or_else o (2 when true ∷ []) (λ q. 2 when false ∷ causes3to11 L cs q))
      go cs f none e = subst (λ (n : ℕ). IsFirst n (2 when true ∷ [])) (sym ((step L lo img s cs f).0 ∙ ap (λ (h : Held L). h.answered) (machine_read cs s none e))) (first_is 1 (2 when true ∷ []) tt)
      go cs f (some q) e =
          subst (λ (n : ℕ). IsFirst n (2 when false ∷ causes3to11 L cs q)) (sym (read_answer img s cs q f e))
          (first_is 1 (2 when false ∷ causes3to11 L cs q) (causes_ascend cs (effect L cs q.aid q.change) q.aid (not (proper L q.aid q.change)) q.change))

  pub sound_stands : SoundStands L
  sound_stands img ok =
      let t = decode L img in
      let g = sound_formed L img ok in
      let st = stands_self L t g in (
        map (contract_at L t) (used_numbers L t),
        record {
          is_sound = ok;
          these = λ c m. let p = st.these c m in (p.0, p.1, same_contract_lem L t g p.0 c p.2);
          no_others = st.no_others;
          one_each = st.one_each;
          four_sets = st.four_sets;
        },
      )

  -- ---- accepted exactly
  -- no cause of a list applies
  abbrev Silent : List Cause → Type 0
  Silent l = (k : Cause) → In k l → T k.applies → ⊥

  silent_append : (l m : List Cause) → Silent l → answer (l ++ m) ≡ answer m
  silent_append [] m h = refl
  silent_append (c ∷ l) m h = cond_false c.applies c.number (answer (l ++ m)) (h c (here refl)) ∙ silent_append l m (λ k n. h k (there n))

  -- causes 4 to 7 that apply to a change whose contracts fit are below 7
  early_below : (l : List Cause) → T (every (λ k. ltb k.number 7) l) → (k : Cause) → In k l → T k.applies → k.number < 7
  early_below l t k m w = ltb→lt k.number 7 (every_in (λ k. ltb k.number 7) l t m)

  module _ (cs : List Contract) (a : Aid) where
    -- after the causes that are below 7, one that cannot apply
    below_or : (l : List Cause) (c : Cause) → T (every (λ k. ltb k.number 7) l) → (T c.applies → ⊥) → (k : Cause) → In k (l ++ (c ∷ [])) → T k.applies → k.number < 7
    below_or l c t h k m w = go (in_append l m)
      where
        go : In k l ⊎ In k (c ∷ []) → k.number < 7
        go (inl n) = early_below l t k n w
        go (inr n) = absurd (h (subst (λ (z : Cause). T z.applies) (each_one (λ z. z ≡ c) c refl k n) w))

    -- a package that kind 3 makes fit has a service number free
    full : (s : Tok) (l : List Aid) → FitsLimits L (effect L cs a (add_service s l)) → T (under cs a (λ k. leb L.services (length k.provides))) → ⊥
    full s l fit t =
        let f : Contract → Contract = λ k. cond (eq_aid k.aid a) (altered L (add_service s l) k) k in
        let p = exists_in (λ k. eq_aid k.aid a && leb L.services (length k.provides)) cs t in
        let x = and_l (eq_aid p.0.aid a) (leb L.services (length p.0.provides)) p.2 in
        let y = leb→le L.services (length p.0.provides) (and_r (eq_aid p.0.aid a) (leb L.services (length p.0.provides)) p.2) in
        let e : f p.0 ≡ altered L (add_service s l) p.0 = cond_true (eq_aid p.0.aid a) (altered L (add_service s l) p.0) p.0 x in
        let z = fit.services_fit (altered L (add_service s l) p.0) (in_cast {l = effect L cs a (add_service s l)} (sym e) (in_map (λ k. cond (eq_aid k.aid a) (altered L (add_service s l) k) k) p.1)) in
        let n = length-append p.0.provides (s ∷ []) in
        omega arith

    below : (c : Change) → FitsLimits L (effect L cs a c) → (k : Cause) → In k (causes4to7 L cs a c) → T k.applies → k.number < 7
    below (load p c g n) fit = below_or (4 when _ ∷ []) (7 when leb L.packages (length cs)) tt (λ t. let h = leb→le L.packages (length cs) t in let f = fit.packages_fit in omega arith)
    below remove fit = early_below (causes4to7 L cs a remove) tt
    below (add_service s l) fit = below_or (5 when _ ∷ 6 when _ ∷ []) (7 when under cs a (λ k. leb L.services (length k.provides))) tt (full s l fit)
    below (remove_service s) fit = early_below (causes4to7 L cs a (remove_service s)) tt
    below (add_call r) fit = early_below (causes4to7 L cs a (add_call r)) tt
    below (remove_call r) fit = early_below (causes4to7 L cs a (remove_call r)) tt
    below (add_grant r) fit = early_below (causes4to7 L cs a (add_grant r)) tt
    below (remove_grant r) fit = early_below (causes4to7 L cs a (remove_grant r)) tt
    below (add_need r) fit = early_below (causes4to7 L cs a (add_need r)) tt
    below (remove_need r) fit = early_below (causes4to7 L cs a (remove_need r)) tt
    below (replace p c g n) fit = early_below (causes4to7 L cs a (replace p c g n)) tt

  -- what the machine leaves of an accepted record
  pub accepted_contracts : (img s : List ℕ) (cs : List Contract) (q : Request) → StandsFor L img cs → parse L s ≡ some q → (judge L img s).answered ≡ 0
      → StandsFor L (judge L img s).bytes (effect L cs q.aid q.change)
  accepted_contracts img s cs q f e z =
      subst (λ (ds : List Contract). StandsFor L (judge L img s).bytes ds)
      (ap (λ (h : Held L). h.contracts) (machine_read cs s (some q) e)
      ∙ ap (λ (n : ℕ). (held L cs (effect L cs q.aid q.change) n).contracts) (sym (read_answer img s cs q f e) ∙ z))
      (step L lo img s cs f).1

  module _ (img s : List ℕ) (cs : List Contract) (q : Request) (f : StandsFor L img cs) (e : parse L s ≡ some q) (pr : T (proper L q.aid q.change))
      (free : (k : Cause) → In k (causes4to7 L cs q.aid q.change) → k.number < 7 → T k.applies → ⊥) where
    abbrev ds : List Contract
    ds = effect L cs q.aid q.change

    abbrev early : List Cause
    early = 3 when not (proper L q.aid q.change) ∷ causes4to7 L cs q.aid q.change

    fits_if_accepted : (judge L img s).answered ≡ 0 → T (lawful ds) × FitsLimits L ds
    fits_if_accepted z =
        let n : answer (causes3to11 L cs q) ≡ 0 = sym (read_answer img s cs q f e) ∙ z in
        let p = answer_append_zero 1 (2 when false ∷ early) (causes8to11 L ds) (machine_ascends cs q.aid (not (proper L q.aid q.change)) q.change) n in
        let v = none_of_four (calls_granted ds) (needs_met ds) (leb (length (unmet_calls ds)) L.capacity) (leb (length (waiting_grants ds)) L.capacity) p.1 in
        let st = accepted_contracts img s cs q f e z in
        let after = stands_of L (judge L img s).bytes ds st in
        let names = (sound_formed L (judge L img s).bytes st.is_sound).names in (
          and_i (calls_granted ds) (needs_met ds) v.0 v.1,
          record {
            packages_fit = packages_fit L (decode L (judge L img s).bytes) [] ds names after;
            services_fit = services_fit L (decode L (judge L img s).bytes) [] ds names after;
            unmet_fit = leb→le (length (unmet_calls ds)) L.capacity v.2;
            waiting_fit = leb→le (length (waiting_grants ds)) L.capacity v.3;
          },
        )

    silent : FitsLimits L ds → Silent early
    silent fit k m w = go (in_cons m)
      where
        go : (k ≡ 3 when not (proper L q.aid q.change)) ⊎ In k (causes4to7 L cs q.aid q.change) → ⊥
        go (inl x) = not_e (proper L q.aid q.change) (subst (λ (z : Cause). T z.applies) x w) pr
        go (inr n) = free k n (below cs q.aid q.change fit k n w) w

    accepted_if_fits : T (lawful ds) × FitsLimits L ds → (judge L img s).answered ≡ 0
    accepted_if_fits h =
        read_answer img s cs q f e ∙ silent_append early (causes8to11 L ds) (silent h.1)
        ∙ four_none (calls_granted ds) (needs_met ds) (leb (length (unmet_calls ds)) L.capacity) (leb (length (waiting_grants ds)) L.capacity)
        (and_l (calls_granted ds) (needs_met ds) h.0) (and_r (calls_granted ds) (needs_met ds) h.0)
        (le→leb (length (unmet_calls ds)) L.capacity h.1.unmet_fit) (le→leb (length (waiting_grants ds)) L.capacity h.1.waiting_fit)

  pub accepted_exactly : AcceptedExactly L
  accepted_exactly img s cs q f e pr free = (fits_if_accepted img s cs q f e pr free, accepted_if_fits img s cs q f e pr free)

-- ---- 5. short check = full look
pub short_is_full : (L : Layout) → ShortIsFull L
short_is_full L img s q ok e =
    (kinds q.change).1 L (decode L img) q.aid (sound_formed L img ok) (sound_lawful L img ok) (sound_fitting L img ok) (parsed_within L s q e).1

-- ---- 6. reading out
module _ (L : Layout) (lo : LayoutOk L) where
  pub read_out_again : ReadOutAgain L
  read_out_again img n ok un =
      let t = decode L img in
      let g = sound_formed L img ok in
      let ru = sound_ruled L img ok in
      let fit = sound_fitting L img ok in
      let parses : (c : Contract) → c ≡ contract_at L t n → parse L (load_record L c) ≡ some (request_of c) =
      λ c e. subst (λ (k : Contract). parse L (load_record L k) ≡ some (request_of k)) (sym e) (read_out_parses L lo t g ru fit n un) in
      record {
        parses = parses;
        is_proper = λ c e. subst (λ (k : Contract). T (proper L k.aid (load_of k))) (sym e) (read_out_proper L lo t g ru fit n un);
        loads_again = λ c e. again c (parses c e);
      }
    where
      again : (c : Contract) → parse L (load_record L c) ≡ some (request_of c) → (img₂ : List ℕ) → (judge L img₂ (load_record L c)).answered ≡ 0
          → (m : ℕ) × T ((decode L (judge L img₂ (load_record L c)).bytes).used m) × SameContract c (contract_at L (decode L (judge L img₂ (load_record L c)).bytes) m)
      again c e img₂ z = go (test (sound L img₂))
        where
          go : T (sound L img₂) ⊎ (T (sound L img₂) → ⊥)
              → (m : ℕ) × T ((decode L (judge L img₂ (load_record L c)).bytes).used m) × SameContract c (contract_at L (decode L (judge L img₂ (load_record L c)).bytes) m)
          go (inl h) =
              let p = sound_stands L lo img₂ h in
              (accepted_contracts L lo img₂ (load_record L c) p.0 (request_of c) p.1 e z).these c (here refl)
          go (inr h) = absurd (one_not_zero (sym (ap (λ (o : Out). o.answered) (unsound_refused L img₂ (load_record L c) h)) ∙ z))
            where
              one_not_zero : ◌≡◌ {A = ℕ} 1 0 → ⊥
              one_not_zero e = omega arith

-- ---- the cards of eight packages, and that of sixteen
card_ok : {m : ℕ} {e : Bool} {r : ℕ → Bool} → T (r 1) → LayoutOk (card_of m e r)
card_ok {m} {e} {r} on = record
    { header_size = three e; packages_fit = lit≤ tt; services_fit = lit≤ tt; rows_fit = lit≤ tt; counts_fit = lit≤ tt; load_read = on; records_fit = lit≤ tt }
  where
    three : (e : Bool) → length (card_of m e r).header ≡ 3
    three true = refl
    three false = refl

pub base_ok : LayoutOk base
base_ok = card_ok tt

pub narrow_ok : LayoutOk narrow
narrow_ok = card_ok tt

pub ahead_ok : LayoutOk ahead
ahead_ok = card_ok tt

pub renewed_ok : LayoutOk renewed
renewed_ok = card_ok tt

pub small_ok : LayoutOk small
small_ok = card_ok tt

pub large_ok : LayoutOk large
large_ok = record
    { header_size = refl; packages_fit = lit≤ tt; services_fit = lit≤ tt; rows_fit = lit≤ tt; counts_fit = lit≤ tt; load_read = tt; records_fit = lit≤ tt }

-- where document 01 says that the parts stand, and its size; R-2: 'the image 1,110'; R-9: 'the same order of parts .. and 3,639 bytes'
abbrev parts_of : Layout → List ℕ
parts_of L = aids_at L ∷ tokens_at L ∷ provides_at L ∷ calls_at L ∷ grants_at L ∷ needs_at L ∷ unmet_at L ∷ waiting_at L ∷ size L ∷ []

pub base_parts : parts_of base ≡ 4 ∷ 140 ∷ 268 ∷ 276 ∷ 340 ∷ 404 ∷ 468 ∷ 789 ∷ 1094 ∷ []
base_parts = refl

pub ahead_parts : parts_of ahead ≡ 4 ∷ 140 ∷ 268 ∷ 276 ∷ 340 ∷ 404 ∷ 468 ∷ 789 ∷ 1110 ∷ []
ahead_parts = refl

pub large_parts : parts_of large ≡ 5 ∷ 277 ∷ 789 ∷ 821 ∷ 1333 ∷ 1845 ∷ 2357 ∷ 2998 ∷ 3639 ∷ []
large_parts = refl

-- ---- 1. the marked cases: computed, but for soundness, which every image of a history has
unfoldable lines_on : Layout → List ℕ → List (List ℕ) → List Line
unfolding judge
lines_on L img [] = []
lines_on L img (s ∷ ss) = let o = judge_tables L img (decode L img) (parse L s) in line_of s o ∷ lines_on L o.bytes ss

sound_lines : (L : Layout) → LayoutOk L → (ss : List (List ℕ)) (img : List ℕ) (cs : List Contract) → StandsFor L img cs → lines_from L img ss ≡ lines_on L img ss
unfolding lines_from lines_on judge
sound_lines L lo [] img cs f = refl
sound_lines L lo (s ∷ ss) img cs f =
    (λ i. line_of s (judge L img s) ∷ sound_lines L lo ss (judge L img s).bytes (machine L cs s).contracts (step L lo img s cs f).1 i)
    ∙ ap (λ (o : Out). line_of s o ∷ lines_on L o.bytes ss) (cond_true (sound L img) (judge_tables L img (decode L img) (parse L s)) (refusal 1 255 img) f.is_sound)

pub marked : MarkedCases
unfolding lines_on empty_image machine_answers
marked = (
  ap (λ (f : List (List ℕ) → List Line). map (λ c. f c.records) cases) (λ i ss. sound_lines small small_ok ss (empty_image small) [] (empty_stands small small_ok) i),
  refl,
)

-- ---- the changes of the rules
same_room : {m n : ℕ} {d e : Bool} {q r : ℕ → Bool} → Widens (card_of m d q) (card_of n e r)
same_room = record { packages = lit≤ tt; services = lit≤ tt; capacity = lit≤ tt }

same_bytes : {m n : ℕ} {e : Bool} {q r : ℕ → Bool} → SameBytes (card_of m e q) (card_of n e r)
same_bytes = record { packages = refl; services = refl; width = refl; capacity = refl; header = refl; early = refl }

-- R-7's
narrow_stays : Stays base narrow
narrow_stays = stays base narrow same_bytes narrow_ok

narrow_allowed : (cs : List Contract) → AllValid narrow cs → AllAllowed base cs → AllAllowed narrow cs
narrow_allowed cs v a c m = record { tokens = v c m; own = (a c m).own }

then_stands : (ss : List (List ℕ)) → StandsFor base (image_then ss) (contracts_then ss)
then_stands ss = (history base base_ok ss).stands_for

-- R-2's: bytes 3 to 788 are copied, behind the new header, and the waiting grants are written by their tokens
pub converted_bytes : (img : List ℕ) → T (sound narrow img)
    → carried narrow small img ≡ (4 ∷ 86 ∷ 2 ∷ []) ++ (take 786 (drop 3 img) ++ write_list small (write_waiting small (decode narrow img).provides (decode narrow img).tok) 20 (decode narrow img).waiting)
converted_bytes = carried_is narrow small narrow_ok refl refl refl refl

-- to images of version 02 by any kinds that are read
early_passes : {r : ℕ → Bool} → T (r 1) → (cs : List Contract) → Passes narrow (card_of 128 true r) cs
early_passes on cs = record {
  is_ok = card_ok on;
  widens = same_room;
  allowed = λ a c m. let v = (a c m).tokens in record { tokens = record { provides = v.provides; calls = v.calls; grants = v.grants }; own = λ late. absurd (late tt) };
}

-- R-1's and R-13's: the same contracts are allowed
kinds_pass : {q r : ℕ → Bool} → T (r 1) → (cs : List Contract) → Passes (card_of 128 true q) (card_of 128 true r) cs
kinds_pass {q} {r} on cs = record { is_ok = card_ok on; widens = same_room; allowed = same_allowed (card_of 128 true q) r cs }

renewal : KindsChange ahead renewed (11 ∷ [])
renewal = kinds_change ahead eleven renewed_ok (11 ∷ []) but_11

retirement : KindsChange renewed retired (9 ∷ 10 ∷ [])
retirement = kinds_change renewed nine small_ok (9 ∷ 10 ∷ []) but_9_and_10

-- R-9's: there is more room, and the rules are the same
larger_passes : (cs : List Contract) → Passes small large cs
larger_passes cs = record {
  is_ok = large_ok;
  widens = record { packages = lit≤ tt; services = lit≤ tt; capacity = lit≤ tt };
  allowed = λ a c m. let v = (a c m).tokens in record { tokens = record { provides = v.provides; calls = v.calls; grants = v.grants }; own = (a c m).own };
}

-- every change so far, with the passages that follow
all_pass : (ss ts us vs ws : List (List ℕ)) (es : List Era) → AllValid narrow (contracts_then ss)
    → ((cs : List Contract) → AllPass retired cs ws es) → AllPass base [] ss (eras_small ts us vs ws ++ es)
all_pass ss ts us vs ws es v on = (
  record { is_ok = narrow_ok; widens = same_room; allowed = narrow_allowed (contracts_then ss) v },
  (early_passes tt _, (kinds_pass tt _, (kinds_pass tt _, on _))),
)

pub so_far : SoFar
so_far = record {
  history = λ ss ts us vs ws v. history_from base base_ok (empty_image base) [] (empty_stands base base_ok) ss _ (all_pass ss ts us vs ws [] v (λ cs. tt));
  same_image = λ ss. narrow_stays.same_image (image_then ss) (then_stands ss).is_sound;
  told = λ ss ok c m. (narrow_stays.told (image_then ss) (contracts_then ss) (then_stands ss) ok c m).tokens;
  goes_on = λ ss v.
      let f = then_stands ss in
      narrow_stays.goes_on (image_then ss) (contracts_then ss) f (narrow_allowed (contracts_then ss) v (standing_allowed base (image_then ss) (contracts_then ss) f));
  left_out = λ ss held. narrow_stays.left_out (image_then ss) (contracts_then ss) (then_stands ss) (λ a. held (λ c m. (a c m).tokens));
  converted = λ img cs f. passage narrow small img cs f (early_passes tt cs);
  refused = λ img ok. refused_all small img (λ h. sizes (sym (sound_sized narrow img ok) ∙ sound_sized small img h));
  renewal = renewal;
  retirement = retirement;
  retired_kinds = λ s m. unread_malformed retired s (each_cons (λ k. T (nine k) → ⊥) 9 (10 ∷ []) (λ h. h) (each_one (λ k. T (nine k) → ⊥) 10 (λ h. h)) (get_or s 3 0) m);
}
  where
    sizes : ◌≡◌ {A = ℕ} 1094 1110 → ⊥
    sizes e = omega arith

pub larger : Larger
larger = record {
  history_empty = λ ss. history_from large large_ok (empty_image large) [] (empty_stands large large_ok) ss [] tt;
  history_on = λ img cs f ss us. history_from small small_ok img cs f ss (on_large us) (larger_passes _, tt);
  history_all = λ ss ts us vs ws xs v. history_from base base_ok (empty_image base) [] (empty_stands base base_ok) ss _ (all_pass ss ts us vs ws (on_large xs) v (λ cs. (larger_passes _, tt)));
  enlarged = λ img cs f. passage small large img cs f (larger_passes cs);
  other_small = other_version small;
  other_large = other_version large;
}

-- ---- the cases over them: lines and images are computed but for soundness, and an image that is not sound refuses all
unfoldable image_on : Layout → List ℕ → List (List ℕ) → List ℕ
unfolding judge
image_on L img [] = img
image_on L img (s ∷ ss) = image_on L (judge_tables L img (decode L img) (parse L s)).bytes ss

sound_image : (L : Layout) → LayoutOk L → (ss : List (List ℕ)) (img : List ℕ) (cs : List Contract) → StandsFor L img cs → image_after L img ss ≡ image_on L img ss
unfolding image_after image_on judge
sound_image L lo [] img cs f = refl
sound_image L lo (s ∷ ss) img cs f =
    sound_image L lo ss (judge L img s).bytes (machine L cs s).contracts (step L lo img s cs f).1
    ∙ ap (λ (o : Out). image_on L o.bytes ss) (cond_true (sound L img) (judge_tables L img (decode L img) (parse L s)) (refusal 1 255 img) f.is_sound)

refused_lines : (L : Layout) (img : List ℕ) → LeftOut L img → (ss : List (List ℕ)) → lines_from L img ss ≡ map (λ s. line_of s (refusal 1 255 img)) ss
unfolding lines_from image_after
refused_lines L img h [] = refl
refused_lines L img h (s ∷ ss) =
    ap (λ (o : Out). line_of s o ∷ lines_from L o.bytes ss) (h.refuses [] s) ∙ ap (λ (l : List Line). line_of s (refusal 1 255 img) ∷ l) (refused_lines L img h ss)

holds_provided : AllValid narrow (contracts_then providing128) → ⊥
unfolding contracts_after
holds_provided h = (h _ (here refl)).provides _ (here refl)

holds_called : AllValid narrow (contracts_then calling128) → ⊥
unfolding contracts_after
holds_called h = (h _ (here refl)).calls _ (here refl)

abbrev valid_contract : Contract → Bool
valid_contract c = every (valid_tok narrow) c.provides && every (λ r. valid_tok narrow r.tok) c.calls && every (λ r. valid_tok narrow r.tok) c.grants

holds_none : AllValid narrow (contracts_then holding127.before)
unfolding contracts_after
holds_none c m =
    let p = every (valid_tok narrow) c.provides in
    let q = every (λ r. valid_tok narrow r.tok) c.calls in
    let g = every (λ r. valid_tok narrow r.tok) c.grants in
    let h = every_in valid_contract (contracts_then holding127.before) tt m in
    record {
      provides = λ s. every_in (valid_tok narrow) c.provides (and_l p q (and_l (p && q) g h));
      calls = λ r. every_in (λ r. valid_tok narrow r.tok) c.calls (and_r p q (and_l (p && q) g h));
      grants = λ r. every_in (λ r. valid_tok narrow r.tok) c.grants (and_r (p && q) g h);
    }

goes_on : lines_from narrow (image_then holding127.before) holding127.records ≡ holding127.lines
unfolding lines_on image_on empty_image
goes_on =
    let ss = holding127.before in
    sound_lines narrow narrow_ok holding127.records (image_then ss) (contracts_then ss) (so_far.goes_on ss holds_none)
    ∙ ap (λ (img : List ℕ). lines_on narrow img holding127.records) (sound_image base base_ok ss (empty_image base) [] (empty_stands base base_ok))

pub marked_over : MarkedOver
marked_over i =
    refused_lines narrow (image_then providing128) (so_far.left_out providing128 holds_provided) (load_b ∷ removal_of 1 ∷ [] ∷ []) i
    ∷ refused_lines narrow (image_then calling128) (so_far.left_out calling128 holds_called) (removal_of 1 ∷ load_h ∷ []) i
    ∷ goes_on i
    ∷ []

-- over a conversion
across : (L M : Layout) → LayoutOk L → LayoutOk M → Passing L M → (c : CaseOver)
    → lines_from M (carried L M (image_after L (empty_image L) c.before)) c.records ≡ lines_on M (carried L M (image_on L (empty_image L) c.before)) c.records
across L M lo mo p c =
    let img = image_after L (empty_image L) c.before in
    sound_lines M mo c.records (carried L M img) (contracts_after L [] c.before) (p img _ (history L lo c.before).stands_for).1
    ∙ ap (λ (z : List ℕ). lines_on M (carried L M z) c.records) (sound_image L lo c.before (empty_image L) [] (empty_stands L lo))

pub marked_converted : MarkedConverted
unfolding lines_on image_on carried empty_image
marked_converted = ap (λ (f : CaseOver → List Line). map f cases_converted) (λ i c. across narrow ahead narrow_ok ahead_ok (λ img cs f. passage narrow ahead img cs f (early_passes tt cs)) c i)

pub marked_enlarged : MarkedEnlarged
unfolding lines_on image_on carried empty_image
marked_enlarged = (
  ap (λ (f : List (List ℕ) → List Line). map (λ c. f c.records) cases_large) (λ i ss. sound_lines large large_ok ss (empty_image large) [] (empty_stands large large_ok) i),
  ap (λ (f : CaseOver → List Line). map f cases_enlarged) (λ i c. across small large small_ok large_ok larger.enlarged c i),
)

-- over a change of the kinds
over_kinds : {L M : Layout} {ks : List ℕ} → LayoutOk L → LayoutOk M → KindsChange L M ks → (c : CaseOver) → lines_from M (image_after L (empty_image L) c.before) c.records
    ≡ lines_on M (image_on L (empty_image L) c.before) c.records
over_kinds {L} {M} lo mo h c =
    let img = image_after L (empty_image L) c.before in
    sound_lines M mo c.records img (contracts_after L [] c.before) (h.goes_on img _ (history L lo c.before).stands_for)
    ∙ ap (λ (z : List ℕ). lines_on M z c.records) (sound_image L lo c.before (empty_image L) [] (empty_stands L lo))

pub marked_renewed : MarkedRenewed
unfolding lines_on image_on empty_image
marked_renewed = ap (λ (f : CaseOver → List Line). map f cases_renewed) (λ i c. over_kinds ahead_ok renewed_ok renewal c i)

pub marked_retired : MarkedRetired
unfolding lines_on image_on empty_image
marked_retired = (
  ap (λ (f : List (List ℕ) → List Line). map (λ c. f c.records) cases_needs) (λ i ss. sound_lines renewed renewed_ok ss (empty_image renewed) [] (empty_stands renewed renewed_ok) i),
  ap (λ (f : CaseOver → List Line). map f cases_retired) (λ i c. over_kinds renewed_ok small_ok retirement c i),
)

-- R-1's placing, computed
pub replacing_places : ReplacingPlaces
unfolding image_on decode empty_image
replacing_places = ap (λ (img : List ℕ). standing small (decode small img)) (sound_image small small_ok replacing.records (empty_image small) [] (empty_stands small small_ok))
