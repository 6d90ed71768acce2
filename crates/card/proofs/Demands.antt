-- The statements of specs/Demands.antt. Assumes nothing.
use Prim.Native.Nat.{ℕ}
use native.Mathlib.Omega.{arith}
use mathlib.Core.Path.{◌≡◌, refl, sym, ap, ◌∙◌, subst}
use mathlib.Core.Logic.{◌⊎◌, inl, inr, ⊎_map}
use mathlib.Core.Bool.{Bool, true, false, not, cond}
use mathlib.Core.List.{List, [], ◌∷◌, map}
use mathlib.Core.List.Memᴰ.{head as here}
use mathlib.Core.List.Memᴰ.{not-nil as in_nil}
use mathlib.Core.List.Memᴰ.{tail as there}
use mathlib.Core.List.{Memᴰ as In}
use lib.Dec.{T, eqb, eqb→eq, leb, leb→le, ltb}
use lib.ListN.{length, get_or, take, drop}
use lib.Seq.{take-append_seam}
use Rattle.policy.specs.Lists.{every}
use Rattle.policy.specs.Contract.{Aid, Contract, valid_aid}
use Rattle.policy.specs.Layout.{Layout, LayoutOk, narrow, ahead, renewed, small, large, size}
use Rattle.policy.specs.Causes.{Cause, ◌when◌, answer}
use Rattle.policy.specs.Tables.{decode, empty_image}
use Rattle.policy.specs.Judge.{Out, refusal, judge, check, write_empty, load_record}
use Rattle.policy.specs.Lookup.{contract_at}
use Rattle.policy.specs.Sound.{sound}
use Rattle.policy.specs.History.{SameContract, AllValid, answers, image_after, StandsFor, contracts_after}
use Rattle.policy.specs.Eras.{carried, convert, answers_over, image_over, machine_answers_over, contracts_over, image_then, contracts_then, Passing, RefusedAll, Malformed}
use Rattle.policy.specs.Claims.{RefusesWith, IsFirst, all_causes}
use Rattle.policy.proofs.Sets.{and_l, and_r, test, every_in, each_cons, each_one, cond_false}
use Rattle.policy.proofs.Answers.{ascends, first_is}
use Rattle.policy.proofs.ParseFacts.{first_aid_part}
use Rattle.policy.proofs.Entries.{answers_always}
use Rattle.policy.proofs.Numbering.{second_number, check_counts}
use Rattle.policy.proofs.Placing.{placing}
use Rattle.policy.proofs.Records.{longest_record_lem}
use Rattle.policy.proofs.Needs.{needs_after, needs_stay, needs_go_on}
use Rattle.policy.proofs.SoundFacts.{sound_sized}
use Rattle.policy.proofs.Step.{unsound_refused}
use Rattle.policy.proofs.Eras.{refused_all, converts, history_from}
use Rattle.policy.proofs.KindsRead.{unread_malformed, other_version}
use Rattle.policy.proofs.Theorems.{empty_stands, so_far, larger, first_cause, accepted_exactly, sound_stands, read_out_again, narrow_ok, small_ok}
use Rattle.geometry.specs.Geometry.{layout_of}
use Rattle.geometry.specs.declared.Card.{Card}
use Rattle.geometry.specs.declared.Card.TheVariants.{Small, Large}
use Rattle.geometry.proofs.Bounds.{layout_ok}
use Rattle.conditions.specs.Claims.{ThreeConditions}
use Rattle.conditions.proofs.Theorems.{load_conditions}
use Rattle.noninterference.specs.Alike.{Alike}
use Rattle.noninterference.specs.Claims.{RecordOf, Told, told}
use Rattle.noninterference.proofs.Theorems.{not_watched, stay_alike}
use Rattle.noninterference.proofs.Unseen.{unseen}
use Rattle.card.specs.Packed.{joined, answer_of, second_of, aid_place}
use Rattle.card.specs.Calls.{sized, on, versioned, by, Returned, Carried, Judged, Calls}
use Rattle.card.specs.Demands.{Refused, CallsAnswer, CallsCause, CallsVerdict, Restores, CallsReadOut, CallsNumber, HistoryOfCalls, OtherSize, image_old, contracts_old, CallsHistory, Keeps, CallsConvert, CallsCards, CallsNeeds, CallsAid, CallsConditions, CallsNotWatched}
use Rattle.card.proofs.Cards.{on_ok, sized_small, sized_as, sound_on, still_on, read_by}
use Rattle.card.proofs.Packs.{placed, aid_short}
use Rattle.card.proofs.Tells.{Tells, checked_tells, emptied_tells, converted, converted_tells, judged_tells, wrote, read_tells}

-- ---- demand 1
refused : {o : Out} {r : ℕ} {left : List ℕ} → Returned o r left → Tells o r → {ns : List ℕ} {second : ℕ} {lent : List ℕ} → RefusesWith ns second lent o → Refused ns second lent r left
refused c t {ns} (n, m, e) =
    record {
      answer_is = subst (λ (k : ℕ). In k ns) (sym (t.answer ∙ ap (λ (z : Out). z.answered) e)) m;
      second_is = t.second ∙ ap (λ (z : Out). z.second) e;
      left_is = c.left_is ∙ ap (λ (z : Out). z.bytes) e;
    }

pub calls_answer : CallsAnswer
calls_answer =
    record {
      checking = λ image r c. let t = checked_tells image c in ⊎_map (λ h. (t.answer ∙ h.0, rw t.second h.1)) (refused c t) ((answers_always (on image)).checking image);
      emptying = λ lent r left c. let t = emptied_tells lent c in
          ⊎_map (λ h. (t.answer ∙ ap (λ (z : Out). z.answered) h.0, t.second ∙ ap (λ (z : Out). z.second) h.0, c.left_is ∙ ap (λ (z : Out). z.bytes) h.0, h.1))
          (refused c t) ((answers_always (on lent)).emptying lent);
      converting = λ L M old lent r left c. let t = converted_tells L M old lent c in
          ⊎_map (λ h. (t.answer ∙ ap (λ (z : Out). z.answered) h.2, t.second ∙ ap (λ (z : Out). z.second) h.2, eqb→eq (length lent) (size M) h.1)) (refused c t) (converted L M old lent).1;
      judging = λ image rec r left c. let t = judged_tells image rec c in ⊎_map (λ h. (t.answer ∙ h.0, rw t.second h.1)) (refused c t) ((answers_always (on image)).judging image rec);
      reading = λ image n lent r left c. let t = read_tells image n lent c in
          ⊎_map (λ h. (t.answer ∙ h.0, rw c.left_is h.1, rw (t.second, c.left_is) h.2)) (refused c t) ((answers_always (on image)).reading image n lent);
    }

-- ---- demand 2
-- one test that fails is cause 1
caused : (b : Bool) (o p : Out) → o.answered ≡ 0 → p.answered ≡ 1 → (cond b o p).answered ≡ answer (1 when not b ∷ [])
caused true o p e f = e
caused false o p e f = f

check_caused : (L : Layout) (image : List ℕ) → (check L image).answered ≡ answer (1 when not (sound L image) ∷ [])
unfolding check
check_caused L image = caused (sound L image) _ (refusal 1 255 image) refl refl

empty_caused : (L : Layout) (lent : List ℕ) → (write_empty L lent).answered ≡ answer (1 when not (eqb (length lent) (size L)) ∷ [])
unfolding write_empty
empty_caused L lent = caused (eqb (length lent) (size L)) _ (refusal 1 255 lent) refl refl

first_of : {o : Out} {r : ℕ} (l : List Cause) → Tells o r → o.answered ≡ answer l → T (ascends 0 l) → IsFirst (answer_of r) l
first_of l t e up = subst (λ (n : ℕ). IsFirst n l) (sym (t.answer ∙ e)) (first_is 0 l up)

pub calls_cause : CallsCause
calls_cause =
    record {
      checking = λ image r c. first_of _ (checked_tells image c) (check_caused (on image) image) tt;
      emptying = λ lent r left c. first_of _ (emptied_tells lent c) (empty_caused (on lent) lent) tt;
      converting = λ L M old lent r left c. first_of _ (converted_tells L M old lent c) (converted L M old lent).0 tt;
      reading = λ image n lent r left c. first_of _ (read_tells image n lent c) (wrote image n lent).0 tt;
    }

pub calls_verdict : CallsVerdict
calls_verdict image rec r left c =
    let t = judged_tells image rec c in
    let f = first_cause (on image) (on_ok image) image rec in
    record {
      unsound = λ h. t.answer ∙ ap (λ (z : Out). z.answered) (f.0 h);
      first_cause = λ cs s. subst (λ (n : ℕ). IsFirst n (all_causes (on image) cs rec)) (sym t.answer) (f.1 cs s);
      accepted_exactly = λ cs q s e p free.
          let a = accepted_exactly (on image) (on_ok image) image rec cs q s e p free in
          (λ z. a.0 (sym t.answer ∙ z), λ h. t.answer ∙ a.1 h);
      sound_stands = sound_stands (on image) (on_ok image) image;
    }

-- a call that is not refused
accepted : {A : Type 0} (ns : List ℕ) {second : ℕ} {lent : List ℕ} {r : ℕ} {left : List ℕ} → T (every (λ k. not (eqb k 0)) ns) → answer_of r ≡ 0 → A ⊎ Refused ns second lent r left → A
accepted ns t z (inl a) = a
accepted ns t z (inr h) = absurd (every_in (λ k. not (eqb k 0)) ns t (subst (λ (k : ℕ). In k ns) z h.answer_is))

-- reading out
module _ (c : Card) (image : List ℕ) (n : ℕ) (ok : T (sound (layout_of c) image)) (un : T ((decode (layout_of c) image).used n)) where
  abbrev L : Layout
  L = layout_of c

  abbrev held : Contract
  held = contract_at L (decode L image) n

  restores : Restores L held (load_record L held)
  restores =
      let h = read_out_again L (layout_ok c) image n ok un in
      record {
        parses = h.parses held refl;
        is_proper = h.is_proper held refl;
        loads_again = λ image₂ r left e j z. subst (λ (b : List ℕ). (m : ℕ) × T ((decode L b).used m) × SameContract held (contract_at L (decode L b) m))
            (sym (j.left_is ∙ ap (λ (M : Layout). (judge M image₂ (load_record L held)).bytes) e))
            (h.loads_again held refl image₂ (sym ((judged_tells image₂ (load_record L held) j).answer ∙ ap (λ (M : Layout). (judge M image₂ (load_record L held)).answered) e) ∙ z));
      }

pub calls_read_out : CallsReadOut
calls_read_out image n lent r left c z =
    let L = on image in
    let t = read_tells image n lent c in
    let w = accepted (1 ∷ 5 ∷ 12 ∷ []) tt z (⊎_map (λ h. h) (refused c t) (wrote image n lent).1) in
    let un = and_r (ltb n L.packages) ((decode L image).used n) w.1 in
    let k = contract_at L (decode L image) n in
    let is : take (second_of r) left ≡ load_record L k
    = (λ i. take ((t.second ∙ ap (λ (o : Out). o.second) w.2) i) ((c.left_is ∙ ap (λ (o : Out). o.bytes) w.2) i)) ∙ take-append_seam (load_record L k) _ in
    (w.0, un, subst (λ (s : List ℕ). Restores L k s) (sym is) (restores (sized (length image)) image n w.0 un))

-- ---- second numbers
-- what is accepted was judged on a sound image
accepted_sound : (L : Layout) → LayoutOk L → (image rec : List ℕ) → (judge L image rec).answered ≡ 0 → T (sound L image)
accepted_sound L lo image rec z = go (test (sound L image))
  where
    go : T (sound L image) ⊎ (T (sound L image) → ⊥) → T (sound L image)
    go (inl h) = h
    go (inr h) = let e : ◌≡◌ {A = ℕ} 1 0 = sym (ap (λ (o : Out). o.answered) ((first_cause L lo image rec).0 h)) ∙ z in absurd (omega arith)

pub calls_number : CallsNumber
calls_number =
    record {
      checking = λ image r cs c s. let t = checked_tells image c in let k = check_counts (on image) image cs s in (t.answer ∙ k.0, t.second ∙ k.1);
      judging = λ image rec r left q c z e.
          let t = judged_tells image rec c in
          let a = sym t.answer ∙ z in
          let ok = accepted_sound (on image) (on_ok image) image rec a in
          record {
            numbered = rw (t.second, c.left_is) (second_number (on image) (on_ok image) image rec q ok e a);
            placed = rw (t.second, c.left_is) (placing (on image) (on_ok image) image rec q ok e a);
          };
      reading = λ image n lent r left c z. let t = read_tells image n lent c in rw t.second ((longest_record_lem (on image) (on_ok image)).1 image n lent (sym t.answer ∙ z));
    }

-- ---- demand 3
-- calls one after another answer and leave what a history of records does, by the card of the first image
as_history : (ss : List (List ℕ)) (rs image : List ℕ) {left : List ℕ} → Calls image ss rs left → (map answer_of rs ≡ answers (on image) image ss) × (left ≡ image_after (on image) image ss)
unfolding answers image_after
as_history [] [] image e = (refl, e)
as_history [] (r ∷ rs) image e = absurd e
as_history (s ∷ ss) [] image e = absurd e
as_history (s ∷ ss) (r ∷ rs) image (mid, c, h) =
    let k = as_history ss rs mid h in
    let same : on mid ≡ on image = ap on c.left_is ∙ still_on image s in (
      (λ i. (judged_tells image s c).answer i ∷ (k.0 ∙ λ j. answers (same j) (c.left_is j) ss) i),
      k.1 ∙ λ j. image_after (same j) (c.left_is j) ss,
    )

-- from an image of a card that stands for contracts
calls_from : (c : Card) (image : List ℕ) (cs : List Contract) → StandsFor (layout_of c) image cs → (ss : List (List ℕ)) (rs left : List ℕ) → Calls image ss rs left
    → HistoryOfCalls (layout_of c) cs ss rs left
unfolding answers_over image_over machine_answers_over contracts_over
calls_from c image cs f ss rs left h =
    let L = layout_of c in
    let is = sound_on c image f.is_sound in
    let k = as_history ss rs image h in
    let d = history_from L (layout_ok c) image cs f ss [] tt in
    record {
      equal_answers = k.0 ∙ ap (λ (M : Layout). answers M image ss) is ∙ d.equal_answers;
      stands_for = subst (λ (b : List ℕ). StandsFor L b (contracts_after L cs ss)) (sym (k.1 ∙ ap (λ (M : Layout). image_after M image ss) is)) d.stands_for;
      calls_granted = d.calls_granted;
      needs_present = d.needs_present;
    }

-- on an image that refuses all
calls_refused : (image : List ℕ) → ((s : List ℕ) → judge (on image) image s ≡ refusal 1 255 image) → (ss : List (List ℕ)) (rs : List ℕ) {left : List ℕ} → Calls image ss rs left
    → ((r : ℕ) → In r rs → (answer_of r ≡ 1) × (second_of r ≡ 255)) × (left ≡ image)
calls_refused image all [] [] e = ((λ r m. absurd (in_nil m)), e)
calls_refused image all [] (r ∷ rs) e = absurd e
calls_refused image all (s ∷ ss) [] e = absurd e
calls_refused image all (s ∷ ss) (r ∷ rs) {left} (mid, c, h) =
    let t = judged_tells image s c in
    let k = calls_refused image all ss rs (subst (λ (b : List ℕ). Calls b ss rs left) (c.left_is ∙ ap (λ (o : Out). o.bytes) (all s)) h) in (
      each_cons _ r rs (t.answer ∙ ap (λ (o : Out). o.answered) (all s), t.second ∙ ap (λ (o : Out). o.second) (all s)) k.0,
      k.1,
    )

-- what a converter took with 0 was sound, and its tables and contracts stay: for any two rules between which every sound image passes
module _ (L M : Layout) (lo : LayoutOk L) (p : Passing L M) where
  module _ (old lent : List ℕ) {r : ℕ} {image : List ℕ} (c : Carried L M old lent r image) (z : answer_of r ≡ 0) where
    took : T (sound L old) × T (eqb (length lent) (size M)) × (convert L M old lent ≡ record { answered = 0; second = 0; bytes = carried L M old })
    took = accepted (1 ∷ []) tt z (⊎_map (λ h. h) (refused c (converted_tells L M old lent c)) (converted L M old lent).1)

    image_is : carried L M old ≡ image
    image_is = sym (c.left_is ∙ ap (λ (o : Out). o.bytes) took.2)

    stands_on : (cs : List Contract) → StandsFor L old cs → StandsFor M image cs
    stands_on cs f = subst (λ (b : List ℕ). StandsFor M b cs) image_is (p old cs f).1

    same_tables : decode M image ≡ decode L old
    same_tables =
        let s = sound_stands L lo old took.0 in
        subst (λ (b : List ℕ). decode M b ≡ decode L old) image_is (p old s.0 s.1).0

  keeps : Keeps L M
  keeps old lent r image c z = ((took old lent c z).0, same_tables old lent c z, stands_on old lent c z)

-- an image that is not sound stays as it is
stays : (img : List ℕ) → (T (sound narrow img) → ⊥) → (ss : List (List ℕ)) → image_after narrow img ss ≡ img
unfolding image_after
stays img bad [] = refl
stays img bad (s ∷ ss) = ap (λ (o : Out). image_after narrow o.bytes ss) (unsound_refused narrow img s bad) ∙ stays img bad ss

-- an image of version 01 has not the card's size
old_unsound : (old : List ℕ) → T (sound narrow old) → T (sound small old) → ⊥
old_unsound old ok h = let e = sound_sized narrow old ok in let f = sound_sized small old h in omega arith

-- a card of version 01 goes on where it held no higher method token at R-7's change, and only there
old_stands : (before middle : List (List ℕ)) → AllValid narrow (contracts_then before) → StandsFor narrow (image_old before middle) (contracts_old before middle)
unfolding image_over contracts_over
old_stands before middle al = (history_from narrow narrow_ok (image_then before) (contracts_then before) (so_far.goes_on before al) middle [] tt).stands_for

old_valid : (before middle : List (List ℕ)) → T (sound narrow (image_old before middle)) → AllValid narrow (contracts_then before)
old_valid before middle ok = go (test (sound narrow (image_then before)))
  where
    go : T (sound narrow (image_then before)) ⊎ (T (sound narrow (image_then before)) → ⊥) → AllValid narrow (contracts_then before)
    go (inl h) = so_far.told before h
    go (inr h) = absurd (h (subst (λ (b : List ℕ). T (sound narrow b)) (stays (image_then before) h middle) ok))

-- the kinds that are read change no card
kinds_stand : (image : List ℕ) (cs : List Contract) → StandsFor ahead image cs ⊎ StandsFor renewed image cs → StandsFor small image cs
kinds_stand image cs (inl f) = so_far.retirement.goes_on image cs (so_far.renewal.goes_on image cs f)
kinds_stand image cs (inr f) = so_far.retirement.goes_on image cs f

-- R-2's converter, and R-9's
kept_old : Keeps narrow small
kept_old = keeps narrow small narrow_ok so_far.converted

kept_small : Keeps small large
kept_small = keeps small large small_ok larger.enlarged

-- an image of version 01 is judged as the small card's
old_on : (old : List ℕ) → T (sound narrow old) → on old ≡ small
old_on old ok = ap layout_of (sized_small (length old) (λ e. let n = sound_sized narrow old ok in omega arith))

pub calls_history : CallsHistory
calls_history =
    record {
      from_empty = λ lent r image c z ss rs left h.
          let card = sized (length lent) in
          let L = layout_of card in
          let a = accepted (1 ∷ []) tt z (calls_answer.emptying lent r image c) in
          let f = empty_stands L (layout_ok card) in
          let is : on image ≡ L = ap on a.2 ∙ sound_on card (empty_image L) f.is_sound in
          subst (λ (M : Layout). HistoryOfCalls M [] ss rs left) (sym is) (calls_from card (empty_image L) [] f ss rs left (subst (λ (b : List ℕ). Calls b ss rs left) a.2 h));
      over_conversion = λ before middle lent r image c z.
          let k = kept_old (image_old before middle) lent r image c z in
          calls_from Small image (contracts_old before middle) (k.2 (contracts_old before middle) (old_stands before middle (old_valid before middle k.0)));
      over_kinds = λ image cs f. calls_from Small image cs (kinds_stand image cs f);
      over_enlargement = λ image lent cs r next f c z. calls_from Large next cs ((kept_small image lent r next c z).2 cs f);
      told = λ before middle lent r left c e. (
        λ z. old_valid before middle (kept_old (image_old before middle) lent r left c z).0,
        λ al. (converted_tells narrow small (image_old before middle) lent c).answer
            ∙ ap (λ (o : Out). o.answered) ((converts narrow small (image_old before middle) lent).taken (old_stands before middle al).is_sound e),
      );
    }

pub calls_convert : CallsConvert
calls_convert =
    record {
      kept = kept_old;
      checking = λ old r ok c. refused c (checked_tells old c) (1, here refl, (old_refused old ok).checking);
      reading = λ old n lent r left ok c. refused c (read_tells old n lent c) (1, here refl, (old_refused old ok).reading n lent);
      judging = λ old ss rs left ok h.
          let k = calls_refused old (old_refused old ok).judging ss rs h in
          record { unsound = λ s. old_unsound old ok (subst (λ (L : Layout). T (sound L old)) (old_on old ok) s); each = k.0; left_is = k.1 };
    }
  where
    old_refused : (old : List ℕ) → T (sound narrow old) → RefusedAll (on old) old
    old_refused old ok = subst (λ (L : Layout). RefusedAll L old) (sym (old_on old ok)) (so_far.refused old ok)

-- ---- R-9
-- an image that is as long as no card's
module _ (image : List ℕ) (n : OtherSize image) where
  not_sized : length image ≡ size (on image) → ⊥
  not_sized e = go (sized (length image)) e
    where
      go : (c : Card) → length image ≡ size (layout_of c) → ⊥
      go Small e = n.0 e
      go Large e = n.1 e

  all_refused : RefusedAll (on image) image
  all_refused = refused_all (on image) image (λ ok. not_sized (sound_sized (on image) image ok))

  not_emptied : write_empty (on image) image ≡ refusal 1 255 image
  unfolding write_empty
  not_emptied = cond_false (eqb (length image) (size (on image))) _ (refusal 1 255 image) (λ h. not_sized (eqb→eq (length image) (size (on image)) h))

pub calls_cards : CallsCards
calls_cards =
    record {
      small_card = λ image e. ap layout_of (sized_as Small (length image) e);
      large_card = λ image e. ap layout_of (sized_as Large (length image) e);
      checking = λ image r n c. refused c (checked_tells image c) (1, here refl, (all_refused image n).checking);
      emptying = λ lent r left n c. refused c (emptied_tells lent c) (1, here refl, not_emptied lent n);
      judging = λ image rec r left n c. refused c (judged_tells image rec c) (1, here refl, (all_refused image n).judging rec);
      reading = λ image k lent r left n c. refused c (read_tells image k lent c) (1, here refl, (all_refused image n).reading k lent);
      other_version = λ image rec r left c ok v. refused c (judged_tells image rec c) (2, here refl, (other_version (on image) rec v).engine image ok);
      either_aid = read_by;
      kept = kept_small;
    }

-- ---- the first AID
has_bytes : (a : Aid) → T (valid_aid a) → length a ≡ 0 → ⊥
has_bytes a v z = let b = leb→le 5 (length a) (and_l (leb 5 (length a)) (leb (length a) 16) v) in omega arith

pub calls_aid : CallsAid
calls_aid rec r c =
    record {
      malformed = λ e. c ∙ ap (λ (a : Aid). aid_place a) ((first_aid_part (by rec) rec).0 e);
      whole = λ q e.
          let h = (first_aid_part (by rec) rec).1 q e in
          let p = c ∙ ap (λ (a : Aid). aid_place a) h.0 ∙ placed q.aid (has_bytes q.aid h.2) in
          let short = aid_short (by rec) rec (sym h.0) in
          let at : answer_of r ≡ 5 = omega arith in
          let n : second_of r ≡ length q.aid = omega arith in
          (at, n, h.1 ∙ (λ i. take (sym n i) (drop (sym at i) rec)));
    }

-- ---- needs
-- no card reads kinds 9 and 10
unread_9 : (c : Card) → T ((layout_of c).reads 9) → ⊥
unread_9 Small h = h
unread_9 Large h = h

unread_10 : (c : Card) → T ((layout_of c).reads 10) → ⊥
unread_10 Small h = h
unread_10 Large h = h

retired_on : (c : Card) (s : List ℕ) → In (get_or s 3 0) (9 ∷ 10 ∷ []) → Malformed (layout_of c) s
retired_on c s m =
    let unread : ℕ → Type 0 = λ k. T ((layout_of c).reads k) → ⊥ in
    unread_malformed (layout_of c) s (each_cons unread 9 (10 ∷ []) (unread_9 c) (each_one unread 10 (unread_10 c)) (get_or s 3 0) m)

pub calls_needs : CallsNeeds
calls_needs =
    record {
      retired_kinds = λ image rec r left c ok m. refused c (judged_tells image rec c) (2, here refl, (retired_on (sized (length image)) rec m).engine image ok);
      no_aid = λ rec r c m. (calls_aid rec r c).malformed (retired_on (versioned (get_or rec 2 0)) rec m).not_read;
      go_on = needs_go_on;
      after = λ image rec r left q c z e a x.
          let n = sym (judged_tells image rec c).answer ∙ z in
          rw c.left_is (needs_after (on image) (on_ok image) image rec q (accepted_sound (on image) (on_ok image) image rec n) e n a x);
      stay = λ image ss rs left h ok a x off. rw (as_history ss rs image h).1 (needs_stay (on image) (on_ok image) (unread_9 (sized (length image))) (unread_10 (sized (length image))) image ss a x ok off);
    }

-- ---- R-3
pub calls_conditions : CallsConditions
calls_conditions image rec r left cs b c h = subst (ThreeConditions (on image) cs b) (sym (judged_tells image rec c).answer) (load_conditions (on image) (on_ok image) image rec cs b h).0

-- ---- R-6
-- the same is told of two records
same_result : {o₁ o₂ : Out} {r₁ r₂ : ℕ} {left₁ left₂ : List ℕ} → Returned o₁ r₁ left₁ → Returned o₂ r₂ left₂ → told o₁ ≡ told o₂ → r₁ ≡ r₂
same_result c₁ c₂ e = c₁.result ∙ ap (λ (t : Told). joined t.answer t.second) e ∙ sym c₂.result

-- on two cards of one size
module _ (c : Card) where
  abbrev K : Layout
  K = layout_of c

  -- a call on a sound image is judged by its card
  on_card : (image rec : List ℕ) {r : ℕ} {left : List ℕ} → T (sound K image) → Judged image rec r left → Returned (judge K image rec) r left
  on_card image rec {r} {left} ok j = subst (λ (M : Layout). Returned (judge M image rec) r left) (sound_on c image ok) j

  calls_alike : (b : Aid) (ss : List (List ℕ)) (rs₁ rs₂ image₁ image₂ left₁ left₂ : List ℕ) → Alike K b image₁ image₂ → ((s : List ℕ) → In s ss → RecordOf K b s)
      → Calls image₁ ss rs₁ left₁ → Calls image₂ ss rs₂ left₂ → (rs₁ ≡ rs₂) × Alike K b left₁ left₂
  calls_alike b [] [] [] image₁ image₂ left₁ left₂ al of h₁ h₂ = (refl, rw (h₁, h₂) al)
  calls_alike b [] [] (r ∷ rs) image₁ image₂ left₁ left₂ al of h₁ h₂ = absurd h₂
  calls_alike b [] (r ∷ rs) rs₂ image₁ image₂ left₁ left₂ al of h₁ h₂ = absurd h₁
  calls_alike b (s ∷ ss) [] rs₂ image₁ image₂ left₁ left₂ al of h₁ h₂ = absurd h₁
  calls_alike b (s ∷ ss) (r₁ ∷ rs₁) [] image₁ image₂ left₁ left₂ al of h₁ h₂ = absurd h₂
  calls_alike b (s ∷ ss) (r₁ ∷ rs₁) (r₂ ∷ rs₂) image₁ image₂ left₁ left₂ al of (mid₁, j₁, h₁) (mid₂, j₂, h₂) =
      let own = of s (here refl) in
      let c₁ = on_card image₁ s al.sound₁ j₁ in
      let c₂ = on_card image₂ s al.sound₂ j₂ in
      let k = calls_alike b ss rs₁ rs₂ mid₁ mid₂ left₁ left₂ (rw (c₁.left_is, c₂.left_is) (stay_alike K (layout_ok c) b image₁ image₂ s al own)) (λ z m. of z (there m)) h₁ h₂ in
      ((λ i. same_result c₁ c₂ (not_watched K (layout_ok c) b image₁ image₂ s al own) i ∷ k.0 i), k.1)

  -- the image that calls on a sound one leave, by its card
  left_on : (ss : List (List ℕ)) (rs image : List ℕ) {left : List ℕ} → T (sound K image) → Calls image ss rs left → left ≡ image_after K image ss
  left_on ss rs image ok h = (as_history ss rs image h).1 ∙ ap (λ (M : Layout). image_after M image ss) (sound_on c image ok)

pub calls_not_watched : CallsNotWatched
calls_not_watched b image₁ image₂ al =
    let c = sized (length image₁) in
    let L = layout_of c in
    record {
      same = λ rec r₁ r₂ left₁ left₂ own j₁ j₂.
          let e = same_result (on_card c image₁ rec al.sound₁ j₁) (on_card c image₂ rec al.sound₂ j₂) (not_watched L (layout_ok c) b image₁ image₂ rec al own) in (ap answer_of e, ap second_of e);
      histories = λ ss rs₁ rs₂ left₁ left₂. calls_alike c b ss rs₁ rs₂ image₁ image₂ left₁ left₂ al;
      others = λ ss₁ ss₂ rs₁ rs₂ left₁ left₂ among h₁ h₂. rw (left_on c ss₁ rs₁ image₁ al.sound₁ h₁, left_on c ss₂ rs₂ image₂ al.sound₂ h₂) (unseen L (layout_ok c) b image₁ image₂ ss₁ ss₂ al among);
    }
