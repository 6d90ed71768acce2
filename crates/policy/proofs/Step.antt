-- One record: the engine's definition and the plain machine answer alike, and what they leave stands for each other.
use Prim.Native.Nat.{ℕ, zero, suc}
use mathlib.Core.Path.{◌≡◌, refl, sym, ap, ◌∙◌, subst}
use mathlib.Core.Bool.{Bool, not, cond}
use mathlib.Core.List.{List, [], ◌∷◌, ◌++◌}
use mathlib.Core.Option.{Option, none, some}
use lib.Dec.{T, ltb, leb→le}
use lib.ListN.{length}
use Rattle.policy.specs.Lists.{every}
use Rattle.policy.specs.Contract.{Aid, Contract, valid_aid}
use Rattle.policy.specs.Layout.{Layout, LayoutOk}
use Rattle.policy.specs.Record.{Request, Change, load, remove, add_service, remove_service, add_call, remove_call, add_grant, remove_grant, add_need, remove_need, replace, parse, proper}
use Rattle.policy.specs.Causes.{Cause, ◌when◌, answer}
use Rattle.policy.specs.Machine.{Held, held, effect, causes8to11, causes3to11, machine}
use Rattle.policy.specs.Tables.{Tables, Unmet, decode, encode}
use Rattle.policy.specs.Lookup.{contract_at}
use Rattle.policy.specs.Sound.{sound}
use Rattle.policy.specs.Draft.{Look, Draft, look, draft, number_for}
use Rattle.policy.specs.Judge.{Out, refusal, table_causes, look_causes, judge_causes, judged, judge_tables, judge}
use Rattle.policy.specs.Records.{WithinChange}
use Rattle.policy.specs.History.{SameContract, AllAllowed, StandsFor}
use Rattle.policy.specs.ShortCheck.{fine}
use Rattle.policy.proofs.Sets.{T_true, not_false, nil_is, cond_false}
use Rattle.policy.proofs.Answers.{answer_zero, answer_append, ascends, answer_append_zero, ascends_front, none_of_four}
use Rattle.policy.proofs.Formed.{Formed, Lawful, Fitting, Stands, Turns}
use Rattle.policy.proofs.Facts.{lawful_of}
use Rattle.policy.proofs.ContractAt.{same_contract_lem, has_contract}
use Rattle.policy.proofs.Ruled.{ruled_allowed, allowed_ruled, effect_allowed}
use Rattle.policy.proofs.ParseFacts.{parsed_within}
use Rattle.policy.proofs.RoundTrip.{formed_room, header_encode, length_encode, round_trip}
use Rattle.policy.proofs.SoundFacts.{sound_formed, sound_ruled, sound_image}
use Rattle.policy.proofs.Tests.{tests_agree}
use Rattle.policy.proofs.Verdict.{looks_agree}
use Rattle.policy.proofs.AllKinds.{kinds}

-- ---- images and tables
pub stands_of : (L : Layout) (img : List ℕ) (cs : List Contract) → StandsFor L img cs → Stands (decode L img) [] cs
stands_of L img cs f = record {
  these = λ c m. let p = f.these c m in (p.0, p.1, has_contract L (decode L img) (sound_formed L img f.is_sound) p.0 c p.2);
  no_others = f.no_others;
  one_each = f.one_each;
  four_sets = f.four_sets;
}

pub image_stands : (L : Layout) → LayoutOk L → (t : Tables) (cs : List Contract) → Formed L t → Lawful t → Fitting L t → Stands t [] cs → AllAllowed L cs → StandsFor L (encode L t) cs
image_stands L lo t cs g w fit st al =
    let ru = allowed_ruled L L t cs g st al in
    let room = formed_room L t g ru fit in
    let e = round_trip L lo t room in
    record {
      is_sound = sound_image L t (length_encode L lo t room) (header_encode L lo t) e g ru w fit;
      these = λ c m. let p = st.these c m in
          (p.0, subst (λ (z : Tables). T (z.used p.0)) (sym e) p.1, subst (λ (z : Tables). SameContract c (contract_at L z p.0)) (sym e) (same_contract_lem L t g p.0 c p.2));
      no_others = λ n u. let p = st.no_others n (subst (λ (z : Tables). T (z.used n)) e u) in (p.0, p.1, p.2 ∙ ap (λ (z : Tables). z.aid n) (sym e));
      one_each = st.one_each;
      four_sets = st.four_sets;
    }

-- the rules allow what an image stands for
pub standing_allowed : (L : Layout) (img : List ℕ) (cs : List Contract) → StandsFor L img cs → AllAllowed L cs
standing_allowed L img cs f = ruled_allowed L (decode L img) cs (sound_formed L img f.is_sound) (stands_of L img cs f) (sound_ruled L img f.is_sound)

-- ---- an accepted draft
-- no cause from 8 on: the tables are lawful and fit, and no need is lost
pub accepted : (L : Layout) (d : Draft) → Formed L d.tables → answer (look_causes (look L d)) ≡ 0 → Lawful d.tables × Fitting L d.tables × (d.lost ≡ [])
unfolding look
accepted L d g e =
    let p = none_of_four (look L d).granted (look L d).needed (look L d).unmet_fits (look L d).waiting_fits e in (
      lawful_of L d.tables g p.0,
      record {
        unmet_fits = leb→le (length d.tables.unmet) L.capacity p.2;
        waiting_fits = leb→le (length d.tables.waiting) L.capacity p.3;
      },
      nil_is d.lost p.1,
    )

-- ---- the two lists of causes
module _ (L : Layout) (t : Tables) (a : Aid) where
  -- causes 3 to 11 go up, and are below 12
  pub judge_causes_lem : (k : Look) (b : Bool) (c : Change)
      → T (every (λ x. ltb x.number 12) (3 when b ∷ table_causes L t a c ++ look_causes k)) × T (ascends 2 (3 when b ∷ table_causes L t a c ++ look_causes k))
  judge_causes_lem k b (load p c g n) = (tt, tt)
  judge_causes_lem k b remove = (tt, tt)
  judge_causes_lem k b (add_service s l) = (tt, tt)
  judge_causes_lem k b (remove_service s) = (tt, tt)
  judge_causes_lem k b (add_call r) = (tt, tt)
  judge_causes_lem k b (remove_call r) = (tt, tt)
  judge_causes_lem k b (add_grant r) = (tt, tt)
  judge_causes_lem k b (remove_grant r) = (tt, tt)
  judge_causes_lem k b (add_need r) = (tt, tt)
  judge_causes_lem k b (remove_need r) = (tt, tt)
  judge_causes_lem k b (replace p c g n) = (tt, tt)

  pub judge_ascends : (b : Bool) (c : Change) → T (ascends 2 (3 when b ∷ table_causes L t a c))
  judge_ascends b c = ascends_front 2 (3 when b ∷ table_causes L t a c) (look_causes fine) (judge_causes_lem fine b c).1

module _ (L : Layout) (lo : LayoutOk L) (t : Tables) (cs : List Contract) (g : Formed L t) (st : Stands t [] cs)
    (q : Request) (va : T (valid_aid q.aid)) (vc : WithinChange L q.change) (al : AllAllowed L cs) where
  abbrev a : Aid
  a = q.aid

  abbrev c : Change
  c = q.change

  abbrev d : Draft
  d = draft L t a c

  abbrev ds : List Contract
  ds = effect L cs a c

  -- the causes of the record and of its lookups, on tables and by the contracts
  abbrev early : List Cause
  early = 3 when not (proper L a c) ∷ table_causes L t a c

  pub turns : answer early ≡ 0 → Turns L d ds
  turns e = let p = answer_zero 2 (not (proper L a c)) (table_causes L t a c) e in (kinds c).0 L t cs a g st va vc (not_false (proper L a c) p.0) p.1

  pub answers_agree : answer (judge_causes L t q) ≡ answer (causes3to11 L cs q)
  answers_agree =
      answer_append early (look_causes (look L d)) (causes8to11 L ds) (λ e. let h = turns e in ap (λ (k : Look). answer (look_causes k)) (looks_agree L d ds h.formed h.lost_off h.stands))
      ∙ ap (λ (l : List Cause). answer (3 when not (proper L a c) ∷ l ++ causes8to11 L ds)) (tests_agree L t cs g st a c)

  pub accepted_stands : answer (judge_causes L t q) ≡ 0 → StandsFor L (encode L d.tables) ds
  accepted_stands e =
      let p = answer_append_zero 2 early (look_causes (look L d)) (judge_ascends L t a (not (proper L a c)) c) e in
      let h = turns p.0 in
      let w = accepted L d h.formed p.1 in
      let pr = answer_zero 2 (not (proper L a c)) (table_causes L t a c) p.0 in
      image_stands L lo d.tables ds h.formed w.0 w.1 (subst (λ (l : List Unmet). Stands d.tables l ds) w.2 h.stands)
      (effect_allowed L cs a al st.one_each c vc (not_false (proper L a c) pr.0) (sym (ap answer (tests_agree L t cs g st a c)) ∙ pr.1))

-- an image that is not sound is refused
pub unsound_refused : (L : Layout) (img s : List ℕ) → (T (sound L img) → ⊥) → judge L img s ≡ refusal 1 255 img
unfolding judge
unsound_refused L img s h = cond_false (sound L img) (judge_tables L img (decode L img) (parse L s)) (refusal 1 255 img) h

-- ---- the step
module _ (L : Layout) (lo : LayoutOk L) (img s : List ℕ) (cs : List Contract) (f : StandsFor L img cs) where
  abbrev Steps : Out → Held L → Type 0
  Steps o h = (o.answered ≡ h.answered) × StandsFor L o.bytes h.contracts

  -- both have answered n
  settle : (m : ℕ) (t : Tables) (ds : List Contract) (n : ℕ) → (n ≡ 0 → StandsFor L (encode L t) ds) → Steps (judged L img m t n) (held L cs ds n)
  settle m t ds zero h = (refl, h refl)
  settle m t ds (suc n) h = (refl, f)

  read : (o : Option Request) → parse L s ≡ o → Steps (judge_tables L img (decode L img) o) (elim o [ none ↦ held L cs cs 2 | some q ↦ held L cs (effect L cs q.aid q.change) (answer (causes3to11 L cs q)) ])
  read none e = (refl, f)
  read (some q) e =
      let v = parsed_within L s q e in
      let g = sound_formed L img f.is_sound in
      let st = stands_of L img cs f in
      let d = draft L (decode L img) q.aid q.change in
      let al = standing_allowed L img cs f in
      let same = answers_agree L lo (decode L img) cs g st q v.0 v.1 al in
      subst (λ (n : ℕ). Steps (judged L img (number_for L (decode L img) q.aid) d.tables (answer (judge_causes L (decode L img) q))) (held L cs (effect L cs q.aid q.change) n)) same
      (settle (number_for L (decode L img) q.aid) d.tables (effect L cs q.aid q.change) (answer (judge_causes L (decode L img) q)) (accepted_stands L lo (decode L img) cs g st q v.0 v.1 al))

  pub step : ((judge L img s).answered ≡ (machine L cs s).answered) × StandsFor L (judge L img s).bytes (machine L cs s).contracts
  unfolding judge machine
  step = subst (λ (b : Bool). Steps (cond b (judge_tables L img (decode L img) (parse L s)) (refusal 1 255 img)) (machine L cs s)) (sym (T_true (sound L img) f.is_sound)) (read (parse L s) refl)
