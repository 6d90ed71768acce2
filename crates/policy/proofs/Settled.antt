-- A judgement in steps: the image, the record, causes 4 to 7 on the tables, causes 8 to 11 by the short check; and what is left after acceptance.
use Prim.Native.Nat.{ℕ, zero, suc, ◌<◌}
use native.Mathlib.Omega.{arith}
use mathlib.Core.Path.{◌≡◌, refl, sym, ap, ◌∙◌, subst}
use mathlib.Core.Bool.{Bool, true, false, not, cond}
use mathlib.Core.List.{List, [], ◌∷◌, ◌++◌, map}
use mathlib.Core.Option.{Option, none, some}
use lib.Dec.{T, ltb, ltb→lt}
use Rattle.policy.specs.Contract.{Aid, valid_aid}
use Rattle.policy.specs.Layout.{Layout}
use Rattle.policy.specs.Record.{Request, Change, parse, proper}
use Rattle.policy.specs.Machine.{effect}
use Rattle.policy.specs.Causes.{Cause, ◌when◌, answer}
use Rattle.policy.specs.Tables.{Unmet, decode, encode}
use Rattle.policy.specs.Lookup.{contract_at, used_numbers}
use Rattle.policy.specs.Sound.{sound}
use Rattle.policy.specs.Draft.{Draft, Look, look, draft, number_for}
use Rattle.policy.specs.ShortCheck.{short_look}
use Rattle.policy.specs.Judge.{Out, refusal, table_causes, look_causes, judged, judge_tables, judge}
use Rattle.policy.specs.Settled.{settled}
use Rattle.policy.proofs.Sets.{T_true, and_l, and_r}
use Rattle.policy.specs.Records.{WithinChange}
use Rattle.policy.proofs.Formed.{Formed, Ruled, Fitting, Stands}
use Rattle.policy.proofs.Answers.{ascends}
use Rattle.policy.proofs.SoundFacts.{sound_formed, sound_ruled, sound_lawful, sound_fitting}
use Rattle.policy.proofs.Ruled.{ruled_allowed, allowed_ruled, effect_allowed}
use Rattle.policy.proofs.Tests.{tests_agree}
use Rattle.policy.proofs.ContractAt.{stands_self}
use Rattle.policy.proofs.AllKinds.{kinds}
use Rattle.policy.proofs.Step.{judge_ascends, accepted}

module _ (L : Layout) (img : List ℕ) where
  -- ---- causes 1 to 3
  pub judge_unsound : (s : List ℕ) → sound L img ≡ false → judge L img s ≡ refusal 1 255 img
  unfolding judge
  judge_unsound s e = ap (λ (b : Bool). cond b (judge_tables L img (decode L img) (parse L s)) (refusal 1 255 img)) e

  -- a sound image, and what reading gave
  pub judge_read : (s : List ℕ) → T (sound L img) → (o : Option Request) → parse L s ≡ o → judge L img s ≡ judge_tables L img (decode L img) o
  unfolding judge
  judge_read s ok o e = λ i. cond (T_true (sound L img) ok i) (judge_tables L img (decode L img) (e i)) (refusal 1 255 img)

  pub judge_malformed : (s : List ℕ) → T (sound L img) → parse L s ≡ none → judge L img s ≡ refusal 2 255 img
  judge_malformed s ok e = judge_read s ok none e

  -- the outcome by cause 3, with q's other causes
  abbrev by_proper : Request → Bool → Out
  by_proper q b =
      let t = decode L img in
      let d = draft L t q.aid q.change in
      judged L img (number_for L t q.aid) d.tables (answer (3 when not b ∷ table_causes L t q.aid q.change ++ look_causes (look L d)))

  pub judge_improper : (s : List ℕ) (q : Request) → T (sound L img) → parse L s ≡ some q → proper L q.aid q.change ≡ false → judge L img s ≡ refusal 3 255 img
  judge_improper s q ok e h = judge_read s ok (some q) e ∙ ap (by_proper q) h

  pub judge_settled : (s : List ℕ) (q : Request) → T (sound L img) → parse L s ≡ some q → T (proper L q.aid q.change) → judge L img s ≡ settled L img q.aid q.change
  unfolding settled
  judge_settled s q ok e h = judge_read s ok (some q) e ∙ ap (by_proper q) (T_true (proper L q.aid q.change) h)

-- ---- the answer of two lists of causes: the first's, or the second's where that is 0
abbrev or_then : ℕ → ℕ → ℕ
or_then zero m = m
or_then (suc n) m = suc n

answer_both : (n : ℕ) (l m : List Cause) → T (ascends n l) → answer (l ++ m) ≡ or_then (answer l) (answer m)
answer_both n [] m up = refl
answer_both n (c ∷ l) m up = go c.applies (answer_both c.number l m (and_r (ltb n c.number) (ascends c.number l) up))
  where
    stays : (k : ℕ) → n < k → k ≡ or_then k (answer m)
    stays zero h = absurd (omega arith)
    stays (suc k) h = refl

    go : (b : Bool) → answer (l ++ m) ≡ or_then (answer l) (answer m) → cond b c.number (answer (l ++ m)) ≡ or_then (cond b c.number (answer l)) (answer m)
    go true ih = stays c.number (ltb→lt n c.number (and_l (ltb n c.number) (ascends c.number l) up))
    go false ih = ih

module _ (L : Layout) (img : List ℕ) (a : Aid) (c : Change) where
  abbrev d : Draft
  d = draft L (decode L img) a c

  -- the outcome by the answers of causes 4 to 7 and of causes 8 to 11
  abbrev by_answers : ℕ → ℕ → Out
  by_answers early late = judged L img (number_for L (decode L img) a) d.tables (or_then early late)

  settled_is : settled L img a c ≡ by_answers (answer (table_causes L (decode L img) a c)) (answer (look_causes (look L d)))
  unfolding settled
  settled_is = ap (judged L img (number_for L (decode L img) a) d.tables)
      (answer_both 3 (table_causes L (decode L img) a c) (look_causes (look L d)) (judge_ascends L (decode L img) a false c))

  -- a cause from 4 to 7 stands alone
  pub settled_refused : (n : ℕ) → answer (table_causes L (decode L img) a c) ≡ suc n → settled L img a c ≡ refusal (suc n) 255 img
  settled_refused n e = settled_is ∙ ap (λ (k : ℕ). by_answers k (answer (look_causes (look L d)))) e

  -- none of them applies: the short check of causes 8 to 11 is the full look
  module _ (ok : T (sound L img)) (vc : WithinChange L c) (pr : T (proper L a c)) (none_early : answer (table_causes L (decode L img) a c) ≡ 0) where
    short : look L d ≡ short_look L (decode L img) a c
    short = (kinds c).1 L (decode L img) a (sound_formed L img ok) (sound_lawful L img ok) (sound_fitting L img ok) vc pr none_early

    settled_late : (n : ℕ) → answer (look_causes (short_look L (decode L img) a c)) ≡ n → settled L img a c ≡ by_answers 0 n
    settled_late n e = settled_is ∙ (λ i. by_answers (none_early i) (answer (look_causes (short i)))) ∙ ap (by_answers 0) e

    pub settled_short : (n : ℕ) → answer (look_causes (short_look L (decode L img) a c)) ≡ suc n → settled L img a c ≡ refusal (suc n) 255 img
    settled_short n e = settled_late (suc n) e

    pub settled_accepted : answer (look_causes (short_look L (decode L img) a c)) ≡ 0
        → settled L img a c ≡ record { answered = 0; second = number_for L (decode L img) a; bytes = encode L (draft L (decode L img) a c).tables }
    settled_accepted e = settled_late 0 e

  -- after acceptance the draft's tables are formed, within the rules, and fit
  abbrev Stand : Type 0
  Stand = Formed L (draft L (decode L img) a c).tables × Ruled L (draft L (decode L img) a c).tables × Fitting L (draft L (decode L img) a c).tables

  pub looked_formed : T (sound L img) → T (valid_aid a) → WithinChange L c → T (proper L a c) → answer (table_causes L (decode L img) a c) ≡ 0
      → answer (look_causes (look L (draft L (decode L img) a c))) ≡ 0 → Stand
  looked_formed ok va vc pr none_early e =
      let t = decode L img in
      let g = sound_formed L img ok in
      let cs = map (contract_at L t) (used_numbers L t) in
      let st = stands_self L t g in
      let h = (kinds c).0 L t cs a g st va vc pr none_early in
      let w = accepted L d h.formed e in
      let al = effect_allowed L cs a (ruled_allowed L t cs g st (sound_ruled L img ok)) st.one_each c vc pr (sym (ap answer (tests_agree L t cs g st a c)) ∙ none_early) in
      (h.formed, allowed_ruled L L d.tables (effect L cs a c) h.formed (subst (λ (l : List Unmet). Stands d.tables l (effect L cs a c)) w.2 h.stands) al, w.1)

  pub accepted_formed : T (sound L img) → T (valid_aid a) → WithinChange L c → T (proper L a c) → answer (table_causes L (decode L img) a c) ≡ 0
      → answer (look_causes (short_look L (decode L img) a c)) ≡ 0 → Stand
  accepted_formed ok va vc pr none_early e = looked_formed ok va vc pr none_early (ap (λ (k : Look). answer (look_causes k)) (short ok vc pr none_early) ∙ e)
