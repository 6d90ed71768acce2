-- Demand 1: every entry's answer and second number are of document 01's table, and a refusal leaves what was lent.
use Prim.Native.Nat.{ℕ, zero, suc, ◌≤◌, ◌<◌}
use native.Mathlib.Omega.{arith}
use mathlib.Core.Path.{◌≡◌, refl, ◌∙◌}
use mathlib.Core.Logic.{◌⊎◌, inl, inr}
use mathlib.Core.Bool.{not, ◌&&◌}
use mathlib.Core.List.{List, [], ◌∷◌, ◌++◌, tail}
use mathlib.Core.List.Memᴰ.{head as here}
use mathlib.Core.List.Memᴰ.{tail as there}
use mathlib.Core.List.{Memᴰ as In}
use mathlib.Core.Option.{Option, none, some}
use lib.Dec.{T, eqb, eqb→eq, leb, leb→le, ltb, ltb→lt}
use lib.ListN.{length, drop, length-append, length-drop}
use lib.Seq.{drop-append_seam}
use Rattle.policy.specs.Lists.{every, from, or_else, is_some}
use Rattle.policy.specs.Contract.{Aid}
use Rattle.policy.specs.Layout.{Layout, size}
use Rattle.policy.specs.Record.{Request, Change, load, remove, add_service, remove_service, add_call, remove_call, add_grant, remove_grant, add_need, remove_need, replace, parse, proper}
use Rattle.policy.specs.Causes.{Cause, ◌when◌, answer}
use Rattle.policy.specs.Tables.{Tables, decode, empty_image}
use Rattle.policy.specs.Lookup.{numbers, number_of, free_number, contract_at}
use Rattle.policy.specs.Sound.{sound}
use Rattle.policy.specs.Draft.{look, draft, number_for}
use Rattle.policy.specs.Judge.{Out, refusal, table_causes, judge_causes, judged, judge_tables, judge, check, write_empty, load_record, read_out}
use Rattle.policy.specs.Claims.{IsFirst, RefusesWith, AnswersAlways}
use Rattle.policy.proofs.Sets.{not_false, by_test, every_in, length_keep, length_from, in_from}
use Rattle.policy.proofs.Answers.{answer_zero, ascends, answer_append_zero, first_is}
use Rattle.policy.proofs.Formed.{Names}
use Rattle.policy.proofs.Found.{NumberIs, FreeIs, free_number_is, number_is}
use Rattle.policy.proofs.SoundFacts.{sound_formed}
use Rattle.policy.proofs.Step.{judge_causes_lem, judge_ascends}

module _ (L : Layout) where
  -- ---- judging: the numbers
  numbered : (l : List Cause) → T (every (λ k. ltb k.number 12) l) → T (ascends 2 l) → (n : ℕ) → answer l ≡ suc n → In (suc n) (from 1 11)
  numbered l t up n e = go (first_is 2 l up)
    where
      go : IsFirst (answer l) l → In (suc n) (from 1 11)
      go (inl p) = absurd (omega (arith, e, p.0))
      go (inr p) =
          let low = ltb→lt p.0.number 12 (every_in (λ k. ltb k.number 12) l t p.1) in
          in_from 1 11 (suc n) (omega arith) (omega (arith, p.2, e))

  -- ---- judging: the package number of an acceptance
  module _ (t : Tables) (a : Aid) where
    -- a package that is installed, or for a load a free number
    abbrev Known : Type 0
    Known = T (is_some (number_of L t a)) ⊎ T (is_some (free_number L t))

    present : (l : List Cause) → answer (5 when not (is_some (number_of L t a)) ∷ l) ≡ 0 → Known
    present l e = inl (not_false (is_some (number_of L t a)) (answer_zero 4 (not (is_some (number_of L t a))) l e).0)

    known : (c : Change) → answer (table_causes L t a c) ≡ 0 → Known
    known (load p c g n) e =
        inr (not_false (is_some (free_number L t)) (answer_zero 6 (not (is_some (free_number L t))) [] (answer_zero 3 (is_some (number_of L t a)) (7 when not (is_some (free_number L t)) ∷ []) e).1).0)
    known remove e = present [] e
    known (add_service s l) e = present (tail (table_causes L t a (add_service s l))) e
    known (remove_service s) e = present (tail (table_causes L t a (remove_service s))) e
    known (add_call r) e = present (tail (table_causes L t a (add_call r))) e
    known (remove_call r) e = present (tail (table_causes L t a (remove_call r))) e
    known (add_grant r) e = present (tail (table_causes L t a (add_grant r))) e
    known (remove_grant r) e = present (tail (table_causes L t a (remove_grant r))) e
    known (add_need r) e = present (tail (table_causes L t a (add_need r))) e
    known (remove_need r) e = present (tail (table_causes L t a (remove_need r))) e
    known (replace p c g n) e = present [] e

    number_lt : Names L t.used t.aid t.tok t.provides → Known → number_for L t a < L.packages
    unfolding number_for
    number_lt names = go (number_of L t a) (number_is L t names a) (free_number L t) (free_number_is L t)
      where
        go : (o : Option ℕ) → NumberIs t a o → (f : Option ℕ) → FreeIs L.packages t.used f → T (is_some o) ⊎ T (is_some f) → or_else o (or_else f 255 (λ n. n)) (λ n. n) < L.packages
        go (some n) h f i w = names.used_lt n h.0
        go none h (some n) i w = i.0
        go none h none i (inl e) = absurd e
        go none h none i (inr e) = absurd e

  -- ---- an entry on an image
  abbrev Judged : List ℕ → Out → Type 0
  Judged img o = ((o.answered ≡ 0) × (o.second < L.packages)) ⊎ RefusesWith (from 1 11) 255 img o

  module _ (img : List ℕ) where
    abbrev t : Tables
    t = decode L img

    settled : T (sound L img) → (q : Request) (n : ℕ) → answer (judge_causes L t q) ≡ n
        → Judged img (judged L img (number_for L t q.aid) (draft L t q.aid q.change).tables n)
    settled ok q zero e =
        let bad = not (proper L q.aid q.change) in
        let early = table_causes L t q.aid q.change in
        let p = answer_append_zero 2 (3 when bad ∷ early) _ (judge_ascends L t q.aid bad q.change) e in
        inl (refl, number_lt t q.aid (sound_formed L img ok).names (known t q.aid q.change (answer_zero 2 bad early p.0).1))
    settled ok q (suc n) e =
        let w = judge_causes_lem L t q.aid (look L (draft L t q.aid q.change)) (not (proper L q.aid q.change)) q.change in
        inr (suc n, numbered (judge_causes L t q) w.0 w.1 n e, refl)

    read : T (sound L img) → (o : Option Request) → Judged img (judge_tables L img t o)
    read ok none = inr (2, there (here refl), refl)
    read ok (some q) = settled ok q (answer (judge_causes L t q)) refl

    judging : (s : List ℕ) → Judged img (judge L img s)
    unfolding judge
    judging s = by_test (Judged img) (judge_tables L img t (parse L s)) (refusal 1 255 img) (sound L img) (λ ok. read ok (parse L s)) (λ _. inr (1, here refl, refl))

  checking : (img : List ℕ) → (((check L img).answered ≡ 0) × ((check L img).second ≤ L.packages) × ((check L img).bytes ≡ img)) ⊎ RefusesWith (1 ∷ []) 255 img (check L img)
  unfolding check
  checking img = by_test (λ (o : Out). ((o.answered ≡ 0) × (o.second ≤ L.packages) × (o.bytes ≡ img)) ⊎ RefusesWith (1 ∷ []) 255 img o) _ _ (sound L img)
      (λ _. inl (refl, (let a = length_keep (decode L img).used (numbers L) in let b = length_from 0 L.packages in omega arith), refl))
      (λ _. inr (1, here refl, refl))

  emptying : (b : List ℕ) → ((write_empty L b ≡ record { answered = 0; second = 0; bytes = empty_image L }) × (length b ≡ size L)) ⊎ RefusesWith (1 ∷ []) 255 b (write_empty L b)
  unfolding write_empty
  emptying b = by_test (λ (o : Out). ((o ≡ record { answered = 0; second = 0; bytes = empty_image L }) × (length b ≡ size L)) ⊎ RefusesWith (1 ∷ []) 255 b o) _ _ (eqb (length b) (size L))
      (λ t. inl (refl, eqb→eq (length b) (size L) t))
      (λ _. inr (1, here refl, refl))

  -- reading out, by its three tests: the record is written, or the first that fails is answered
  module _ (img : List ℕ) (n : ℕ) (out : List ℕ) where
    abbrev r : List ℕ
    r = load_record L (contract_at L (decode L img) n)

    pub read_by : (P : Out → Type 0)
        → (T (sound L img) → T (ltb n L.packages && (decode L img).used n) → length r ≤ length out → P (record { answered = 0; second = length r; bytes = r ++ drop (length r) out }))
        → ((k : ℕ) → In (suc k) (1 ∷ 5 ∷ 12 ∷ []) → P (refusal (suc k) 0 out))
        → P (read_out L img n out)
    unfolding read_out
    read_by P f g =
        by_test P _ _ (sound L img)
        (λ ok. by_test P _ _ (ltb n L.packages && (decode L img).used n)
        (λ un. by_test P _ _ (leb (length r) (length out)) (λ t. f ok un (leb→le (length r) (length out) t)) (λ _. g 11 (there (there (here refl)))))
        (λ _. g 4 (there (here refl))))
        (λ _. g 0 (here refl))

  reading : (img : List ℕ) (n : ℕ) (out : List ℕ)
      → (((read_out L img n out).answered ≡ 0) × (length (read_out L img n out).bytes ≡ length out)
      × (drop (read_out L img n out).second (read_out L img n out).bytes ≡ drop (read_out L img n out).second out))
      ⊎ RefusesWith (1 ∷ 5 ∷ 12 ∷ []) 0 out (read_out L img n out)
  reading img n out =
      let r = load_record L (contract_at L (decode L img) n) in
      read_by img n out
      (λ (o : Out). ((o.answered ≡ 0) × (length o.bytes ≡ length out) × (drop o.second o.bytes ≡ drop o.second out)) ⊎ RefusesWith (1 ∷ 5 ∷ 12 ∷ []) 0 out o)
      (λ ok un h. inl (refl, length-append r (drop (length r) out) ∙ rw (length-drop (length r) out) (omega arith), drop-append_seam r (drop (length r) out)))
      (λ k m. inr (suc k, m, refl))

  pub answers_always : AnswersAlways L
  answers_always = record { judging = judging; checking = checking; emptying = emptying; reading = reading }
