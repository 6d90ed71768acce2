-- What an accepted record leaves: the tables of its draft, with things placed as specs/Placing.antt says.
use Prim.Native.Nat.{ℕ, zero, suc}
use mathlib.Core.Path.{◌≡◌, refl, sym, ap, ◌∙◌, subst}
use mathlib.Core.Bool.{not}
use mathlib.Core.List.{List, ◌∷◌}
use mathlib.Core.Option.{some}
use lib.Dec.{T}
use Rattle.policy.specs.Layout.{Layout, LayoutOk}
use Rattle.policy.specs.Record.{Request, parse, proper}
use Rattle.policy.specs.Causes.{◌when◌, answer}
use Rattle.policy.specs.Tables.{Tables, decode, encode}
use Rattle.policy.specs.Sound.{sound}
use Rattle.policy.specs.Draft.{Draft, look, draft, number_for}
use Rattle.policy.specs.Judge.{Out, table_causes, look_causes, judge_causes, judged, judge}
use Rattle.policy.specs.Placing.{Placing}
use Rattle.policy.proofs.Sets.{not_false}
use Rattle.policy.proofs.Answers.{answer_zero, answer_append_zero}
use Rattle.policy.proofs.ParseFacts.{parsed_within}
use Rattle.policy.proofs.RoundTrip.{formed_room, round_trip}
use Rattle.policy.proofs.SoundFacts.{sound_formed}
use Rattle.policy.proofs.Step.{judge_ascends}
use Rattle.policy.proofs.Settled.{judge_read, looked_formed}
use Rattle.policy.proofs.PlacingKinds.{Settles, settles}

module _ (L : Layout) (lo : LayoutOk L) where
  module _ (img s : List ℕ) (q : Request) (ok : T (sound L img)) (e : parse L s ≡ some q) (z : (judge L img s).answered ≡ 0) where
    abbrev t : Tables
    t = decode L img

    abbrev d : Draft
    d = draft L t q.aid q.change

    out : judge L img s ≡ judged L img (number_for L t q.aid) d.tables (answer (judge_causes L t q))
    out = judge_read L img s ok (some q) e

    none_applies : answer (judge_causes L t q) ≡ 0
    none_applies = go (answer (judge_causes L t q)) (sym (ap (λ (o : Out). o.answered) out) ∙ z)
      where
        go : (n : ℕ) → (judged L img (number_for L t q.aid) d.tables n).answered ≡ 0 → n ≡ 0
        go zero h = refl
        go (suc n) h = h

    left : judge L img s ≡ record { answered = 0; second = number_for L t q.aid; bytes = encode L d.tables }
    left = out ∙ ap (judged L img (number_for L t q.aid) d.tables) none_applies

    -- the tables after it are the draft's, and its second number is its package's: what the kinds settle
    pub acceptance : Settles L t (sound_formed L img ok) q.aid q.change (decode L (judge L img s).bytes) (judge L img s).second
    acceptance =
        let f = sound_formed L img ok in
        let v = parsed_within L s q e in
        let bad = not (proper L q.aid q.change) in
        let early = table_causes L t q.aid q.change in
        let p = answer_append_zero 2 (3 when bad ∷ early) (look_causes (look L d)) (judge_ascends L t q.aid bad q.change) none_applies in
        let n = answer_zero 2 bad early p.0 in
        let pr = not_false (proper L q.aid q.change) n.0 in
        let w = looked_formed L img q.aid q.change ok v.0 v.1 pr n.1 p.1 in
        let back = round_trip L lo d.tables (formed_room L d.tables w.0 w.1 w.2) in
        subst (λ (o : Out). Settles L t f q.aid q.change (decode L o.bytes) o.second) (sym left)
        (subst (λ (t' : Tables). Settles L t f q.aid q.change t' (number_for L t q.aid)) (sym back)
        (settles L t f q.aid q.change v.1 pr n.1))

  pub placing : Placing L
  placing img s q ok e z = (acceptance img s q ok e z).1
