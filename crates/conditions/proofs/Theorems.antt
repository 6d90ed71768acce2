-- R-3's theorems of specs/Claims.antt and specs/Examples.antt, for every layout that is ok. Assumes nothing.
use Prim.Native.Nat.{ℕ, ◌<◌}
use native.Mathlib.Omega.{arith}
use mathlib.Core.Path.{◌≡◌, refl, sym, ap, ap₂, ◌∙◌, subst}
use mathlib.Core.Logic.{◌⊎◌, inl, inr, ◌↔◌}
use mathlib.Core.Bool.{Bool, true, false, not, ◌&&◌}
use mathlib.Core.List.{List, [], ◌∷◌}
use mathlib.Core.List.Memᴰ.{head as here}
use mathlib.Core.List.Memᴰ.{tail as there}
use mathlib.Core.List.{Memᴰ as In}
use mathlib.Core.Option.{Option}
use lib.Dec.{T, eqb, eqb_refl, leb}
use lib.ListN.{length}
use Rattle.policy.specs.Lists.{every, or_else}
use Rattle.policy.specs.Contract.{Contract, installed, calls_granted, needs_met, lawful}
use Rattle.policy.specs.Layout.{Layout, LayoutOk}
use Rattle.policy.specs.Record.{Request, proper}
use Rattle.policy.specs.Causes.{Cause, ◌when◌, answer}
use Rattle.policy.specs.Machine.{causes3to11, machine}
use Rattle.policy.specs.Tables.{Tables, decode}
use Rattle.policy.specs.Draft.{Look, draft}
use Rattle.policy.specs.ShortCheck.{newcomer_rights, newcomer_needs, others_rights, short_load, short_look}
use Rattle.policy.specs.Judge.{table_causes, look_causes, judge, load_record}
use Rattle.policy.specs.Records.{load_of, request_of}
use Rattle.policy.specs.History.{contracts_after}
use Rattle.policy.proofs.Sets.{T_false, false_T, and_l, and_r, and_i, not_false, not_e, every_in}
use Rattle.policy.proofs.Formed.{Formed, Stands}
use Rattle.policy.proofs.Facts.{under_i}
use Rattle.policy.proofs.ParseFacts.{parsed_within}
use Rattle.policy.proofs.SoundFacts.{sound_formed, sound_lawful, sound_fitting}
use Rattle.policy.proofs.Tests.{tests_agree}
use Rattle.policy.proofs.Verdict.{look_at, looks_agree}
use Rattle.policy.proofs.AllKinds.{kinds}
use Rattle.policy.proofs.Step.{stands_of}
use Rattle.policy.proofs.Theorems.{read_answer}
use Rattle.conditions.specs.Conditions.{condition₁, condition₂, condition₃}
use Rattle.conditions.specs.Claims.{FreeLoad, ThreeConditions, WorkedOut, LoadConditions}
use Rattle.conditions.specs.Examples.{ExamplesHold, StepsDiffer}
use Rattle.conditions.proofs.OnTables.{first_is, second_is, third_is}

-- ---- what an answer says of the three
abbrev Says : Bool → Bool → Bool → ℕ → Type 0
Says x y z n = ((n ≡ 8) ↔ ((T x → ⊥) ⊎ (T z → ⊥))) × ((n ≡ 9) ↔ (T x × (T y → ⊥) × T z)) × ((T x × T y × T z) ↔ In n (0 ∷ 10 ∷ 11 ∷ []))

-- 8 and 9 are no limits
no_limit : (n : ℕ) {m : ℕ} → T (every (λ k. not (eqb k n)) (0 ∷ 10 ∷ 11 ∷ [])) → m ≡ n → In m (0 ∷ 10 ∷ 11 ∷ []) → ⊥
no_limit n t e i = not_e (eqb n n) (subst (λ (k : ℕ). T (not (eqb k n))) e (every_in (λ k. not (eqb k n)) (0 ∷ 10 ∷ 11 ∷ []) t i)) (eqb_refl n)

neither : {A B : Type 0} → (A → ⊥) ⊎ (B → ⊥) → A → B → ⊥
neither (inl f) a b = f a
neither (inr f) a b = f b

says_8 : (x y z : Bool) → (T x → ⊥) ⊎ (T z → ⊥) → Says x y z 8
says_8 x y z f = (
  (λ _. f, λ _. refl),
  (λ e. absurd (omega arith), λ p. absurd (neither f p.0 p.2)),
  (λ p. absurd (neither f p.0 p.2), λ i. absurd (no_limit 8 tt refl i)),
)

says_9 : (x y z : Bool) → T x → (T y → ⊥) → T z → Says x y z 9
says_9 x y z a f c = (
  (λ e. absurd (omega arith), λ g. absurd (neither g a c)),
  (λ _. (a, f, c), λ _. refl),
  (λ p. absurd (f p.1), λ i. absurd (no_limit 9 tt refl i)),
)

says_limits : (x y z : Bool) → T x → T y → T z → (n : ℕ) → In n (0 ∷ 10 ∷ 11 ∷ []) → Says x y z n
says_limits x y z a b c n i = (
  (λ e. absurd (no_limit 8 tt e i), λ g. absurd (neither g a c)),
  (λ e. absurd (no_limit 9 tt e i), λ p. absurd (p.1 b)),
  (λ _. i, λ _. (a, b, c)),
)

-- the first of causes 8 to 11, of calls that are granted where the first and the third hold
abbrev verdict : Bool → Bool → Bool → Bool → ℕ
verdict g n u w = answer (8 when not g ∷ 9 when not n ∷ 10 when not u ∷ 11 when not w ∷ [])

says : (x y z u w : Bool) → Says x y z (verdict (x && z) y u w)
says false y z u w = says_8 false y z (inl (λ t. t))
says true y false u w = says_8 true y false (inr (λ t. t))
says true false true u w = says_9 true false true tt (λ t. t) tt
says true true true false w = says_limits true true true tt tt tt 10 (there (here refl))
says true true true true false = says_limits true true true tt tt tt 11 (there (there (here refl)))
says true true true true true = says_limits true true true tt tt tt 0 (here refl)

module _ (L : Layout) (lo : LayoutOk L) (img s : List ℕ) (cs : List Contract) (b : Contract) (h : FreeLoad L img s cs b) where
  abbrev t : Tables
  t = decode L img

  abbrev c₁ : Bool
  c₁ = condition₁ cs b

  abbrev c₂ : Bool
  c₂ = condition₂ cs b

  abbrev c₃ : Bool
  c₃ = condition₃ cs b

  formed : Formed L t
  formed = sound_formed L img h.stands.is_sound

  stands : Stands t [] cs
  stands = stands_of L img cs h.stands

  -- ---- free of causes 2 to 7
  free : (k : Cause) → In k (2 when false ∷ causes3to11 L cs (request_of b)) → k.number < 8 → T k.applies → ⊥
  free = subst (λ (o : Option Request). (k : Cause) → In k (or_else o (2 when true ∷ []) (λ q. 2 when false ∷ causes3to11 L cs q)) → k.number < 8 → T k.applies → ⊥) h.loads h.free

  not_3 : not (proper L b.aid (load_of b)) ≡ false
  not_3 = T_false (not (proper L b.aid (load_of b))) (free (3 when not (proper L b.aid (load_of b))) (there (here refl)) (omega arith))

  not_4 : installed cs b.aid ≡ false
  not_4 = T_false (installed cs b.aid) (free (4 when installed cs b.aid) (there (there (here refl))) (omega arith))

  not_7 : leb L.packages (length cs) ≡ false
  not_7 = T_false (leb L.packages (length cs)) (free (7 when leb L.packages (length cs)) (there (there (there (here refl)))) (omega arith))

  is_proper : T (proper L b.aid (load_of b))
  is_proper = not_false (proper L b.aid (load_of b)) not_3

  -- ---- b is a newcomer: no package has its AID
  away : (n : ℕ) → T (t.used n) → t.aid n ≡ b.aid → ⊥
  away n u e = false_T not_4 (under_i L t formed.names stands b.aid (λ c. true) n u e (λ c _ _. tt))

  first : newcomer_rights L t b ≡ c₁
  first = first_is L t cs b formed stands away

  second : newcomer_needs L t b ≡ c₂
  second = second_is L t cs b formed stands away

  third : others_rights L t b ≡ c₃
  third = third_is L t cs b formed stands away

  -- ---- the card afterwards: what its contracts say together is what the short check says
  abbrev ds : List Contract
  ds = b ∷ cs

  looked : look_at L ds ≡ short_load L t b
  unfolding short_look
  looked =
      let v = parsed_within L s (request_of b) h.loads in
      let e : answer (table_causes L t b.aid (load_of b)) ≡ 0 = ap answer (tests_agree L t cs formed stands b.aid (load_of b)) ∙ (λ i. answer (4 when not_4 i ∷ 7 when not_7 i ∷ [])) in
      let tu = (kinds (load_of b)).0 L t cs b.aid formed stands v.0 v.1 is_proper e in
      sym (looks_agree L (draft L t b.aid (load_of b)) ds tu.formed tu.lost_off tu.stands)
      ∙ (kinds (load_of b)).1 L t b.aid formed (sound_lawful L img h.stands.is_sound) (sound_fitting L img h.stands.is_sound) v.1 is_proper e

  granted : calls_granted ds ≡ (c₁ && c₃)
  granted = ap (λ (k : Look). k.granted) looked ∙ ap₂ ◌&&◌ first third

  needed : needs_met ds ≡ c₂
  needed = ap (λ (k : Look). k.needed) looked ∙ second

  lawful_is : lawful ds ≡ ((c₁ && c₃) && c₂)
  lawful_is = ap₂ ◌&&◌ granted needed

  -- ---- the answer
  late : (judge L img s).answered ≡ answer (look_causes (look_at L ds))
  late = read_answer L lo img s cs (request_of b) h.stands h.loads ∙ (λ i. answer (3 when not_3 i ∷ 4 when not_4 i ∷ 7 when not_7 i ∷ look_causes (look_at L ds)))

  by_conditions : (judge L img s).answered ≡ verdict (c₁ && c₃) c₂ (look_at L ds).unmet_fits (look_at L ds).waiting_fits
  by_conditions = late ∙ (λ i. verdict (granted i) (needed i) (look_at L ds).unmet_fits (look_at L ds).waiting_fits)

  three_conditions : ThreeConditions L cs b (judge L img s).answered
  three_conditions =
      let v = subst (Says c₁ c₂ c₃) (sym by_conditions) (says c₁ c₂ c₃ (look_at L ds).unmet_fits (look_at L ds).waiting_fits) in
      record {
        lawful_after = (
          λ p. subst T (sym lawful_is) (and_i (c₁ && c₃) c₂ (and_i c₁ c₃ p.0 p.2) p.1),
          λ p. let q = subst T lawful_is p in let g = and_l (c₁ && c₃) c₂ q in (and_l c₁ c₃ g, and_r (c₁ && c₃) c₂ q, and_r c₁ c₃ g),
        );
        eight = v.0;
        nine = v.1;
        limits = v.2;
      }

  -- ---- as the code works it out
  worked_out : WorkedOut L img s cs b
  worked_out = record { first = first; second = second; third = third; answered = late ∙ ap (λ (k : Look). answer (look_causes k)) looked }

pub load_conditions : (L : Layout) → LayoutOk L → LoadConditions L
load_conditions L lo img s cs b h = (three_conditions L lo img s cs b h, worked_out L lo img s cs b h)

pub examples_hold : ExamplesHold
unfolding contracts_after machine load_record
examples_hold = refl

pub steps_differ : StepsDiffer
unfolding contracts_after
steps_differ = refl
