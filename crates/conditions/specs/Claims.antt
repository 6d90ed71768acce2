-- R-3: the theorems, as statements, for every layout that is ok.
use Rattle.std.specs.Prelude.{ℕ, ◌<◌, ◌≡◌, ◌⊎◌, ◌↔◌, List, [], ◌∷◌, T}
use mathlib.Core.List.{Memᴰ as In}
use Rattle.std.proofs.Math.Option.{some}
use Rattle.policy.specs.Contract.{Contract, lawful}
use Rattle.policy.specs.Layout.{Layout}
use Rattle.policy.specs.Record.{parse}
use Rattle.policy.specs.Causes.{Cause, answer}
use Rattle.policy.specs.Machine.{effect}
use Rattle.policy.specs.Tables.{decode}
use Rattle.policy.specs.ShortCheck.{newcomer_rights, newcomer_needs, others_rights, short_load}
use Rattle.policy.specs.Judge.{look_causes, judge}
use Rattle.policy.specs.Records.{load_of, request_of}
use Rattle.policy.specs.History.{StandsFor}
use Rattle.policy.specs.Claims.{all_causes}
use Rattle.conditions.specs.Conditions.{condition₁, condition₂, condition₃}

-- 'every load on a sound image free of causes 2 to 7': record s loads b on an image that stands for cs
pub record FreeLoad (L : Layout) (img s : List ℕ) (cs : List Contract) (b : Contract) : Type 0 where
  pub stands : StandsFor L img cs
  pub loads : parse L s ≡ some (request_of b)
  pub free : (k : Cause) → In k (all_causes L cs s) → k.number < 8 → T k.applies → ⊥

-- what the answer n to such a load says of the three conditions
pub record ThreeConditions (L : Layout) (cs : List Contract) (b : Contract) (n : ℕ) : Type 0 where
  -- 'all three hold exactly when the card is lawful afterwards'
  pub lawful_after : (T (condition₁ cs b) × T (condition₂ cs b) × T (condition₃ cs b)) ↔ T (lawful (effect L cs b.aid (load_of b)))
  -- '8 comes exactly when the first or third fails'
  pub eight : (n ≡ 8) ↔ ((T (condition₁ cs b) → ⊥) ⊎ (T (condition₃ cs b) → ⊥))
  -- '9 exactly when the second alone does'
  pub nine : (n ≡ 9) ↔ (T (condition₁ cs b) × (T (condition₂ cs b) → ⊥) × T (condition₃ cs b))
  -- where all three hold the limits decide
  pub limits : (T (condition₁ cs b) × T (condition₂ cs b) × T (condition₃ cs b)) ↔ In n (0 ∷ 10 ∷ 11 ∷ [])

-- the three as the code works them, on the tables; and the answer that it gives by them
pub record WorkedOut (L : Layout) (img s : List ℕ) (cs : List Contract) (b : Contract) : Type 0 where
  pub first : newcomer_rights L (decode L img) b ≡ condition₁ cs b
  pub second : newcomer_needs L (decode L img) b ≡ condition₂ cs b
  pub third : others_rights L (decode L img) b ≡ condition₃ cs b
  pub answered : (judge L img s).answered ≡ answer (look_causes (short_load L (decode L img) b))

abbrev pub LoadConditions : Layout → Type 0
LoadConditions L = (img s : List ℕ) (cs : List Contract) (b : Contract) → FreeLoad L img s cs b
    → ThreeConditions L cs b (judge L img s).answered × WorkedOut L img s cs b
