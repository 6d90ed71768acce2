-- Histories, and what tables stand for: document 01, 'The plain machine', and demand 3.
use Rattle.std.specs.Prelude.{ℕ, ◌≡◌, T}
use mathlib.Core.List.{List, [], ◌∷◌, map}
use mathlib.Core.List.{Memᴰ as In}
use Rattle.policy.specs.Lists.{SameSet, NoRepeat}
use Rattle.policy.specs.Contract.{Tok, Row, Contract}
use Rattle.policy.specs.Layout.{Layout}
use Rattle.policy.specs.Machine.{machine}
use Rattle.policy.specs.Tables.{decode}
use Rattle.policy.specs.Lookup.{contract_at}
use Rattle.policy.specs.Sound.{sound}
use Rattle.policy.specs.Judge.{judge}
use Rattle.policy.specs.Records.{ValidTok}

-- 'the same AIDs, and under each the same services, calls, grants and needs'
pub record SameContract (c k : Contract) : Type 0 where
  pub aid : c.aid ≡ k.aid
  pub provides : SameSet c.provides k.provides
  pub calls : SameSet c.calls k.calls
  pub grants : SameSet c.grants k.grants
  pub needs : SameSet c.needs k.needs

-- 'four sets': no list of the contract repeats a row
pub record FourSets (c : Contract) : Type 0 where
  pub provides : NoRepeat c.provides
  pub calls : NoRepeat c.calls
  pub grants : NoRepeat c.grants
  pub needs : NoRepeat c.needs

-- R-7: the method tokens of the contract are L's. Needs are among the calls
pub record ValidTokens (L : Layout) (c : Contract) : Type 0 where
  pub provides : (s : Tok) → In s c.provides → ValidTok L s
  pub calls : (r : Row) → In r c.calls → ValidTok L r.tok
  pub grants : (r : Row) → In r c.grants → ValidTok L r.tok

-- the rules of L allow the contract: its method tokens are L's, and before R-2 'granted services are among those provided'
pub record Allowed (L : Layout) (c : Contract) : Type 0 where
  pub tokens : ValidTokens L c
  pub own : (T L.early → ⊥) → (r : Row) → In r c.grants → In r.tok c.provides

abbrev pub AllValid : Layout → List Contract → Type 0
AllValid L cs = (c : Contract) → In c cs → ValidTokens L c

abbrev pub AllAllowed : Layout → List Contract → Type 0
AllAllowed L cs = (c : Contract) → In c cs → Allowed L c

-- 'The tables of an image stand for contracts when it is sound and they are these and no others, one for each used number
-- under its AID'. The contract of a number is `contract_at`: 'provides, the token pairs at its set bits; calls, the bits of its row,
-- read as callee AID and tokens, and its unmet rows; needs, the bits of its row, read alike; grants, the bits of its row, read as
-- caller AID and tokens, and its waiting rows'.
pub record StandsFor (L : Layout) (img : List ℕ) (cs : List Contract) : Type 0 where
  pub is_sound : T (sound L img)
  pub these : (c : Contract) → In c cs → (n : ℕ) × T ((decode L img).used n) × SameContract c (contract_at L (decode L img) n)
  pub no_others : (n : ℕ) → T ((decode L img).used n) → (c : Contract) × In c cs × (c.aid ≡ (decode L img).aid n)
  pub one_each : NoRepeat (map (λ c. c.aid) cs)
  pub four_sets : (c : Contract) → In c cs → FourSets c

module _ (L : Layout) where
  -- the answers to a list of records, each of which finds the image as the last one left it, and the image after them
  unfoldable pub answers : List ℕ → List (List ℕ) → List ℕ
  unfolding judge
  answers img [] = []
  answers img (s ∷ ss) = let o = judge L img s in o.answered ∷ answers o.bytes ss

  unfoldable pub image_after : List ℕ → List (List ℕ) → List ℕ
  unfolding judge
  image_after img [] = img
  image_after img (s ∷ ss) = image_after (judge L img s).bytes ss

  -- the same of the plain machine
  unfoldable pub machine_answers : List Contract → List (List ℕ) → List ℕ
  unfolding machine
  machine_answers cs [] = []
  machine_answers cs (s ∷ ss) = let h = machine L cs s in h.answered ∷ machine_answers h.contracts ss

  unfoldable pub contracts_after : List Contract → List (List ℕ) → List Contract
  unfolding machine
  contracts_after cs [] = cs
  contracts_after cs (s ∷ ss) = contracts_after (machine L cs s).contracts ss
