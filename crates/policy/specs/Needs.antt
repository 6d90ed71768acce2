-- R-13: 'Needs only with the contract'. What a package needs after a record; and that, where kinds 9 and 10 are not read, only a whole
-- contract and the removal of a call change that.
use Rattle.std.specs.Prelude.{ℕ, ◌≡◌, ◌↔◌, ◌⊎◌, List, [], ◌∷◌, T}
use mathlib.Core.List.{Memᴰ as In}
use Rattle.std.proofs.Math.Option.{some}
use Rattle.policy.specs.Contract.{Aid, Row}
use Rattle.policy.specs.Layout.{Layout, renewed, retired}
use Rattle.policy.specs.Record.{Request, Change, load, remove, parse}
use Rattle.policy.specs.Record.{add_service, remove_service, add_call, remove_call, add_grant, remove_grant, add_need, remove_need, replace}
use Rattle.policy.specs.Tables.{decode}
use Rattle.policy.specs.Lookup.{contract_at}
use Rattle.policy.specs.Sound.{sound}
use Rattle.policy.specs.Judge.{judge}
use Rattle.policy.specs.Records.{kind_of}
use Rattle.policy.specs.History.{image_after}

-- whether the package of an accepted record needs r after it, by whether it did before: a whole contract says what is needed, a call
-- that goes takes its need along, kinds 9 and 10 add and remove a need where they are read, and nothing else changes one
abbrev pub NeededBy : Change → Row → Type 0 → Type 0
NeededBy (load p c g n) r before = In r n
NeededBy remove r before = ⊥
NeededBy (add_service s l) r before = before
NeededBy (remove_service s) r before = before
NeededBy (add_call x) r before = before
NeededBy (remove_call x) r before = before × (x ≡ r → ⊥)
NeededBy (add_grant x) r before = before
NeededBy (remove_grant x) r before = before
NeededBy (add_need x) r before = before ⊎ (x ≡ r)
NeededBy (remove_need x) r before = before × (x ≡ r → ⊥)
NeededBy (replace p c g n) r before = In r n

module _ (L : Layout) where
  -- the package a is on the card, and needs the service r
  abbrev pub NeedsOn : List ℕ → Aid → Row → Type 0
  NeedsOn img a r = (n : ℕ) × T ((decode L img).used n) × ((decode L img).aid n ≡ a) × In r (contract_at L (decode L img) n).needs

  -- of the record's own package, and of the others, which need what they needed
  abbrev pub NeedsAfter : Type 0
  NeedsAfter = (img s : List ℕ) (q : Request) → T (sound L img) → parse L s ≡ some q → (judge L img s).answered ≡ 0 → (a : Aid) (r : Row)
      → ((q.aid ≡ a) → NeedsOn (judge L img s).bytes a r ↔ NeededBy q.change r (NeedsOn img a r))
      × ((q.aid ≡ a → ⊥) → NeedsOn (judge L img s).bytes a r ↔ NeedsOn img a r)

  -- a record of the package a by which it may come to need r, or no longer need it: a whole contract, or the removal of that call
  abbrev pub MovesNeed : Aid → Row → List ℕ → Type 0
  MovesNeed a r s =
      (q : Request) × (parse L s ≡ some q) × (q.aid ≡ a) × (In (kind_of q.change) (1 ∷ 2 ∷ 11 ∷ []) ⊎ (q.change ≡ remove_call r))

  -- over records without such a one, accepted or not, a needs r exactly where it did
  abbrev pub NeedsStay : Type 0
  NeedsStay = (img : List ℕ) (ss : List (List ℕ)) (a : Aid) (r : Row) → T (sound L img)
      → ((s : List ℕ) → In s ss → MovesNeed a r s → ⊥) → NeedsOn (image_after L img ss) a r ↔ NeedsOn img a r

-- 'Needs set by them stay in force': at R-13's change every need of a card stays
abbrev pub NeedsGoOn : Type 0
NeedsGoOn = (img : List ℕ) → T (sound renewed img) → (a : Aid) (r : Row) → NeedsOn renewed img a r ↔ NeedsOn retired img a r
