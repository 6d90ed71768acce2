-- What follows the first AID, by the kind byte. Assumes nothing.
use Prim.Native.Nat.{ℕ, suc, zero, ◌≤◌, ◌<◌}
use mathlib.Core.Path.{◌≡◌, refl}
use mathlib.Core.Bool.{Bool, true, false}
use mathlib.Core.List.{List}
use native.Mathlib.Omega.{arith}
use lib.ListN.{get_or}
use borrow.Author.Tests.{le-leb, lt-leb, ne_eqb}
use Rattle.policy.specs.Layout.{Layout, nine}
use Rattle.record.specs.declared.ContractKind.{ContractKind}
use Rattle.record.specs.declared.ContractKind.TheVariants.{Load, Replace}
use Rattle.record.specs.declared.RowKind.{RowKind}
use Rattle.record.specs.declared.RowKind.TheVariants.{AddCall, RemoveCall, AddGrant, RemoveGrant}
use Rattle.record.specs.Meaning.{whole_of, change_of, whole_byte, row_byte}
use Rattle.policy.specs.Record.{got, bad, Change, remove, remove_service, and_then, given, valid_tokens, valid_row, a_contract, a_service, change, kinds}
use Rattle.geometry.specs.declared.Card.{Card}
use Rattle.geometry.specs.declared.Card.TheVariants.{Small, Large}
use Rattle.geometry.specs.Geometry.{layout_of}

-- every card reads the kinds up to 8, and 11, and no other
reads_nine : (c : Card) → (layout_of c).reads ≡ nine
reads_nine Small = refl
reads_nine Large = refl

reads_8 : (c : Card) (k : ℕ) → k ≤ 8 → (layout_of c).reads k ≡ true
reads_8 c k h = rw (reads_nine c, le-leb k 8 h)

reads_11 : (c : Card) → (layout_of c).reads 11 ≡ true
reads_11 c = rw (reads_nine c)

reads_none : (c : Card) (k : ℕ) → 8 < k → (k ≡ 11 → ⊥) → (layout_of c).reads k ≡ false
reads_none c k h n = rw (reads_nine c, lt-leb k 8 h, ne_eqb k 11 n)

-- what reads nothing reads nothing under a test
given_bad : (b : Bool) (t : List ℕ) → given {A = Change} b (λ u. bad) t ≡ bad
given_bad true t = refl
given_bad false t = refl

module _ (c : Card) (t : List ℕ) where
  abbrev L : Layout
  L = layout_of c

  kind_read : (k : ℕ) → L.reads k ≡ true → change L k t ≡ get_or (kinds L) k (λ u. bad) t
  unfolding change
  kind_read k on = rw on

  pub change_whole : (k : ContractKind) → change L (whole_byte k) t ≡ a_contract L (whole_of k) t
  change_whole Load = kind_read 1 (reads_8 c 1 (omega arith))
  change_whole Replace = kind_read 11 (reads_11 c)

  pub change_2 : change L 2 t ≡ got remove t
  change_2 = kind_read 2 (reads_8 c 2 (omega arith))

  pub change_3 : change L 3 t ≡ a_service L t
  change_3 = kind_read 3 (reads_8 c 3 (omega arith))

  pub change_4 : change L 4 t ≡ and_then (valid_tokens L t) (λ s u. got (remove_service s) u)
  change_4 = kind_read 4 (reads_8 c 4 (omega arith))

  pub change_row : (k : RowKind) → change L (row_byte k) t ≡ and_then (valid_row L t) (λ r u. got (change_of k r) u)
  change_row AddCall = kind_read 5 (reads_8 c 5 (omega arith))
  change_row RemoveCall = kind_read 6 (reads_8 c 6 (omega arith))
  change_row AddGrant = kind_read 7 (reads_8 c 7 (omega arith))
  change_row RemoveGrant = kind_read 8 (reads_8 c 8 (omega arith))

  -- R-13: 'Kinds 9 and 10 are retired and get 2'; there is no kind 0, and none above 11
  pub change_none : (k : ℕ) → (k ≡ 11 → ⊥) → (0 < k → 8 < k) → change L k t ≡ bad
  unfolding change
  change_none zero n h = given_bad (L.reads 0) t
  change_none (suc k) n h = rw (reads_none c (suc k) (h (omega arith)) n)
