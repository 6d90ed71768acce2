-- What was read, and the changes of the kinds.
use Rattle.std.specs.Prelude.{ℕ, ◌≡◌, List, [], Option, Some, None}
use Rattle.policy.specs.Contract.{Tok, Row}
use Rattle.policy.specs.Record.{Got, got, bad, Reader, many, Change, load, replace, add_call, remove_call, add_grant, remove_grant}
use Rattle.record.specs.declared.ContractKind.{ContractKind}
use Rattle.record.specs.declared.ContractKind.TheVariants.{Load, Replace}
use Rattle.record.specs.declared.RowKind.{RowKind}
use Rattle.record.specs.declared.RowKind.TheVariants.{AddCall, RemoveCall, AddGrant, RemoveGrant}

-- the value, or d where there is none
abbrev pub value_of : {A : Type 0} → A → Got A → A
value_of d (got a s) = a
value_of d bad = d

-- something was read
abbrev pub Good : {A : Type 0} → Got A → Type 0
Good (got a s) = Unit {0}
Good bad = ⊥

-- the n things that stand at the front of s
abbrev pub items_of : {A : Type 0} → Reader A → ℕ → List ℕ → List A
items_of p n s = value_of [] (many p n s)

-- the change of a whole contract; R-1: 'Kind 11 has a load's layout'
abbrev pub whole_of : ContractKind → List Tok → List Row → List Row → List Row → Change
whole_of Load = load
whole_of Replace = replace

-- the change of one row
abbrev pub change_of : RowKind → Row → Change
change_of AddCall r = add_call r
change_of RemoveCall r = remove_call r
change_of AddGrant r = add_grant r
change_of RemoveGrant r = remove_grant r

-- the kind byte of each
abbrev pub whole_byte : ContractKind → ℕ
whole_byte Load = 1
whole_byte Replace = 11

abbrev pub row_byte : RowKind → ℕ
row_byte AddCall = 5
row_byte RemoveCall = 6
row_byte AddGrant = 7
row_byte RemoveGrant = 8

-- r is the case with the kind byte n, and nothing exactly where none has it
abbrev pub Names : {K : Type 0} → (K → ℕ) → ℕ → Option K → Type 0
Names byte n (Some k) = n ≡ byte k
Names {K} byte n None = (k : K) → n ≡ byte k → ⊥
