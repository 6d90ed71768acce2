-- `record::reading::read_kind` meets its contract: each kind byte picks the same case of `change`.
use mathlib.Core.Path.{sym}
use native.Mathlib.Omega.{arith}
use Rattle.record.specs.declared.ContractKind.TheVariants.{Load, Replace}
use Rattle.record.specs.declared.RowKind.TheVariants.{AddCall, RemoveCall, AddGrant, RemoveGrant}
use Rattle.record.proofs.ByKind.{change_whole, change_row, change_2, change_3, change_4, change_none}
use Rattle.record.proofs.reading.read_kind.Goals as goal

pub returns-in_err-lists : goal.returns-in_err-lists
returns-in_err-lists c = let k = c.in-Some.k in rw (c.from_residual.ensures, c.in-Some.ensures, change_whole c.args.c _ k, ← (c.in_err-lists.ensures k))

pub returns-in-Some : goal.returns-in-Some
returns-in-Some c = let k = c.in-Some.k in rw (c.in-Some.ensures, change_whole c.args.c _ k, ← (c.in_ok-lists.ensures k))

pub returns-in_err-row : goal.returns-in_err-row
returns-in_err-row c = rw (c.from_residual-in_err-row.ensures, c.in-Some-of.ensures, change_row c.args.c _ c.in-Some-of.k, ← c.in_err-row.ensures.reads)

pub returns-in-Some-of : goal.returns-in-Some-of
returns-in-Some-of c = rw (c.in-Some-of.ensures, change_row c.args.c _ c.in-Some-of.k, ← c.in_ok-row.ensures.reads)

pub returns-in-2 : goal.returns-in-2
returns-in-2 c = rw (c.in-2.is, change_2 c.args.c)

pub returns-in-3 : goal.returns-in-3
returns-in-3 c = rw (c.in-3.is, change_3 c.args.c, ← c.new_service.ensures)

pub returns-in_err-tokens-in-4 : goal.returns-in_err-tokens-in-4
returns-in_err-tokens-in-4 c = rw (c.from_residual-in_err-tokens-in-4.ensures, c.in-4.is, change_4 c.args.c, ← c.in_err-tokens-in-4.ensures.reads.reads)

pub returns-in_ok-tokens-in-4 : goal.returns-in_ok-tokens-in-4
returns-in_ok-tokens-in-4 c = rw (c.in-4.is, change_4 c.args.c, ← c.in_ok-tokens-in-4.ensures.reads.reads)

pub returns-in_default-kind : goal.returns-in_default-kind
returns-in_default-kind c =
    let whole = c.in_default.ensures in
    let row = c.in_default-of.ensures in
    sym (change_none c.args.c _ c.args.kind (whole Replace) (λ h. omega (arith, whole Load, row AddCall, row RemoveCall, row AddGrant, row RemoveGrant)))
