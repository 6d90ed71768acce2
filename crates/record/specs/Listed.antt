-- What the code's things of a record stand for: an AID and a row by the bytes that they hold, a list by those that it has left.
use Rattle.std.specs.Prelude.{Bool, List, T}
use Rattle.policy.specs.Lists.{exists}
use Rattle.policy.specs.Contract.{Aid as Bytes, Tok, Row as RowOf, Contract}
use Rattle.policy.specs.Record.{Change, aid, tokens, a_row}
use Rattle.geometry.specs.Geometry.{tok_of}
use Rattle.record.specs.Meaning.{items_of, whole_of}
use Rattle.record.specs.declared.ContractKind.{ContractKind}
use Rattle.record.specs.declared.ContractKind.TheVariants.{Load, Replace}
use Rattle.record.specs.declared.list.Aid.{Aid}
use Rattle.record.specs.declared.list.Row.{Row}
use Rattle.record.specs.declared.list.Services.{Services}
use Rattle.record.specs.declared.list.Aids.{Aids}
use Rattle.record.specs.declared.list.Rows.{Rows}
use Rattle.record.specs.declared.list.Lists.{Lists}

abbrev pub bytes_of : Aid → Bytes
bytes_of a = a.bytes.now

abbrev pub row_of : Row → RowOf
row_of r = record { aid = bytes_of r.other; tok = tok_of r.tokens }

-- the things that a list has left
abbrev pub toks_of : Services → List Tok
toks_of l = items_of tokens l.left l.part.now

abbrev pub aids_of : Aids → List Bytes
aids_of l = items_of aid l.left l.part.now

abbrev pub rows_of : Rows → List RowOf
rows_of l = items_of a_row l.left l.part.now

-- the four lists of a contract, as the contract of the package with the AID a, and as a change
abbrev pub contract_by : Bytes → Lists → Contract
contract_by a l =
    record {
      aid = a;
      provides = toks_of l.provides;
      calls = rows_of l.calls;
      grants = rows_of l.grants;
      needs = rows_of l.needs;
    }

abbrev pub change_by : ContractKind → Lists → Change
change_by k l = whole_of k (toks_of l.provides) (rows_of l.calls) (rows_of l.grants) (rows_of l.needs)

abbrev pub load_by : Lists → Change
load_by l = change_by Load l

abbrev pub replace_by : Lists → Change
replace_by l = change_by Replace l

-- the rows of rest are among those of all: those after one of them, as a rule
abbrev pub Among : Rows → Rows → Type 0
Among all rest = (f : RowOf → Bool) → T (exists f (rows_of rest)) → T (exists f (rows_of all))
