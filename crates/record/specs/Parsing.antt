-- What a record that was read stands for.
use Rattle.std.specs.Prelude.{ℕ, ◌≡◌, List, Option, Some, None}
use Rattle.std.proofs.Math.Option.{Option as Maybe, none, some}
use Rattle.policy.specs.Layout.{Layout}
use Rattle.policy.specs.Record.{Change, remove, add_service, remove_service, Request, parse}
use Rattle.geometry.specs.Geometry.{tok_of}
use Rattle.record.specs.Meaning.{change_of}
use Rattle.record.specs.Listed.{bytes_of, row_of, aids_of, change_by}
use Rattle.record.specs.declared.reading.Kind.{Kind}
use Rattle.record.specs.declared.reading.Kind.TheVariants as kind
use Rattle.record.specs.declared.reading.Record.{Record}

abbrev pub kind_of : Kind → Change
kind_of (kind.Contract k l) = change_by k l
kind_of kind.Remove = remove
kind_of (kind.AddService t l) = add_service (tok_of t) (aids_of l)
kind_of (kind.RemoveService t) = remove_service (tok_of t)
kind_of (kind.Row k r) = change_of k (row_of r)

abbrev pub record_of : Record → Request
record_of r = record { aid = bytes_of r.aid; change = kind_of r.kind }

abbrev pub request_of : Option Record → Maybe Request
request_of (Some r) = some (record_of r)
request_of None = none

-- r is the request that s reads as, and nothing exactly where s is no record
abbrev pub Parses : Layout → List ℕ → Option Record → Type 0
Parses L s r = request_of r ≡ parse L s
