-- `changes::service::open_service` meets its contract. Assumes nothing.
use Rattle.geometry.proofs.Bounds.{service_lt}
use Rattle.geometry.specs.Geometry.{tok_of}
use Rattle.changes.proofs.OpenedService.{open_fits, open_wrote}
use Rattle.changes.proofs.service.open_service.Goals as goal

pub with_bit-with-requires : goal.with_bit-with-requires
with_bit-with-requires c = service_lt c.args.c c.args.k c.requires.numbers.1

pub set_provided-requires : goal.set_provided-requires
set_provided-requires c =
    let a = c.args in
    let fits = open_fits a.c c.requires.laid a.j a.k c.requires.numbers.1 (tok_of a.t) c.put_tok.ensures _ _ c.provided_row-row.ensures c.with_bit-with.ensures in
    record { laid = c.put_tok.ensures.laid; inside = c.requires.numbers.0; fits = fits }

pub returns : goal.returns
returns c =
    let a = c.args in
    open_wrote a.c c.requires.laid a.j a.k c.requires.numbers.1 (tok_of a.t) c.put_tok.ensures _ _ c.provided_row-row.ensures c.with_bit-with.ensures
    c.set_provided.ensures
