-- `changes::service::close_service` meets its contract. Assumes nothing.
use native.Mathlib.Omega.{arith}
use Rattle.geometry.proofs.Bounds.{limits}
use Rattle.changes.proofs.ClearedService.{service_fits, service_closed}
use Rattle.changes.proofs.service.close_service.Goals as goal

pub without_bit-rest-requires : goal.without_bit-rest-requires
without_bit-rest-requires c = omega (arith, (limits c.args.c).services_low, c.requires.inside.1)

pub set_provided-requires : goal.set_provided-requires
set_provided-requires c = record { laid = c.requires.laid; inside = c.requires.inside.0; fits = service_fits c.args.c c.requires.laid c.args.j c.args.k c.requires.inside.1 _ _ c.provided_row-row.ensures c.without_bit-rest.ensures }

pub returns : goal.returns
returns c = service_closed c.args.c c.requires.laid c.args.j c.args.k c.requires.inside.1 _ _ c.provided_row-row.ensures c.without_bit-rest.ensures c.set_provided.ensures
