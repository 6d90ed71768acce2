-- `services::adding::serve` meets its contract. Assumes nothing.
use Rattle.services.proofs.adding.serve.Goals as goal

pub grant_all-requires-clause-room : goal.grant_all-requires-clause-room
grant_all-requires-clause-room c = rw (c.take_in.ensures.tables, c.open_service.ensures.tables) c.requires.fit.room
