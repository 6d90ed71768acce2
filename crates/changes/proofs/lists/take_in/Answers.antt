-- `changes::lists::take_in` meets its contract.
use Rattle.changes.proofs.RowsToBits.{met_dues}
use Rattle.changes.proofs.lists.take_in.Goals as goal

pub settle-requires-clause-there : goal.settle-requires-clause-there
settle-requires-clause-there c = met_dues _ _ _ _ _ c.requires.fit c.meet.ensures
