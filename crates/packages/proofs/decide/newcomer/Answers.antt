-- `packages::decide::newcomer` meets its contract.
use Rattle.changes.proofs.SoundRows.{given_in}
use Rattle.packages.proofs.decide.newcomer.Goals as goal

pub due_rows-due-requires : goal.due_rows-due-requires
due_rows-due-requires c = given_in _ _ c.requires
