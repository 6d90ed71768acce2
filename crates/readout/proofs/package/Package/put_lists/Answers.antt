-- `readout::package::Package::put_lists` meets its contract. Assumes nothing.
use mathlib.Core.Path.{refl}
use Rattle.readout.proofs.Writers.{three_put}
use Rattle.readout.proofs.package.Package.put_lists.Goals as goal

pub returns : goal.returns
returns c = three_put _ _ _ _ refl c.put_rows.ensures c.put_rows-2.ensures c.put_needs.ensures
