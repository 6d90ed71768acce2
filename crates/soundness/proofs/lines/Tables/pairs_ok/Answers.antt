-- `lines::Tables::pairs_ok` meets its contract.
use Rattle.bits.proofs.Loops.{early}
use Rattle.soundness.proofs.lines.Tables.pairs_ok.Goals as goal

pub loop-j-init : goal.loop-j-init
loop-j-init c = search early

pub returns-then-not-pair_ok : goal.returns-then-not-pair_ok
returns-then-not-pair_ok c = search early

pub loop-j-preserved : goal.loop-j-preserved
loop-j-preserved c = search early

pub returns : goal.returns
returns c = search early
