-- `packages::write::load` meets its contract.
use Rattle.changes.proofs.Verdicts.{asked_laid}
use Rattle.packages.proofs.Loaded.Written.{number_in_lem, load_brings, load_written}
use Rattle.packages.proofs.write.load.Goals as goal

pub name-requires-clause-laid : goal.name-requires-clause-laid
name-requires-clause-laid c = asked_laid _ _ _ c.requires.asked

pub name-requires-clause-inside : goal.name-requires-clause-inside
name-requires-clause-inside c = number_in_lem _ _ _ c.requires.asked _ c.requires.loads

pub bring_in-requires-clause-fit : goal.bring_in-requires-clause-fit
bring_in-requires-clause-fit c a = let fit = load_brings _ _ _ c.requires.asked _ c.requires.loads c.name.ensures in record { package_in = fit.package_in; takes_in = fit.takes_in; own_fits = fit.own_fits }

pub returns : goal.returns
returns c = load_written _ _ _ c.requires.asked _ c.requires.loads c.name.ensures (c.bring_in.ensures c.args.own.now)
