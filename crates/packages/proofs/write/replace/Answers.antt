-- `packages::write::replace` meets its contract.
use Rattle.image.proofs.LaidImage.{laid_on}
use Rattle.changes.proofs.Verdicts.{asked_laid}
use Rattle.packages.proofs.Replaced.Written.{number_in_lem, replace_brings, replace_room, replace_written}
use Rattle.packages.proofs.write.replace.Goals as goal

pub invariant_of-view : goal.invariant_of-view
invariant_of-view c = record { laid = laid_on c.args.c (asked_laid _ _ _ c.requires.asked) }

pub note_calls-rows-requires : goal.note_calls-rows-requires
note_calls-rows-requires c = number_in_lem _ _ _ c.requires.asked _ c.requires.renews

pub token_row-tokens-requires : goal.token_row-tokens-requires
token_row-tokens-requires c = number_in_lem _ _ _ c.requires.asked _ c.requires.renews

pub strip-requires-clause-inside : goal.strip-requires-clause-inside
strip-requires-clause-inside c = number_in_lem _ _ _ c.requires.asked _ c.requires.renews

pub bring_in-requires-clause-fit : goal.bring_in-requires-clause-fit
bring_in-requires-clause-fit c a = let fit = replace_brings _ _ _ c.requires.asked _ c.requires.renews c.strip.ensures in record { package_in = fit.package_in; takes_in = fit.takes_in; own_fits = fit.own_fits }

pub leave_noted-requires-clause-laid : goal.leave_noted-requires-clause-laid
leave_noted-requires-clause-laid c = (c.bring_in.ensures c.args.own.now).laid

pub leave_noted-requires-clause-room : goal.leave_noted-requires-clause-room
leave_noted-requires-clause-room c =
    replace_room _ _ _ c.requires.asked _ c.requires.renews c.strip.ensures (c.bring_in.ensures c.args.own.now) c.note_calls-rows.result c.token_row-tokens.result c.note_calls-rows.ensures.0 c.token_row-tokens.ensures.0

pub returns : goal.returns
returns c =
    replace_written _ _ _ c.requires.asked _ c.requires.renews c.strip.ensures (c.bring_in.ensures c.args.own.now) c.note_calls-rows.result c.token_row-tokens.result c.note_calls-rows.ensures.0 c.token_row-tokens.ensures.0
    c.leave_noted.ensures
