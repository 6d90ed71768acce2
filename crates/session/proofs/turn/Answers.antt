-- `session::turn` meets its contract: the turn of the transcript, by what the bytes held are. Assumes nothing.
use mathlib.Core.Path.{sym, ◌∙◌}
use lib.Seq.{length-take-le}
use Rattle.lines.proofs.Holding.{whole}
use Rattle.session.proofs.Turning.{of_record, of_start, of_bad, of_end}
use Rattle.session.proofs.turn.Goals as goal

pub slice_bounds-answer_record-end : goal.slice_bounds-answer_record-end
slice_bounds-answer_record-end c = let e = sym c.frame_held.ensures ∙ c.in-Record.is in sym (length-take-le _ _ (whole _ _ e).within)

pub answer_record-requires : goal.answer_record-requires
answer_record-requires c = let w = whole _ _ (sym c.frame_held.ensures ∙ c.in-Record.is) in rw (length-take-le _ _ w.within) w.least

pub returns-in-Record : goal.returns-in-Record
returns-in-Record c = let a = c.answer_record.ensures in of_record _ _ _ _ (sym c.frame_held.ensures ∙ c.in-Record.is) (a.printed, a.image_after)

pub returns-in-Start : goal.returns-in-Start
returns-in-Start c = of_start _ _ _ _ (sym c.frame_held.ensures ∙ c.in-Start.is)

pub returns-in-Bad : goal.returns-in-Bad
returns-in-Bad c = of_bad _ _ _ _ (sym c.frame_held.ensures ∙ c.in-Bad.is) c.bad_line.ensures

pub returns-in-End : goal.returns-in-End
returns-in-End c = of_end _ _ _ _ (sym c.frame_held.ensures ∙ c.in-End.is)
