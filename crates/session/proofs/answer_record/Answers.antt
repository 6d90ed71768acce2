-- `session::answer_record` meets its contract, by those of the engine and of the line. Assumes nothing.
use Rattle.session.proofs.Answered.{answered}
use Rattle.session.proofs.answer_record.Goals as goal

pub returns : goal.returns
returns c = let both = answered _ _ c.judge-v.ensures (rw (c.numbers-answer.ensures.0, c.numbers-answer.ensures.1) at c.record_line.ensures) in record { printed = both.0; image_after = both.1 }
