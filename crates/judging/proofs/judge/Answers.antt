-- `judging::judge` meets its contract: the causes in turn.
use mathlib.Core.Bool.{not}
use mathlib.Core.Path.{ap}
use Rattle.judging.proofs.Judged.{unsound, malformed, taken, judges}
use Rattle.judging.proofs.judge.Goals as goal

pub returns-then-not-is_sound : goal.returns-then-not-is_sound
returns-then-not-is_sound c = unsound _ _ _ c.is_sound.ensures (ap not c.if-not-is_sound.true)

pub returns-in_default : goal.returns-in_default
returns-in_default c = malformed _ _ _ c.is_sound.ensures (ap not c.if-not-is_sound.false) c.read_record.ensures c.in_default.is

pub judge_read-requires : goal.judge_read-requires
judge_read-requires c = taken _ _ _ c.is_sound.ensures (ap not c.if-not-is_sound.false) c.read_record.ensures c.in-Some.is

pub returns : goal.returns
returns c = judges _ _ _ c.is_sound.ensures (ap not c.if-not-is_sound.false) c.read_record.ensures c.in-Some.is c.judge_read.ensures
