-- `lines::frame_held` meets its contract: each return by the tests that led there. Assumes nothing.
use borrow.Author.Tests.{eq-eqb, ne_eqb, le-leb, lt-leb}
use Rattle.lines.proofs.Holding.{held_short, held_long}
use Rattle.lines.proofs.frame_held.Goals as goal

pub returns-then-have-eq0 : goal.returns-then-have-eq0
returns-then-have-eq0 c = rw (held_short _ _ c.if-have-lt2.true, c.if-ended.true, eq-eqb _ _ c.if-have-eq0.true)

pub returns-then-ended : goal.returns-then-ended
returns-then-ended c = rw (held_short _ _ c.if-have-lt2.true, c.if-ended.true, ne_eqb _ _ c.if-have-eq0.false)

pub returns-then-have-lt2 : goal.returns-then-have-lt2
returns-then-have-lt2 c = rw (held_short _ _ c.if-have-lt2.true, c.if-ended.false)

pub returns-in_default : goal.returns-in_default
returns-in_default c = rw (held_long _ _ c.if-have-lt2.false, ← c.frame_length.ensures, c.in_default.is)

pub returns-then-size-have : goal.returns-then-size-have
returns-then-size-have c = rw (held_long _ _ c.if-have-lt2.false, ← c.frame_length.ensures, c.in-Some.is, le-leb _ _ c.if-size-have.true)

pub returns-then-ended-2 : goal.returns-then-ended-2
returns-then-ended-2 c = rw (held_long _ _ c.if-have-lt2.false, ← c.frame_length.ensures, c.in-Some.is, lt-leb _ _ c.if-size-have.false, c.if-ended-2.true)

pub returns : goal.returns
returns c = rw (held_long _ _ c.if-have-lt2.false, ← c.frame_length.ensures, c.in-Some.is, lt-leb _ _ c.if-size-have.false, c.if-ended-2.false)
