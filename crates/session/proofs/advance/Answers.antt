-- `session::advance` meets its contract: what the turn calls for is done. Assumes nothing.
use mathlib.Core.Path.{refl, sym}
use native.Mathlib.Omega.{arith}
use lib.Seq.{length-take-le}
use Rattle.lines.proofs.Session.{calls}
use Rattle.session.proofs.Turning.{told_read, told_line, told_last, told_end, by_read, by_line, by_last, by_end, keeps_held}
use Rattle.session.proofs.advance.Goals as goal

pub slice_bounds-turn-end-2 : goal.slice_bounds-turn-end-2
slice_bounds-turn-end-2 c = sym (length-take-le c.args.p.have c.args.buf.now (omega (arith, c.requires.held, c.requires.buffer)))

pub overflow_sub-want : goal.overflow_sub-want
overflow_sub-want c = omega (arith, ((calls _ _ _ _ (told_read c.turn.ensures c.in-Read.is).0)).more, (length-take-le c.args.p.have c.args.buf.now (omega (arith, c.requires.held, c.requires.buffer))))

pub slice_bounds-read_full-count : goal.slice_bounds-read_full-count
slice_bounds-read_full-count c = omega (arith, ((calls _ _ _ _ (told_read c.turn.ensures c.in-Read.is).0)).more, (length-take-le c.args.p.have c.args.buf.now (omega (arith, c.requires.held, c.requires.buffer))))

pub slice_bounds-read_full-start : goal.slice_bounds-read_full-start
slice_bounds-read_full-start c = omega (arith, ((calls _ _ _ _ (told_read c.turn.ensures c.in-Read.is).0)).more, (length-take-le c.args.p.have c.args.buf.now (omega (arith, c.requires.held, c.requires.buffer))))

pub slice_bounds-read_full-end : goal.slice_bounds-read_full-end
slice_bounds-read_full-end c = omega (arith, ((calls _ _ _ _ (told_read c.turn.ensures c.in-Read.is).0)).most, c.requires.buffer)

pub slice_bounds-text-end : goal.slice_bounds-text-end
slice_bounds-text-end c = omega (arith, (told_line c.turn.ensures c.in-Line.is).2.fits)

pub slice_bounds-write_all-end : goal.slice_bounds-write_all-end
slice_bounds-write_all-end c = (told_line c.turn.ensures c.in-Line.is).2.part

pub gave-requires : goal.gave-requires
gave-requires c = c.requires.below

pub slice_bounds-text-end-in-Last : goal.slice_bounds-text-end-in-Last
slice_bounds-text-end-in-Last c = omega (arith, (told_last c.turn.ensures c.in-Last.is).2.fits)

pub slice_bounds-write_all-end-in-Last : goal.slice_bounds-write_all-end-in-Last
slice_bounds-write_all-end-in-Last c = (told_last c.turn.ensures c.in-Last.is).2.part

pub returns-in-Read : goal.returns-in-Read
returns-in-Read c = by_read c.read_full-got.result (told_read c.turn.ensures c.in-Read.is) c.took.ensures (omega arith) (keeps_held c.args.p.have c.args.buf.now _ (omega (arith, c.requires.held, c.requires.buffer)))

pub returns-in-Line : goal.returns-in-Line
returns-in-Line c = by_line c.write_all-taken.result (told_line c.turn.ensures c.in-Line.is).1 c.gave.ensures

pub returns-in-Last : goal.returns-in-Last
returns-in-Last c = let h = told_last c.turn.ensures c.in-Last.is in by_last h.1 c.stop.ensures refl h.3

pub returns-in-End : goal.returns-in-End
returns-in-End c = by_end (told_end c.turn.ensures c.in-End.is) c.stop-in-End.ensures refl
