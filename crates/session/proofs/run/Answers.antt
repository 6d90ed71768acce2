-- `session::run` meets its contract: turn by turn, until one calls for nothing more. Assumes nothing.
use native.Mathlib.Omega.{arith}
use borrow.Author.Rules.{rules}
use Rattle.lines.proofs.Reached.{starts}
use Rattle.session.proofs.Running.{begins, ready, moves}
use Rattle.session.proofs.run.Goals as goal

pub loop-p-init : goal.loop-p-init
loop-p-init c =
    let r = begins c.args.buf.now c.start-p.ensures (starts c.args.image.now c.requires.image_size c.write_empty.ensures) in
    search (r, rules)

pub advance-p-requires : goal.advance-p-requires
advance-p-requires c = let l = c.loop-p in ready l.invariant.2 c.loop-p-test.true (omega (arith, l.invariant.1, c.requires.buf_size))

pub loop-p-smaller : goal.loop-p-smaller
loop-p-smaller c = let l = c.loop-p in (moves _ _ _ _ _ l.invariant.2 c.loop-p-test.true (omega (arith, l.invariant.1, c.requires.buf_size)) c.advance-p.ensures).1

pub loop-p-preserved : goal.loop-p-preserved
loop-p-preserved c =
    let l = c.loop-p in
    let m = (moves _ _ _ _ _ l.invariant.2 c.loop-p-test.true (omega (arith, l.invariant.1, c.requires.buf_size)) c.advance-p.ensures).0 in
    search (m, rules)

pub returns : goal.returns
returns c = let run = c.loop-p.invariant.2 in record { reached = run.reached; over = run.over c.loop-p-test.false }
