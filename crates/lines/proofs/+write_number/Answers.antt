-- `lines::write_number` meets its contract: the digits of the tenth part, then the last digit. Assumes nothing.
use mathlib.Core.Path.{ap}
use native.Mathlib.Omega.{arith}
use lib.ListN.{length}
use Rattle.lines.proofs.Text.{after}
use Rattle.lines.proofs.Digits.{digits_one, digits_more, length_more}
use Rattle.lines.proofs.+write_number.Goals as goal

pub put_byte-requires : goal.put_byte-requires
put_byte-requires t c = omega (arith, ap length (digits_one _ c.if-n-lt10.true))

pub returns-then-n-lt10 : goal.returns-then-n-lt10
returns-then-n-lt10 t c = rw (digits_one _ c.if-n-lt10.true) c.put_byte.ensures

pub write_number-end-requires : goal.write_number-end-requires
write_number-end-requires t c = (omega arith, omega (arith, length_more c.args.n c.if-n-lt10.false))

pub put_byte-requires-2 : goal.put_byte-requires-2
put_byte-requires-2 t c =
    let w = c.write_number-end in
    omega (arith, length_more c.args.n c.if-n-lt10.false, w.ensures.ends, w.auto.out, c.requires)

pub returns : goal.returns
returns t c =
    let left = c.if-n-lt10.false in
    rw (digits_more c.args.n left)
    (after _ _ _ _ _ _ _ _ (omega (arith, length_more c.args.n left, c.requires)) c.write_number-end.ensures c.put_byte-2.ensures)
