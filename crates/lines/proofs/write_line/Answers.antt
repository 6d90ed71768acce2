-- `lines::write_line` meets its contract: each part where the one before it ended. Assumes nothing.
use native.Mathlib.Omega.{arith}
use Rattle.lines.proofs.Text.{after, print}
use Rattle.lines.proofs.Digits.{digits_most}
use Rattle.lines.proofs.write_line.Goals as goal

pub write_number-at-requires : goal.write_number-at-requires
write_number-at-requires c = omega (arith, digits_most 19 c.args.ordinal (omega arith))

pub write_column-at-requires : goal.write_column-at-requires
write_column-at-requires c = omega (arith, digits_most 19 c.args.ordinal (omega arith))

pub write_column-at-requires-2 : goal.write_column-at-requires-2
write_column-at-requires-2 c = omega (arith, digits_most 19 c.args.ordinal (omega arith))

pub write_column-at-requires-3 : goal.write_column-at-requires-3
write_column-at-requires-3 c = omega (arith, digits_most 19 c.args.ordinal (omega arith))

pub put_byte-requires : goal.put_byte-requires
put_byte-requires c = omega (arith, digits_most 19 c.args.ordinal (omega arith))

pub returns : goal.returns
returns c =
    let o = digits_most 19 c.args.ordinal (omega arith) in
    print _ _ _ _ (omega arith)
    (after _ _ _ _ _ _ _ _ (omega arith) c.write_number-at.ensures
    (after _ _ _ _ _ _ _ _ (omega arith) c.write_column-at.ensures.written
    (after _ _ _ _ _ _ _ _ (omega arith) c.write_column-at-2.ensures.written
    (after _ _ _ _ _ _ _ _ (omega arith) c.write_column-at-3.ensures.written
    c.put_byte.ensures))))
