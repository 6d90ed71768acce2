-- `lines::write_column` meets its contract: a space, then the digits or `-`. Assumes nothing.
use native.Mathlib.Omega.{arith}
use Rattle.lines.proofs.Columns.{column}
use Rattle.lines.proofs.write_column.Goals as goal

pub returns-in-Some-clause-written : goal.returns-in-Some-clause-written
returns-in-Some-clause-written c = column _ _ _ _ _ _ _ _ c.in-Some.is (omega (arith, c.requires)) c.put_byte-from.ensures c.write_byte.ensures.written

pub returns-in-None-clause-written : goal.returns-in-None-clause-written
returns-in-None-clause-written c = column _ _ _ _ _ _ _ _ c.in-None.is (omega (arith, c.requires)) c.put_byte-from.ensures c.put_byte.ensures
