-- `record::proper::repeats` meets its contract: the mark filters, the comparison decides.
use Rattle.std.proofs.Common.{rules}
use mathlib.Core.Bool.{not}
use mathlib.Core.Path.{ap}
use Rattle.std.proofs.lemmas.Iterator.{YieldsList-from_take}
use Rattle.std.proofs.lemmas.Iterator.Consumers.{YieldsList-from_first}
use Rattle.record.specs.Listed.{row_of, rows_of}
use Rattle.record.proofs.Marks.{mark_fits, sifts_new, sifts_met}
use Rattle.record.proofs.Found.{any_of}
use Rattle.record.proofs.proper.repeats.Goals as goal

pub mark-requires : goal.mark-requires
mark-requires c = mark_fits _ c.row_mark-h.ensures

pub returns-then-not-mark : goal.returns-then-not-mark
returns-then-not-mark c = sifts_new c.row_mark-h.ensures c.mark.ensures (ap not c.if-not-mark.true)

pub returns : goal.returns
returns c =
    let first = YieldsList-from_take c.args.k (YieldsList-from_first row_of rows_of (rows_of c.args.of) (ap rows_of c.take.ensures.source)) c.take.ensures.count in
    sifts_met c.row_mark-h.ensures c.mark.ensures (any_of _ c.any.new.self c.any.ensures.ran first (λ x b q k. search rules)) (ap not c.if-not-mark.false)
