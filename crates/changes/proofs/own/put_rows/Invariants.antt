-- `changes::own::put_rows` meets its contract.
use mathlib.Core.List.{[]}
use Rattle.geometry.specs.Geometry.{layout_of, tables_of}
use Rattle.record.specs.Listed.{rows_of}
use Rattle.changes.specs.Own.{own_rows}
use Rattle.changes.proofs.OwnPut.{OwnLeft}
use Rattle.changes.proofs.own.put_rows.Given as goal

abbrev pub invariant-loop-r : goal.invariant-loop-r
invariant-loop-r l =
    let a = l.fn.l in
    let whole = own_rows (layout_of l.c) l.n (rows_of a.calls) (rows_of a.grants) (rows_of a.needs) (tables_of l.c l.fn.img) in
    OwnLeft (layout_of l.c) l.n whole (rows_of l.r-iterator) (rows_of a.grants) (rows_of a.needs) l.img

abbrev pub invariant-loop-r-2 : goal.invariant-loop-r-2
invariant-loop-r-2 l =
    let a = l.fn.l in
    let whole = own_rows (layout_of l.c) l.n (rows_of a.calls) (rows_of a.grants) (rows_of a.needs) (tables_of l.c l.fn.img) in
    OwnLeft (layout_of l.c) l.n whole [] (rows_of l.r-iterator) (rows_of a.needs) l.img

abbrev pub invariant-loop-r-3 : goal.invariant-loop-r-3
invariant-loop-r-3 l =
    let a = l.fn.l in
    let whole = own_rows (layout_of l.c) l.n (rows_of a.calls) (rows_of a.grants) (rows_of a.needs) (tables_of l.c l.fn.img) in
    OwnLeft (layout_of l.c) l.n whole [] [] (rows_of l.r-iterator) l.img
