-- `rows::drop_rows` meets its contract.
use native.Mathlib.Omega.{arith}
use lib.ListN.{length-set}
use Rattle.rows.proofs.Area.{drop_none, kept_fits, drop_is}
use Rattle.rows.proofs.drop_rows.Goals as goal

pub returns-then-mask-eq0 : goal.returns-then-mask-eq0
returns-then-mask-eq0 c = drop_none c.args.width c.args.area.now c.requires.area c.args.mask c.if-mask-eq0.true

pub overflow_mul-to : goal.overflow_mul-to
overflow_mul-to c =
    let u = c.close_up-kept in
    let e = kept_fits c.args.width c.args.area.now c.requires.area c.args.mask u.result u.ensures.0 in
    omega (arith, u.auto.area)

pub overflow_add-to : goal.overflow_add-to
overflow_add-to c =
    let u = c.close_up-kept in
    let e = kept_fits c.args.width c.args.area.now c.requires.area c.args.mask u.result u.ensures.0 in
    omega (arith, u.auto.area)

pub overflow_sub-len : goal.overflow_sub-len
overflow_sub-len c =
    let u = c.close_up-kept in
    let e = kept_fits c.args.width c.args.area.now c.requires.area c.args.mask u.result u.ensures.0 in
    omega (arith, u.auto.area)

pub clear-requires : goal.clear-requires
clear-requires c =
    let u = c.close_up-kept in
    let e = kept_fits c.args.width c.args.area.now c.requires.area c.args.mask u.result u.ensures.0 in
    omega (arith, u.auto.area)

pub shape_of-area : goal.shape_of-area
shape_of-area c = simp length-set (omega (arith, c.clear.auto.a, c.close_up-kept.auto.area))

pub returns : goal.returns
returns c =
    let u = c.close_up-kept in
    rw c.clear.ensures (drop_is c.args.width c.args.area.now c.requires.area c.args.mask u.result u.ensures.0 u.new.area u.ensures.1)
