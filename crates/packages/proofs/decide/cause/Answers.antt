-- `packages::decide::cause` meets its contract.
use native.Mathlib.Omega.{arith}
use Rattle.image.specs.Image.{lay, tables}
use Rattle.record.specs.Listed.{contract_by}
use Rattle.packages.proofs.Checks.{cause_1, cause_2, cause_3, cause_freed, cause_rest, calls_few}
use Rattle.packages.proofs.decide.cause.Goals as goal
use Rattle.packages.proofs.decide.cause.Goals.{then-not-needs-via-then-not-needs, then-not-needs-via-else-not-needs+then-bits_on-ne0}

pub returns-in_default : goal.returns-in_default
returns-in_default c a = let s = c.args in cause_1 (lay s.img) (tables s.img) (contract_by a s.l) s.b c.newcomer_rights.result c.newcomer_rights.ensures c.in_default.is

pub returns-then-not-others_rights : goal.returns-then-not-others_rights
returns-then-not-others_rights c a =
    let s = c.args in
    cause_3 (lay s.img) (tables s.img) (contract_by a s.l) s.b c.newcomer_rights.result c.newcomer_rights.ensures c.in-Some.is c.others_rights.ensures c.if-not-others_rights.true

pub returns-then-not-needs : goal.returns-then-not-needs
returns-then-not-needs c a =
    let s = c.args in
    elim c.then-not-needs.branch [
      | then-not-needs-via-then-not-needs w ↦
          cause_2 (lay s.img) (tables s.img) (contract_by a s.l) s.b c.newcomer_rights.result c.newcomer_rights.ensures
          c.in-Some.is c.others_rights.ensures c.if-not-others_rights.false c.newcomer_needs-needs.ensures w.if-not-needs.true
      | then-not-needs-via-else-not-needs+then-bits_on-ne0 w ↦
          cause_freed (lay s.img) (tables s.img) (contract_by a s.l) s.b c.newcomer_rights.result c.newcomer_rights.ensures
          c.in-Some.is c.others_rights.ensures c.if-not-others_rights.false c.newcomer_needs-needs.ensures w.if-not-needs.false _ w.bits_on.ensures.0 w.if-bits_on-ne0.true
    ]

pub overflow_add-unserved : goal.overflow_add-unserved
overflow_add-unserved c =
    let s = c.args in
    omega (arith, c.bits_on-2.ensures.1, calls_few (lay s.img) (tables s.img) s.b.due s.b.at s.l.calls c.newcomer_rights.result c.newcomer_rights.ensures c.in-Some.is)

pub returns : goal.returns
returns c a =
    let s = c.args in
    cause_rest (lay s.img) (tables s.img) (contract_by a s.l) s.b c.newcomer_rights.result c.newcomer_rights.ensures
    c.in-Some.is c.others_rights.ensures c.if-not-others_rights.false c.newcomer_needs-needs.ensures c.if-not-needs.false _ c.bits_on.ensures.0 c.if-bits_on-ne0.false c.bits_on-2.ensures.0 c.limits.ensures
