-- `packages::bring` meets its contract.
use native.Mathlib.Omega.{arith}
use Rattle.geometry.specs.Geometry.{layout_of}
use Rattle.geometry.proofs.Bounds.{limits}
use Rattle.image.proofs.LaidImage.{laid_on}
use Rattle.record.specs.Listed.{contract_by}
use Rattle.changes.proofs.Verdicts.{asked_laid}
use Rattle.packages.proofs.Answered.{number_in_as}
use Rattle.packages.proofs.bring.Goals as goal

pub invariant_of-contract : goal.invariant_of-contract
invariant_of-contract c = record { laid = laid_on c.args.c (asked_laid _ _ _ c.requires) }

pub overflow_cast-result : goal.overflow_cast-result
overflow_cast-result c =
    let a = c.args in
    omega (arith, number_in_as a.k (layout_of a.c) a.img.now (contract_by a.own.now a.l) c.contract.ensures c.in_ok-b.was c.requires, limits a.c)
