-- `judging::judge_read` meets its contract, kind by kind.
use Rattle.judging.proofs.Judged.{asked_always, settles_always, remove_proper, service_proper}
use Rattle.judging.proofs.judge_read.Goals as goal

pub contract-requires : goal.contract-requires
contract-requires c = rw c.in-Contract.is at c.requires

pub remove-requires : goal.remove-requires
remove-requires c = asked_always _ _ _ _ (remove_proper _ _) (rw c.in-Remove.is at c.requires)

pub add_service-requires : goal.add_service-requires
add_service-requires c = rw c.in-AddService.is at c.requires

pub remove_service-requires : goal.remove_service-requires
remove_service-requires c = asked_always _ _ _ _ (service_proper _ _ _) (rw c.in-RemoveService.is at c.requires)

pub change-requires : goal.change-requires
change-requires c = rw c.in-Row.is at c.requires

pub returns-in-Contract : goal.returns-in-Contract
returns-in-Contract c = rw c.in-Contract.is c.contract.ensures

pub returns-in-Remove : goal.returns-in-Remove
returns-in-Remove c = rw c.in-Remove.is (settles_always _ _ _ _ (remove_proper _ _) c.remove.ensures)

pub returns-in-AddService : goal.returns-in-AddService
returns-in-AddService c = rw c.in-AddService.is c.add_service.ensures

pub returns-in-RemoveService : goal.returns-in-RemoveService
returns-in-RemoveService c = rw c.in-RemoveService.is (settles_always _ _ _ _ (service_proper _ _ _) c.remove_service.ensures)

pub returns-in-Row : goal.returns-in-Row
returns-in-Row c = rw c.in-Row.is c.change.ensures
