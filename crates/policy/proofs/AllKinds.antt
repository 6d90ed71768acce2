-- All eleven kinds: each draft is formed and stands for the contracts that the record would leave, and each short check is the full look.
use Rattle.policy.specs.Record.{Change, load, remove, add_service, remove_service, add_call, remove_call, add_grant, remove_grant, add_need, remove_need, replace}
use Rattle.policy.proofs.Formed.{KindTurns, KindShort}
use Rattle.policy.proofs.KindLoad.{kind_1}
use Rattle.policy.proofs.KindRemove.{kind_2}
use Rattle.policy.proofs.KindAddService.{kind_3}
use Rattle.policy.proofs.KindRemoveService.{kind_4}
use Rattle.policy.proofs.KindCall.{kind_5, kind_6}
use Rattle.policy.proofs.KindGrant.{kind_7, kind_8}
use Rattle.policy.proofs.KindNeed.{kind_9, kind_10}
use Rattle.policy.proofs.KindReplace.{kind_11}
use Rattle.policy.proofs.ShortBrought.{short_1, short_11}
use Rattle.policy.proofs.ShortAddService.{short_3}
use Rattle.policy.proofs.ShortRemove.{short_2, short_4}
use Rattle.policy.proofs.ShortRows.{short_5, short_6, short_7, short_8, short_9, short_10}

pub kinds : (c : Change) → KindTurns c × KindShort c
kinds (load p c g n) = (kind_1 p c g n, short_1 p c g n)
kinds remove = (kind_2, short_2)
kinds (add_service s l) = (kind_3 s l, short_3 s l)
kinds (remove_service s) = (kind_4 s, short_4 s)
kinds (add_call r) = (kind_5 r, short_5 r)
kinds (remove_call r) = (kind_6 r, short_6 r)
kinds (add_grant r) = (kind_7 r, short_7 r)
kinds (remove_grant r) = (kind_8 r, short_8 r)
kinds (add_need r) = (kind_9 r, short_9 r)
kinds (remove_need r) = (kind_10 r, short_10 r)
kinds (replace p c g n) = (kind_11 p c g n, short_11 p c g n)
