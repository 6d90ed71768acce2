-- The second numbers of acceptances, by the tables before and after: document 01, 'Verdicts', 'returned with it'.
use Rattle.std.specs.Prelude.{ℕ, ◌≤◌, ◌≡◌, List, T, length, take}
use Rattle.std.proofs.Math.Option.{some}
use Rattle.policy.specs.Contract.{Aid, Contract}
use Rattle.policy.specs.Layout.{Layout}
use Rattle.policy.specs.Record.{Request, Change, load, remove, parse}
use Rattle.policy.specs.Record.{add_service, remove_service, add_call, remove_call, add_grant, remove_grant, add_need, remove_need, replace}
use Rattle.policy.specs.Tables.{Tables, decode}
use Rattle.policy.specs.Lookup.{contract_at}
use Rattle.policy.specs.Sound.{sound}
use Rattle.policy.specs.Judge.{judge, check, read_out}
use Rattle.policy.specs.Records.{request_of}
use Rattle.policy.specs.History.{StandsFor}

-- the package a has number m
abbrev pub HasNumber : Tables → Aid → ℕ → Type 0
HasNumber t a m = T (t.used m) × (t.aid m ≡ a)

-- 'package number (on removal, the one it had)'
abbrev pub Numbered : Tables → Tables → Aid → Change → ℕ → Type 0
Numbered before after a (load p c g n) m = HasNumber after a m
Numbered before after a remove m = HasNumber before a m
Numbered before after a (add_service s l) m = HasNumber after a m
Numbered before after a (remove_service s) m = HasNumber after a m
Numbered before after a (add_call r) m = HasNumber after a m
Numbered before after a (remove_call r) m = HasNumber after a m
Numbered before after a (add_grant r) m = HasNumber after a m
Numbered before after a (remove_grant r) m = HasNumber after a m
Numbered before after a (add_need r) m = HasNumber after a m
Numbered before after a (remove_need r) m = HasNumber after a m
Numbered before after a (replace p c g n) m = HasNumber after a m

abbrev pub SecondNumber : Layout → Type 0
SecondNumber L = (img s : List ℕ) (q : Request) → T (sound L img) → parse L s ≡ some q → (judge L img s).answered ≡ 0
    → Numbered (decode L img) (decode L (judge L img s).bytes) q.aid q.change (judge L img s).second

-- 'the count of used numbers' is that of the contracts
abbrev pub CheckCounts : Layout → Type 0
CheckCounts L = (img : List ℕ) (cs : List Contract) → StandsFor L img cs → ((check L img).answered ≡ 0) × ((check L img).second ≡ length cs)

-- 'on reading out, the record's length': so many bytes from the front are a record, the load of the package's contract
abbrev pub ReadLength : Layout → Type 0
ReadLength L = (img : List ℕ) (n : ℕ) (out : List ℕ) → (read_out L img n out).answered ≡ 0
    → T (sound L img) × T ((decode L img).used n) × ((read_out L img n out).second ≤ length (read_out L img n out).bytes)
    × (parse L (take (read_out L img n out).second (read_out L img n out).bytes) ≡ some (request_of (contract_at L (decode L img) n)))
