-- How long a record is: what its limits allow.
use Prim.Native.Nat.{ℕ, ◌+◌, ◌*◌, ◌^◌, ◌≤◌, ◌<◌}
use native.Mathlib.Omega.{arith}
use native.Mathlib.Nat.{mul-le-mul_right}
use mathlib.Core.List.{List, ◌∷◌, ◌++◌}
use lib.Dec.{T}
use lib.ListN.{length, length-append}
use Rattle.policy.specs.Lists.{flat}
use Rattle.policy.specs.Contract.{Aid, Tok, Row, Contract}
use Rattle.policy.specs.Layout.{Layout, LayoutOk}
use Rattle.policy.specs.Record.{Request, Change, load, remove, add_service, remove_service, add_call, remove_call, add_grant, remove_grant, add_need, remove_need, replace}
use Rattle.policy.specs.Tables.{write_tok}
use Rattle.policy.specs.Judge.{aid_bytes, row_bytes, rows_bytes}
use Rattle.policy.specs.Records.{kind_of, request_of, ValidAid, ValidTok, ValidRow, AtMost, contract_bytes, change_bytes, body_bytes, record_bytes, WithinContract, WithinChange, Within, Writable, longest_load, longest_record}
use Rattle.policy.proofs.Sets.{length_flat_le}
use Rattle.policy.proofs.Pieces.{valid_short}
use Rattle.policy.proofs.Bits.{length_number}

aid_length : (a : Aid) → ValidAid a → length (aid_bytes a) ≤ 17
aid_length a v = let h = valid_short a v in omega arith

row_length : (r : Row) → ValidAid r.aid → length (row_bytes r) ≤ 19
row_length r v = let h = aid_length r.aid v in let e = length-append (aid_bytes r.aid) (write_tok r.tok) in omega arith

-- the rows of a list, of at most k bytes each
list_length : {A : Type 0} (P : A → Type 0) (f : A → List ℕ) (k : ℕ) → ((x : A) → P x → length (f x) ≤ k) → (most : ℕ) (l : List A) → AtMost most P l → length (flat f l) ≤ most * k
list_length P f k h most l v =
    let a = length_flat_le f k l (λ x m. h x (v.1 x m)) in
    let b : length l * k ≤ most * k = mul-le-mul_right k v.0 in
    omega arith

module _ (L : Layout) where
  rows_length : (l : List Row) → AtMost L.most_rows (ValidRow L) l → length (rows_bytes L l) ≤ L.count_width + L.most_rows * 19
  rows_length l v =
      let e = length_number L.count_width (length l) (flat row_bytes l) in
      let a = list_length (ValidRow L) row_bytes 19 (λ r v. row_length r v.0) L.most_rows l v in
      omega arith

  contract_length : (p : List Tok) (c g n : List Row) → WithinContract L p c g n → length (contract_bytes L p c g n) ≤ longest_load L
  contract_length p c g n v =
      let e1 = length-append (length p ∷ flat write_tok p) (rows_bytes L c ++ (rows_bytes L g ++ rows_bytes L n)) in
      let e2 = length-append (rows_bytes L c) (rows_bytes L g ++ rows_bytes L n) in
      let e3 = length-append (rows_bytes L g) (rows_bytes L n) in
      let t = list_length (ValidTok L) write_tok 2 (λ s _. omega arith) L.services p v.0 in
      let x = rows_length c v.1 in
      let y = rows_length g v.2 in
      let z = rows_length n v.3 in
      omega arith

  change_length : (c : Change) → WithinChange L c → 21 + length (change_bytes L c) ≤ longest_record L
  change_length (load p c g n) v = let h = contract_length p c g n v in omega arith
  change_length remove v = omega arith
  change_length (add_service s l) v = let h = list_length ValidAid aid_bytes 17 aid_length L.most_callers l v.1 in omega arith
  change_length (remove_service s) v = omega arith
  change_length (add_call r) v = let h = row_length r v.0 in omega arith
  change_length (remove_call r) v = let h = row_length r v.0 in omega arith
  change_length (add_grant r) v = let h = row_length r v.0 in omega arith
  change_length (remove_grant r) v = let h = row_length r v.0 in omega arith
  change_length (add_need r) v = let h = row_length r v.0 in omega arith
  change_length (remove_need r) v = let h = row_length r v.0 in omega arith
  change_length (replace p c g n) v = let h = contract_length p c g n v in omega arith

  -- head, first AID, and what follows
  parts_length : (q : Request) → ValidAid q.aid → length (record_bytes L q) ≤ 21 + length (change_bytes L q.change)
  parts_length q v =
      let e = length_number 2 (4 + length (body_bytes L q)) (L.version ∷ kind_of q.change ∷ body_bytes L q) in
      let b = length-append (aid_bytes q.aid) (change_bytes L q.change) in
      let a = aid_length q.aid v in
      omega arith

  pub record_length : (q : Request) → Within L q → length (record_bytes L q) ≤ longest_record L
  record_length q v = let a = parts_length q v.0 in let b = change_length q.change v.1 in omega arith

  -- two bytes hold every length, or that of every load
  pub within_writable : longest_record L < 256 ^ 2 → (q : Request) → T (L.reads (kind_of q.change)) → Within L q → Writable L q
  within_writable h q on v = (v, on, let a = record_length q v in omega arith)

  pub load_writable : LayoutOk L → (c : Contract) → Within L (request_of c) → Writable L (request_of c)
  load_writable lo c v = (
    v,
    lo.load_read,
    let a = parts_length (request_of c) v.0 in
        let b = contract_length c.provides c.calls c.grants c.needs v.1 in
        let f = lo.records_fit in
        omega arith,
  )
