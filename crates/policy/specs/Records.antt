-- Requests as records: document 01, 'Records'. How each of the eleven kinds is written, what a request must meet, and the claims on both.
use Rattle.std.specs.Prelude.{ℕ, ◌+◌, ◌*◌, ◌^◌, ◌≤◌, ◌<◌, max, ◌≡◌, List, [], ◌∷◌, ◌++◌, T, length}
use mathlib.Core.List.{Memᴰ as In}
use Rattle.std.proofs.Math.Option.{none, some}
use Rattle.policy.specs.Lists.{flat}
use Rattle.policy.specs.Contract.{Aid, Tok, Row, Contract, valid_aid}
use Rattle.policy.specs.Layout.{Layout}
use Rattle.policy.specs.Record.{Request, Change, load, remove, valid_tok, parse}
use Rattle.policy.specs.Record.{add_service, remove_service, add_call, remove_call, add_grant, remove_grant, add_need, remove_need, replace}
use Rattle.policy.specs.Tables.{write_number, write_tok}
use Rattle.policy.specs.Judge.{aid_bytes, row_bytes, rows_bytes, read_out}

-- the kind byte
abbrev pub kind_of : Change → ℕ
kind_of (load p c g n) = 1
kind_of remove = 2
kind_of (add_service s l) = 3
kind_of (remove_service s) = 4
kind_of (add_call r) = 5
kind_of (remove_call r) = 6
kind_of (add_grant r) = 7
kind_of (remove_grant r) = 8
kind_of (add_need r) = 9
kind_of (remove_need r) = 10
kind_of (replace p c g n) = 11

-- the load of a contract
abbrev pub load_of : Contract → Change
load_of c = load c.provides c.calls c.grants c.needs

abbrev pub request_of : Contract → Request
request_of c = record { aid = c.aid; change = load_of c }

-- ---- limits
abbrev pub ValidAid : Aid → Type 0
ValidAid a = T (valid_aid a)

-- a list of at most so many, each as it must be
abbrev pub AtMost : {A : Type 0} → ℕ → (A → Type 0) → List A → Type 0
AtMost {A} most P l = (length l ≤ most) × ((x : A) → In x l → P x)

-- each is a byte
abbrev pub Bytes : List ℕ → Type 0
Bytes s = (b : ℕ) → In b s → b < 256

module _ (L : Layout) where
  abbrev pub ValidTok : Tok → Type 0
  ValidTok s = T (valid_tok L s)

  abbrev pub ValidRow : Row → Type 0
  ValidRow r = ValidAid r.aid × ValidTok r.tok

  -- ---- writing
  -- what follows the first AID: document 01's table.
  -- 'An AID is written as a length byte and its bytes. A list is a count byte and its rows.'
  abbrev pub contract_bytes : List Tok → List Row → List Row → List Row → List ℕ
  contract_bytes p c g n = (length p ∷ flat write_tok p) ++ (rows_bytes L c ++ (rows_bytes L g ++ rows_bytes L n))

  abbrev pub change_bytes : Change → List ℕ
  change_bytes (load p c g n) = contract_bytes p c g n
  change_bytes remove = []
  change_bytes (add_service s l) = write_tok s ++ (length l ∷ flat aid_bytes l)
  change_bytes (remove_service s) = write_tok s
  change_bytes (add_call r) = row_bytes r
  change_bytes (remove_call r) = row_bytes r
  change_bytes (add_grant r) = row_bytes r
  change_bytes (remove_grant r) = row_bytes r
  change_bytes (add_need r) = row_bytes r
  change_bytes (remove_need r) = row_bytes r
  change_bytes (replace p c g n) = contract_bytes p c g n

  abbrev pub body_bytes : Request → List ℕ
  body_bytes q = aid_bytes q.aid ++ change_bytes q.change

  -- 'A record starts with its whole length in two bytes, big-endian, then the version byte 01, then a kind byte.'
  abbrev pub record_bytes : Request → List ℕ
  record_bytes q = write_number 2 (4 + length (body_bytes q)) (L.version ∷ kind_of q.change ∷ body_bytes q)

  -- ---- what can be written: every AID and method token is valid, and each list is within the layout's limits
  abbrev pub WithinContract : List Tok → List Row → List Row → List Row → Type 0
  WithinContract p c g n =
      AtMost L.services ValidTok p × AtMost L.most_rows ValidRow c × AtMost L.most_rows ValidRow g × AtMost L.most_rows ValidRow n

  abbrev pub WithinChange : Change → Type 0
  WithinChange (load p c g n) = WithinContract p c g n
  WithinChange remove = Unit {0}
  WithinChange (add_service s l) = ValidTok s × AtMost L.most_callers ValidAid l
  WithinChange (remove_service s) = ValidTok s
  WithinChange (add_call r) = ValidRow r
  WithinChange (remove_call r) = ValidRow r
  WithinChange (add_grant r) = ValidRow r
  WithinChange (remove_grant r) = ValidRow r
  WithinChange (add_need r) = ValidRow r
  WithinChange (remove_need r) = ValidRow r
  WithinChange (replace p c g n) = WithinContract p c g n

  abbrev pub Within : Request → Type 0
  Within q = ValidAid q.aid × WithinChange q.change

  -- the kind is one that is read, and two bytes hold the length
  abbrev pub Writable : Request → Type 0
  Writable q = Within q × T (L.reads (kind_of q.change)) × (length (record_bytes q) < 256 ^ 2)

  -- ---- the longest record: its head, an AID of 16 bytes, and the longest of a contract, of kind 3 and of a row
  abbrev pub longest_load : ℕ
  longest_load = (1 + L.services * 2) + 3 * (L.count_width + L.most_rows * 19)

  abbrev pub longest_service : ℕ
  longest_service = 2 + (1 + L.most_callers * 17)

  abbrev pub longest_record : ℕ
  longest_record = 4 + (17 + max longest_load (max longest_service 19))

  -- ---- the claims
  -- what is written is read as what it was
  abbrev pub WrittenRead : Type 0
  WrittenRead = (q : Request) → Writable q → parse L (record_bytes q) ≡ some q

  -- bytes that are read are those that are written: no two records are one request
  abbrev pub ReadWritten : Type 0
  ReadWritten = (s : List ℕ) (q : Request) → Bytes s → parse L s ≡ some q → (s ≡ record_bytes q) × Writable q

  -- nothing longer is read, and nothing longer is read out
  abbrev pub LongestRecord : Type 0
  LongestRecord =
      ((s : List ℕ) → longest_record < length s → parse L s ≡ none)
      × ((img : List ℕ) (n : ℕ) (out : List ℕ) → (read_out L img n out).answered ≡ 0 → (read_out L img n out).second ≤ longest_record)
