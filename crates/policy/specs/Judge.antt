-- What the engine's entries answer and leave, to the byte: document 01, 'Verdicts'.
use Rattle.std.specs.Prelude.{ℕ, zero, suc, ◌+◌, Bool, false, not, ◌&&◌, ◌||◌, List, [], ◌∷◌, ◌++◌, eqb, leb, ltb, drop}
use Rattle.std.proofs.Math.Bool.{cond}
use Rattle.std.proofs.Math.Option.{Option, none, some}
use Rattle.std.proofs.Math.ListN.{length}
use Rattle.policy.specs.Lists.{flat, is_some, or_else}
use Rattle.policy.specs.Contract.{Aid, Row, Contract, has_tok, has_row}
use Rattle.policy.specs.Layout.{Layout, size}
use Rattle.policy.specs.Record.{Request, Change, load, remove, parse, proper}
use Rattle.policy.specs.Record.{add_service, remove_service, add_call, remove_call, add_grant, remove_grant, add_need, remove_need, replace}
use Rattle.policy.specs.Causes.{Cause, ◌when◌, answer}
use Rattle.policy.specs.Tables.{Tables, write_number, write_tok, decode, encode, empty_image}
use Rattle.policy.specs.Lookup.{used_numbers, number_of, free_number, free_service, contract_at}
use Rattle.policy.specs.Sound.{sound}
use Rattle.policy.specs.Draft.{Look, look, draft, number_for}

-- an answer, its second number, and the lent bytes afterwards
pub record Out : Type 0 where
  pub answered : ℕ
  pub second : ℕ
  pub bytes : List ℕ

-- a refusal leaves what was lent
abbrev pub refusal : ℕ → ℕ → List ℕ → Out
refusal n s b = record { answered = n; second = s; bytes = b }

-- an AID and a row, as a record writes them
abbrev pub aid_bytes : Aid → List ℕ
aid_bytes a = length a ∷ a

abbrev pub row_bytes : Row → List ℕ
row_bytes r = aid_bytes r.aid ++ write_tok r.tok

-- ---- causes 8 to 11, by the full look at the draft
abbrev pub look_causes : Look → List Cause
look_causes k = 8 when not k.granted ∷ 9 when not k.needed ∷ 10 when not k.unmet_fits ∷ 11 when not k.waiting_fits ∷ []

module _ (L : Layout) where
  -- ---- causes 4 to 7, on tables
  module _ (t : Tables) where
    abbrev pub absent : Aid → Bool
    absent a = not (is_some (number_of L t a))

    -- the package's contract, as the tables have it, passes
    abbrev pub holds : Aid → (Contract → Bool) → Bool
    holds a f = or_else (number_of L t a) false (λ i. f (contract_at L t i))

    abbrev pub table_causes : Aid → Change → List Cause
    table_causes a (load p c g n) = 4 when is_some (number_of L t a) ∷ 7 when not (is_some (free_number L t)) ∷ []
    table_causes a remove = 5 when absent a ∷ []
    table_causes a (add_service s l) =
        5 when absent a
        ∷ 6 when holds a (λ k. has_tok s k.provides)
        ∷ 7 when or_else (number_of L t a) false (λ j. not (is_some (free_service L t j)))
        ∷ []
    table_causes a (remove_service s) = 5 when absent a ∷ 6 when not (holds a (λ k. has_tok s k.provides)) ∷ []
    table_causes a (add_call r) = 5 when absent a ∷ 6 when holds a (λ k. has_row r k.calls) ∷ []
    table_causes a (remove_call r) = 5 when absent a ∷ 6 when not (holds a (λ k. has_row r k.calls)) ∷ []
    table_causes a (add_grant r) =
        5 when absent a
        ∷ 6 when (not (L.early || holds a (λ k. has_tok r.tok k.provides)) || holds a (λ k. has_row r k.grants))
        ∷ []
    table_causes a (remove_grant r) = 5 when absent a ∷ 6 when not (holds a (λ k. has_row r k.grants)) ∷ []
    table_causes a (add_need r) =
        5 when absent a
        ∷ 6 when (not (holds a (λ k. has_row r k.calls)) || holds a (λ k. has_row r k.needs))
        ∷ []
    table_causes a (remove_need r) = 5 when absent a ∷ 6 when not (holds a (λ k. has_row r k.needs)) ∷ []
    table_causes a (replace p c g n) = 5 when absent a ∷ []

  -- every cause of a record that was read, in order
  abbrev pub judge_causes : Tables → Request → List Cause
  judge_causes t q =
      3 when not (proper L q.aid q.change) ∷ table_causes t q.aid q.change
      ++ look_causes (look L (draft L t q.aid q.change))

  -- ---- judging a record on an image
  abbrev pub judged : List ℕ → ℕ → Tables → ℕ → Out
  judged img m t zero = record { answered = 0; second = m; bytes = encode L t }
  judged img m t (suc n) = refusal (suc n) 255 img

  abbrev pub judge_tables : List ℕ → Tables → Option Request → Out
  judge_tables img t none = refusal 2 255 img
  judge_tables img t (some q) = judged img (number_for L t q.aid) (draft L t q.aid q.change).tables (answer (judge_causes t q))

  unfoldable pub judge : List ℕ → List ℕ → Out
  unfolding sound parse proper decode encode number_of free_number free_service contract_at draft number_for look
  judge img s = cond (sound L img) (judge_tables img (decode L img) (parse L s)) (refusal 1 255 img)

  -- ---- checking an image: '0 with the count of used numbers, or 1 with 255'
  unfoldable pub check : List ℕ → Out
  unfolding sound decode
  check img = cond (sound L img) (record { answered = 0; second = length (used_numbers L (decode L img)); bytes = img }) (refusal 1 255 img)

  -- ---- writing the empty image into a buffer: '0 with 0', or '1 with 255 and writes nothing'
  unfoldable pub write_empty : List ℕ → Out
  unfolding empty_image
  write_empty b = cond (eqb (length b) (size L)) (record { answered = 0; second = 0; bytes = empty_image L }) (refusal 1 255 b)

  -- ---- a contract as a kind 1 record
  abbrev pub rows_bytes : List Row → List ℕ
  rows_bytes l = write_number L.count_width (length l) (flat row_bytes l)

  abbrev pub load_body : Contract → List ℕ
  load_body c =
      aid_bytes c.aid
      ++ ((length c.provides ∷ flat write_tok c.provides)
      ++ (rows_bytes c.calls ++ (rows_bytes c.grants ++ rows_bytes c.needs)))

  unfoldable pub load_record : Contract → List ℕ
  load_record c = write_number 2 (4 + length (load_body c)) (L.version ∷ 1 ∷ load_body c)

  -- ---- reading out package number n into a buffer: '0, 1, 5 or 12'; 'the buffer past the record' stays
  abbrev pub wrote : List ℕ → List ℕ → Out
  wrote out r = cond (leb (length r) (length out))
      (record { answered = 0; second = length r; bytes = r ++ drop (length r) out })
      (refusal 12 0 out)

  abbrev pub read_out_tables : Tables → ℕ → List ℕ → Out
  read_out_tables t n out = cond (ltb n L.packages && t.used n) (wrote out (load_record (contract_at L t n))) (refusal 5 0 out)

  unfoldable pub read_out : List ℕ → ℕ → List ℕ → Out
  unfolding sound decode contract_at load_record
  read_out img n out = cond (sound L img) (read_out_tables (decode L img) n out) (refusal 1 0 out)
