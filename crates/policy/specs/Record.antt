-- Records: document 01, 'Records'. What a list of bytes reads as; nothing here speaks of positions.
use Rattle.std.specs.Prelude.{ℕ, zero, suc, ◌+◌, ◌*◌, Bool, true, false, not, ◌&&◌, ◌||◌, leb, ltb}
use Rattle.std.specs.Prelude.{List, [], ◌∷◌, length, take, drop, get_or}
use Rattle.std.proofs.Math.Option.{Option, none, some}
use Rattle.std.proofs.Math.Dec.{eqb}
use Rattle.policy.specs.Lists.{every, distinct, or_else}
use Rattle.policy.specs.Contract.{Aid, eq_aid, Tok, eq_tok, Row, eq_row, has_tok, has_row, valid_aid}
use Rattle.policy.specs.Layout.{Layout}

-- what follows the first AID, by kind: 1 to 11 in order. R-13 retires kinds 9 and 10: `add_need` and `remove_need` are of the rules
-- before it
pub data Change : Type 0 where
  load : List Tok → List Row → List Row → List Row → Change
  remove : Change
  add_service : Tok → List Aid → Change
  remove_service : Tok → Change
  add_call remove_call add_grant remove_grant add_need remove_need : Row → Change
  replace : List Tok → List Row → List Row → List Row → Change

-- a record: the first AID, and the change of its contract
pub record Request : Type 0 where
  pub aid : Aid
  pub change : Change

-- ---- readers: a value and the bytes after it, or nothing
pub data Got (A : Type 0) : Type 0 where
  got : A → List ℕ → Got A
  bad : Got A

abbrev pub Reader : Type 0 → Type 0
Reader A = List ℕ → Got A

abbrev pub and_then : {A B : Type 0} → Got A → (A → Reader B) → Got B
and_then (got a s) f = f a s
and_then bad f = bad

-- one reader after another, so that a format is a `do` block
infixl 20 ◌>>=◌
abbrev pub ◌>>=◌ : {A B : Type 0} → Reader A → (A → Reader B) → Reader B
◌>>=◌ p f s = and_then (p s) f

abbrev pub done : {A : Type 0} → A → Reader A
done a s = got a s

-- a reader under a test that must hold
abbrev pub given : {A : Type 0} → Bool → Reader A → Reader A
given true p s = p s
given false p s = bad

unfoldable pub byte : Reader ℕ
byte [] = bad
byte (b ∷ s) = got b s

unfoldable pub bytes : ℕ → Reader (List ℕ)
bytes n s = given (leb n (length s)) (λ t. got (take n t) (drop n t)) s

-- a number of w bytes, big-endian, above the n that was read before
abbrev pub number_from : ℕ → ℕ → Reader ℕ
number_from zero n s = got n s
number_from (suc w) n s = and_then (byte s) (λ b. number_from w (n * 256 + b))

unfoldable pub number : ℕ → Reader ℕ
unfolding byte
number w = number_from w 0

-- 'An AID is written as a length byte and its bytes': 5 to 16 of them
unfoldable pub aid : Reader Aid
unfolding byte bytes
aid = do
  n ← byte
  a ← bytes n
  given (valid_aid a) (done a)

-- two token bytes, 'interface then method', of any value
unfoldable pub tokens : Reader Tok
unfolding byte
tokens = do
  i ← byte
  m ← byte
  done (record { itf = i; mth = m })

-- a row: an AID, and tokens as they are read
unfoldable pub row_of : Reader Tok → Reader Row
unfolding aid
row_of p = do
  a ← aid
  s ← p
  done (record { aid = a; tok = s })

-- with tokens of any value
abbrev pub a_row : Reader Row
a_row = row_of tokens

-- n things of one sort, one after another
abbrev pub many : {A : Type 0} → Reader A → ℕ → Reader (List A)
many p zero s = got [] s
many p (suc n) s = and_then (p s) (λ a t. and_then (many p n t) (λ l u. got (a ∷ l) u))

-- 'A list is a count byte and its rows': a count of w bytes, at most most, and as many things
unfoldable pub counted : {A : Type 0} → ℕ → ℕ → Reader A → Reader (List A)
unfolding number
counted w most p = do
  n ← number w
  given (leb n most) (many p n)

-- a value with no bytes left over
abbrev pub whole : {A : Type 0} → Got A → Option A
whole (got a []) = some a
whole (got a (b ∷ s)) = none
whole bad = none

module _ (L : Layout) where
  -- R-7: 'A method token of 128 or more in a record is now a wrong record'
  abbrev pub valid_tok : Tok → Bool
  valid_tok s = ltb s.mth L.methods

  unfoldable pub valid_tokens : Reader Tok
  unfolding tokens
  valid_tokens = do
    s ← tokens
    given (valid_tok s) (done s)

  abbrev pub valid_row : Reader Row
  valid_row = row_of valid_tokens

  abbrev pub token_list : Reader (List Tok)
  token_list = counted 1 L.services valid_tokens

  abbrev pub row_list : Reader (List Row)
  row_list = counted L.count_width L.most_rows valid_row

  abbrev pub caller_list : Reader (List Aid)
  caller_list = counted 1 L.most_callers aid

  -- a whole contract, for kind 1; R-1: 'Kind 11 has a load's layout'
  unfoldable pub a_contract : (List Tok → List Row → List Row → List Row → Change) → Reader Change
  unfolding counted row_of valid_tokens
  a_contract f = do
    p ← token_list
    c ← row_list
    g ← row_list
    n ← row_list
    done (f p c g n)

  unfoldable pub a_service : Reader Change
  unfolding counted valid_tokens aid
  a_service = do
    s ← valid_tokens
    l ← caller_list
    done (add_service s l)

  -- what follows the first AID, for the kinds from 0 on; there is no kind 0
  abbrev pub kinds : List (Reader Change)
  kinds =
      (λ s. bad)
      ∷ a_contract load
      ∷ done remove
      ∷ a_service
      ∷ (valid_tokens >>= λ s. done (remove_service s))
      ∷ (valid_row >>= λ r. done (add_call r))
      ∷ (valid_row >>= λ r. done (remove_call r))
      ∷ (valid_row >>= λ r. done (add_grant r))
      ∷ (valid_row >>= λ r. done (remove_grant r))
      ∷ (valid_row >>= λ r. done (add_need r))
      ∷ (valid_row >>= λ r. done (remove_need r))
      ∷ a_contract replace
      ∷ []

  unfoldable pub change : ℕ → Reader Change
  unfolding a_contract a_service row_of valid_tokens
  change k = given (L.reads k) (get_or kinds k (λ s. bad))

  -- a record of l bytes: 'its whole length in two bytes, big-endian, then the version byte, then a kind byte'
  unfoldable pub fields : ℕ → Reader Request
  unfolding number byte aid change
  fields l = do
    n ← number 2
    v ← byte
    k ← byte
    a ← given (eqb n l && eqb v L.version) aid
    c ← change k
    done (record { aid = a; change = c })

  -- the record that the bytes are; nothing is cause 2
  unfoldable pub parse : List ℕ → Option Request
  unfolding fields
  parse s = whole (fields (length s) s)

-- ---- cause 3: 'repeated row, own AID as the other end, need not called, grant of a service not provided (kind 1);
-- own AID or a repeated AID (kind 3); own AID as the other end (5 to 10)'; R-2: no longer for a grant of a service not provided;
-- R-1: kind 11 has a load's 'causes 2 and 3'
abbrev pub not_own : Aid → List Row → Bool
not_own a l = every (λ r. not (eq_aid r.aid a)) l

abbrev pub proper_contract : Layout → Aid → List Tok → List Row → List Row → List Row → Bool
proper_contract L a p c g n =
    (distinct eq_tok p && distinct eq_row c && distinct eq_row g && distinct eq_row n)
    && (not_own a c && not_own a g && not_own a n)
    && (every (λ r. has_row r c) n && (L.early || every (λ r. has_tok r.tok p) g))

unfoldable pub proper : Layout → Aid → Change → Bool
proper L a (load p c g n) = proper_contract L a p c g n
proper L a remove = true
proper L a (add_service s l) = every (λ b. not (eq_aid b a)) l && distinct eq_aid l
proper L a (remove_service s) = true
proper L a (add_call r) = not (eq_aid r.aid a)
proper L a (remove_call r) = not (eq_aid r.aid a)
proper L a (add_grant r) = not (eq_aid r.aid a)
proper L a (remove_grant r) = not (eq_aid r.aid a)
proper L a (add_need r) = not (eq_aid r.aid a)
proper L a (remove_need r) = not (eq_aid r.aid a)
proper L a (replace p c g n) = proper_contract L a p c g n

-- the first AID of a record, which stands from its byte 5 on; an empty part for cause 2
unfoldable pub first_aid : Layout → List ℕ → Aid
unfolding parse
first_aid L s = or_else (parse L s) [] (λ q. q.aid)
