-- What the session program prints, as one definition over its input: document 01, 'The session program'.
use Rattle.std.specs.Prelude.{ℕ, suc, ◌≤◌, ◌≡◌, Bool, true, false, cond, List, [], ◌∷◌, ◌++◌, length, take, get_or}
use Rattle.policy.specs.Layout.{small}
use Rattle.policy.specs.Tables.{empty_image}
use Rattle.policy.specs.Judge.{judge}
use Rattle.lines.specs.declared.Held.{Held}
use Rattle.lines.specs.declared.Held.TheVariants.{Record, Start, Bad, End}
use Rattle.lines.specs.Lines.{record_line, bad_line}
use Rattle.lines.specs.Frames.{session, held_as}

-- for any way to judge a record: its answer, second number and the state for the next one
module _ {S : Type 0} (step : S → List ℕ → ℕ × ℕ × S) where
  -- the lines of records, numbered from n, and of a bad frame behind them
  abbrev pub lines : ℕ → S → List (List ℕ) → Bool → List ℕ
  lines n state [] bad = cond bad (bad_line n) []
  lines n state (r ∷ rs) bad =
      let o = step state r in
      record_line n (get_or r 3 0) o.0 o.1 ++ lines (suc n) o.2 rs bad

  -- the transcript of an input, numbered from n
  abbrev pub transcript_from : ℕ → S → List ℕ → List ℕ
  transcript_from n state s = lines n state (session s).records (session s).bad

-- judging on an image
abbrev pub judging : List ℕ → List ℕ → ℕ × ℕ × List ℕ
judging image r = let o = judge small image r in (o.answered, o.second, o.bytes)

-- 'It starts on the empty image', 'ordinal from 1'
unfoldable pub printed : List ℕ → List ℕ
printed s = transcript_from judging 1 (empty_image small) s

-- ---- the same in turns, on the bytes that are held of the next frame
-- what a turn calls for: bytes of the input, up to so many; a record's line, and the image after it; the last line; nothing
pub data Turn : Type 0 where
  reads : ℕ → Turn
  prints : List ℕ → List ℕ → Turn
  closes : List ℕ → Turn
  stops : Turn

abbrev pub turn_by : ℕ → List ℕ → List ℕ → Held → Turn
turn_by n image l (Record k) =
    let o = judging image (take k l) in
    prints (record_line n (get_or (take k l) 3 0) o.0 o.1) o.2
turn_by n image l (Start k) = reads k
turn_by n image l Bad = closes (bad_line n)
turn_by n image l End = stops

-- the turn of ordinal n, where the bytes l are held, and no more come if the input has ended
unfoldable pub turn : ℕ → List ℕ → List ℕ → Bool → Turn
unfolding held_as
turn n image l ended = turn_by n image l (held_as l ended)

-- turns, one after another, from ordinal n on; the bytes of the input behind those held; and what is printed. A read takes the next bytes
-- of the input, no more than were called for, and says that it has ended only where nothing is left.
pub data Turns : ℕ → List ℕ → List ℕ → Bool → List ℕ → List ℕ → Type 0 where
  read : {n k : ℕ} {image l rest out input : List ℕ} {ended : Bool} (piece : List ℕ)
      → turn n image l false ≡ reads k → input ≡ piece ++ rest → length (l ++ piece) ≤ k → (ended ≡ true → rest ≡ [])
      → Turns n image (l ++ piece) ended rest out → Turns n image l false input out
  print : {n : ℕ} {image left l rest text out : List ℕ} {ended : Bool}
      → turn n image l ended ≡ prints text left → Turns (suc n) left [] ended rest out → Turns n image l ended rest (text ++ out)
  close : {n : ℕ} {image l rest text : List ℕ} {ended : Bool} → turn n image l ended ≡ closes text → Turns n image l ended rest text
  stop : {n : ℕ} {image l rest : List ℕ} {ended : Bool} → turn n image l ended ≡ stops → Turns n image l ended rest []
