-- How a session's input splits into records: document 01, 'The session program'.
use Rattle.std.specs.Prelude.{ℕ, zero, suc, ◌+◌, ◌*◌, Bool, true, false, ◌&&◌, cond, List, [], ◌∷◌, leb, length, take, drop}
use Rattle.std.specs.Prelude.{Option, Some, None}
use Rattle.policy.specs.Layout.{small}
use Rattle.policy.specs.Records.{longest_record}
use Rattle.lines.specs.declared.Held.{Held}
use Rattle.lines.specs.declared.Held.TheVariants as held

-- the longest record
abbrev pub longest : ℕ
longest = longest_record small

-- what two length bytes, big-endian, announce: a record of so many bytes, these two included, or none, as no record has this length
abbrev pub announced : ℕ → ℕ → Option ℕ
announced high low = cond (leb 4 (high * 256 + low) && leb (high * 256 + low) longest) (Some (high * 256 + low)) None

-- how an input starts: with nothing, with the last and bad frame, or with a record and the rest of the input behind it
pub data Start : Type 0 where
  ends : Start
  broken : Start
  holds : List ℕ → List ℕ → Start

-- a record that is announced, unless it goes past the end of the input
abbrev pub cut : Option ℕ → List ℕ → Start
cut (Some n) s = cond (leb n (length s)) (holds (take n s) (drop n s)) broken
cut None s = broken

-- 'No bytes left ends the run'; 'a single byte left, or a length below 4, above 4,145 or past the end of input' is the bad frame
abbrev pub frame : List ℕ → Start
frame [] = ends
frame (b ∷ []) = broken
frame (high ∷ low ∷ s) = cut (announced high low) (high ∷ low ∷ s)

-- ---- the same of an input of which these bytes are held, and no more come where it has ended
abbrev pub announced_as : Option ℕ → ℕ → Bool → Held
announced_as (Some n) have ended = cond (leb n have) (held.Record n) (cond ended held.Bad (held.Start n))
announced_as None have ended = held.Bad

unfoldable pub held_as : List ℕ → Bool → Held
held_as [] ended = cond ended held.End (held.Start 2)
held_as (b ∷ []) ended = cond ended held.Bad (held.Start 2)
held_as (high ∷ low ∷ s) ended = announced_as (announced high low) (length (high ∷ low ∷ s)) ended

-- ---- a whole input
-- an input's records, in order, and whether a bad frame follows them
pub record Session : Type 0 where
  pub records : List (List ℕ)
  pub bad : Bool

abbrev pub onward : Start → (List ℕ → Session) → Session
onward ends go = record { records = []; bad = false }
onward broken go = record { records = []; bad = true }
onward (holds r rest) go = record { records = r ∷ (go rest).records; bad = (go rest).bad }

-- the first k frames
abbrev pub session_by : ℕ → List ℕ → Session
session_by zero s = record { records = []; bad = false }
session_by (suc k) s = onward (frame s) (session_by k)

-- all frames: each record takes bytes away, so there are no more than bytes and the end
unfoldable pub session : List ℕ → Session
session s = session_by (suc (length s)) s
