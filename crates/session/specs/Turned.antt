-- What the session program has done: one turn, and the run.
use Rattle.std.specs.Prelude.{ℕ, ◌+◌, ◌-◌, ◌^◌, ◌≤◌, ◌<◌, ◌≡◌, ◌⊎◌, Bool, true, false, not, ◌&&◌, List, ltb, length, take}
use Rattle.lines.specs.Lines.{Printed}
use Rattle.lines.specs.Frames.{longest}
use Rattle.lines.specs.Session as lines
use Rattle.lines.specs.Session.{reads, prints, closes, stops, turn}
use Rattle.lines.specs.Reached.{Reached}
use Rattle.session.specs.declared.Then.{Then}
use Rattle.session.specs.declared.Then.TheVariants.{Read, Line, Last, End}
use Rattle.session.specs.declared.Progress.{Progress}

-- the code's turn is the definition's: a line stands in the text, and the image is the one after it
abbrev pub TurnedBy : lines.Turn → Then → List ℕ → List ℕ → List ℕ → List ℕ → Type 0
TurnedBy t (Read k) image left lent text = (t ≡ reads k) × (left ≡ image)
TurnedBy t (Line n) image left lent text = (line : List ℕ) × (t ≡ prints line left) × Printed line lent n text
TurnedBy t (Last n) image left lent text = (line : List ℕ) × (t ≡ closes line) × Printed line lent n text × (left ≡ image)
TurnedBy t End image left lent text = (t ≡ stops) × (left ≡ image)

pub record Turned (t : lines.Turn) (r : Then) (image left lent text : List ℕ) : Type 0 where
  pub is : TurnedBy t r image left lent text

-- no run comes so far
abbrev pub last_ordinal : ℕ
last_ordinal = 2 ^ 64 - 1

-- a turn may follow
pub record Ready (p : Progress) (buf : List ℕ) : Type 0 where
  pub buffer : length buf ≡ longest
  pub held : p.have ≤ longest
  pub below : p.ordinal < last_ordinal

-- ---- where a run stands next; what it cannot know, the bytes read and whether a line was taken, is named
-- it starts: nothing is held, and the input may go on
abbrev pub started : Progress
started = record { ordinal = 1; have = 0; ended = false; going = true; closed = false }

-- so many bytes were read where so many were called for: fewer say that the input has ended
abbrev pub took_in : Progress → ℕ → ℕ → Progress
took_in p want got = record { ordinal = p.ordinal; have = p.have + got; ended = ltb got want; going = true; closed = false }

-- a line was taken or not: the next frame begins, and a turn follows a line that was taken, while an ordinal is left
abbrev pub gave_out : Progress → Bool → Progress
gave_out p taken = record {
  ordinal = p.ordinal + 1;
  have = 0;
  ended = p.ended;
  going = taken && ltb (p.ordinal + 1) last_ordinal;
  closed
      = not taken;
}

-- no turn follows
abbrev pub stopped : Progress → Progress
stopped p = record { ordinal = p.ordinal; have = p.have; ended = p.ended; going = false; closed = false }

-- by what the turn calls for: a read keeps what is held and brings no more than was called for, a line leaves the image after it, all
-- else leaves it
abbrev pub AdvancedBy : lines.Turn → Progress → Progress → List ℕ → List ℕ → List ℕ → List ℕ → Type 0
AdvancedBy (reads k) p q image left lent buf =
    (got : ℕ) × (got ≤ k - p.have) × (q ≡ took_in p (k - p.have) got) × (take p.have buf ≡ take p.have lent) × (left ≡ image)
AdvancedBy (prints line after) p q image left lent buf = (taken : Bool) × (q ≡ gave_out p taken) × (left ≡ after)
AdvancedBy (closes line) p q image left lent buf = (q ≡ stopped p) × (buf ≡ lent) × (left ≡ image)
AdvancedBy stops p q image left lent buf = (q ≡ stopped p) × (buf ≡ lent) × (left ≡ image)

pub record Advanced (t : lines.Turn) (p q : Progress) (image left lent buf : List ℕ) : Type 0 where
  pub is : AdvancedBy t p q image left lent buf

-- a run ends at the bad frame, or where nothing is left; or where a line is not taken, or no ordinal is left
abbrev pub Over : lines.Turn → Progress → Type 0
Over (reads k) p = (p.closed ≡ true) ⊎ (p.ordinal ≡ last_ordinal)
Over (prints line after) p = (p.closed ≡ true) ⊎ (p.ordinal ≡ last_ordinal)
Over (closes line) p = Unit {0}
Over stops p = Unit {0}

pub record Ran (p : Progress) (image buf : List ℕ) : Type 0 where
  pub reached : Reached p.ordinal image
  pub over : Over (turn p.ordinal image (take p.have buf) p.ended) p
