-- How far a run of the session program has come.
use Rattle.std.specs.Prelude.{ℕ, suc, ◌≡◌, List, [], ◌∷◌, ◌++◌, length}
use Rattle.policy.specs.Layout.{small}
use Rattle.policy.specs.Tables.{empty_image}
use Rattle.policy.specs.History.{image_after}
use Rattle.lines.specs.Frames.{holds, frame}

-- a record as it is cut from an input, whatever follows
abbrev pub IsFrame : List ℕ → Type 0
IsFrame r = (rest : List ℕ) → frame (r ++ rest) ≡ holds r rest

abbrev pub EachFrame : List (List ℕ) → Type 0
EachFrame [] = Unit {0}
EachFrame (r ∷ rs) = IsFrame r × EachFrame rs

-- 'It starts on the empty image', 'ordinal from 1': frames were judged in turn, and the next line has ordinal n
pub record Reached (n : ℕ) (image : List ℕ) : Type 0 where
  pub records : List (List ℕ)
  pub frames : EachFrame records
  pub counted : n ≡ suc (length records)
  pub image_is : image ≡ image_after small (empty_image small) records
