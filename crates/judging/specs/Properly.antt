-- Cause 3, then what the kind comes to: of a record that was read, on a sound image.
use Rattle.std.specs.Prelude.{ℕ, cond, List, T}
use Rattle.policy.specs.Contract.{Aid, valid_aid}
use Rattle.policy.specs.Layout.{Layout}
use Rattle.policy.specs.Record.{Change, proper}
use Rattle.policy.specs.Sound.{sound}
use Rattle.policy.specs.Judge.{Out, refusal}
use Rattle.policy.specs.Settled.{settled}
use Rattle.policy.specs.Records.{WithinChange}

abbrev pub properly : Layout → List ℕ → Aid → Change → Out
properly L img a c = cond (proper L a c) (settled L img a c) (refusal 3 255 img)

-- the image is sound, and the record's AID and rows are valid
pub record Taken (L : Layout) (img : List ℕ) (a : Aid) (c : Change) : Type 0 where
  pub is_sound : T (sound L img)
  pub first_valid : T (valid_aid a)
  pub within : WithinChange L c
