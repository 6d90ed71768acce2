-- What the code of a kind is asked: a proper record that was read, on a sound image.
use Rattle.std.specs.Prelude.{ℕ, List, T}
use Rattle.policy.specs.Contract.{Aid, valid_aid}
use Rattle.policy.specs.Layout.{Layout}
use Rattle.policy.specs.Record.{Change, proper}
use Rattle.policy.specs.Sound.{sound}
use Rattle.policy.specs.Records.{WithinChange}

pub record Asked (L : Layout) (img : List ℕ) (a : Aid) (c : Change) : Type 0 where
  pub is_sound : T (sound L img)
  pub first_valid : T (valid_aid a)
  pub within : WithinChange L c
  pub is_proper : T (proper L a c)
