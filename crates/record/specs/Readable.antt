-- Whether something is read at the front of bytes.
use Rattle.std.specs.Prelude.{Bool, true, false}
use Rattle.policy.specs.Record.{Got, got, bad}

abbrev pub is_got : {A : Type 0} → Got A → Bool
is_got (got a s) = true
is_got bad = false
