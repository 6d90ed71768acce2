-- Whether a search of the code has found something. Assumes nothing.
use mathlib.Core.Path.{◌≡◌, ap}
use mathlib.Core.Option.{Option, none, some}
use Rattle.policy.specs.Lists.{is_some}
use Rattle.std.specs.Prelude.{Option as Answer}
use Rattle.std.specs.Prelude.{is_some as answer_is_some}
use Rattle.image.specs.Read.{found}

pub found_is : {A : Type 0} (x : Option A) {o : Answer A} → o ≡ found x → answer_is_some o ≡ is_some x
found_is none e = ap answer_is_some e
found_is (some y) e = ap answer_is_some e
