-- The outcome of a record that was read and is proper: what the code of the kinds gives.
use Rattle.std.specs.Prelude.{ℕ, ◌≡◌, List, ◌++◌}
use Rattle.policy.specs.Contract.{Aid}
use Rattle.policy.specs.Layout.{Layout}
use Rattle.policy.specs.Record.{Change}
use Rattle.policy.specs.Causes.{answer}
use Rattle.policy.specs.Tables.{decode}
use Rattle.policy.specs.Draft.{look, draft, number_for}
use Rattle.policy.specs.Judge.{Out, table_causes, look_causes, judged}

unfoldable pub settled : Layout → List ℕ → Aid → Change → Out
settled L img a c =
    let t = decode L img in
    let d = draft L t a c in
    judged L img (number_for L t a) d.tables (answer (table_causes L t a c ++ look_causes (look L d)))

-- an outcome by its three parts
pub record Gives (o : Out) (number second : ℕ) (img : List ℕ) : Type 0 where
  pub answered : o.answered ≡ number
  pub second_is : o.second ≡ second
  pub bytes_are : o.bytes ≡ img
