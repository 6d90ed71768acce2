-- Kind 4: the tables that the writes leave are the draft's. Assumes nothing.
use Prim.Native.Nat.{ℕ, ◌<◌}
use mathlib.Core.Path.{◌≡◌, sym, ap, ◌∙◌}
use mathlib.Core.Bool.{true, false, not, ◌&&◌, cond}
use mathlib.Core.List.{List, ◌++◌, map}
use lib.Dec.{eqb}
use Rattle.policy.specs.Lists.{keep}
use Rattle.policy.specs.Contract.{eq_tok}
use Rattle.policy.specs.Layout.{Layout}
use Rattle.policy.specs.Tables.{Tables, Waiting, no_tok}
use Rattle.policy.specs.Lookup.{numbers}
use Rattle.policy.specs.Draft.{put2, waiting_without, remove_service_at}
use Rattle.geometry.specs.declared.Table.TheVariants.{Grants}
use Rattle.geometry.specs.declared.Kept.TheVariants.{WaitingGrants}
use Rattle.image.specs.Wrote.{in_column, in_row}
use Rattle.services.specs.Removal.{left_bits, lists_without_service}
use Rattle.changes.specs.Places.{tables_without_service}
use Rattle.services.proofs.Removed.Rows.{service_calls_left, service_grants_left}

module _ (L : Layout) (t : Tables) where
  -- R-2: the grants wait
  module _ (ey : L.early ≡ true) (j k : ℕ) where
    waiting_is : t.waiting ++ left_bits L WaitingGrants t Grants j k ≡ waiting_without L t j k
    waiting_is =
        ap (λ (m : List Waiting). t.waiting ++ m) (service_grants_left L t j k)
        ∙ (λ z. cond (sym ey z) (t.waiting ++ map (λ i. record { caller = t.aid i; callee = j; tok = t.tok j k }) (keep (λ i. t.grants j i k) (numbers L)))
        (keep (λ w. not (eqb w.callee j && eq_tok w.tok (t.tok j k))) t.waiting))

    pub service_is : k < L.services → tables_without_service j k (lists_without_service L t j k) ≡ (remove_service_at L t j k).tables
    service_is h = λ z. record {
      used = t.used;
      aid = t.aid;
      tok = put2 j k no_tok t.tok;
      provides = put2 j k false t.provides;
      calls = in_column j k t.calls;
      grants = in_row j k t.grants;
      needs = in_column j k t.needs;
      unmet = t.unmet ++ service_calls_left L t j k h z;
      waiting = waiting_is z;
    }
