-- Kind 2: the tables that the writes leave are the draft's. Assumes nothing.
use Prim.Native.Nat.{ℕ}
use mathlib.Core.Path.{◌≡◌, sym, ap, ◌∙◌}
use mathlib.Core.Bool.{false, not, ◌&&◌, ◌||◌, cond}
use mathlib.Core.List.{[], ◌++◌}
use lib.Dec.{eqb}
use Rattle.policy.specs.Lists.{keep}
use Rattle.policy.specs.Contract.{Aid}
use Rattle.policy.specs.Layout.{Layout}
use Rattle.policy.specs.Tables.{Tables, no_tok}
use Rattle.policy.specs.Draft.{put, remove_at}
use Rattle.geometry.specs.declared.Table.TheVariants.{Calls, Grants}
use Rattle.geometry.specs.declared.Kept.TheVariants.{UnmetCalls, WaitingGrants}
use Rattle.packages.specs.Removal.{left_rows, lists_without, tables_without}
use Rattle.packages.proofs.Removed.Rows.{calls_left, grants_left}

module _ (L : Layout) (t : Tables) where
  pub removed_is : (n : ℕ) (a : Aid) → t.aid n ≡ a → tables_without n (lists_without L t a n) ≡ (remove_at L t n).tables
  removed_is n a e =
      let calls = ap (λ (x : Aid). left_rows L UnmetCalls t Calls x n) (sym e) ∙ calls_left L t n in
      let grants = ap (λ (x : Aid). left_rows L WaitingGrants t Grants x n) (sym e) ∙ grants_left L t (t.aid n) n in
      λ z. record {
        used = put n false t.used;
        aid = put n [] t.aid;
        tok = λ x y. cond (eqb x n) no_tok (t.tok x y);
        provides = λ x y. t.provides x y && not (eqb x n);
        calls = λ x y z. t.calls x y z && not (eqb x n || eqb y n);
        grants = λ x y z. t.grants x y z && not (eqb x n || eqb y n);
        needs = λ x y z. t.needs x y z && not (eqb x n || eqb y n);
        unmet = keep (λ u. not (eqb u.caller n)) t.unmet ++ calls z;
        waiting = keep (λ w. not (eqb w.callee n)) t.waiting ++ grants z;
      }
