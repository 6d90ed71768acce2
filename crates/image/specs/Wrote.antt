-- What a write leaves, and the parts of tables that go with a package or a service.
use Rattle.std.specs.Prelude.{ℕ, ◌≡◌, Bool, not, ◌&&◌, ◌||◌, cond, List, eqb}
use Rattle.policy.specs.Layout.{Layout}
use Rattle.policy.specs.Tables.{Tables, no_tok, decode}
use Rattle.geometry.specs.declared.Table.{Table}
use Rattle.geometry.specs.declared.Table.TheVariants.{Calls, Grants, Needs}
use Rattle.image.specs.Laid.{Laid}

-- the image is laid, and its tables are t
pub record Wrote (L : Layout) (img : List ℕ) (t : Tables) : Type 0 where
  pub laid : Laid L img
  pub tables : decode L img ≡ t

-- ---- a table without row n, and without package n: row n and column n are clear
abbrev pub without_row : ℕ → (ℕ → ℕ → ℕ → Bool) → ℕ → ℕ → ℕ → Bool
without_row n b x y z = b x y z && not (eqb x n)

abbrev pub without_package : ℕ → (ℕ → ℕ → ℕ → Bool) → ℕ → ℕ → ℕ → Bool
without_package n b x y z = b x y z && not (eqb x n || eqb y n)

-- the row of a caller and a callee: calls and needs have the caller's number, and grants the callee's; the column is the other
abbrev pub row_in : Table → ℕ → ℕ → ℕ
row_in Calls caller callee = caller
row_in Grants caller callee = callee
row_in Needs caller callee = caller

-- a table without service k of package j, which is the column of a call or need, and the row of a grant
abbrev pub in_column : ℕ → ℕ → (ℕ → ℕ → ℕ → Bool) → ℕ → ℕ → ℕ → Bool
in_column j k b x y z = b x y z && not (eqb y j && eqb z k)

abbrev pub in_row : ℕ → ℕ → (ℕ → ℕ → ℕ → Bool) → ℕ → ℕ → ℕ → Bool
in_row j k b x y z = b x y z && not (eqb x j && eqb z k)

abbrev pub without_service : Table → ℕ → ℕ → (ℕ → ℕ → ℕ → Bool) → ℕ → ℕ → ℕ → Bool
without_service Calls j k b = in_column j k b
without_service Grants j k b = in_row j k b
without_service Needs j k b = in_column j k b

-- package n has no tokens and provides nothing
abbrev pub without_services : ℕ → Tables → Tables
without_services n t = record {
  used = t.used;
  aid = t.aid;
  tok = λ x y. cond (eqb x n) no_tok (t.tok x y);
  provides = λ x y. t.provides x y && not (eqb x n);
  calls = t.calls;
  grants = t.grants;
  needs = t.needs;
  unmet = t.unmet;
  waiting = t.waiting;
}
