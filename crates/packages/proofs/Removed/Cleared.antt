-- Kind 2: a package's number cleared, its bit among the used ones. Assumes nothing.
use Prim.Native.Nat.{ℕ, ◌^◌, ◌<◌}
use mathlib.Core.Path.{◌≡◌, ap}
use mathlib.Core.Bool.{Bool, false, not, ◌&&◌}
use mathlib.Core.List.{List}
use lib.Dec.{eqb}
use Rattle.policy.specs.Tables.{bit, row_of, decode}
use Rattle.policy.specs.Draft.{put}
use Rattle.geometry.specs.declared.Card.{Card}
use Rattle.geometry.specs.Geometry.{layout_of}
use Rattle.image.specs.Laid.{Laid, with_used}
use Rattle.image.specs.Wrote.{Wrote}
use Rattle.image.proofs.RowBits.{bit_clear}
use Rattle.image.proofs.Writes.{used_put}
use Rattle.packages.specs.Removal.{number_without}
use Rattle.changes.proofs.AppendedRows.{wrote_as}

module _ (c : Card) {img : List ℕ} (h : Laid (layout_of c) img) (n : ℕ) (inside : n < (layout_of c).packages) (row less : ℕ)
    (e : row ≡ row_of (layout_of c).packages (decode (layout_of c) img).used) (q : less ≡ row_of 16 (λ z. not (eqb z n) && bit row z)) where
  fewer : (less < 2 ^ (layout_of c).packages) × (bit less ≡ put n false (decode (layout_of c) img).used)
  fewer = used_put c h n false row less (λ z. not (eqb z n) && bit row z) q (bit_clear n (bit row)) inside e

  pub number_fits : less < 2 ^ (layout_of c).packages
  number_fits = fewer.0

  pub number_freed : {img' : List ℕ} → Wrote (layout_of c) img' (with_used (bit less) (decode (layout_of c) img)) → Wrote (layout_of c) img' (number_without n (decode (layout_of c) img))
  number_freed w = wrote_as (layout_of c) (ap (λ (g : ℕ → Bool). with_used g (decode (layout_of c) img)) fewer.1) w
