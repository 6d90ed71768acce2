-- A service closed: its bit in the row of its package. Assumes nothing.
use Prim.Native.Nat.{ℕ, ◌^◌, ◌<◌}
use mathlib.Core.Path.{◌≡◌}
use mathlib.Core.Bool.{false, not, ◌&&◌, cond}
use mathlib.Core.List.{List}
use lib.Dec.{eqb}
use Rattle.policy.specs.Tables.{Tables, bit, row_of, decode}
use Rattle.policy.specs.Draft.{put2}
use Rattle.geometry.specs.declared.Card.{Card}
use Rattle.geometry.specs.Geometry.{layout_of}
use Rattle.image.specs.Laid.{Laid, with_provides}
use Rattle.image.specs.Wrote.{Wrote}
use Rattle.image.proofs.RowBits.{bit_clear}
use Rattle.image.proofs.Writes.{provides_put}
use Rattle.changes.specs.Places.{closed}
use Rattle.changes.proofs.AppendedRows.{wrote_as}

module _ (c : Card) {img : List ℕ} (h : Laid (layout_of c) img) (j k : ℕ) (inside : k < (layout_of c).services) (row less : ℕ)
    (e : row ≡ row_of (layout_of c).services ((decode (layout_of c) img).provides j)) (q : less ≡ row_of 16 (λ z. not (eqb z k) && bit row z)) where
  abbrev t : Tables
  t = decode (layout_of c) img

  without : (less < 2 ^ (layout_of c).services) × ((λ (x y : ℕ). cond (eqb x j) (bit less y) (t.provides x y)) ≡ put2 j k false t.provides)
  without = provides_put c h k false row less (λ z. not (eqb z k) && bit row z) q (bit_clear k (bit row)) j inside e

  pub service_fits : less < 2 ^ (layout_of c).services
  service_fits = without.0

  pub service_closed : {img' : List ℕ} → Wrote (layout_of c) img' (with_provides j (bit less) (decode (layout_of c) img)) → Wrote (layout_of c) img' (closed j k (decode (layout_of c) img))
  service_closed w = wrote_as (layout_of c) (λ i. record {
    used = t.used;
    aid = t.aid;
    tok = t.tok;
    provides = without.1 i;
    calls = t.calls;
    grants = t.grants;
    needs = t.needs;
    unmet = t.unmet;
    waiting = t.waiting;
  }) w
