-- A service opened: its bit in the row of its package, and the tables. Assumes nothing.
use Prim.Native.Nat.{ℕ, ◌^◌, ◌<◌}
use mathlib.Core.Path.{◌≡◌, ap, ◌∙◌}
use mathlib.Core.Bool.{true, ◌||◌, cond}
use mathlib.Core.List.{List}
use lib.Dec.{eqb}
use Rattle.policy.specs.Contract.{Tok}
use Rattle.policy.specs.Layout.{Layout}
use Rattle.policy.specs.Tables.{Tables, bit, row_of, decode}
use Rattle.policy.specs.Draft.{put2}
use Rattle.geometry.specs.declared.Card.{Card}
use Rattle.geometry.specs.Geometry.{layout_of}
use Rattle.image.specs.Laid.{Laid, with_tok, with_provides}
use Rattle.image.specs.Wrote.{Wrote}
use Rattle.image.proofs.RowBits.{bit_set}
use Rattle.image.proofs.Writes.{provides_put}
use Rattle.changes.specs.Places.{opened}

module _ (c : Card) {img : List ℕ} (h : Laid (layout_of c) img) (j k : ℕ) (inside : k < (layout_of c).services) (s : Tok) {img' : List ℕ}
    (w : Wrote (layout_of c) img' (with_tok j k s (decode (layout_of c) img))) (row with : ℕ) (e : row ≡ row_of (layout_of c).services ((decode (layout_of c) img').provides j))
    (q : with ≡ row_of 16 (λ z. eqb z k || bit row z)) where
  abbrev L : Layout
  L = layout_of c

  abbrev t : Tables
  t = decode L img

  more : (with < 2 ^ L.services) × ((λ (x y : ℕ). cond (eqb x j) (bit with y) (t.provides x y)) ≡ put2 j k true t.provides)
  more = provides_put c h k true row with (λ z. eqb z k || bit row z) q (bit_set k (bit row)) j inside (e ∙ ap (λ (v : Tables). row_of L.services (v.provides j)) w.tables)

  pub open_fits : with < 2 ^ (layout_of c).services
  open_fits = more.0

  pub open_wrote : {img'' : List ℕ} → Wrote (layout_of c) img'' (with_provides j (bit with) (decode (layout_of c) img')) → Wrote (layout_of c) img'' (opened j k s (decode (layout_of c) img))
  open_wrote v = record {
    laid = v.laid;
    tables = v.tables ∙ ap (with_provides j (bit with)) w.tables ∙ (λ i. record {
      used = t.used;
      aid = t.aid;
      tok = put2 j k s t.tok;
      provides = more.1 i;
      calls = t.calls;
      grants = t.grants;
      needs = t.needs;
      unmet = t.unmet;
      waiting = t.waiting;
    });
  }
