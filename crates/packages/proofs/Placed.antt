-- A contract put on the card: the package's number and AID, its services, of which those that it has stay, and all its lists. Assumes nothing.
use Prim.Native.Nat.{ℕ, ◌^◌, ◌<◌}
use mathlib.Core.Path.{◌≡◌, refl, sym, ap, ap₂, ◌∙◌, subst}
use mathlib.Core.Bool.{Bool, true, false, ◌&&◌, ◌||◌, cond}
use mathlib.Core.List.{List}
use mathlib.Core.Option.{Option, none, some}
use lib.Dec.{eqb}
use Rattle.policy.specs.Lists.{exists, or_else}
use Rattle.policy.specs.Contract.{Aid, Tok, eq_tok, Contract}
use Rattle.policy.specs.Layout.{Layout}
use Rattle.policy.specs.Tables.{Tables, bit, row_of, decode}
use Rattle.policy.specs.Lookup.{places, free_service}
use Rattle.policy.specs.Draft.{put}
use Rattle.policy.proofs.Sets.{T_false, false_T, and_l, exists_in}
use Rattle.policy.proofs.Bits.{bit_none}
use Rattle.geometry.specs.declared.Card.{Card}
use Rattle.geometry.specs.Geometry.{layout_of}
use Rattle.image.specs.Laid.{Laid, with_used, with_aid}
use Rattle.image.specs.Wrote.{Wrote}
use Rattle.image.proofs.RowBits.{bit_set}
use Rattle.image.proofs.Writes.{used_put}
use Rattle.image.proofs.Clears.{wrote_then}
use Rattle.changes.specs.Places.{opened}
use Rattle.changes.specs.Joins.{taken_in, TakesIn}
use Rattle.changes.specs.Own.{own_rows, OwnFits}
use Rattle.changes.proofs.ListLoops.{Turns}
use Rattle.changes.proofs.AppendedRows.{wrote_as}
use Rattle.packages.specs.declared.decide.Bring.{Bring}
use Rattle.packages.specs.Writes.{named, keeps, placed_one, placed_all, placed, taken, brought_in, BringsIn}

-- ---- its number and its AID
module _ (c : Card) {old : List ℕ} (h : Laid (layout_of c) old) (n : ℕ) (inside : n < (layout_of c).packages) (row with : ℕ) (e : row ≡ row_of (layout_of c).packages (decode (layout_of c) old).used)
    (q : with ≡ row_of 16 (λ z. eqb z n || bit row z)) where
  more : (with < 2 ^ (layout_of c).packages) × (bit with ≡ put n true (decode (layout_of c) old).used)
  more = used_put c h n true row with (λ z. eqb z n || bit row z) q (bit_set n (bit row)) inside e

  pub used_fits : with < 2 ^ (layout_of c).packages
  used_fits = more.0

  pub named_wrote : (a : Aid) {img img' : List ℕ} → Wrote (layout_of c) img (with_used (bit with) (decode (layout_of c) old)) → Wrote (layout_of c) img' (with_aid n a (decode (layout_of c) img))
      → Wrote (layout_of c) img' (named n a (decode (layout_of c) old))
  named_wrote a {img' = img'} w v =
      subst (λ (f : ℕ → Bool). Wrote (layout_of c) img' (with_aid n a (with_used f (decode (layout_of c) old)))) more.1 (wrote_then (layout_of c) (with_aid n a) w v)

-- ---- one service, with tokens s
module _ (L : Layout) (n kept : ℕ) (s : Tok) (t : Tables) where
  -- no service is kept
  pub none_kept : kept ≡ 0 → false ≡ keeps L n kept s t
  none_kept e =
      let f : ℕ → Bool = λ y. bit kept y && eq_tok (t.tok n y) s in
      sym
      (T_false (exists f (places L))
      (λ h. let q = exists_in f (places L) h in false_T (ap (λ (m : ℕ). bit m q.0) e ∙ bit_none q.0) (and_l (bit kept q.0) (eq_tok (t.tok n q.0) s) q.2)))

  abbrev placed_by : Bool → Option ℕ → Tables
  placed_by b o = cond b t (or_else o t (λ y. opened n y s t))

  -- b is whether it is kept, and k the lowest unused number
  module _ (b : Bool) (e : b ≡ keeps L n kept s t) {img : List ℕ} where
    pub place_kept : b ≡ true → Wrote L img t → Wrote L img (placed_one L n kept s t)
    place_kept q = wrote_as L (sym (ap (λ (x : Bool). placed_by x (free_service L t n)) (sym e ∙ q)))

    module _ (q : b ≡ false) where
      pub place_open : {k : ℕ} → free_service L t n ≡ some k → Wrote L img (opened n k s t) → Wrote L img (placed_one L n kept s t)
      place_open h = wrote_as L (sym (ap₂ placed_by (sym e ∙ q) h))

      pub place_full : free_service L t n ≡ none → Wrote L img t → Wrote L img (placed_one L n kept s t)
      place_full h = wrote_as L (sym (ap₂ placed_by (sym e ∙ q) h))

-- ---- all of them, of which each asks nothing
abbrev pub placing : Layout → ℕ → ℕ → Turns Tok
placing L n kept = record {
  one = placed_one L n kept;
  all = placed_all L n kept;
  Asks = λ s t. Unit {0};
  AllAsk = λ l t. Unit {0};
  none_is = λ t. refl;
  first_is = λ s l t. refl;
  here = λ s l t h. tt;
  still = λ s l t h. tt;
}

-- ---- the contract k comes: its services are placed, the rows of the others taken in, and its own written
module _ (L : Layout) (k : Contract) (b : Bring) (t : Tables) (fit : BringsIn L k b t) {img1 : List ℕ} (w : Wrote L img1 (placed L b.at k.provides t)) where
  pub placed_takes : TakesIn L b.at b.met b.due (decode L img1)
  placed_takes = subst (TakesIn L b.at b.met b.due) (sym w.tables) fit.takes_in

  module _ {img2 : List ℕ} (v : Wrote L img2 (taken_in L b.at b.met b.due b.calls b.grants (decode L img1))) where
    taken_wrote : Wrote L img2 (taken L k b t)
    taken_wrote = wrote_then L (taken_in L b.at b.met b.due b.calls b.grants) w v

    pub taken_fits : OwnFits L b.at k.calls k.grants k.needs (decode L img2)
    taken_fits = subst (OwnFits L b.at k.calls k.grants k.needs) (sym taken_wrote.tables) fit.own_fits

    pub brought_wrote : {img3 : List ℕ} → Wrote L img3 (own_rows L b.at k.calls k.grants k.needs (decode L img2)) → Wrote L img3 (brought_in L k b t)
    brought_wrote = wrote_then L (own_rows L b.at k.calls k.grants k.needs) taken_wrote
