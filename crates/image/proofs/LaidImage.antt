-- A laid image: what its struct says, and what code that searches it answers.
use Prim.Native.Nat.{ℕ}
use mathlib.Core.Path.{◌≡◌, refl, sym, ◌∙◌}
use mathlib.Core.Option.{Option, none, some}
use mathlib.Core.List.{List}
use mathlib.Core.List.{Memᴰ as In}
use lib.Dec.{T}
use Rattle.std.specs.Prelude.{Some, None}
use Rattle.std.specs.Prelude.{Option as Answer}
use Rattle.policy.specs.Lookup.{Place as Found, Spot as SpotFound}
use Rattle.image.specs.declared.read.Place.{Place}
use Rattle.image.specs.declared.read.Spot.{Spot}
use Rattle.image.specs.Read.{found, found_place, found_spot}
use borrow.Author.Rules.{rules}
use Rattle.policy.specs.Tables.{Waiting}
use Rattle.policy.proofs.Sets.{true_T}
use Rattle.geometry.specs.declared.Card.{Card}
use Rattle.geometry.specs.Geometry.{layout_of, tables_of}
use Rattle.geometry.proofs.Bounds.{early}
use Rattle.image.specs.declared.Image.{Image}
use Rattle.image.specs.Laid.{Laid, LaidOn}
use Rattle.image.specs.Image.{lay}

-- ---- laid, and laid as a card's
pub laid_on : (c : Card) {img : List ℕ} → Laid (layout_of c) img → LaidOn c img
laid_on c h = record { laid = h.laid; room = search }

pub laid_held : (c : Card) {img : List ℕ} → LaidOn c img → Laid (layout_of c) img
laid_held c {img} h = record { laid = h.laid; room = search own }
  where
    own : (T (layout_of c).early → ⊥) → (v : Waiting) → In v (tables_of c img).waiting
        → (k : ℕ) × T ((tables_of c img).provides v.callee k) × ((tables_of c img).tok v.callee k ≡ v.tok)
    own late v i = absurd (late (true_T (early c)))

pub is_laid : (i : Image) → Laid (lay i) i.bytes.now
is_laid i = laid_held i.card i.laid

-- ---- what an answer says of the search
module _ {A : Type 0} (o : Option A) (r : Answer A) (e : r ≡ found o) where
  pub found_none : r ≡ None → o ≡ none
  found_none h = go o (sym e ∙ h)
    where
      go : (o : Option A) → found o ≡ None → o ≡ none
      go none p = refl
      go (some x) p = absurd (search rules)

  pub found_some : {x : A} → r ≡ Some x → o ≡ some x
  found_some {x} h = go o (sym e ∙ h)
    where
      go : (o : Option A) → found o ≡ Some x → o ≡ some x
      go none p = absurd (search rules)
      go (some y) p = search rules

module _ (o : Option Found) (r : Answer Place) (e : r ≡ found_place o) where
  pub place_none : r ≡ None → o ≡ none
  place_none h = go o (sym e ∙ h)
    where
      go : (o : Option Found) → found_place o ≡ None → o ≡ none
      go none p = refl
      go (some x) p = absurd (search rules)

  pub place_some : {x : Place} → r ≡ Some x → o ≡ some (record { callee = x.callee; service = x.service })
  place_some {x} h = go o (sym e ∙ h)
    where
      go : (o : Option Found) → found_place o ≡ Some x → o ≡ some (record { callee = x.callee; service = x.service })
      go none p = absurd (search rules)
      go (some y) p = search rules

module _ (o : Option SpotFound) (r : Answer Spot) (e : r ≡ found_spot o) where
  pub spot_none : r ≡ None → o ≡ none
  spot_none h = go o (sym e ∙ h)
    where
      go : (o : Option SpotFound) → found_spot o ≡ None → o ≡ none
      go none p = refl
      go (some x) p = absurd (search rules)

  pub spot_some : {x : Spot} → r ≡ Some x → o ≡ some (record { caller = x.caller; service = x.service })
  spot_some {x} h = go o (sym e ∙ h)
    where
      go : (o : Option SpotFound) → found_spot o ≡ Some x → o ≡ some (record { caller = x.caller; service = x.service })
      go none p = absurd (search rules)
      go (some y) p = search rules
