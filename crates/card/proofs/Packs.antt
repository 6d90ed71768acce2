-- What an outcome's parts give as one number, and where a record's first AID stands. Assumes nothing.
use Prim.Native.Nat.{ℕ, ◌≤◌}
use native.Mathlib.Omega.{arith}
use mathlib.Core.Path.{◌≡◌, refl, sym, ap, ◌∙◌, subst}
use mathlib.Core.Bool.{Bool, cond}
use mathlib.Core.List.{List, [], ◌∷◌}
use mathlib.Core.Option.{Option, none, some}
use lib.Dec.{leb, leb→le}
use lib.ListN.{length}
use Rattle.policy.specs.Contract.{Aid}
use Rattle.policy.specs.Layout.{Layout}
use Rattle.policy.specs.Record.{Request, parse, first_aid}
use Rattle.policy.specs.Judge.{Out}
use Rattle.policy.specs.Settled.{Gives}
use Rattle.policy.specs.Eras.{convert}
use Rattle.policy.proofs.Sets.{and_r}
use Rattle.policy.proofs.ParseFacts.{first_aid_part}
use Rattle.geometry.specs.declared.Card.{Card}
use Rattle.converter.specs.Converted.{Converted}
use Rattle.converter.proofs.Written.{convert_is}
use Rattle.card.specs.Packed.{joined, packed, aid_place}
use Rattle.card.specs.Calls.{Returned}

pub packs : {o : Out} {number second r : ℕ} {left : List ℕ} → Gives o number second left → r ≡ joined number second → Returned o r left
packs g e = record { result = e ∙ (λ i. joined (sym g.answered i) (sym g.second_is i)); left_is = sym g.bytes_are }

-- the same of the card that was found for what was lent
pub packs_on : (f : Card → Out) {c d : Card} → c ≡ d → {number second r : ℕ} {left : List ℕ} → Gives (f c) number second left → r ≡ joined number second → Returned (f d) r left
packs_on f e {r = r} {left} g p = subst (λ (k : Card). Returned (f k) r left) e (packs g p)

-- ---- a conversion that was made, or was not
pub conversion : (L M : Layout) {old lent left : List ℕ} {b : Bool} → Converted L M old lent b left → {r : ℕ} → r ≡ joined (cond b 0 1) (cond b 0 255)
    → Returned (convert L M old lent) r left
conversion L M {old} {lent} {left} {b} h p =
    let o = convert_is L M old lent b left h in
    record { result = p ∙ sym (ap packed o); left_is = sym (ap (λ (z : Out). z.bytes) o) }

-- ---- the place of an AID
pub placed : (a : Aid) → (length a ≡ 0 → ⊥) → aid_place a ≡ joined 5 (length a)
placed [] z = absurd (z refl)
placed (b ∷ a) z = refl

-- a part of a record that is its first AID
module _ (L : Layout) (s : List ℕ) {part : List ℕ} (e : part ≡ first_aid L s) where
  -- it has no more than 16 bytes
  pub aid_short : length part ≤ 16
  aid_short = go (parse L s) refl
    where
      go : (o : Option Request) → parse L s ≡ o → length part ≤ 16
      go none p = let h = ap (λ (a : Aid). length a) (e ∙ (first_aid_part L s).0 p) in omega arith
      go (some q) p =
          let h = (first_aid_part L s).1 q p in
          let a = ap (λ (a : Aid). length a) (e ∙ h.0) in
          let b = leb→le (length q.aid) 16 (and_r (leb 5 (length q.aid)) (leb (length q.aid) 16) h.2) in
          omega arith

  pub no_aid : length part ≡ 0 → 0 ≡ aid_place (first_aid L s)
  no_aid z = go part z ∙ ap (λ (a : Aid). aid_place a) e
    where
      go : (a : Aid) → length a ≡ 0 → 0 ≡ aid_place a
      go [] z = refl
      go (b ∷ a) z = absurd (omega arith)

  pub some_aid : {r : ℕ} → (length part ≡ 0 → ⊥) → r ≡ joined 5 (length part) → r ≡ aid_place (first_aid L s)
  some_aid z h = h ∙ sym (placed part z) ∙ ap (λ (a : Aid). aid_place a) e
