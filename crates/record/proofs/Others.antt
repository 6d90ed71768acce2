-- Cause 3, part by part. Assumes nothing.
use mathlib.Core.Path.{◌≡◌, refl, sym, ◌∙◌}
use mathlib.Core.Bool.{Bool, true, false, not, ◌&&◌, and-false, and-true}
use mathlib.Core.List.{List, ◌∷◌}
use Rattle.policy.specs.Lists.{every, exists, distinct}
use Rattle.policy.specs.Contract.{Aid as Bytes, Tok, Row, eq_aid, eq_tok, eq_row, has_row}
use Rattle.policy.specs.Layout.{Layout}
use Rattle.policy.specs.Record.{not_own, proper_contract, proper}
use Rattle.geometry.specs.declared.Card.{Card}
use Rattle.geometry.specs.Geometry.{layout_of}
use Rattle.geometry.proofs.Bounds.{early}
use Rattle.record.specs.Meaning.{whole_of, change_of}
use Rattle.record.specs.declared.ContractKind.{ContractKind}
use Rattle.record.specs.declared.ContractKind.TheVariants.{Load, Replace}
use Rattle.record.specs.declared.RowKind.{RowKind}
use Rattle.record.specs.declared.RowKind.TheVariants.{AddCall, RemoveCall, AddGrant, RemoveGrant}

-- a row or a caller whose AID is the own
abbrev pub own_row : Bytes → Row → Bool
own_row own x = eq_aid x.aid own

abbrev pub own_aid : Bytes → Bytes → Bool
own_aid own x = eq_aid x own

-- no thing of a list is the own, and none stands twice
abbrev pub others : {A : Type 0} → (A → Bool) → (A → A → Bool) → List A → Bool
others own eq l = every (λ x. not (own x)) l && distinct eq l

-- the first of those to come is the own, it is one of those after it, or neither
module _ {A : Type 0} (own : A → Bool) (eq : A → A → Bool) {l rest : List A} {x : A} {b o : Bool} (h : others own eq l ≡ b) (e : l ≡ x ∷ rest) (w : o ≡ own x) where
  first : others own eq (x ∷ rest) ≡ b
  first = rw e at h

  pub own_stop : o ≡ true → false ≡ b
  own_stop t = rw (sym w ∙ t) at first

  module _ {r : Bool} (f : o ≡ false) (q : r ≡ exists (eq x) rest) where
    pub twice_stop : r ≡ true → false ≡ b
    twice_stop t = rw (sym w ∙ f, sym q ∙ t, and-false (every (λ y. not (own y)) rest)) at first

    pub once_next : r ≡ false → others own eq rest ≡ b
    once_next t = rw (sym w ∙ f, sym q ∙ t) at first

-- ---- the lists of a contract, in the order of the code
arranged : (dp dc dg dn oc og on x : Bool)
    → ((dp && dc && dg && dn) && (oc && og && on) && (x && true)) ≡ ((((dp && (oc && dc)) && (og && dg)) && (on && dn)) && x)
arranged false dc dg dn oc og on x = refl
arranged true false dg dn false og on x = refl
arranged true false dg dn true og on x = refl
arranged true true false dn false og on x = refl
arranged true true false dn true false on x = refl
arranged true true false dn true true on x = refl
arranged true true true false false og on x = refl
arranged true true true false true false on x = refl
arranged true true true false true true false x = refl
arranged true true true false true true true x = refl
arranged true true true true false og on x = refl
arranged true true true true true false on x = refl
arranged true true true true true true false x = refl
arranged true true true true true true true x = and-true x

-- R-1: kind 11 has a load's 'causes 2 and 3'
pub whole_proper : (L : Layout) (a : Bytes) (w : ContractKind) (p : List Tok) (c g n : List Row) → proper L a (whole_of w p c g n) ≡ proper_contract L a p c g n
unfolding proper
whole_proper L a Load p c g n = refl
whole_proper L a Replace p c g n = refl

-- no row has the own AID as the other end, and none stands twice
abbrev pub rows : Bytes → List Row → Bool
rows a l = not_own a l && distinct eq_row l

-- R-2: a grant of a service that is not provided is proper
module _ (a : Bytes) (p : List Tok) (c g n : List Row) where
  pub contract_form : (k : Card) (w : ContractKind)
      → ((((distinct eq_tok p && rows a c) && rows a g) && rows a n) && every (λ r. has_row r c) n) ≡ proper (layout_of k) a (whole_of w p c g n)
  contract_form k w =
      sym (rw (whole_proper (layout_of k) a w p c g n, early k)
      (arranged (distinct eq_tok p) (distinct eq_row c) (distinct eq_row g) (distinct eq_row n) (not_own a c) (not_own a g) (not_own a n) (every (λ r. has_row r c) n)))

-- r is d; where it holds, v is q too, and else nothing: so v is both
module _ {r d v : Bool} (e : r ≡ d) where
  pub and_yes : {q : Bool} → r ≡ true → v ≡ q → v ≡ (d && q)
  and_yes t h = rw (sym e ∙ t) h

  pub and_no : (q : Bool) → r ≡ false → v ≡ r → v ≡ (d && q)
  and_no q t h = rw (sym e ∙ t) (h ∙ t)

-- ---- a row whose other end is b
pub row_proper : (a b : Bytes) {r : Bool} → r ≡ eq_aid b a → (k : Card) (x : RowKind) (t : Row) → t.aid ≡ b → not r ≡ proper (layout_of k) a (change_of x t)
unfolding proper
row_proper a b q k AddCall t e = rw (q, ← e)
row_proper a b q k RemoveCall t e = rw (q, ← e)
row_proper a b q k AddGrant t e = rw (q, ← e)
row_proper a b q k RemoveGrant t e = rw (q, ← e)
