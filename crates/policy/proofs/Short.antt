-- The full look at a draft by its four tests: what the laws of the short checks share.
use Prim.Native.Nat.{ℕ, zero, suc, ◌+◌, ◌≤◌}
use native.Mathlib.Nat.{zero-add, suc-add}
use mathlib.Core.Path.{◌≡◌, refl, sym, ap, ◌∙◌}
use mathlib.Core.Bool.{Bool, true, false, not, ◌&&◌, cond}
use mathlib.Core.List.{List, [], ◌∷◌, ◌++◌, map}
use lib.Dec.{eqb, eqb-suc-zero, leb, le→leb}
use lib.ListN.{length, length-append, length-map}
use Rattle.policy.specs.Lists.{every, keep, is_nil}
use Rattle.policy.specs.Layout.{Layout}
use Rattle.policy.specs.Tables.{Tables}
use Rattle.policy.specs.Lookup.{service_at, numbers, places}
use Rattle.policy.specs.Draft.{Draft, call_row, left_by, look}
use Rattle.policy.specs.ShortCheck.{count, sum, ones}
use Rattle.policy.proofs.Sets.{T_true, pairs}
use Rattle.policy.proofs.EveryBit.{among}
use Rattle.policy.proofs.Formed.{grant_bit, Lawful}
use Rattle.policy.proofs.Facts.{of_lawful}

-- ---- lengths and counts
zero_sum : (a b : ℕ) → eqb (a + b) 0 ≡ eqb a 0 && eqb b 0
zero_sum zero b = ap (λ (n : ℕ). eqb n 0) (zero-add b)
zero_sum (suc a) b = ap (λ (n : ℕ). eqb n 0) (suc-add a b) ∙ eqb-suc-zero (a + b) ∙ ap (λ (z : Bool). z && eqb b 0) (sym (eqb-suc-zero a))

pub nil_length : {A : Type 0} (l : List A) → is_nil l ≡ eqb (length l) 0
nil_length [] = refl
nil_length (x ∷ l) = sym (eqb-suc-zero (length l))

pub none_pass : {A : Type 0} (f : A → Bool) (l : List A) → eqb (count f l) 0 ≡ every (λ x. not (f x)) l
none_pass f [] = refl
none_pass f (x ∷ l) = go (f x) (none_pass f l)
  where
    go : (b : Bool) → eqb (count f l) 0 ≡ every (λ x. not (f x)) l → eqb (length (cond b (x ∷ keep f l) (keep f l))) 0 ≡ not b && every (λ x. not (f x)) l
    go true ih = eqb-suc-zero (length (keep f l))
    go false ih = ih

none_sum : (f : ℕ → ℕ) (l : List ℕ) → eqb (sum f l) 0 ≡ every (λ i. eqb (f i) 0) l
none_sum f [] = refl
none_sum f (x ∷ l) = zero_sum (f x) (sum f l) ∙ ap (λ (b : Bool). eqb (f x) 0 && b) (none_sum f l)

pub none_pairs : (f : ℕ → ℕ → Bool) (l m : List ℕ) → eqb (sum (λ i. count (f i) l) m) 0 ≡ every (λ i. every (λ k. not (f i k)) l) m
none_pairs f l m = none_sum (λ i. count (f i) l) m ∙ (λ z. every (λ i. none_pass (f i) l z) m)

pub length_pairs : {B : Type 0} (g : ℕ → ℕ → B) (f : ℕ → ℕ → Bool) (l m : List ℕ) → length (pairs g f l m) ≡ sum (λ i. count (f i) l) m
length_pairs g f l [] = refl
length_pairs g f l (i ∷ m) =
    length-append (map (g i) (keep (f i) l)) (pairs g f l m) ∙ (λ z. length-map (keep (f i) l) (g i) z + length_pairs g f l m z)

-- nothing is left of two lists
pub nil_append : {A : Type 0} (l m : List A) → is_nil (l ++ m) ≡ is_nil l && is_nil m
nil_append [] m = refl
nil_append (x ∷ l) m = refl

module _ {A : Type 0} where
  -- nothing is kept of those that do not pass where all pass
  pub none_kept : {B : Type 0} (f : A → Bool) (g : A → B) (l : List A) → is_nil (map g (keep (λ x. not (f x)) l)) ≡ every f l
  none_kept f g [] = refl
  none_kept f g (x ∷ l) = go (f x) (none_kept f g l)
    where
      go : (b : Bool) → is_nil (map g (keep (λ y. not (f y)) l)) ≡ every f l → is_nil (map g (cond (not b) (x ∷ keep (λ y. not (f y)) l) (keep (λ y. not (f y)) l))) ≡ (b && every f l)
      go true h = h
      go false h = refl

  pub length_kept : {B : Type 0} (l : List B) (g : A → B) (m : List A) → length (l ++ map g m) ≡ length l + length m
  length_kept l g m = length-append l (map g m) ∙ ap (λ (n : ℕ). length l + n) (length-map m g)

-- the rows that the bits of b on the services d of package j leave
module _ (L : Layout) (t : Tables) (b : ℕ → ℕ → ℕ → Bool) (j : ℕ) (d : ℕ → Bool) where
  pub left_count : length (left_by L t b j d) ≡ ones L t (λ i k. b i j k && d k)
  left_count = length_pairs (λ i k. call_row i (service_at t j k)) (λ i k. b i j k && d k) (places L) (numbers L)

  pub none_left : is_nil (left_by L t b j d) ≡ every (λ i. every (λ k. not (b i j k && d k)) (places L)) (numbers L)
  none_left = nil_length (left_by L t b j d) ∙ ap (λ (n : ℕ). eqb n 0) left_count ∙ none_pairs (λ i k. b i j k && d k) (places L) (numbers L)

module _ (L : Layout) where
  pub look_is : (d : Draft) {g n u w : Bool} → among L d.tables.calls (grant_bit d.tables) ≡ g → is_nil d.lost ≡ n
      → leb (length d.tables.unmet) L.capacity ≡ u → leb (length d.tables.waiting) L.capacity ≡ w
      → look L d ≡ record { granted = g; needed = n; unmet_fits = u; waiting_fits = w }
  unfolding look
  look_is d eg en eu ew = λ z. record { granted = eg z; needed = en z; unmet_fits = eu z; waiting_fits = ew z }

  pub fits : (n : ℕ) → n ≤ L.capacity → leb n L.capacity ≡ true
  fits n h = T_true (leb n L.capacity) (le→leb n L.capacity h)

  pub fits_as : {m n : ℕ} → m ≡ n → leb m L.capacity ≡ leb n L.capacity
  fits_as e = ap (λ (x : ℕ). leb x L.capacity) e

  pub granted : (t : Tables) → Lawful t → among L t.calls (grant_bit t) ≡ true
  granted t law = T_true (among L t.calls (grant_bit t)) (of_lawful L t law)
