-- Laws of order: what stays of a list, new rows in record order and by numbers, and numbers that stay.
use Prim.Native.Nat.{ℕ, zero, suc, ◌<◌}
use mathlib.Core.Path.{◌≡◌, refl, sym, ap, ◌∙◌, subst}
use mathlib.Core.Logic.{◌⊎◌, inl, inr, ◌↔◌}
use mathlib.Core.Bool.{Bool, true, false, cond}
use mathlib.Core.List.{List, [], ◌∷◌, ◌++◌, map, append-nil, map-map, map-append}
use mathlib.Core.List.Memᴰ.{append_cases as in_append}
use mathlib.Core.List.Memᴰ.{head as here}
use mathlib.Core.List.Memᴰ.{not-nil as in_nil}
use mathlib.Core.List.Memᴰ.{tail as there}
use mathlib.Core.List.{Memᴰ as In}
use mathlib.Core.List.Sublistᴰ.{cons as leave}
use mathlib.Core.List.Sublistᴰ.{cons-cons as stays}
use mathlib.Core.List.Sublistᴰ.{nil-sublist as none_of}
use mathlib.Core.List.Sublistᴰ.{slnil as none_left}
use mathlib.Core.List.{Sublistᴰ as InOrder}
use lib.Dec.{T}
use Rattle.policy.specs.Lists.{keep, flat, from, upto}
use Rattle.policy.specs.Contract.{Row}
use Rattle.policy.specs.Placing.{Stay, following, ClosedUp, AsRecorded, Below, GoesUp, ByNumber}
use Rattle.policy.proofs.Sets.{keep_in, map_in, each_map_keep, flat_in, pairs, pairs_in, from_in}

-- ---- numbers: each one afterwards is old and has its value, or is new and has a value that none had
module _ {A : Type 0} (taken : ℕ → Bool) (value value' : ℕ → A) where
  abbrev pub OldOrNew : ℕ → Type 0
  OldOrNew p = (T (taken p) × (value' p ≡ value p)) ⊎ ((T (taken p) → ⊥) × ((n : ℕ) → T (taken n) → value n ≡ value' p → ⊥))

  pub stay : ((n p : ℕ) → T (taken n) → T (taken p) → value n ≡ value p → n ≡ p) → (taken' : ℕ → Bool) → ((p : ℕ) → T (taken' p) → OldOrNew p)
      → Stay taken value taken' value'
  stay inj taken' h n p u v = go (h p v)
    where
      go : OldOrNew p → (value n ≡ value' p) ↔ (n ≡ p)
      go (inl o) = (λ e. inj n p u o.0 (e ∙ o.1), λ e. ap value e ∙ sym o.1)
      go (inr w) = (λ e. absurd (w.1 n u e), λ e. absurd (w.0 (subst (λ (z : ℕ). T (taken z)) e u)))

-- ---- what stays of a list
module _ {A : Type 0} where
  pub keep_order : (f : A → Bool) (l : List A) → InOrder (keep f l) l
  keep_order f [] = none_left
  keep_order f (x ∷ l) = go (f x) (keep_order f l)
    where
      go : (b : Bool) → InOrder (keep f l) l → InOrder (cond b (x ∷ keep f l) (keep f l)) (x ∷ l)
      go true h = stays refl h
      go false h = leave h

  -- no row is new
  pub none_new : {before after : List A} {Order : List A → Type 0} → InOrder after before → Order [] → ClosedUp before after (following Order)
  none_new {after} h o =
      record { stayed = after; new = []; is = sym (append-nil after); in_order = h; left = λ x m l. l; unseen = λ x m. absurd (in_nil m); ordered = o }

  pub none_recorded : (row : A → Row) (owner : A → ℕ) (m : ℕ) (rows : List Row) → AsRecorded row owner m rows []
  none_recorded row owner m rows = (none_of rows, λ x n. absurd (in_nil n))

-- ---- new rows in record order
module _ {A B : Type 0} (f : A → B) (p : A → Bool) (row : B → Row) (owner : B → ℕ) (m : ℕ) (given : A → Row) where
  kept_order : (l : List A) → ((x : A) → In x l → row (f x) ≡ given x) → InOrder (map row (map f (keep p l))) (map given l)
  kept_order [] h = none_left
  kept_order (x ∷ l) h = go (p x) (kept_order l (λ y n. h y (there n)))
    where
      go : (b : Bool) → InOrder (map row (map f (keep p l))) (map given l) → InOrder (map row (map f (cond b (x ∷ keep p l) (keep p l)))) (map given (x ∷ l))
      go true k = stays (h x (here refl)) k
      go false k = leave k

  pub recorded : (l : List A) → ((x : A) → In x l → row (f x) ≡ given x) → ((x : A) → owner (f x) ≡ m) → AsRecorded row owner m (map given l) (map f (keep p l))
  recorded l h o = (kept_order l h, each_map_keep f (λ y. owner y ≡ m) p l (λ x _ _. o x))

-- ---- new rows by numbers
up_append : (l m : List (ℕ × ℕ)) → GoesUp l → GoesUp m → ((p q : ℕ × ℕ) → In p l → In q m → Below p q) → GoesUp (l ++ m)
up_append [] m u v h = v
up_append (p ∷ l) m u v h = (λ q n. go q (in_append l n), up_append l m u.1 v (λ x y n o. h x y (there n) o))
  where
    go : (q : ℕ × ℕ) → In q l ⊎ In q m → Below p q
    go q (inl n) = u.0 q n
    go q (inr n) = h p q (here refl) n

-- the numbers that pass, as pairs that go up with them
module _ (g : ℕ → ℕ × ℕ) (p : ℕ → Bool) (up : (x y : ℕ) → x < y → Below (g x) (g y)) where
  line_up : (k n : ℕ) → GoesUp (map g (keep p (from k n)))
  line_up k zero = tt
  line_up k (suc n) = go (p k) (line_up (suc k) n)
    where
      rest : List ℕ
      rest = keep p (from (suc k) n)

      above : (q : ℕ × ℕ) → In q (map g rest) → Below (g k) q
      above q m =
          let x = map_in g rest m in
          let h = (keep_in p (from (suc k) n) x.1).0 in
          subst (Below (g k)) (sym x.2) (up k x.0 (from_in (suc k) n h).0)

      go : (b : Bool) → GoesUp (map g (keep p (from (suc k) n))) → GoesUp (map g (cond b (k ∷ keep p (from (suc k) n)) (keep p (from (suc k) n))))
      go true h = (above, h)
      go false h = h

module _ (f : ℕ → ℕ → Bool) where
  abbrev both : ℕ → ℕ → ℕ × ℕ
  both i k = (i, k)

  pairs_up : (s i n : ℕ) → GoesUp (pairs both f (upto s) (from i n))
  pairs_up s i zero = tt
  pairs_up s i (suc n) = up_append (line i) (flat line (from (suc i) n)) (line_up (both i) (f i) (λ x y h. inr (refl, h)) 0 s) (pairs_up s (suc i) n) (λ p q m o.
      let x = map_in (both i) (keep (f i) (upto s)) m in
      let y = flat_in line (from (suc i) n) o in
      let z = map_in (both y.0) (keep (f y.0) (upto s)) y.2 in
      subst (λ (w : ℕ × ℕ). Below w q) (sym x.2) (subst (Below (i, x.0)) (sym z.2) (inl (from_in (suc i) n y.1).0)))
    where
      line : ℕ → List (ℕ × ℕ)
      line j = map (both j) (keep (f j) (upto s))

  module _ {A : Type 0} (row : ℕ → ℕ → A) where
    abbrev row_of : ℕ × ℕ → A
    row_of p = row p.0 p.1

    pairs_map : (l m : List ℕ) → pairs row f l m ≡ map row_of (pairs both f l m)
    pairs_map l [] = refl
    pairs_map l (i ∷ m) =
        (λ z. sym (map-map row_of (both i) (keep (f i) l)) z ++ pairs_map l m z)
        ∙ sym (map-append row_of (map (both i) (keep (f i) l)) (pairs both f l m))

    pub by_numbers : (bits : ℕ → ℕ → Bool) → ((i k : ℕ) → T (f i k) → T (bits i k)) → (s n : ℕ) → ByNumber bits row (pairs row f (upto s) (upto n))
    by_numbers bits h s n = (
      pairs both f (upto s) (upto n),
      pairs_up s 0 n,
      λ p m. let x = pairs_in both f (upto s) (upto n) m in subst (λ (w : ℕ × ℕ). T (bits w.0 w.1)) (sym x.3) (h x.0 x.1 x.2),
      pairs_map (upto s) (upto n),
    )

-- of one second number
pub by_firsts : {A : Type 0} (row : ℕ → ℕ → A) (bits : ℕ → ℕ → Bool) (p : ℕ → Bool) (k : ℕ) → ((i : ℕ) → T (p i) → T (bits i k)) → (n : ℕ)
    → ByNumber bits row (map (λ i. row i k) (keep p (upto n)))
by_firsts row bits p k h n = (
  map (λ i. (i, k)) (keep p (upto n)),
  line_up (λ i. (i, k)) p (λ x y l. inl l) 0 n,
  λ q m.
      let x = map_in (λ i. (i, k)) (keep p (upto n)) m in
      subst (λ (w : ℕ × ℕ). T (bits w.0 w.1)) (sym x.2) (h x.0 (keep_in p (upto n) x.1).1),
  sym (map-map (λ q. row q.0 q.1) (λ i. (i, k)) (keep p (upto n))),
)

pub none_by_number : {A : Type 0} (row : ℕ → ℕ → A) (bits : ℕ → ℕ → Bool) → ByNumber bits row []
none_by_number row bits = ([], tt, λ q m. absurd (in_nil m), refl)
