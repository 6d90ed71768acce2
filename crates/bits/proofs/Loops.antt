-- Laws of the tests over the numbers below n, and over the rows of a list: what a loop has shown, and when two tests agree. Assumes nothing.
use Prim.Native.Nat.{ℕ, zero, suc, ◌+◌, ◌-◌, ◌≤◌, ◌<◌}
use native.Mathlib.Omega.{arith}
use native.Mathlib.Nat.{zero-add}
use mathlib.Core.Path.{◌≡◌, refl, sym, ap, ap₂, ◌∙◌}
use mathlib.Core.Bool.{Bool, true, false, not, ◌&&◌, ◌||◌, cond, and-true, or-false, and_assoc, or_assoc}
use mathlib.Core.List.Memᴰ.{head as here}
use mathlib.Core.List.Memᴰ.{tail as there}
use mathlib.Core.List.{List, [], ◌∷◌, ◌++◌, append-nil, Memᴰ as In}
use mathlib.Core.Option.{Option, none, some}
use borrow.Author.Rules.{rules}
use Rattle.policy.specs.Lists.{every, exists, keep, first, from, upto, or_else}
use borrow.Author.Tests.{not-true, not-false}
use Rattle.policy.proofs.Sets.{T_true, T_false, true_T, false_T, every_in, in_every, exists_in, in_exists, keep_ext, from_in, upto_in, in_upto}
use lib.ListN.{length, get_or, drop, drop_of_length-le}
use lib.Seq.{drop-cons}
use native.Mathlib.Numerals.{add-one}

-- ---- the numbers below n and d more; one more
from_split : (i n d : ℕ) → from i (n + d) ≡ from i n ++ from (i + n) d
from_split i zero d = let e : i ≡ i + zero = omega arith in ap₂ (λ (x y : ℕ). from x y) e (zero-add d)
from_split i (suc n) d =
    let e : suc i + n ≡ i + suc n = omega arith in
    let q : suc n + d ≡ suc (n + d) = omega arith in
    ap (from i) q ∙ ap (λ (l : List ℕ). i ∷ l) (from_split (suc i) n d ∙ ap (λ (x : ℕ). from (suc i) n ++ from x d) e)

pub upto_split : (n d : ℕ) → upto (n + d) ≡ upto n ++ from n d
upto_split n d = from_split 0 n d ∙ ap (λ (x : ℕ). upto n ++ from x d) (zero-add n)

module _ {A : Type 0} (f : A → Bool) where
  pub every_append : (l m : List A) → every f (l ++ m) ≡ every f l && every f m
  every_append [] m = refl
  every_append (x ∷ l) m = ap (λ (b : Bool). f x && b) (every_append l m) ∙ sym (and_assoc (f x) (every f l) (every f m))

  exists_append : (l m : List A) → exists f (l ++ m) ≡ exists f l || exists f m
  exists_append [] m = refl
  exists_append (x ∷ l) m = ap (λ (b : Bool). f x || b) (exists_append l m) ∙ sym (or_assoc (f x) (exists f l) (exists f m))

  keep_append : (l m : List A) → keep f (l ++ m) ≡ keep f l ++ keep f m
  keep_append [] m = refl
  keep_append (x ∷ l) m = go (f x) (keep_append l m)
    where
      go : (b : Bool) {k : List A} → k ≡ keep f l ++ keep f m → cond b (x ∷ k) k ≡ cond b (x ∷ keep f l) (keep f l) ++ keep f m
      go true e = ap (λ (z : List A). x ∷ z) e
      go false e = e

  first_append : (l m : List A) → first f (l ++ m) ≡ or_else (first f l) (first f m) some
  first_append [] m = refl
  first_append (x ∷ l) m = go (f x) (first_append l m)
    where
      go : (b : Bool) {o : Option A} → o ≡ or_else (first f l) (first f m) some → cond b (some x) o ≡ or_else (cond b (some x) (first f l)) (first f m) some
      go true e = refl
      go false e = e

-- one number more
module _ (f : ℕ → Bool) (i : ℕ) where
  pub every_snoc : every f (upto (i + 1)) ≡ every f (upto i) && f i
  every_snoc = ap (every f) (upto_split i 1) ∙ every_append f (upto i) (i ∷ []) ∙ ap (λ (b : Bool). every f (upto i) && b) (and-true (f i))

  pub exists_snoc : exists f (upto (i + 1)) ≡ exists f (upto i) || f i
  exists_snoc = ap (exists f) (upto_split i 1) ∙ exists_append f (upto i) (i ∷ []) ∙ ap (λ (b : Bool). exists f (upto i) || b) (or-false (f i))

  first_snoc : first f (upto (i + 1)) ≡ or_else (first f (upto i)) (cond (f i) (some i) none) some
  first_snoc = ap (first f) (upto_split i 1) ∙ first_append f (upto i) (i ∷ [])

-- ---- a loop that leaves early: r is what a call ensures to be f i, and the branch tells what r is
module _ (f : ℕ → Bool) where
  pub every_at : (n k : ℕ) → every f (upto n) ≡ true → k < n → f k ≡ true
  every_at n k p h = T_true (f k) (every_in f (upto n) (true_T p) (in_upto n k h))

  pub every_intro : (n : ℕ) → ((k : ℕ) → k < n → f k ≡ true) → every f (upto n) ≡ true
  every_intro n h = T_true (every f (upto n)) (in_every f (upto n) (λ k m. true_T (h k (upto_in n m))))

  -- `if !f(i) { return false; }`
  pub every_none : every f (upto 0) ≡ true
  every_none = refl

  pub every_more : (i : ℕ) {r : Bool} → every f (upto i) ≡ true → r ≡ f i → not r ≡ false → every f (upto (i + 1)) ≡ true
  every_more i {r} p e q = every_snoc f i ∙ ap₂ ◌&&◌ p (sym e ∙ not-false r q)

  pub every_fails : (n i : ℕ) {r : Bool} → r ≡ f i → not r ≡ true → i < n → false ≡ every f (upto n)
  every_fails n i {r} e q h = sym (T_false (every f (upto n)) (λ t. false_T (sym e ∙ not-true r q) (every_in f (upto n) t (in_upto n i h))))

  pub every_done : (n i : ℕ) → every f (upto i) ≡ true → n ≤ i → true ≡ every f (upto n)
  every_done n i p h = sym (every_intro n (λ k l. every_at i k p (omega arith)))

  -- `if f(i) { return true; }`
  pub exists_none : exists f (upto 0) ≡ false
  exists_none = refl

  pub exists_more : (i : ℕ) {r : Bool} → exists f (upto i) ≡ false → r ≡ f i → r ≡ false → exists f (upto (i + 1)) ≡ false
  exists_more i p e q = exists_snoc f i ∙ ap₂ ◌||◌ p (sym e ∙ q)

  pub exists_hits : (n i : ℕ) {r : Bool} → r ≡ f i → r ≡ true → i < n → true ≡ exists f (upto n)
  exists_hits n i e q h = sym (T_true (exists f (upto n)) (in_exists f (in_upto n i h) (true_T (sym e ∙ q))))

  pub exists_done : (n i : ℕ) → exists f (upto i) ≡ false → n ≤ i → false ≡ exists f (upto n)
  exists_done n i p h =
      sym (T_false (exists f (upto n)) (λ t. let q = exists_in f (upto n) t in false_T p (in_exists f (in_upto i q.0 (omega (arith, upto_in n q.1))) q.2)))

  -- `if f(i) { return i; }`, and d where none passes
  pub first_none : first f (upto 0) ≡ none
  first_none = refl

  pub first_more : (i : ℕ) {r : Bool} → first f (upto i) ≡ none → r ≡ f i → r ≡ false → first f (upto (i + 1)) ≡ none
  first_more i p e q = first_snoc f i ∙ ap₂ (λ (o : Option ℕ) (b : Bool). or_else o (cond b (some i) none) some) p (sym e ∙ q)

  pub first_found : (n i : ℕ) {r : Bool} → first f (upto i) ≡ none → r ≡ f i → r ≡ true → i < n → first f (upto n) ≡ some i
  first_found n i p e q h =
      let z : n ≡ i + 1 + (n - (i + 1)) = omega arith in
      ap (λ (x : ℕ). first f (upto x)) z ∙ ap (first f) (upto_split (i + 1) (n - (i + 1))) ∙ first_append f (upto (i + 1)) (from (i + 1) (n - (i + 1)))
      ∙ ap (λ (o : Option ℕ). or_else o (first f (from (i + 1) (n - (i + 1)))) some) (first_snoc f i ∙ ap₂ (λ (o : Option ℕ) (b : Bool). or_else o (cond b (some i) none) some) p (sym e ∙ q))

  pub first_missed : (n i : ℕ) → first f (upto i) ≡ none → i ≤ n → n ≤ i → first f (upto n) ≡ none
  first_missed n i p h l = let e : n ≡ i = omega arith in ap (λ (x : ℕ). first f (upto x)) e ∙ p

  pub first_hits : (d n i : ℕ) {r : Bool} → first f (upto i) ≡ none → r ≡ f i → r ≡ true → i < n → i ≡ or_else (first f (upto n)) d (λ k. k)
  first_hits d n i p e q h = sym (ap (λ (o : Option ℕ). or_else o d (λ k. k)) (first_found n i p e q h))

  pub first_done : (d n i : ℕ) → first f (upto i) ≡ none → i ≤ n → n ≤ i → d ≡ or_else (first f (upto n)) d (λ k. k)
  first_done d n i p h l = sym (ap (λ (o : Option ℕ). or_else o d (λ k. k)) (first_missed n i p h l))

  -- ---- the same where the loop's end m is a local that is n
  module _ (n m i : ℕ) where
    pub every_fails_at : {r : Bool} → r ≡ f i → not r ≡ true → i < m → m ≡ n → false ≡ every f (upto n)
    every_fails_at e q h z = every_fails n i e q (omega arith)

    pub every_done_at : every f (upto i) ≡ true → m ≤ i → m ≡ n → true ≡ every f (upto n)
    every_done_at p h z = every_done n i p (omega arith)

    pub exists_hits_at : {r : Bool} → r ≡ f i → r ≡ true → i < m → m ≡ n → true ≡ exists f (upto n)
    exists_hits_at e q h z = exists_hits n i e q (omega arith)

    pub exists_done_at : exists f (upto i) ≡ false → m ≤ i → m ≡ n → false ≡ exists f (upto n)
    exists_done_at p h z = exists_done n i p (omega arith)

    pub first_hits_at : (d : ℕ) {r : Bool} → first f (upto i) ≡ none → r ≡ f i → r ≡ true → i < m → m ≡ n → i ≡ or_else (first f (upto n)) d (λ k. k)
    first_hits_at d p e q h z = first_hits d n i p e q (omega arith)

    pub first_done_at : (d : ℕ) → first f (upto i) ≡ none → i ≤ m → m ≤ i → m ≡ n → d ≡ or_else (first f (upto n)) d (λ k. k)
    first_done_at d p h l z = first_done d n i p (omega arith) (omega arith)

    -- the end itself stands for none
    pub first_end_at : first f (upto i) ≡ none → i ≤ m → m ≤ i → m ≡ n → m ≡ or_else (first f (upto n)) n (λ k. k)
    first_end_at p h l z = z ∙ first_done n n i p (omega arith) (omega arith)

-- what a loop that leaves early leaves: `search early` at each need
pub ruleset early = (every_none, every_more, every_fails, every_done, every_fails_at, every_done_at, exists_none, exists_more, exists_hits, exists_done, exists_hits_at, exists_done_at, first_none, first_more, first_hits, first_done, first_hits_at, first_done_at, first_end_at, rules)

-- ---- tests that agree on a list, or fail on all of it
module _ {A : Type 0} (f g : A → Bool) where
  pub first_ext : (l : List A) → ((x : A) → In x l → f x ≡ g x) → first f l ≡ first g l
  first_ext [] e = refl
  first_ext (y ∷ l) e = ap₂ (λ (b : Bool) (o : Option A). cond b (some y) o) (e y (here refl)) (first_ext l (λ x m. e x (there m)))

module _ {A : Type 0} where
  keep_no : (l : List A) → keep (λ x. false) l ≡ []
  keep_no [] = refl
  keep_no (x ∷ l) = keep_no l

-- ---- a test over the numbers below m that tells nothing past n is the test over those below n
module _ (f : ℕ → Bool) (n m : ℕ) (h : n ≤ m) where
  abbrev past : List ℕ
  past = from n (m - n)

  upto_parts : upto m ≡ upto n ++ past
  upto_parts = let e : m ≡ n + (m - n) = omega arith in ap upto e ∙ upto_split n (m - n)

  agree : (b : Bool) → ((k : ℕ) → n ≤ k → f k ≡ b) → (k : ℕ) → In k past → f k ≡ b
  agree b e k i = e k (from_in n (m - n) i).0

  pub keep_narrow : ((k : ℕ) → n ≤ k → f k ≡ false) → keep f (upto m) ≡ keep f (upto n)
  keep_narrow e =
      ap (keep f) upto_parts ∙ keep_append f (upto n) past
      ∙ ap (λ (l : List ℕ). keep f (upto n) ++ l) (keep_ext f (λ k. false) past (agree false e) ∙ keep_no past) ∙ append-nil (keep f (upto n))

  -- where every number past n passes, the first below m is the first below n, and n where none is
  pub first_past : ((k : ℕ) → n ≤ k → f k ≡ true) → or_else (first f (upto m)) m (λ k. k) ≡ or_else (first f (upto n)) n (λ k. k)
  first_past e = ap (λ (o : Option ℕ). or_else o m (λ k. k)) (ap (first f) upto_parts ∙ first_append f (upto n) past) ∙ go (m - n) refl (first f (upto n))
    where
      at_n : (d : ℕ) (o : Option ℕ) (b : Bool) → b ≡ true → or_else (or_else o (cond b (some n) (first f (from (suc n) d))) some) m (λ k. k) ≡ or_else o n (λ k. k)
      at_n d none true q = refl
      at_n d (some x) true q = refl
      at_n d o false q = absurd (false_T refl (true_T q))

      go : (d : ℕ) → m - n ≡ d → (o : Option ℕ) → or_else (or_else o (first f (from n d)) some) m (λ k. k) ≡ or_else o n (λ k. k)
      go zero q none = omega arith
      go zero q (some x) = refl
      go (suc d) q o = at_n d o (f n) (e n (omega arith))

-- ---- a loop over the rows of a list: those from r on decide
module _ {A : Type 0} (f : A → Bool) (l : List A) (d : A) where
  row_here : (r : ℕ) → r < length l → every f (drop r l) ≡ f (get_or l r d) && every f (drop (r + 1) l)
  row_here r h = rw (add-one r) (ap (every f) (drop-cons l r d h))

  pub rows_stop : (r : ℕ) (b : Bool) → r < length l → every f (drop r l) ≡ every f l → b ≡ f (get_or l r d) → not b ≡ true → false ≡ every f l
  rows_stop r false h e q n = ap (λ (z : Bool). z && every f (drop (r + 1) l)) q ∙ sym (row_here r h) ∙ e
  rows_stop r true h e q n = absurd (false_T (sym n) tt)

  pub rows_next : (r : ℕ) (b : Bool) → r < length l → every f (drop r l) ≡ every f l → b ≡ f (get_or l r d) → not b ≡ false → every f (drop (r + 1) l) ≡ every f l
  rows_next r true h e q n = ap (λ (z : Bool). z && every f (drop (r + 1) l)) q ∙ sym (row_here r h) ∙ e
  rows_next r false h e q n = absurd (false_T n tt)

  pub rows_end : (r : ℕ) → length l ≤ r → every f (drop r l) ≡ every f l → true ≡ every f l
  rows_end r h e = sym (ap (every f) (drop_of_length-le l {i = r} h)) ∙ e
