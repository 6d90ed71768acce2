-- What the code's loops and branches have shown, as tests: `search tests` at each need.
use Prim.Native.Nat.{ℕ, ◌+◌, ◌*◌, ◌-◌, ◌^◌, ◌≤◌, ◌<◌}
use native.Mathlib.Omega.{arith}
use native.Mathlib.Nat.{add-sub_cancel_left, add-sub_of_le, add-mul, mul-le-mul_right}
use mathlib.Core.Path.{◌≡◌, refl, sym, ap, ◌∙◌, subst}
use mathlib.Core.Bool.{Bool, true, false, not, ◌&&◌, ◌||◌, cond, and-true, and_assoc}
use mathlib.Core.List.{List, [], ◌∷◌}
use Rattle.std.specs.Prelude.{Option, Some, None, IfSome}
use lib.Bits.{bit_or, or_add_and, and_le_l, and_le_r}
use lib.Dec.{T, eqb, eqb→eq, leb, ltb, ltb→lt}
use lib.ListN.{length, get_or, take, drop}
use Rattle.std.specs.List.{fold}
use borrow.Author.Tests.{not-true, not-false, lt-ltb, le-ltb, le-leb, lt-leb, eq-eqb, ne_eqb}
use Rattle.policy.specs.Lists.{every, upto, eq_bytes}
use Rattle.policy.specs.Layout.{Layout, narrow, waiting_at, size}
use Rattle.policy.specs.Tables.{bit}
use Rattle.policy.proofs.Sets.{T_eq, false_T, and_l, and_r, and_i}
use Rattle.policy.proofs.Equal.{eqb_of}
use Rattle.policy.proofs.Pieces.{row_ends}
use Rattle.bits.proofs.Loops.{early}
use Rattle.geometry.specs.declared.Card.{Card}
use Rattle.geometry.specs.declared.Card.TheVariants.{Small, Large}
use Rattle.geometry.specs.Geometry.{layout_of, tok_at, list_at, row_size as row_size_of, number_in as number_place, tokens_in}
use Rattle.geometry.proofs.Bounds.{early as early_card, limits, row_wide, front}
use Rattle.geometry.specs.declared.Kept.{Kept}
use Rattle.geometry.specs.declared.Kept.TheVariants.{UnmetCalls, WaitingGrants}
use Rattle.soundness.specs.Check.{is_zero, zeros_at, row_size, list_end, numbered, used_row, number_at, is_used}
use Rattle.soundness.proofs.Lookup.{number_is, NumberIs}

-- ---- what a branch tells of r, which a call ensures to be b
pub fell : {r b : Bool} → r ≡ b → not r ≡ true → false ≡ b
fell {r} e h = sym (not-true r h) ∙ e

pub held : {r b : Bool} → r ≡ b → not r ≡ false → true ≡ b
held {r} e h = sym (not-false r h) ∙ e

pub took : {r b : Bool} → r ≡ b → r ≡ true → true ≡ b
took e h = sym h ∙ e

pub left : {r b : Bool} → r ≡ b → r ≡ false → false ≡ b
left e h = sym h ∙ e

-- ---- conjunctions, disjunctions and cases, by their parts
pub and_fell : (a b : Bool) → false ≡ a → false ≡ a && b
and_fell a b e = ap (λ (x : Bool). x && b) e

pub and_rest : (a b : Bool) → false ≡ b → false ≡ a && b
and_rest true b e = e
and_rest false b e = refl

pub and_held : {r : Bool} (a b : Bool) → true ≡ a → r ≡ b → r ≡ a && b
and_held a b p q = q ∙ ap (λ (x : Bool). x && b) p

pub or_held : (a b : Bool) → true ≡ a → true ≡ a || b
or_held a b e = ap (λ (x : Bool). x || b) e

pub or_rest : {r : Bool} (a b : Bool) → false ≡ a → r ≡ b → r ≡ a || b
or_rest a b p q = q ∙ ap (λ (x : Bool). x || b) p

pub cond_held : {r : Bool} (b x y : Bool) → true ≡ b → r ≡ x → r ≡ cond b x y
cond_held b x y p q = q ∙ ap (λ (z : Bool). cond z x y) p

pub cond_fell : {r : Bool} (b x y : Bool) → false ≡ b → r ≡ y → r ≡ cond b x y
cond_fell b x y p q = q ∙ ap (λ (z : Bool). cond z x y) p

pub not_held : (b : Bool) → true ≡ b → false ≡ not b
not_held b e = ap not e

pub not_fell : (b : Bool) → false ≡ b → true ≡ not b
not_fell b e = ap not e

pub not_is : {r : Bool} (b : Bool) → r ≡ b → not r ≡ not b
not_is b e = ap not e

-- ---- comparisons
pub leb_held : (a b : ℕ) → a ≤ b → true ≡ leb a b
leb_held a b h = sym (le-leb a b h)

pub leb_fell : (a b : ℕ) → b < a → false ≡ leb a b
leb_fell a b h = sym (lt-leb a b h)

pub ltb_held : (a b : ℕ) → a < b → true ≡ ltb a b
ltb_held a b h = sym (lt-ltb a b h)

pub ltb_fell : (a b : ℕ) → b ≤ a → false ≡ ltb a b
ltb_fell a b h = sym (le-ltb a b h)

pub eqb_held : (a b : ℕ) → a ≡ b → true ≡ eqb a b
eqb_held a b h = sym (eq-eqb a b h)

pub eqb_fell : (a b : ℕ) → (a ≡ b → ⊥) → false ≡ eqb a b
eqb_fell a b h = sym (ne_eqb a b h)

pub eqb_is : {r p : ℕ} (m n : ℕ) → r ≡ m → p ≡ n → eqb r p ≡ eqb m n
eqb_is m n e q = λ i. eqb (e i) (q i)

-- ---- a fold that gathers a list's elements in one number: no bit is set where all are zero
or_zero : (a b : ℕ) → eqb (bit_or a b) 0 ≡ eqb a 0 && eqb b 0
or_zero a b = T_eq (eqb (bit_or a b) 0) (eqb a 0 && eqb b 0)
    (λ t. let h = eqb→eq (bit_or a b) 0 t in
    let p : a ≡ 0 = omega (arith, or_add_and a b, and_le_r a b) in
    let q : b ≡ 0 = omega (arith, or_add_and a b, and_le_l a b) in and_i (eqb a 0) (eqb b 0) (eqb_of p) (eqb_of q))
    (λ t. let h = eqb→eq a 0 (and_l (eqb a 0) (eqb b 0) t) in
    let i = eqb→eq b 0 (and_r (eqb a 0) (eqb b 0) t) in
    let p : bit_or a b ≡ 0 = omega (arith, or_add_and a b) in eqb_of p)

or_fold : (l : List ℕ) (a : ℕ) → eqb (fold bit_or a l) 0 ≡ eqb a 0 && every is_zero l
or_fold [] a = sym (and-true (eqb a 0))
or_fold (x ∷ l) a = or_fold l (bit_or a x) ∙ ap (λ (b : Bool). b && every is_zero l) (or_zero a x) ∙ and_assoc (eqb a 0) (eqb x 0) (every is_zero l)

-- the part from at to at + n: the code's fold, and its `==` of slices
pub zeros_of : (l : List ℕ) (at n : ℕ) {r : ℕ} → r ≡ fold bit_or 0 (take (at + n - at) (drop at l)) → eqb r 0 ≡ zeros_at l at n
unfolding zeros_at
zeros_of l at n e = rw (add-sub_cancel_left at n) at (ap (λ (z : ℕ). eqb z 0) e ∙ or_fold (take (at + n - at) (drop at l)) 0)

-- ---- the AIDs of the packages stand one after another
pub one_package : (c : Card) → 0 < (layout_of c).packages
one_package Small = omega arith
one_package Large = omega arith

-- ---- the tokens of a package
pub one_service : (c : Card) → 0 < (layout_of c).services
one_service c = (limits c).services_some

-- the card's limit of method tokens, as the high byte of two
pub methods_top : (c : Card) → 256 * (layout_of c).methods ≡ 2 ^ 15
methods_top Small = refl
methods_top Large = refl

pub toks_len : (c : Card) (j n a s : ℕ) → waiting_at (layout_of c) ≤ n → a ≡ tok_at (layout_of c) j 0 → s ≡ (layout_of c).services → j < (layout_of c).packages → a + s * 2 ≤ n
toks_len c j n a s e p q h = rw (q) (let i = row_ends j (layout_of c).packages ((layout_of c).services * 2) h in omega arith)

-- ---- an entry of a table of n lines of n rows ends in it
pub entry_ends : (n w i j : ℕ) → i < n → j < n → i * (n * w) + j * w + w ≤ n * (n * w)
entry_ends n w i j h l = let a = row_ends i n (n * w) h in let b = row_ends j n w l in omega arith

-- ---- rows of the lists
pub row_low : (early : Bool) (k : Kept) → (19 ≤ row_size early k) × (row_size early k ≤ 20)
row_low early UnmetCalls = omega arith
row_low true WaitingGrants = omega arith
row_low false WaitingGrants = omega arith

pub row_least : (early : Bool) (k : Kept) (w : ℕ) → w ≡ row_size early k → 16 ≤ w
row_least early k w e = let h = row_low early k in omega arith

pub row_most_lem : (early : Bool) (k : Kept) (w : ℕ) → w ≡ row_size early k → w ≤ 20
row_most_lem early k w e = let h = row_low early k in omega arith

-- the code's sizes, of a card in force and of version 01
module _ (c : Card) {r : Bool} {w : ℕ} where
  pub size_tokens : (early : Bool) (k : Kept) → r ≡ numbered early k → r ≡ false → w ≡ row_size_of (layout_of c) k → w ≡ row_size early k
  size_tokens early UnmetCalls e f h = h
  size_tokens true WaitingGrants e f h = h ∙ row_wide c WaitingGrants
  size_tokens false WaitingGrants e f h = absurd (false_T (sym e ∙ f) tt)

  pub size_number : (early : Bool) (k : Kept) → r ≡ numbered early k → r ≡ true → w ≡ row_size_of narrow k → w ≡ row_size early k
  size_number early UnmetCalls e f h = h
  size_number true WaitingGrants e f h = absurd (false_T (sym f ∙ e) tt)
  size_number false WaitingGrants e f h = h

-- what stands in a row at at, in an image of n bytes
pub aid_len : (early : Bool) (k : Kept) (at n : ℕ) → at + row_size early k ≤ n → at + 17 ≤ n
aid_len early k at n h = omega (arith, row_low early k)

pub number_len : (early : Bool) (k : Kept) (at n a : ℕ) → at + row_size early k ≤ n → a ≡ number_place k → at + a < n
number_len early UnmetCalls at n a h e = omega arith
number_len early WaitingGrants at n a h e = omega (arith, row_low early WaitingGrants)

pub tokens_len : (k : Kept) (at n a : ℕ) → at + row_size true k ≤ n → a ≡ tokens_in k → at + a + 2 ≤ n
tokens_len UnmetCalls at n a h e = omega arith
tokens_len WaitingGrants at n a h e = omega arith

-- a row that has tokens has room for them
pub token_row : (early : Bool) (k : Kept) (at n : ℕ) {r : Bool} → r ≡ numbered early k → r ≡ false → at + row_size early k ≤ n → at + row_size true k ≤ n
token_row early UnmetCalls at n e f h = h
token_row true WaitingGrants at n e f h = h
token_row false WaitingGrants at n e f h = absurd (false_T (sym e ∙ f) tt)

-- an image that has a list has all that stands before the waiting grants
pub front_len : (c : Card) (early : Bool) (k : Kept) (n : ℕ) → list_end (layout_of c) early k ≤ n → waiting_at (layout_of c) ≤ n
front_len c early UnmetCalls n h = h
front_len c early WaitingGrants n h = omega arith

pub count_len : (c : Card) (early : Bool) (k : Kept) (n a : ℕ) → list_end (layout_of c) early k ≤ n → a ≡ list_at (layout_of c) k → a < n
count_len c early k n a e p = omega arith

pub row_len : (c : Card) (early : Bool) (k : Kept) (r n a w : ℕ) → list_end (layout_of c) early k ≤ n → a ≡ list_at (layout_of c) k → w ≡ row_size early k → r < (layout_of c).capacity
    → a + (1 + r * w) + w ≤ n
row_len c early k r n a w e p q h = rw (q) (let i = row_ends r (layout_of c).capacity (row_size early k) h in omega arith)

-- the first n rows lie in it
pub rows_len : (c : Card) (early : Bool) (k : Kept) (m n a w : ℕ) → list_end (layout_of c) early k ≤ n → a ≡ list_at (layout_of c) k → w ≡ row_size early k → m ≤ (layout_of c).capacity
    → a + (1 + m * w) ≤ n
rows_len c early k m n a w e p q h = rw (q) (let i = mul-le-mul_right (row_size early k) h in omega arith)

-- what is left of a list past row r
pub rest_len : (c : Card) (early : Bool) (k : Kept) (r n a m w : ℕ) → list_end (layout_of c) early k ≤ n → a ≡ list_at (layout_of c) k → m ≡ (layout_of c).capacity → w ≡ row_size early k
    → r ≤ (layout_of c).capacity → a + (1 + r * w) + (m - r) * w ≤ n
rest_len c early k r n a m w e p q s h =
    let j : (layout_of c).capacity * row_size early k ≡ r * row_size early k + ((layout_of c).capacity - r) * row_size early k =
    ap (λ (x : ℕ). x * row_size early k) (sym (add-sub_of_le h)) ∙ add-mul r ((layout_of c).capacity - r) (row_size early k) in
    rw (q, s) (omega arith)

-- an image ends with its waiting grants
pub end_is : (c : Card) {n : ℕ} → n ≡ size (layout_of c) → n ≡ list_end (layout_of c) true WaitingGrants
end_is c e = rw (early_card c) at e

-- ---- what is used is a package; what was found is one, or the number of packages
pub used_in : (L : Layout) (l : List ℕ) (n : ℕ) {r : Bool} → r ≡ is_used L l n → not r ≡ false → n < L.packages
used_in L l n e h = ltb→lt n L.packages (and_l (ltb n L.packages) (bit (used_row L l) n) (subst T (held e h) tt))

pub number_in : (c : Card) (l : List ℕ) (at : ℕ) {o : Option ℕ} → o ≡ number_at (layout_of c) l at → IfSome o (λ m. m < (layout_of c).packages)
number_in c l at {o} e = go o (subst (NumberIs (layout_of c) l at) (sym e) (number_is (layout_of c) l at))
  where
    go : (o : Option ℕ) → NumberIs (layout_of c) l at o → IfSome o (λ m. m < (layout_of c).packages)
    go None h = tt
    go (Some m) h = h.0

-- ---- the header, byte by byte
pub head_is : (l h : List ℕ) → 3 ≤ length l → length h ≡ 3 → eqb (get_or l 0 0) (get_or h 0 0) && eqb (get_or l 1 0) (get_or h 1 0) && eqb (get_or l 2 0) (get_or h 2 0) ≡ eq_bytes (take 3 l) h
head_is (a ∷ b ∷ c ∷ l) (x ∷ y ∷ z ∷ []) i e = three (eqb a x) (eqb b y) (eqb c z)
  where
    three : (p q r : Bool) → p && q && r ≡ p && (q && (r && true))
    three true true true = refl
    three true true false = refl
    three true false r = refl
    three false q r = refl
head_is [] h i e = absurd (omega arith)
head_is (a ∷ []) h i e = absurd (omega arith)
head_is (a ∷ b ∷ []) h i e = absurd (omega arith)
head_is (a ∷ b ∷ c ∷ l) [] i e = absurd (omega arith)
head_is (a ∷ b ∷ c ∷ l) (x ∷ []) i e = absurd (omega arith)
head_is (a ∷ b ∷ c ∷ l) (x ∷ y ∷ []) i e = absurd (omega arith)
head_is (a ∷ b ∷ c ∷ l) (x ∷ y ∷ z ∷ w ∷ h) i e = absurd (omega arith)

pub ruleset places = (toks_len, row_least, row_most_lem, aid_len, number_len, tokens_len, front_len, count_len, row_len, rows_len, rest_len, front)

pub ruleset tests = (and_fell, and_rest, and_held, or_held, or_rest, cond_held, cond_fell, not_held, not_fell, not_is, leb_held, leb_fell, ltb_held, ltb_fell, eqb_held, eqb_fell, eqb_is, fell, held, took, left)

-- ---- a loop that leaves at the first number for which f fails: it has shown f for those below i, of the n
abbrev pub Shown : (ℕ → Bool) → ℕ → ℕ → Type 0
Shown f n i = (i ≤ n) × (every f (upto i) ≡ true)

pub ruleset turns = (early, places)
