-- What stands at the front of bytes that are known to be read, and what follows it. Assumes nothing.
use Prim.Native.Nat.{ℕ, suc, zero, ◌+◌, ◌-◌, ◌≤◌, ◌<◌}
use mathlib.Core.Path.{◌≡◌, refl}
use mathlib.Core.List.{List, [], ◌∷◌}
use native.Mathlib.Omega.{arith}
use native.Mathlib.Numerals.{sub-one}
use lib.Dec.{T}
use lib.ListN.{length, take, drop, get_or, length-drop}
use lib.Seq.{length-take-le}
use Rattle.policy.specs.Contract.{Tok}
use Rattle.policy.specs.Record.{Got, got, bad, Reader, and_then, aid, tokens, a_row, row_of, many}
use Rattle.record.specs.Meaning.{items_of, value_of, Good}
use Rattle.record.specs.Readable.{is_got}
use Rattle.record.proofs.Fronts.{rest, AidFront, aid_good, aid_fits, TokensFront, tokens_fit}
use Rattle.record.proofs.Places.{good_first}

pub good : {A : Type 0} (g : Got A) → T (is_got g) → Good g
good (got a s) h = tt
good bad h = absurd h

pub is_good : {A : Type 0} (g : Got A) → Good g → T (is_got g)
is_good (got a s) h = tt
is_good bad h = absurd h

-- what was read
pub read : {A : Type 0} (g : Got A) → T (is_got g) → (a : A) × (s : List ℕ) × (g ≡ got a s)
read (got a s) h = (a, s, refl)
read bad h = absurd h

pub tokens_front : (s : List ℕ) → T (is_got (tokens s)) → TokensFront s
tokens_front s h = tokens_fit s (read (tokens s) h).2

pub aid_front : (s : List ℕ) → T (is_got (aid s)) → AidFront s
aid_front s h = aid_fits s (read (aid s) h).2

-- of a row, the AID and the tokens after it
pub row_aid : (s : List ℕ) → T (is_got (a_row s)) → T (is_got (aid s))
unfolding row_of
row_aid s h = rw (good_first (aid s) _ (good (a_row s) h)).2 tt

pub row_tokens : (s : List ℕ) {a t : List ℕ} → aid s ≡ got a t → T (is_got (a_row s)) → T (is_got (tokens t))
unfolding row_of
row_tokens s {t = t} e h = rw (good_first (tokens t) _ (rw e at (good (a_row s) h))).2 tt

pub row_read : (s : List ℕ) {a t u : List ℕ} {v : Tok} → aid s ≡ got a t → tokens t ≡ got v u → a_row s ≡ got (record { aid = a; tok = v }) u
unfolding row_of
row_read s e f = rw (e, f) refl

-- the AID, as the code cuts it out: its length, and what follows it
module _ (s : List ℕ) (h : T (is_got (aid s))) where
  front : AidFront s
  front = aid_front s h

  pub aid_long : (5 ≤ length (take (1 + get_or s 0 0 - 1) (drop 1 s))) × (length (take (1 + get_or s 0 0 - 1) (drop 1 s)) ≤ 16)
  aid_long =
      let n : 1 + get_or s 0 0 - 1 ≡ get_or s 0 0 = omega arith in
      let e = length-take-le (get_or s 0 0) (drop 1 s) (omega (arith, front.long, length-drop 1 s)) in
      rw n (omega (arith, e, front.low), omega (arith, e, front.high))

  pub aid_split : aid s ≡ got (take (1 + get_or s 0 0 - 1) (drop 1 s)) (take (length s - (1 + get_or s 0 0)) (drop (1 + get_or s 0 0) s))
  aid_split =
      let n : 1 + get_or s 0 0 - 1 ≡ get_or s 0 0 = omega arith in
      let m : get_or s 0 0 + 1 ≡ 1 + get_or s 0 0 = omega arith in
      rw (n, rest (1 + get_or s 0 0) s, ← m) (aid_good s front)

-- ---- n things: the first is read, and then the others
first_got : {A : Type 0} (p : Reader A) (n : ℕ) (s : List ℕ) → T (is_got (many p n s)) → 0 < n → T (is_got (p s))
first_got p zero s h l = absurd (omega arith)
first_got p (suc n) s h l = rw (good_first (p s) _ (good (many p (suc n) s) h)).2 tt

pub good_cons : {A : Type 0} (a : A) (g : Got (List A)) → Good (and_then g (λ l u. got (a ∷ l) u)) → Good g
good_cons a (got l u) h = tt
good_cons a bad h = h

pub cons_value : {A : Type 0} (a : A) (g : Got (List A)) → Good g → value_of [] (and_then g (λ l u. got (a ∷ l) u)) ≡ a ∷ value_of [] g
cons_value a (got l u) h = refl
cons_value a bad h = absurd h

rest_got : {A : Type 0} (p : Reader A) (n : ℕ) (s : List ℕ) {a : A} {t : List ℕ} → T (is_got (many p n s)) → 0 < n → p s ≡ got a t
    → T (is_got (many p (n - 1) t)) × (items_of p n s ≡ a ∷ items_of p (n - 1) t)
rest_got p zero s h l e = absurd (omega arith)
rest_got p (suc n) s {a} {t} h l e =
    let g : Good (many p n t) = good_cons a (many p n t) (rw e at (good (many p (suc n) s) h)) in
    (rw (sub-one (suc n)) (is_good (many p n t) g), rw (e, sub-one (suc n)) (cons_value a (many p n t) g))

some_left : (n : ℕ) → (n ≡ 0 → ⊥) → 0 < n
some_left n h = omega arith

module _ {A : Type 0} (p : Reader A) (n : ℕ) (s : List ℕ) (h : T (is_got (many p n s))) (l : n ≡ 0 → ⊥) where
  pub many_first : T (is_got (p s))
  many_first = first_got p n s h (some_left n l)

  pub many_rest : {a : A} {t : List ℕ} → p s ≡ got a t → T (is_got (many p (n - 1) t))
  many_rest e = (rest_got p n s h (some_left n l) e).0

  pub many_split : {a : A} {t : List ℕ} → p s ≡ got a t → items_of p n s ≡ a ∷ items_of p (n - 1) t
  many_split e = (rest_got p n s h (some_left n l) e).1

pub many_none : {A : Type 0} (p : Reader A) (n : ℕ) (s : List ℕ) → n ≡ 0 → items_of p n s ≡ []
many_none p n s e = rw e refl
