-- What each reader reads at the front of a part, as the tests that the code makes. Assumes nothing.
use Prim.Native.Nat.{ℕ, suc, zero, ◌+◌, ◌*◌, ◌-◌, ◌≤◌, ◌<◌}
use mathlib.Core.Path.{◌≡◌, refl, sym, ◌∙◌}
use mathlib.Core.Bool.{Bool, true, false, ◌&&◌}
use mathlib.Core.List.{List, [], ◌∷◌}
use native.Mathlib.Omega.{arith}
use native.Mathlib.Numerals.{add-one, sub-one}
use lib.Dec.{leb, ltb}
use lib.ListN.{length, take, drop, get_or, length-drop}
use lib.Seq.{take_all, length-take-le}
use borrow.Author.Tests.{le-leb, leb-true, lt-ltb}
use Rattle.policy.specs.Contract.{Tok}
use Rattle.policy.specs.Layout.{Layout}
use Rattle.policy.specs.Tables.{read_number}
use Rattle.policy.specs.Record.{Got, got, bad, Reader, and_then, ◌>>=◌, given, done, byte, bytes, number_from, aid, tokens, row_of, a_row, valid_tok, valid_tokens, valid_row, many}

-- v reads only what p reads: where v reads something, p reads the same of the same bytes
abbrev pub ReadsOnly : {A : Type 0} → Reader A → Reader A → Type 0
ReadsOnly {A} v p = (s : List ℕ) (a : A) (u : List ℕ) → v s ≡ got a u → p s ≡ got a u

-- so does a reader under a test on its value
given_only : {A : Type 0} (ok : A → Bool) (p : Reader A) → ReadsOnly (p >>= λ x. given (ok x) (done x)) p
given_only {A} ok p s a u e = go (p s) e
  where
    by_test : (x : A) (t : List ℕ) (b : Bool) → given b (done x) t ≡ got a u → got x t ≡ got a u
    by_test x t true q = q
    by_test x t false q = absurd (let z : ◌≡◌ {A = ℕ} 0 1 = cc in omega arith)

    go : (g : Got A) → and_then g (λ x. given (ok x) (done x)) ≡ got a u → g ≡ got a u
    go (got x t) q = by_test x t (ok x) q
    go bad q = q

-- one reader after another, a row, and many of them
then_only : {A B : Type 0} {v p : Reader A} {f g : A → Reader B} → ReadsOnly v p → ((a : A) → ReadsOnly (f a) (g a)) → ReadsOnly (v >>= f) (p >>= g)
then_only {A} {v = v} {p} {f} {g} h k s b u e = go (v s) refl e
  where
    go : (x : Got A) → v s ≡ x → and_then x f ≡ got b u → and_then (p s) g ≡ got b u
    go (got a t) q j = rw (h s a t q) (k a t b u j)
    go bad q j = absurd (let z : ◌≡◌ {A = ℕ} 0 1 = cc in omega arith)

row_only : {v p : Reader Tok} → ReadsOnly v p → ReadsOnly (row_of v) (row_of p)
unfolding row_of
row_only {v} {p} h = then_only {v = aid} (λ s a u e. e) (λ a. then_only {v = v} {f = λ k. done (record { aid = a; tok = k })} h (λ k s r u e. e))

pub many_only : {A : Type 0} {v p : Reader A} → ReadsOnly v p → (n : ℕ) → ReadsOnly (many v n) (many p n)
many_only h zero = λ s l u e. e
many_only h (suc n) = then_only h (λ a. then_only (many_only h n) (λ l s k u e. e))

-- what is read, under a test that must hold
abbrev test : {A : Type 0} → Bool → Got A → Got A
test true g = g
test false g = bad

-- the part of a slice from a on
pub rest : (a : ℕ) (s : List ℕ) → take (length s - a) (drop a s) ≡ drop a s
rest a s = take_all (length s - a) (drop a s) (omega (arith, length-drop a s))

given_test : {A : Type 0} (x : Bool) (p : Reader A) (t : List ℕ) → given x p t ≡ test x (p t)
given_test true p t = refl
given_test false p t = refl

given_both : {A : Type 0} (x y : Bool) (a : A) (t : List ℕ) → given (x && y) (done a) t ≡ test x (test y (got a t))
given_both true y a t = given_test y (done a) t
given_both false y a t = refl

aid_form : (s : List ℕ) → aid s
    ≡ test (leb 1 (length s)) (test (leb (get_or s 0 0) (length s - 1)) (test (leb 5 (get_or s 0 0)) (test (leb (get_or s 0 0) 16)
    (got (take (get_or s 0 0) (drop 1 s)) (drop (get_or s 0 0 + 1) s)))))
unfolding aid byte bytes
aid_form [] = refl
aid_form (b ∷ s) = simp (le-leb 1 (suc (length s)) (omega arith), add-one, sub-one) (go (leb b (length s)) refl)
  where
    go : (x : Bool) → leb b (length s) ≡ x
        → and_then (given x (λ t. got (take b t) (drop b t)) s) (λ a t. given (leb 5 (length a) && leb (length a) 16) (done a) t)
        ≡ test x (test (leb 5 b) (test (leb b 16) (got (take b s) (drop b s))))
    go true e = rw (length-take-le b s (leb-true b (length s) e)) (given_both (leb 5 b) (leb b 16) (take b s) (drop b s))
    go false e = refl

-- a test that must hold, with what the test says
leb_bad : {A : Type 0} (m n : ℕ) (g : Got A) → (m ≤ n → g ≡ bad) → test (leb m n) g ≡ bad
leb_bad m n g h = by_test (leb m n) refl
  where
    by_test : (b : Bool) → leb m n ≡ b → test b g ≡ bad
    by_test true e = h (leb-true m n e)
    by_test false e = refl

leb_got : {A : Type 0} (m n : ℕ) (g : Got A) {a : A} {t : List ℕ} → test (leb m n) g ≡ got a t → (m ≤ n) × (g ≡ got a t)
leb_got m n g {a} {t} h = by_test (leb m n) refl h
  where
    by_test : (b : Bool) → leb m n ≡ b → test b g ≡ got a t → (m ≤ n) × (g ≡ got a t)
    by_test true e q = (leb-true m n e, q)
    by_test false e q = absurd (let z : ◌≡◌ {A = ℕ} 0 1 = cc in omega arith)

-- where an AID stands at the front of s
pub record AidFront (s : List ℕ) : Type 0 where
  pub some : 0 < length s
  pub low : 5 ≤ get_or s 0 0
  pub high : get_or s 0 0 ≤ 16
  pub long : get_or s 0 0 < length s

pub aid_good : (s : List ℕ) → AidFront s → aid s ≡ got (take (get_or s 0 0) (drop 1 s)) (drop (get_or s 0 0 + 1) s)
aid_good s h = simp (aid_form, le-leb 1 (length s) h.some, le-leb _ _ h.low, le-leb _ _ h.high, le-leb (get_or s 0 0) (length s - 1) (omega arith))

pub aid_bad : (s : List ℕ) → (AidFront s → ⊥) → aid s ≡ bad
aid_bad s not =
    aid_form s ∙
    leb_bad 1 (length s) _ (λ a. leb_bad (get_or s 0 0) (length s - 1) _ (λ b. leb_bad 5 (get_or s 0 0) _ (λ c.
    leb_bad (get_or s 0 0) 16 _ (λ d. absurd (not (omega arith))))))

pub aid_fits : (s : List ℕ) {a t : List ℕ} → aid s ≡ got a t → AidFront s
aid_fits s e =
    let h1 = leb_got 1 (length s) _ (sym (aid_form s) ∙ e) in
    let h2 = leb_got (get_or s 0 0) (length s - 1) _ h1.1 in
    let h3 = leb_got 5 (get_or s 0 0) _ h2.1 in
    let h4 = leb_got (get_or s 0 0) 16 _ h3.1 in
    omega arith

-- the tokens at a position of s
abbrev pub tok_at : List ℕ → ℕ → Tok
tok_at s at = record { itf = get_or s at 0; mth = get_or s (at + 1) 0 }

tokens_form : (s : List ℕ) → tokens s ≡ test (leb 2 (length s)) (got (tok_at s 0) (drop 2 s))
unfolding tokens byte
tokens_form [] = refl
tokens_form (i ∷ []) = refl
tokens_form (i ∷ m ∷ s) = simp (le-leb 2 (suc (suc (length s))) (omega arith))

-- where tokens stand at the front of s
pub record TokensFront (s : List ℕ) : Type 0 where
  pub long : 2 ≤ length s

pub tokens_good : (s : List ℕ) → TokensFront s → tokens s ≡ got (tok_at s 0) (drop 2 s)
tokens_good s h = simp (tokens_form, le-leb _ _ h.long)

pub tokens_fit : (s : List ℕ) {v : Tok} {t : List ℕ} → tokens s ≡ got v t → TokensFront s
tokens_fit s e = let h1 = leb_got 2 (length s) _ (sym (tokens_form s) ∙ e) in omega arith

module _ (L : Layout) where
  -- where tokens of the card stand at the front of s
  pub record ValidFront (s : List ℕ) : Type 0 where
    pub long : 2 ≤ length s
    pub in_range : get_or s 1 0 < L.methods

  valid_form : (s : List ℕ) → valid_tokens L s ≡ test (leb 2 (length s)) (test (ltb (get_or s 1 0) L.methods) (got (tok_at s 0) (drop 2 s)))
  unfolding valid_tokens
  valid_form s = rw (tokens_form s) (go (leb 2 (length s)))
    where
      go : (x : Bool) → and_then (test x (got (tok_at s 0) (drop 2 s))) (λ k. given (valid_tok L k) (done k)) ≡ test x (test (valid_tok L (tok_at s 0)) (got (tok_at s 0) (drop 2 s)))
      go true = given_test (valid_tok L (tok_at s 0)) (done (tok_at s 0)) (drop 2 s)
      go false = refl

  pub valid_good : (s : List ℕ) → ValidFront s → valid_tokens L s ≡ got (tok_at s 0) (drop 2 s)
  valid_good s h = simp (valid_form, le-leb _ _ h.long, lt-ltb _ _ h.in_range)

  pub valid_bad : (s : List ℕ) → (ValidFront s → ⊥) → valid_tokens L s ≡ bad
  valid_bad s not = valid_form s ∙ leb_bad 2 (length s) _ (λ a. leb_bad (suc (get_or s 1 0)) L.methods _ (λ b. absurd (not (record { long = a; in_range = b }))))

  pub valid_fit : (s : List ℕ) {v : Tok} {t : List ℕ} → valid_tokens L s ≡ got v t → ValidFront s
  valid_fit s e =
      let h1 = leb_got 2 (length s) _ (sym (valid_form s) ∙ e) in
      let h2 = leb_got (suc (get_or s 1 0)) L.methods _ h1.1 in
      record { long = h1.0; in_range = h2.0 }

  -- what a card's reader of tokens and rows reads is what it stands for
  pub tokens_only : ReadsOnly (valid_tokens L) tokens
  unfolding valid_tokens
  tokens_only = given_only (valid_tok L) tokens

  pub rows_only : ReadsOnly (valid_row L) a_row
  rows_only = row_only tokens_only

-- a number of w bytes
pub number_none : (w n : ℕ) (s : List ℕ) → length s < w → number_from w n s ≡ bad
unfolding byte
number_none zero n s h = absurd (omega arith)
number_none (suc w) n [] h = refl
number_none (suc w) n (b ∷ s) h = number_none w (n * 256 + b) s (omega arith)

pub number_some : (w n : ℕ) (s : List ℕ) → w ≤ length s → number_from w n s ≡ got (read_number n (take w s)) (drop w s)
unfolding byte
number_some zero n s h = refl
number_some (suc w) n [] h = absurd (omega arith)
number_some (suc w) n (b ∷ s) h = number_some w (n * 256 + b) s (omega arith)
