-- The first cause of a list that applies.
use Prim.Native.Nat.{ℕ, suc, ◌≤◌, ◌<◌}
use native.Mathlib.Omega.{arith}
use mathlib.Core.Path.{◌≡◌, refl, ap, ◌∙◌}
use mathlib.Core.Logic.{◌⊎◌, inl, inr}
use mathlib.Core.Bool.{Bool, true, false, not, ◌&&◌, cond}
use mathlib.Core.List.{List, [], ◌∷◌, ◌++◌}
use mathlib.Core.List.Memᴰ.{cases_cons as in_cons}
use mathlib.Core.List.Memᴰ.{head as here}
use mathlib.Core.List.Memᴰ.{not-nil as in_nil}
use mathlib.Core.List.Memᴰ.{tail as there}
use mathlib.Core.List.{Memᴰ as In}
use lib.Dec.{T, ltb, ltb→lt}
use Rattle.policy.specs.Causes.{Cause, ◌when◌, answer}
use Rattle.policy.specs.Claims.{IsFirst}
use Rattle.policy.proofs.Sets.{true_T, false_T, and_l, and_r, and_i}

-- answered 0: the first cause does not apply, and the others are answered 0
pub answer_zero : (n : ℕ) (b : Bool) (l : List Cause) → answer (suc n when b ∷ l) ≡ 0 → (b ≡ false) × (answer l ≡ 0)
answer_zero n true l e = absurd (omega arith)
answer_zero n false l e = (refl, e)

-- what follows counts only where no cause before it applies
pub answer_append : (l m m' : List Cause) → (answer l ≡ 0 → answer m ≡ answer m') → answer (l ++ m) ≡ answer (l ++ m')
answer_append [] m m' h = h refl
answer_append (c ∷ l) m m' h = go c.applies refl (λ g. answer_append l m m' g)
  where
    go : (b : Bool) → c.applies ≡ b → ((answer l ≡ 0 → answer m ≡ answer m') → answer (l ++ m) ≡ answer (l ++ m'))
        → cond b c.number (answer (l ++ m)) ≡ cond b c.number (answer (l ++ m'))
    go true e ih = refl
    go false e ih = ih (λ z. h (ap (λ (x : Bool). cond x c.number (answer l)) e ∙ z))

-- the numbers go up from n on: the first cause that applies is the lowest
abbrev pub ascends : ℕ → List Cause → Bool
ascends n [] = true
ascends n (c ∷ l) = ltb n c.number && ascends c.number l

ascends_lt : (n : ℕ) (l : List Cause) → T (ascends n l) → (k : Cause) → In k l → n < k.number
ascends_lt n [] t k m = absurd (in_nil m)
ascends_lt n (c ∷ l) t k m =
    let h : n < c.number = ltb→lt n c.number (and_l (ltb n c.number) (ascends c.number l) t) in
    go h (λ p. ascends_lt c.number l (and_r (ltb n c.number) (ascends c.number l) t) k p) (in_cons m)
  where
    go : n < c.number → (In k l → c.number < k.number) → (k ≡ c) ⊎ In k l → n < k.number
    go h ih (inl e) = rw e h
    go h ih (inr p) = let q = ih p in omega arith

-- answered 0: no cause before, and none of what follows
pub answer_append_zero : (n : ℕ) (l m : List Cause) → T (ascends n l) → answer (l ++ m) ≡ 0 → (answer l ≡ 0) × (answer m ≡ 0)
answer_append_zero n [] m t e = (refl, e)
answer_append_zero n (c ∷ l) m t e = go c.applies refl e (λ d. answer_append_zero c.number l m (and_r (ltb n c.number) (ascends c.number l) t) d)
  where
    go : (b : Bool) → c.applies ≡ b → cond b c.number (answer (l ++ m)) ≡ 0 → (answer (l ++ m) ≡ 0 → (answer l ≡ 0) × (answer m ≡ 0)) → (cond b c.number (answer l) ≡ 0) × (answer m ≡ 0)
    go true q f ih = let h = ltb→lt n c.number (and_l (ltb n c.number) (ascends c.number l) t) in absurd (omega arith)
    go false q f ih = ih f

pub first_is : (n : ℕ) (l : List Cause) → T (ascends n l) → IsFirst (answer l) l
first_is n [] t = inl (refl, λ k m. absurd (in_nil m))
first_is n (c ∷ l) t = go c.applies refl (first_is c.number l up)
  where
    up : T (ascends c.number l)
    up = and_r (ltb n c.number) (ascends c.number l) t

    low : (m : Cause) → (m ≡ c) ⊎ In m l → c.number ≤ m.number
    low m (inl e) = omega (arith, ap (λ (z : Cause). z.number) e)
    low m (inr p) = let h = ascends_lt c.number l up m p in omega arith

    past : {P : Cause → Type 0} → c.applies ≡ false → ((m : Cause) → In m l → T m.applies → P m) → (m : Cause) → (m ≡ c) ⊎ In m l → T m.applies → P m
    past e h m (inl q) a = absurd (false_T e (rw (← q) a))
    past e h m (inr p) a = h m p a

    later : c.applies ≡ false → IsFirst (answer l) l → IsFirst (answer l) (c ∷ l)
    later e (inl p) = inl (p.0, λ m i a. past {P = λ _. ⊥} e p.1 m (in_cons i) a)
    later e (inr p) = inr (p.0, there p.1, p.2, p.3, λ m i a. past {P = λ m. answer l ≤ m.number} e p.4 m (in_cons i) a)

    go : (b : Bool) → c.applies ≡ b → IsFirst (answer l) l → IsFirst (cond b c.number (answer l)) (c ∷ l)
    go true e ih = inr (c, here refl, refl, true_T e, λ m i a. low m (in_cons i))
    go false e ih = later e ih

pub ascends_front : (n : ℕ) (l m : List Cause) → T (ascends n (l ++ m)) → T (ascends n l)
ascends_front n [] m t = tt
ascends_front n (c ∷ l) m t =
    and_i (ltb n c.number) (ascends c.number l) (and_l (ltb n c.number) (ascends c.number (l ++ m)) t)
    (ascends_front c.number l m (and_r (ltb n c.number) (ascends c.number (l ++ m)) t))

-- causes 8 to 11: none applies exactly where all four tests pass
pub none_of_four : (a b c d : Bool) → answer (8 when not a ∷ 9 when not b ∷ 10 when not c ∷ 11 when not d ∷ []) ≡ 0 → T a × T b × T c × T d
none_of_four false b c d e = absurd (omega arith)
none_of_four true false c d e = absurd (omega arith)
none_of_four true true false d e = absurd (omega arith)
none_of_four true true true false e = absurd (omega arith)
none_of_four true true true true e = (tt, tt, tt, tt)

pub four_none : (a b c d : Bool) → T a → T b → T c → T d → answer (8 when not a ∷ 9 when not b ∷ 10 when not c ∷ 11 when not d ∷ []) ≡ 0
four_none true true true true h i j k = refl
four_none false b c d h i j k = absurd h
four_none true false c d h i j k = absurd i
four_none true true false d h i j k = absurd j
four_none true true true false h i j k = absurd k
