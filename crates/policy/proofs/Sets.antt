-- Tests read as facts, and lists as finite sets: membership, repetitions and lengths.
use Prim.Native.Nat.{ℕ, zero, suc, ◌+◌, ◌*◌, ◌≤◌, ◌<◌, zero-le, suc-le-suc}
use native.Mathlib.Omega.{arith}
use native.Mathlib.Nat.{le_antisymm, le_of_suc-le-suc, not-suc-le-zero, suc-mul}
use mathlib.Core.Path.{◌≡◌, refl, sym, ap, ◌∙◌, subst}
use mathlib.Core.Logic.{◌⊎◌, inl, inr, ◌↔◌}
use mathlib.Core.Bool.{Bool, true, false, not, ◌&&◌, ◌||◌, cond}
use mathlib.Core.List.{List, [], ◌∷◌, ◌++◌, map, append_assoc}
use mathlib.Core.List.Memᴰ.{cases_cons as in_cons}
use mathlib.Core.List.Memᴰ.{head as here}
use mathlib.Core.List.Memᴰ.{not-nil as in_nil}
use mathlib.Core.List.Memᴰ.{tail as there}
use mathlib.Core.List.{Memᴰ as In}
use mathlib.Core.List.Memᴰ
use mathlib.Core.List.Memᴰ.{append_cases as in_append}
use mathlib.Core.List.Memᴰ.{append_left as in_left}
use mathlib.Core.List.Memᴰ.{append_right as in_right}
use mathlib.Core.List.Memᴰ.{cast as in_cast}
use mathlib.Core.Option.{Option, none, some}
use lib.Dec.{T, eqb, eqb→eq, eqb_refl}
use lib.ListN.{length, get_or, length-append}
use Rattle.policy.specs.Lists.{implies, every, exists, keep, first, flat, from, upto, is_nil, is_some, NoRepeat, distinct, eq_bytes}

-- ---- tests
pub T_eq : (a b : Bool) → (T a → T b) → (T b → T a) → a ≡ b
T_eq true true f g = refl
T_eq true false f g = absurd (f tt)
T_eq false true f g = absurd (g tt)
T_eq false false f g = refl

pub T_true : (b : Bool) → T b → b ≡ true
T_true true t = refl
T_true false t = absurd t

pub T_false : (b : Bool) → (T b → ⊥) → b ≡ false
T_false true f = absurd (f tt)
T_false false f = refl

pub true_T : {b : Bool} → b ≡ true → T b
true_T e = subst T (sym e) tt

pub false_T : {b : Bool} → b ≡ false → T b → ⊥
false_T e t = subst T e t

pub and_l : (a b : Bool) → T (a && b) → T a
and_l true b t = tt
and_l false b t = t

pub and_r : (a b : Bool) → T (a && b) → T b
and_r true b t = t
and_r false b t = absurd t

pub and_i : (a b : Bool) → T a → T b → T (a && b)
and_i true b s t = t
and_i false b s t = absurd s

pub or_l : (a b : Bool) → T a → T (a || b)
or_l true b t = tt
or_l false b t = absurd t

pub or_r : (a b : Bool) → T b → T (a || b)
or_r true b t = tt
or_r false b t = t

pub or_e : (a b : Bool) → T (a || b) → T a ⊎ T b
or_e true b t = inl tt
or_e false b t = inr t

pub implies_i : (a b : Bool) → (T a → T b) → T (implies a b)
implies_i true b h = h tt
implies_i false b h = tt

pub implies_e : (a b : Bool) → T (implies a b) → T a → T b
implies_e true b h u = h
implies_e false b h u = absurd u

-- a test's two cases
pub test : (b : Bool) → T b ⊎ (T b → ⊥)
test true = inl tt
test false = inr (λ t. t)

pub not_i : (b : Bool) → (T b → ⊥) → T (not b)
not_i true f = f tt
not_i false f = tt

pub not_e : (b : Bool) → T (not b) → T b → ⊥
not_e true s t = s
not_e false s t = t

-- a test that does not fail holds
pub not_not : (b : Bool) → (T (not b) → ⊥) → T b
not_not true f = tt
not_not false f = f tt

pub not_false : (b : Bool) → not b ≡ false → T b
not_false b e = not_not b (false_T e)

-- ---- a value chosen by a test
module _ {A : Type 0} where
  pub cond_true : (b : Bool) (v w : A) → T b → cond b v w ≡ v
  cond_true true v w t = refl
  cond_true false v w t = absurd t

  pub cond_false : (b : Bool) (v w : A) → (T b → ⊥) → cond b v w ≡ w
  cond_false true v w f = absurd (f tt)
  cond_false false v w f = refl

  pub cond_either : (b : Bool) (v w : A) → ((T b → ⊥) → w ≡ v) → cond b v w ≡ v
  cond_either true v w f = refl
  cond_either false v w f = f (λ t. t)

  pub by_test : (P : A → Type 0) (v w : A) (b : Bool) → (T b → P v) → ((T b → ⊥) → P w) → P (cond b v w)
  by_test P v w true f g = f tt
  by_test P v w false f g = g (λ t. t)

pub cond_off : (b c : Bool) → T (cond b false c) → T c × (T b → ⊥)
cond_off true c t = absurd t
cond_off false c t = (t, λ u. u)

-- ---- what was found, or not
module _ {A : Type 0} (P : Option A → Type 0) where
  pub none_to : (o : Option A) → P o → T (not (is_some o)) → P none
  none_to none p h = p
  none_to (some x) p h = absurd h

  pub none_back : ((x : A) → P (some x) → ⊥) → (o : Option A) → P o → T (not (is_some o))
  none_back h none p = tt
  none_back h (some x) p = h x p

  pub some_to : (Q : Option A → Type 0) (o : Option A) → P o → not (is_some o) ≡ false → ((x : A) → P (some x) → Q (some x)) → Q o
  some_to Q none p e h = absurd (false_T e tt)
  some_to Q (some x) p e h = h x p

module _ {A : Type 0} where
  pub nil_is : (l : List A) → T (is_nil l) → l ≡ []
  nil_is [] h = refl
  nil_is (x ∷ l) h = absurd h

  pub is_nil_lem : {l : List A} → l ≡ [] → T (is_nil l)
  is_nil_lem e = subst (λ (z : List A). T (is_nil z)) (sym e) tt

  pub no_members : (l : List A) → ((x : A) → In x l → ⊥) → l ≡ []
  no_members [] h = refl
  no_members (x ∷ l) h = absurd (h x (here refl))

  -- ---- one more at the end
  pub length_snoc : (l : List A) (x : A) → length (l ++ (x ∷ [])) ≡ suc (length l)
  length_snoc l x = length-append l (x ∷ []) ∙ omega arith

  -- an element that stands behind others is not among them
  pub once_behind : (a : List A) (s : A) (b : List A) → NoRepeat (a ++ (s ∷ b)) → In s a → ⊥
  once_behind [] s b n i = in_nil i
  once_behind (x ∷ a) s b n i = go (in_cons i) (λ m. once_behind a s b n.1 m)
    where
      go : (s ≡ x) ⊎ In s a → (In s a → ⊥) → ⊥
      go (inl e) f = n.0 (in_right a (here (sym e)))
      go (inr m) f = f m

  pub once_snoc : (xs : List A) (x : A) → NoRepeat xs → (In x xs → ⊥) → NoRepeat (xs ++ (x ∷ []))
  once_snoc [] x d h = (in_nil, tt)
  once_snoc (y ∷ ys) x d h = (λ m. out (in_append ys m), once_snoc ys x d.1 (λ m. h (there m)))
    where
      last : (y ≡ x) ⊎ In y [] → ⊥
      last (inl e) = h (here (sym e))
      last (inr m) = in_nil m

      out : In y ys ⊎ In y (x ∷ []) → ⊥
      out (inl m) = d.0 m
      out (inr m) = last (in_cons m)

  -- ---- two lists without repetitions that have the same members are equally long
  del : {x : A} {ys : List A} → In x ys → List A
  del (here {xs = ys} e) = ys
  del (there {x = y} m) = y ∷ del m

  len_del : {x : A} {ys : List A} (m : In x ys) → length ys ≡ suc (length (del m))
  unfolding del
  len_del (here e) = refl
  len_del (there m) = ap suc (len_del m)

  in_del : {x z : A} {ys : List A} (m : In x ys) → In z ys → (z ≡ x) ⊎ In z (del m)
  unfolding del
  in_del {x} {z} (here {x = y} {xs = ys} e) n = go (in_cons n)
    where
      go : (z ≡ y) ⊎ In z ys → (z ≡ x) ⊎ In z ys
      go (inl f) = inl (f ∙ sym e)
      go (inr p) = inr p
  in_del {x} {z} (there {x = y} {xs = ys} m) n = go (λ p. in_del m p) (in_cons n)
    where
      up : (z ≡ x) ⊎ In z (del m) → (z ≡ x) ⊎ In z (y ∷ del m)
      up (inl e) = inl e
      up (inr p) = inr (there p)

      go : (In z ys → (z ≡ x) ⊎ In z (del m)) → (z ≡ y) ⊎ In z ys → (z ≡ x) ⊎ In z (y ∷ del m)
      go ih (inl f) = inr (here f)
      go ih (inr p) = up (ih p)

  pub length_le : (xs ys : List A) → NoRepeat xs → ((x : A) → In x xs → In x ys) → length xs ≤ length ys
  length_le [] ys d h = zero-le
  length_le (x ∷ xs) ys d h =
      let m : In x ys = h x (here refl) in
      let le : length xs ≤ length (del m) = length_le xs (del m) d.1 (λ z n. other n (in_del m (h z (there n)))) in
      omega (arith, len_del m)
    where
      other : {zs : List A} {z : A} → In z xs → (z ≡ x) ⊎ In z zs → In z zs
      other n (inl e) = absurd (d.0 (in_cast (sym e) n))
      other n (inr p) = p

  pub same_length : (xs ys : List A) → NoRepeat xs → NoRepeat ys → ((x : A) → In x xs → In x ys) → ((x : A) → In x ys → In x xs) → length xs ≡ length ys
  same_length xs ys d e f g = le_antisymm (length_le xs ys d f) (length_le ys xs e g)

  -- the element at an index
  pub in_row : (l : List A) (r : ℕ) (d : A) → r < length l → In (get_or l r d) l
  in_row [] r d h = absurd (not-suc-le-zero h)
  in_row (x ∷ l) zero d h = here refl
  in_row (x ∷ l) (suc r) d h = there (in_row l r d (le_of_suc-le-suc h))

  -- ---- all, any, keep, find
  module _ (f : A → Bool) where
    at : {x y : A} → x ≡ y → T (f y) → T (f x)
    at e t = subst (λ (z : A). T (f z)) (sym e) t

    pub every_in : (l : List A) → T (every f l) → {x : A} → In x l → T (f x)
    every_in [] t m = absurd (in_nil m)
    every_in (y ∷ ys) t {x} m = go (λ n. every_in ys (and_r (f y) (every f ys) t) n) (in_cons m)
      where
        go : (In x ys → T (f x)) → (x ≡ y) ⊎ In x ys → T (f x)
        go ih (inl e) = at e (and_l (f y) (every f ys) t)
        go ih (inr n) = ih n

    pub in_every : (l : List A) → ((x : A) → In x l → T (f x)) → T (every f l)
    in_every [] h = tt
    in_every (y ∷ ys) h = and_i (f y) (every f ys) (h y (here refl)) (in_every ys (λ x m. h x (there m)))

    pub exists_in : (l : List A) → T (exists f l) → (x : A) × In x l × T (f x)
    exists_in [] t = absurd t
    exists_in (y ∷ ys) t = go (λ n. exists_in ys n) (or_e (f y) (exists f ys) t)
      where
        up : (x : A) × In x ys × T (f x) → (x : A) × In x (y ∷ ys) × T (f x)
        up p = (p.0, there p.1, p.2)

        go : (T (exists f ys) → (x : A) × In x ys × T (f x)) → T (f y) ⊎ T (exists f ys) → (x : A) × In x (y ∷ ys) × T (f x)
        go ih (inl s) = (y, here refl, s)
        go ih (inr s) = up (ih s)

    pub in_exists : {x : A} {l : List A} → In x l → T (f x) → T (exists f l)
    in_exists (here {x = y} {xs = ys} e) t = or_l (f y) (exists f ys) (at (sym e) t)
    in_exists (there {x = y} {xs = ys} m) t = or_r (f y) (exists f ys) (in_exists m t)

    pub keep_in : (l : List A) {x : A} → In x (keep f l) → In x l × T (f x)
    keep_in [] m = absurd (in_nil m)
    keep_in (y ∷ ys) {x} m = go (f y) refl (λ n. keep_in ys n) m
      where
        cons : f y ≡ true → (In x (keep f ys) → In x ys × T (f x)) → (x ≡ y) ⊎ In x (keep f ys) → In x (y ∷ ys) × T (f x)
        cons q ih (inl e) = (here e, at e (true_T q))
        cons q ih (inr n) = let p = ih n in (there p.0, p.1)

        go : (b : Bool) → f y ≡ b → (In x (keep f ys) → In x ys × T (f x)) → In x (cond b (y ∷ keep f ys) (keep f ys)) → In x (y ∷ ys) × T (f x)
        go true q ih n = cons q ih (in_cons n)
        go false q ih n = let p = ih n in (there p.0, p.1)

    pub in_keep : {x : A} {l : List A} → In x l → T (f x) → In x (keep f l)
    in_keep {x} (here {x = y} {xs = ys} e) t = go (f y) (at (sym e) t)
      where
        go : (b : Bool) → T b → In x (cond b (y ∷ keep f ys) (keep f ys))
        go true s = here e
        go false s = absurd s
    in_keep {x} (there {x = y} {xs = ys} m) t = go (f y) (in_keep m t)
      where
        go : (b : Bool) → In x (keep f ys) → In x (cond b (y ∷ keep f ys) (keep f ys))
        go true s = there s
        go false s = s

    pub once_keep : (l : List A) → NoRepeat l → NoRepeat (keep f l)
    once_keep [] d = tt
    once_keep (y ∷ ys) d = go (f y) (once_keep ys d.1)
      where
        go : (b : Bool) → NoRepeat (keep f ys) → NoRepeat (cond b (y ∷ keep f ys) (keep f ys))
        go true n = (λ m. d.0 (keep_in ys m).0, n)
        go false n = n

    pub length_keep : (l : List A) → length (keep f l) ≤ length l
    length_keep [] = zero-le
    length_keep (y ∷ ys) = go (f y) (length_keep ys)
      where
        go : (b : Bool) → length (keep f ys) ≤ length ys → length (cond b (y ∷ keep f ys) (keep f ys)) ≤ suc (length ys)
        go true h = suc-le-suc h
        go false h = omega arith

    pub keep_ext : (g : A → Bool) (l : List A) → ((x : A) → In x l → f x ≡ g x) → keep f l ≡ keep g l
    keep_ext g [] h = refl
    keep_ext g (x ∷ l) h = λ i. cond (h x (here refl) i) (x ∷ keep_ext g l (λ y m. h y (there m)) i) (keep_ext g l (λ y m. h y (there m)) i)

    -- what a search found, and what none found says
    abbrev pub Found : List A → Option A → Type 0
    Found l none = (x : A) → In x l → T (f x) → ⊥
    Found l (some x) = In x l × T (f x)

    pub found : (l : List A) → Found l (first f l)
    found [] = λ x m t. in_nil m
    found (y ∷ ys) = go (f y) refl (first f ys) (found ys)
      where
        miss : {x : A} → f y ≡ false → Found ys none → T (f x) → (x ≡ y) ⊎ In x ys → ⊥
        miss q h t (inl e) = false_T q (at (sym e) t)
        miss {x} q h t (inr n) = h x n t

        up : (r : Option A) → f y ≡ false → Found ys r → Found (y ∷ ys) r
        up none q h = λ x m t. miss q h t (in_cons m)
        up (some x) q h = (there h.0, h.1)

        go : (b : Bool) → f y ≡ b → (r : Option A) → Found ys r → Found (y ∷ ys) (cond b (some y) r)
        go true q r h = (here refl, true_T q)
        go false q r h = up r q h

-- ---- map
module _ {A B : Type 0} (f : A → B) where
  pub in_map : {x : A} {l : List A} → In x l → In (f x) (map f l)
  in_map m = Memᴰ.map f m

  pub map_in : (l : List A) {y : B} → In y (map f l) → (x : A) × In x l × (y ≡ f x)
  map_in l m = let p = Memᴰ.of_map f l m in (p.0, p.1, sym p.2)

  pub once_map : (l : List A) → ((x y : A) → In x l → In y l → f x ≡ f y → x ≡ y) → NoRepeat l → NoRepeat (map f l)
  once_map [] inj d = tt
  once_map (x ∷ xs) inj d = (λ m. let p = map_in xs m in d.0 (in_cast (inj x p.0 (here refl) (there p.1) p.2) p.1), once_map xs (λ y z m n. inj y z (there m) (there n)) d.1)

  -- f differs on a list whose image does not repeat, and the list does not repeat either, nor what is kept of it
  pub map_inj : (l : List A) → NoRepeat (map f l) → {x y : A} → In x l → In y l → f x ≡ f y → x ≡ y
  map_inj [] d m n e = absurd (in_nil m)
  map_inj (z ∷ l) d {x} {y} m n e = go (λ p q. map_inj l d.1 p q e) (in_cons m) (in_cons n)
    where
      go : (In x l → In y l → x ≡ y) → (x ≡ z) ⊎ In x l → (y ≡ z) ⊎ In y l → x ≡ y
      go ih (inl p) (inl q) = p ∙ sym q
      go ih (inl p) (inr q) = absurd (d.0 (in_cast (ap f (sym p) ∙ e) (in_map q)))
      go ih (inr p) (inl q) = absurd (d.0 (in_cast (ap f (sym q) ∙ sym e) (in_map p)))
      go ih (inr p) (inr q) = ih p q

  pub once_of_map : (l : List A) → NoRepeat (map f l) → NoRepeat l
  once_of_map [] d = tt
  once_of_map (x ∷ l) d = (λ m. d.0 (in_map m), once_of_map l d.1)

  pub each_map_keep : (P : B → Type 0) (p : A → Bool) (l : List A) → ((x : A) → In x l → T (p x) → P (f x)) → (y : B) → In y (map f (keep p l)) → P y
  each_map_keep P p l h y m =
      let a = map_in (keep p l) m in
      let b = keep_in p l a.1 in
      subst P (sym a.2) (h a.0 b.0 b.1)

  pub once_map_keep : (p : A → Bool) (l : List A) → NoRepeat (map f l) → NoRepeat (map f (keep p l))
  once_map_keep p l d = once_map (keep p l) (λ x y m n. map_inj l d (keep_in p l m).0 (keep_in p l n).0) (once_keep p l (once_of_map l d))

-- ---- flat
module _ {A B : Type 0} (f : A → List B) where
  pub in_flat : {x : A} {y : B} {l : List A} → In x l → In y (f x) → In y (flat f l)
  in_flat {y = y} (here {x = z} {xs = l} e) m = in_left (flat f l) (subst (λ (w : A). In y (f w)) e m)
  in_flat (there {x = z} m) n = in_right (f z) (in_flat m n)

  pub flat_in : (l : List A) {y : B} → In y (flat f l) → (x : A) × In x l × In y (f x)
  flat_in [] m = absurd (in_nil m)
  flat_in (z ∷ l) {y} m = go (λ n. flat_in l n) (in_append (f z) m)
    where
      up : (x : A) × In x l × In y (f x) → (x : A) × In x (z ∷ l) × In y (f x)
      up p = (p.0, there p.1, p.2)

      go : (In y (flat f l) → (x : A) × In x l × In y (f x)) → In y (f z) ⊎ In y (flat f l) → (x : A) × In x (z ∷ l) × In y (f x)
      go ih (inl n) = (z, here refl, n)
      go ih (inr n) = up (ih n)

  pub length_flat_le : (most : ℕ) (l : List A) → ((x : A) → In x l → length (f x) ≤ most) → length (flat f l) ≤ length l * most
  length_flat_le most [] h = zero-le
  length_flat_le most (x ∷ l) h =
      let a = h x (here refl) in
      let b = length_flat_le most l (λ y m. h y (there m)) in
      let e = length-append (f x) (flat f l) in
      rw (suc-mul (length l) most) (omega arith)

  pub flat_append : (l m : List A) → flat f (l ++ m) ≡ flat f l ++ flat f m
  flat_append [] m = refl
  flat_append (x ∷ l) m = ap (λ (z : List B). f x ++ z) (flat_append l m) ∙ sym (append_assoc (f x) (flat f l) (flat f m))

  pub flat_ext : (g : A → List B) (l : List A) → ((x : A) → In x l → f x ≡ g x) → flat f l ≡ flat g l
  flat_ext g [] h = refl
  flat_ext g (x ∷ l) h = λ i. h x (here refl) i ++ flat_ext g l (λ y m. h y (there m)) i

  pub flat_map : {C : Type 0} (g : C → A) (l : List C) → flat f (map g l) ≡ flat (λ x. f (g x)) l
  flat_map g [] = refl
  flat_map g (x ∷ l) = ap (λ (z : List B). f (g x) ++ z) (flat_map g l)

module _ {A : Type 0} where
  pub once_append : (l m : List A) → NoRepeat l → NoRepeat m → ((x : A) → In x l → In x m → ⊥) → NoRepeat (l ++ m)
  once_append [] m d e h = e
  once_append (y ∷ l) m d e h = (λ n. out (in_append l n), once_append l m d.1 e (λ x a b. h x (there a) b))
    where
      out : In y l ⊎ In y m → ⊥
      out (inl n) = d.0 n
      out (inr n) = h y (here refl) n

  -- each of two appended lists, and of one with an element more at its end
  pub each_append : {P : A → Type 0} (l m : List A) → ((x : A) → In x l → P x) → ((x : A) → In x m → P x) → (x : A) → In x (l ++ m) → P x
  each_append {P} l m f g x n = go (in_append l n)
    where
      go : In x l ⊎ In x m → P x
      go (inl p) = f x p
      go (inr p) = g x p

  pub each_cons : (P : A → Type 0) (y : A) (l : List A) → P y → ((x : A) → In x l → P x) → (x : A) → In x (y ∷ l) → P x
  each_cons P y l h f x n = go (in_cons n)
    where
      go : (x ≡ y) ⊎ In x l → P x
      go (inl e) = subst P (sym e) h
      go (inr p) = f x p

  pub each_one : (P : A → Type 0) (y : A) → P y → (x : A) → In x (y ∷ []) → P x
  each_one P y h = each_cons P y [] h (λ x m. absurd (in_nil m))

  pub each_snoc : {P : A → Type 0} (l : List A) (y : A) → ((x : A) → In x l → P x) → P y → (x : A) → In x (l ++ (y ∷ [])) → P x
  each_snoc {P} l y f h = each_append {P = P} l (y ∷ []) f (each_one P y h)

  -- ---- membership by a test
  module _ (eq : A → A → Bool) (eq→ : (x y : A) → T (eq x y) → x ≡ y) (eq_refl : (x : A) → T (eq x x)) where
    pub has_in : (x : A) (l : List A) → T (exists (eq x) l) → In x l
    has_in x l t = let p = exists_in (eq x) l t in in_cast (eq→ x p.0 p.2) p.1

    pub in_has : {x : A} {l : List A} → In x l → T (exists (eq x) l)
    in_has {x} m = in_exists (eq x) m (eq_refl x)

    pub differs : (x y : A) → T (not (eq x y)) ↔ (y ≡ x → ⊥)
    differs x y = (λ h e. not_e (eq x y) h (subst (λ (z : A). T (eq x z)) (sym e) (eq_refl x)), λ n. not_i (eq x y) (λ h. n (sym (eq→ x y h))))

    pub distinct→once : (l : List A) → T (distinct eq l) → NoRepeat l
    distinct→once [] t = tt
    distinct→once (x ∷ l) t = (λ m. not_e (exists (eq x) l) (and_l (not (exists (eq x) l)) (distinct eq l) t) (in_has m), distinct→once l (and_r (not (exists (eq x) l)) (distinct eq l) t))

    pub once→distinct : (l : List A) → NoRepeat l → T (distinct eq l)
    once→distinct [] d = tt
    once→distinct (x ∷ l) d = and_i (not (exists (eq x) l)) (distinct eq l) (not_i (exists (eq x) l) (λ t. d.0 (has_in x l t))) (once→distinct l d.1)

    -- the same members pass the same test
    pub same_has : (x : A) (l m : List A) → (In x l → In x m) → (In x m → In x l) → exists (eq x) l ≡ exists (eq x) m
    same_has x l m f g = T_eq (exists (eq x) l) (exists (eq x) m) (λ t. in_has (f (has_in x l t))) (λ t. in_has (g (has_in x m t)))

module _ {A B : Type 0} (f : A → List B) where
  pub once_flat : (l : List A) → NoRepeat l → ((x : A) → In x l → NoRepeat (f x)) → ((x y : A) (z : B) → In x l → In y l → In z (f x) → In z (f y) → x ≡ y) → NoRepeat (flat f l)
  once_flat [] d e h = tt
  once_flat (x ∷ l) d e h =
      once_append (f x) (flat f l) (e x (here refl)) (once_flat l d.1 (λ y m. e y (there m)) (λ y z w m n p q. h y z w (there m) (there n) p q))
      (λ z m n. let p = flat_in f l n in d.0 (in_cast (h x p.0 z (here refl) (there p.1) m p.2) p.1))

-- ---- the elements g i k of the pairs that pass f, i of m and k of l
module _ {B : Type 0} (g : ℕ → ℕ → B) (f : ℕ → ℕ → Bool) (l m : List ℕ) where
  abbrev pub pairs : List B
  pairs = flat (λ i. map (g i) (keep (f i) l)) m

  pub pairs_in : {x : B} → In x pairs → (i : ℕ) × (k : ℕ) × T (f i k) × (x ≡ g i k)
  pairs_in h =
      let p = flat_in (λ i. map (g i) (keep (f i) l)) m h in
      let q = map_in (g p.0) (keep (f p.0) l) p.2 in
      (p.0, q.0, (keep_in (f p.0) l q.1).1, q.2)

  pub in_pairs : (i k : ℕ) → In i m → In k l → T (f i k) → In (g i k) pairs
  in_pairs i k a b h = in_flat (λ i. map (g i) (keep (f i) l)) a (in_map (g i) (in_keep (f i) b h))

  pub once_pairs : NoRepeat l → NoRepeat m → ((i k i' k' : ℕ) → T (f i k) → T (f i' k') → g i k ≡ g i' k' → (i ≡ i') × (k ≡ k')) → NoRepeat pairs
  once_pairs dl dm inj = once_flat (λ i. map (g i) (keep (f i) l)) m dm
      (λ i _. once_map (g i) (keep (f i) l) (λ k k' a b e. (inj i k i k' (keep_in (f i) l a).1 (keep_in (f i) l b).1 e).1) (once_keep (f i) l dl))
      (λ i i' x _ _ a b.
      let p = map_in (g i) (keep (f i) l) a in
      let q = map_in (g i') (keep (f i') l) b in
      (inj i p.0 i' q.0 (keep_in (f i) l p.1).1 (keep_in (f i') l q.1).1 (sym p.2 ∙ q.2)).0)

-- ---- upto
pub length_from : (i n : ℕ) → length (from i n) ≡ n
length_from i zero = refl
length_from i (suc n) = ap suc (length_from (suc i) n)

pub from_in : (i n : ℕ) {x : ℕ} → In x (from i n) → (i ≤ x) × (x < i + n)
from_in i zero m = absurd (in_nil m)
from_in i (suc n) {x} m = go (λ q. from_in (suc i) n q) (in_cons m)
  where
    go : (In x (from (suc i) n) → (suc i ≤ x) × (x < suc i + n)) → (x ≡ i) ⊎ In x (from (suc i) n) → (i ≤ x) × (x < i + suc n)
    go ih (inl e) = omega arith
    go ih (inr q) = let p = ih q in omega arith

pub in_from : (i n x : ℕ) → i ≤ x → x < i + n → In x (from i n)
in_from i zero x a b = absurd (omega arith)
in_from i (suc n) x a b = go (test (eqb x i)) (λ p. in_from (suc i) n x p (omega arith))
  where
    go : T (eqb x i) ⊎ (T (eqb x i) → ⊥) → (suc i ≤ x → In x (from (suc i) n)) → In x (i ∷ from (suc i) n)
    go (inl t) ih = here (eqb→eq x i t)
    go (inr f) ih = there (ih (ne_lt a (λ e. f (subst (λ (z : ℕ). T (eqb x z)) e (eqb_refl x)))))
      where
        ne_lt : i ≤ x → (x ≡ i → ⊥) → i < x
        ne_lt p q = omega arith

pub upto_in : (n : ℕ) {x : ℕ} → In x (upto n) → x < n
upto_in n m = let p = from_in 0 n m in omega arith

pub in_upto : (n x : ℕ) → x < n → In x (upto n)
in_upto n x h = in_from 0 n x zero-le (omega arith)

pub once_from : (i n : ℕ) → NoRepeat (from i n)
once_from i zero = tt
once_from i (suc n) = (λ m. let p = from_in (suc i) n m in absurd (omega arith), once_from (suc i) n)

pub once_upto : (n : ℕ) → NoRepeat (upto n)
once_upto n = once_from 0 n

-- a test of every number below n
pub below_in : (f : ℕ → Bool) (n : ℕ) → T (every f (upto n)) → (x : ℕ) → x < n → T (f x)
below_in f n h x l = every_in f (upto n) h (in_upto n x l)

pub in_below : (f : ℕ → Bool) (n : ℕ) → ((x : ℕ) → x < n → T (f x)) → T (every f (upto n))
in_below f n h = in_every f (upto n) (λ x m. h x (upto_in n m))

-- ---- equality tests
pub eq_bytes→ : (a b : List ℕ) → T (eq_bytes a b) → a ≡ b
eq_bytes→ [] [] t = refl
eq_bytes→ [] (y ∷ ys) t = absurd t
eq_bytes→ (x ∷ xs) [] t = absurd t
eq_bytes→ (x ∷ xs) (y ∷ ys) t = λ i. eqb→eq x y (and_l (eqb x y) (eq_bytes xs ys) t) i ∷ eq_bytes→ xs ys (and_r (eqb x y) (eq_bytes xs ys) t) i

pub eq_bytes_refl : (a : List ℕ) → T (eq_bytes a a)
eq_bytes_refl [] = tt
eq_bytes_refl (x ∷ xs) = and_i (eqb x x) (eq_bytes xs xs) (eqb_refl x) (eq_bytes_refl xs)
