-- Functions changed at one place: what a change sets, and what it leaves.
use Prim.Native.Nat.{ℕ}
use mathlib.Core.Path.{◌≡◌, refl, sym, subst}
use mathlib.Core.Logic.{◌⊎◌, inl, inr, ◌↔◌}
use mathlib.Core.Bool.{Bool, true, false, ◌&&◌, ◌||◌, cond}
use lib.Dec.{T, eqb, eqb→eq, eqb_refl}
use Rattle.policy.specs.Contract.{Tok}
use Rattle.policy.specs.Draft.{put2, put3}
use Rattle.policy.proofs.Sets.{T_true, true_T, and_l, and_r, and_i, or_l, or_r, or_e, test, cond_true, cond_false, cond_either, cond_off}
use Rattle.policy.proofs.Equal.{eqb_of}

-- ---- a value chosen by whether a number is m
module _ {A : Type 0} (m : ℕ) (v w : A) where
  pub at_new : cond (eqb m m) v w ≡ v
  at_new = cond_true (eqb m m) v w (eqb_refl m)

  pub at_old : (x : ℕ) → (x ≡ m → ⊥) → cond (eqb x m) v w ≡ w
  at_old x h = cond_false (eqb x m) v w (λ s. h (eqb→eq x m s))

-- a law of every number, by whether it is m
pub by_number : (m : ℕ) (P : ℕ → Type 0) (x : ℕ) → P m → ((x ≡ m → ⊥) → P x) → P x
by_number m P x h f = go (test (eqb x m))
  where
    go : T (eqb x m) ⊎ (T (eqb x m) → ⊥) → P x
    go (inl s) = subst P (sym (eqb→eq x m s)) h
    go (inr n) = f (λ e. n (eqb_of e))

-- ---- place k of number j
at_place : (j k x y : ℕ) → T (eqb x j && eqb y k) ↔ ((x ≡ j) × (y ≡ k))
at_place j k x y = (
  λ t. (eqb→eq x j (and_l (eqb x j) (eqb y k) t), eqb→eq y k (and_r (eqb x j) (eqb y k) t)),
  λ e. and_i (eqb x j) (eqb y k) (eqb_of e.0) (eqb_of e.1),
)

module _ {A : Type 0} (j k : ℕ) (v : A) (f : ℕ → ℕ → A) where
  put2_new : put2 j k v f j k ≡ v
  put2_new = cond_true (eqb j j && eqb k k) v (f j k) ((at_place j k j k).1 (refl, refl))

  -- the place, or another one, where nothing changes
  put2_cases : (x y : ℕ) → ((x ≡ j) × (y ≡ k)) ⊎ (put2 j k v f x y ≡ f x y)
  put2_cases x y = go (test (eqb x j && eqb y k))
    where
      go : T (eqb x j && eqb y k) ⊎ (T (eqb x j && eqb y k) → ⊥) → ((x ≡ j) × (y ≡ k)) ⊎ (put2 j k v f x y ≡ f x y)
      go (inl t) = inl ((at_place j k x y).0 t)
      go (inr n) = inr (cond_false (eqb x j && eqb y k) v (f x y) n)

-- tokens and provision before and after: service k of package j is new and has the tokens s, all others stay
pub record NewPlace (tok tok' : ℕ → ℕ → Tok) (provides provides' : ℕ → ℕ → Bool) (j k : ℕ) (s : Tok) : Type 0 where
  pub new_prov : T (provides' j k)
  pub new_tok : tok' j k ≡ s
  pub old_prov : (x y : ℕ) → T (provides x y) → T (provides' x y)
  pub old_tok : (x y : ℕ) → T (provides x y) → tok' x y ≡ tok x y
  pub none_tok : (x y : ℕ) → (T (provides' x y) → ⊥) → tok' x y ≡ tok x y
  pub prov_cases : (x y : ℕ) → T (provides' x y) → ((x ≡ j) × (y ≡ k)) ⊎ T (provides x y)

pub new_place : (tok : ℕ → ℕ → Tok) (provides : ℕ → ℕ → Bool) (j k : ℕ) (s : Tok) → (T (provides j k) → ⊥)
    → NewPlace tok (put2 j k s tok) provides (put2 j k true provides) j k s
new_place tok provides j k s free = record {
  new_prov = new;
  new_tok = put2_new j k s tok;
  old_prov = λ x y p. stays x y p (put2_cases j k true provides x y);
  old_tok = λ x y p. same x y (λ e. free (rw (← e.0, ← e.1) p)) (put2_cases j k s tok x y);
  none_tok = λ x y np. same x y (λ e. np (rw (e.0, e.1) new)) (put2_cases j k s tok x y);
  prov_cases = λ x y p. which x y p (put2_cases j k true provides x y);
}
  where
    new : T (put2 j k true provides j k)
    new = rw (put2_new j k true provides) tt

    stays : (x y : ℕ) → T (provides x y) → ((x ≡ j) × (y ≡ k)) ⊎ (put2 j k true provides x y ≡ provides x y) → T (put2 j k true provides x y)
    stays x y p (inl e) = rw (e.0, e.1) new
    stays x y p (inr e) = rw e p

    same : (x y : ℕ) → ((x ≡ j) × (y ≡ k) → ⊥) → ((x ≡ j) × (y ≡ k)) ⊎ (put2 j k s tok x y ≡ tok x y) → put2 j k s tok x y ≡ tok x y
    same x y ne (inl e) = absurd (ne e)
    same x y ne (inr e) = e

    which : (x y : ℕ) → T (put2 j k true provides x y) → ((x ≡ j) × (y ≡ k)) ⊎ (put2 j k true provides x y ≡ provides x y) → ((x ≡ j) × (y ≡ k)) ⊎ T (provides x y)
    which x y p (inl e) = inl e
    which x y p (inr e) = inr (subst T e p)

-- ---- bits of service k of package j set for the callers of c
module _ (j k : ℕ) (b : ℕ → ℕ → ℕ → Bool) (c : ℕ → Bool) where
  abbrev pub or_new : ℕ → ℕ → ℕ → Bool
  or_new x y z = b x y z || (eqb y j && eqb z k && c x)

  abbrev pub OldOrNew : ℕ → ℕ → ℕ → Type 0
  OldOrNew x y z = T (b x y z) ⊎ ((y ≡ j) × (z ≡ k) × T (c x))

  pub old_or_new : (x y z : ℕ) → T (or_new x y z) ↔ OldOrNew x y z
  old_or_new x y z = (λ h. out (or_e (b x y z) (eqb y j && eqb z k && c x) h), into)
    where
      out : T (b x y z) ⊎ T (eqb y j && eqb z k && c x) → OldOrNew x y z
      out (inl h) = inl h
      out (inr h) = let p = (at_place j k y z).0 (and_l (eqb y j && eqb z k) (c x) h) in inr (p.0, p.1, and_r (eqb y j && eqb z k) (c x) h)

      into : OldOrNew x y z → T (or_new x y z)
      into (inl h) = or_l (b x y z) (eqb y j && eqb z k && c x) h
      into (inr h) = or_r (b x y z) (eqb y j && eqb z k && c x) (and_i (eqb y j && eqb z k) (c x) ((at_place j k y z).1 (h.0, h.1)) h.2)

-- ---- one bit set or cleared
module _ (i j k : ℕ) where
  -- the place of the bit
  abbrev pub At : ℕ → ℕ → ℕ → Type 0
  At x y z = (x ≡ i) × (y ≡ j) × (z ≡ k)

  abbrev at : ℕ → ℕ → ℕ → Bool
  at x y z = eqb x i && eqb y j && eqb z k

  at_is : (x y z : ℕ) → T (at x y z) → At x y z
  at_is x y z t = let p = (at_place i j x y).0 (and_l (eqb x i && eqb y j) (eqb z k) t) in (p.0, p.1, eqb→eq z k (and_r (eqb x i && eqb y j) (eqb z k) t))

  is_at : (x y z : ℕ) → At x y z → T (at x y z)
  is_at x y z e = and_i (eqb x i && eqb y j) (eqb z k) ((at_place i j x y).1 (e.0, e.1)) (eqb_of e.2)

  module _ (b : ℕ → ℕ → ℕ → Bool) where
    -- ---- set
    pub put3_new : T (put3 i j k true b i j k)
    put3_new = true_T (cond_true (at i j k) true (b i j k) (is_at i j k (refl, refl, refl)))

    pub put3_keep : (x y z : ℕ) → T (b x y z) → T (put3 i j k true b x y z)
    put3_keep x y z h = true_T (cond_either (at x y z) true (b x y z) (λ _. T_true (b x y z) h))

    pub put3_cases : (x y z : ℕ) → T (put3 i j k true b x y z) → At x y z ⊎ T (b x y z)
    put3_cases x y z h = go (test (at x y z))
      where
        go : T (at x y z) ⊎ (T (at x y z) → ⊥) → At x y z ⊎ T (b x y z)
        go (inl t) = inl (at_is x y z t)
        go (inr n) = inr (subst T (cond_false (at x y z) true (b x y z) n) h)

    -- ---- cleared
    pub put3_less : (x y z : ℕ) → T (put3 i j k false b x y z) ↔ (T (b x y z) × (At x y z → ⊥))
    put3_less x y z = (
      λ h. let p = cond_off (at x y z) (b x y z) h in (p.0, λ e. p.1 (is_at x y z e)),
      λ p. subst T (sym (cond_false (at x y z) false (b x y z) (λ t. p.1 (at_is x y z t)))) p.0,
    )
