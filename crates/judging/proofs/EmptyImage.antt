-- What the two ways through write_empty give.
use Prim.Native.Nat.{ℕ, ◌-◌}
use mathlib.Core.Path.{◌≡◌, refl, sym, ap, ◌∙◌, subst}
use mathlib.Core.Bool.{Bool, cond}
use mathlib.Core.List.{List, ◌++◌}
use lib.Dec.{T, eqb, eqb→eq, eqb_refl}
use lib.ListN.{length, replicate}
use Rattle.policy.specs.Layout.{Layout, size}
use Rattle.policy.specs.Tables.{empty_image}
use Rattle.policy.specs.Judge.{Out, refusal, write_empty}
use Rattle.policy.specs.Settled.{Gives}
use Rattle.policy.proofs.Sets.{T_true, T_false}

module _ (L : Layout) (b : List ℕ) where
  abbrev outcome : Bool → Out
  outcome t = cond t (record { answered = 0; second = 0; bytes = empty_image L }) (refusal 1 255 b)

  gives : (t : Bool) (n s : ℕ) (img : List ℕ) → eqb (length b) (size L) ≡ t → Gives (outcome t) n s img → Gives (write_empty L b) n s img
  unfolding write_empty
  gives t n s img e h = subst (λ (z : Bool). Gives (outcome z) n s img) (sym e) h

  pub not_written : (m : ℕ) → (length b ≡ m → ⊥) → m ≡ size L → Gives (write_empty L b) 1 255 b
  not_written m h e =
      gives _ 1 255 b (T_false (eqb (length b) (size L)) (λ t. h (eqb→eq (length b) (size L) t ∙ sym e))) (record { answered = refl; second_is = refl; bytes_are = refl })

  -- the header, and zeros to the end
  pub written : (m : ℕ) (h t : List ℕ) → length b ≡ m → m ≡ size L → h ≡ L.header → t ≡ replicate (length b - 3) 0 → Gives (write_empty L b) 0 0 (h ++ t)
  unfolding empty_image
  written m h t lb em eh et =
      gives _ 0 0 (h ++ t) (T_true (eqb (length b) (size L)) (subst (λ (z : ℕ). T (eqb (length b) z)) (lb ∙ em) (eqb_refl (length b))))
      (record { answered = refl; second_is = refl; bytes_are = sym (λ i. eh i ++ (et ∙ ap (λ (z : ℕ). replicate (z - 3) 0) (lb ∙ em)) i) })
