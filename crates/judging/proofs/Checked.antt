-- What the two ways through check_image give.
use Prim.Native.Nat.{ℕ, ◌<◌}
use native.Mathlib.Omega.{arith}
use mathlib.Core.Path.{◌≡◌, refl, sym, ◌∙◌, subst}
use mathlib.Core.Bool.{Bool, true, false, cond}
use mathlib.Core.List.{List}
use lib.ListN.{length}
use Rattle.policy.specs.Layout.{Layout, size}
use Rattle.policy.specs.Tables.{decode}
use Rattle.policy.specs.Lookup.{numbers, used_numbers}
use Rattle.policy.specs.Sound.{sound}
use Rattle.policy.specs.Judge.{Out, refusal, check}
use Rattle.policy.specs.Settled.{Gives}
use Rattle.policy.proofs.Sets.{true_T, length_keep, length_from}
use Rattle.geometry.specs.Geometry.{layout_of}
use Rattle.geometry.specs.declared.Card.{Card}
use Rattle.geometry.proofs.Bounds.{limits, layout_ok}
use Rattle.image.proofs.Laid.{sound_laid, laid_length}

module _ (c : Card) (img : List ℕ) where
  abbrev L : Layout
  L = layout_of c

  abbrev outcome : Bool → Out
  outcome t = cond t (record { answered = 0; second = length (used_numbers L (decode L img)); bytes = img }) (refusal 1 255 img)

  gives : (t : Bool) (n s : ℕ) → sound L img ≡ t → Gives (outcome t) n s img → Gives (check L img) n s img
  unfolding check
  gives t n s e h = subst (λ (z : Bool). Gives (outcome z) n s img) (sym e) h

  -- a sound image has its card's size
  pub sound_size : (r : Bool) → r ≡ sound L img → r ≡ true → length img ≡ size L
  sound_size r e q = laid_length L (layout_ok c) (sound_laid L (true_T (sym e ∙ q)))

  -- the count of used numbers is small
  pub count_low : (n : ℕ) → n ≡ length (used_numbers L (decode L img)) → n < 256
  count_low n e =
      let a = length_keep (decode L img).used (numbers L) in
      let b = length_from 0 L.packages in
      let l = (limits c).packages_low in
      omega arith

  pub passes : (r : Bool) (n : ℕ) → r ≡ sound L img → r ≡ true → n ≡ length (used_numbers L (decode L img)) → Gives (check L img) 0 n img
  passes r n e q m = gives true 0 n (sym e ∙ q) (record { answered = refl; second_is = sym m; bytes_are = refl })

  pub fails : (r : Bool) → r ≡ sound L img → r ≡ false → Gives (check L img) 1 255 img
  fails r e q = gives false 1 255 (sym e ∙ q) (record { answered = refl; second_is = refl; bytes_are = refl })
