-- A change of one package's contract leaves those of the others.
use mathlib.Core.Path.{◌≡◌, refl, sym, ap, ◌∙◌}
use mathlib.Core.Logic.{◌⊎◌, inl, inr, ◌↔◌}
use mathlib.Core.Bool.{not, cond}
use mathlib.Core.List.{List, ◌∷◌}
use mathlib.Core.List.Memᴰ.{cases_cons as in_cons}
use mathlib.Core.List.Memᴰ.{cast as in_cast}
use mathlib.Core.List.Memᴰ.{tail as there}
use mathlib.Core.List.{Memᴰ as In}
use lib.Dec.{T}
use Rattle.policy.specs.Contract.{Aid, eq_aid, Contract}
use Rattle.policy.specs.Layout.{Layout}
use Rattle.policy.specs.Record.{Change, load, remove, add_service, remove_service, add_call, remove_call, add_grant, remove_grant, add_need, remove_need, replace}
use Rattle.policy.specs.Machine.{altered, alter, effect}
use Rattle.policy.proofs.Sets.{test, not_i, cond_true, cond_false, keep_in, in_keep, in_map, map_in}
use Rattle.policy.proofs.Equal.{eq_aid→}

-- the contracts of packages other than b are the same
abbrev pub Others : Aid → List Contract → List Contract → Type 0
Others b cs ds = (c : Contract) → (c.aid ≡ b → ⊥) → In c cs ↔ In c ds

module _ (b : Aid) where
  cons_others : (k : Contract) → k.aid ≡ b → (cs : List Contract) → Others b cs (k ∷ cs)
  cons_others k e cs c ne = (λ m. there m, λ m. go (in_cons m))
    where
      go : (c ≡ k) ⊎ In c cs → In c cs
      go (inl q) = absurd (ne (ap (λ (z : Contract). z.aid) q ∙ e))
      go (inr n) = n

  module _ (f : Contract → Contract) (named : (k : Contract) → (f k).aid ≡ k.aid) where
    abbrev turned : Contract → Contract
    turned k = cond (eq_aid k.aid b) (f k) k

    alter_others : (cs : List Contract) → Others b cs (alter b f cs)
    alter_others cs c ne = (
      λ m. in_cast (sym (cond_false (eq_aid c.aid b) (f c) c (λ x. ne (eq_aid→ c.aid b x)))) (in_map turned m),
      λ m. let (k, mk, e) = map_in turned cs m in from k mk e (test (eq_aid k.aid b)),
    )
      where
        from : (k : Contract) → In k cs → c ≡ turned k → T (eq_aid k.aid b) ⊎ (T (eq_aid k.aid b) → ⊥) → In c cs
        from k m e (inl x) = absurd (ne (ap (λ (z : Contract). z.aid) (e ∙ cond_true (eq_aid k.aid b) (f k) k x) ∙ named k ∙ eq_aid→ k.aid b x))
        from k m e (inr x) = in_cast (e ∙ cond_false (eq_aid k.aid b) (f k) k x) m

pub effect_others : (L : Layout) (b : Aid) (ch : Change) (cs : List Contract) → Others b cs (effect L cs b ch)
effect_others L b (load p c g n) cs = cons_others b (record { aid = b; provides = p; calls = c; grants = g; needs = n }) refl cs
effect_others L b remove cs = λ c ne. (
  λ m. in_keep (λ k. not (eq_aid k.aid b)) m (not_i (eq_aid c.aid b) (λ x. ne (eq_aid→ c.aid b x))),
  λ m. (keep_in (λ k. not (eq_aid k.aid b)) cs m).0,
)
effect_others L b (add_service s l) cs = alter_others b (altered L (add_service s l)) (λ k. refl) cs
effect_others L b (remove_service s) cs = alter_others b (altered L (remove_service s)) (λ k. refl) cs
effect_others L b (add_call r) cs = alter_others b (altered L (add_call r)) (λ k. refl) cs
effect_others L b (remove_call r) cs = alter_others b (altered L (remove_call r)) (λ k. refl) cs
effect_others L b (add_grant r) cs = alter_others b (altered L (add_grant r)) (λ k. refl) cs
effect_others L b (remove_grant r) cs = alter_others b (altered L (remove_grant r)) (λ k. refl) cs
effect_others L b (add_need r) cs = alter_others b (altered L (add_need r)) (λ k. refl) cs
effect_others L b (remove_need r) cs = alter_others b (altered L (remove_need r)) (λ k. refl) cs
effect_others L b (replace p c g n) cs = alter_others b (altered L (replace p c g n)) (λ k. refl) cs
