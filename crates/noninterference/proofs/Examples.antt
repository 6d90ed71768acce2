-- The tests say what `Alike` says; and the examples, computed.
use Prim.Native.Nat.{ℕ, ◌<◌}
use native.Mathlib.Omega.{arith}
use mathlib.Core.Path.{◌≡◌, refl, sym, ap}
use mathlib.Core.Bool.{Bool, ◌&&◌}
use mathlib.Core.List.{List, []}
use mathlib.Core.List.Memᴰ.{head as here}
use mathlib.Core.List.Memᴰ.{tail as there}
use mathlib.Core.List.{Memᴰ as In}
use mathlib.Core.Option.{Option}
use lib.Dec.{T, eqb→eq}
use Rattle.policy.specs.Lists.{SameSet, implies, every, exists, or_else}
use Rattle.policy.specs.Contract.{Aid, eq_aid, eq_tok, eq_row, Contract}
use Rattle.policy.specs.Layout.{Layout, small}
use Rattle.policy.specs.Record.{Request, parse}
use Rattle.policy.specs.Tables.{Tables, decode, empty_image}
use Rattle.policy.specs.Lookup.{numbers, used_numbers, contract_at}
use Rattle.policy.specs.Sound.{sound}
use Rattle.policy.specs.Judge.{judge}
use Rattle.policy.specs.History.{SameContract, image_after}
use Rattle.policy.specs.Marked.{removal_of, plain_aid}
use Rattle.policy.proofs.Sets.{T_eq, and_l, and_r, implies_e, every_in, has_in, in_keep, in_upto}
use Rattle.policy.proofs.Equal.{eq_aid→, eq_tok→, eq_tok_refl, eq_row→, eq_row_refl}
use Rattle.policy.proofs.SoundFacts.{decode_in}
use Rattle.noninterference.specs.Alike.{seen_by, Alike, same_set, same_contract, tests}
use Rattle.noninterference.specs.Claims.{RecordOf, Told}
use Rattle.noninterference.specs.Examples.{card₁, card₂, Differ, WatchingFails, CountsShow}

-- ---- from tests
module _ {A : Type 0} (eq : A → A → Bool) (eq→ : (x y : A) → T (eq x y) → x ≡ y) (eq_refl : (x : A) → T (eq x x)) where
  same_set_lem : (l m : List A) → T (same_set eq l m) → SameSet l m
  same_set_lem l m t x =
      let to = every (λ x. exists (eq x) m) l in
      let back = every (λ x. exists (eq x) l) m in
      (λ h. has_in eq eq→ eq_refl x m (every_in (λ x. exists (eq x) m) l (and_l to back t) h), λ h. has_in eq eq→ eq_refl x l (every_in (λ x. exists (eq x) l) m (and_r to back t) h))

same_contract_lem : (c k : Contract) → T (same_contract c k) → SameContract c k
same_contract_lem c k t =
    let p = same_set eq_tok c.provides k.provides in
    let x = same_set eq_row c.calls k.calls in
    let g = same_set eq_row c.grants k.grants in
    let n = same_set eq_row c.needs k.needs in
    let sets = and_r (eq_aid c.aid k.aid) (p && (x && (g && n))) t in
    let rows = and_r p (x && (g && n)) sets in
    record {
      aid = eq_aid→ c.aid k.aid (and_l (eq_aid c.aid k.aid) (p && (x && (g && n))) t);
      provides = same_set_lem eq_tok eq_tok→ eq_tok_refl c.provides k.provides (and_l p (x && (g && n)) sets);
      calls = same_set_lem eq_row eq_row→ eq_row_refl c.calls k.calls (and_l x (g && n) rows);
      grants = same_set_lem eq_row eq_row→ eq_row_refl c.grants k.grants (and_l g n (and_r x (g && n) rows));
      needs = same_set_lem eq_row eq_row→ eq_row_refl c.needs k.needs (and_r g n (and_r x (g && n) rows));
    }

module _ (L : Layout) (b : Aid) (img₁ img₂ : List ℕ) where
  abbrev t₁ : Tables
  t₁ = decode L img₁

  abbrev t₂ : Tables
  t₂ = decode L img₂

  tested : ((t : Bool) → In t (tests L b img₁ img₂) → T t) → Alike L b img₁ img₂
  unfolding tests
  tested h = record {
    sound₁ = h (sound L img₁) (here refl);
    sound₂ = h (sound L img₂) (there (here refl));
    used = λ n. T_eq (t₁.used n) (t₂.used n)
        (λ u. implies_e (t₁.used n) (t₂.used n) (and_l (implies (t₁.used n) (t₂.used n)) (implies (t₂.used n) (t₁.used n)) (at n ((decode_in L img₁).used_in n u))) u)
        (λ u. implies_e (t₂.used n) (t₁.used n) (and_r (implies (t₁.used n) (t₂.used n)) (implies (t₂.used n) (t₁.used n)) (at n ((decode_in L img₂).used_in n u))) u);
    contracts = λ n u. same_contract_lem (seen_by b (contract_at L t₁ n)) (seen_by b (contract_at L t₂ n))
        (every_in (λ n. same_contract (seen_by b (contract_at L t₁ n)) (seen_by b (contract_at L t₂ n))) (used_numbers L t₁) (h _ (there (there (there (here refl)))))
        (in_keep t₁.used (in_upto L.packages n ((decode_in L img₁).used_in n u)) u));
    unmet_count = eqb→eq _ _ (h _ (there (there (there (there (here refl))))));
    waiting_count = eqb→eq _ _ (h _ (there (there (there (there (there (here refl)))))));
  }
    where
      at : (n : ℕ) → n < L.packages → T (implies (t₁.used n) (t₂.used n) && implies (t₂.used n) (t₁.used n))
      at n l = every_in (λ n. implies (t₁.used n) (t₂.used n) && implies (t₂.used n) (t₁.used n)) (numbers L) (h _ (there (there (here refl)))) (in_upto L.packages n l)

-- ---- the examples
passed : T (every (λ t. t) (tests small (plain_aid 3) card₁ card₂))
unfolding tests image_after empty_image
passed = tt

alike_cards : Alike small (plain_aid 3) card₁ card₂
alike_cards = tested small (plain_aid 3) card₁ card₂ (λ t m. every_in (λ t. t) (tests small (plain_aid 3) card₁ card₂) passed m)

pub differ : Differ
unfolding contract_at decode image_after empty_image
differ = record {
  alike = alike_cards;
  calls = (refl, refl);
  needs = (refl, refl);
  grants = (refl, refl);
  unmet = (refl, refl);
  waiting = (refl, refl);
  services = (refl, refl);
  order = (refl, refl);
}

pub watching_fails : WatchingFails
unfolding parse decode judge image_after empty_image
watching_fails h =
    let of : RecordOf small (plain_aid 3) (removal_of 3) = λ q e. ap (λ (o : Option Request). or_else o [] (λ q. q.aid)) (sym e) in
    let e : ◌≡◌ {A = ℕ} 8 0 = ap (λ (o : Told). o.answer) (h (plain_aid 3) card₁ card₂ (removal_of 3) alike_cards of) in
    omega arith

pub counts_show : CountsShow
unfolding tests judge image_after empty_image
counts_show = record {
  unmet = record { passes = refl; first = refl; second = refl };
  waiting = record { passes = refl; first = refl; second = refl };
}
