-- How many rows a list of the card has: those with B at an end are the same on both cards, and those of others stay what they were.
use Prim.Native.Nat.{suc, ◌+◌}
use native.Mathlib.Omega.{arith}
use mathlib.Core.Path.{◌≡◌, refl, sym, ◌∙◌, subst}
use mathlib.Core.Logic.Iff
use mathlib.Core.Bool.{Bool, true, false, not, ◌||◌, cond}
use mathlib.Core.List.{List, [], ◌∷◌}
use mathlib.Core.List.{Memᴰ as In}
use lib.Dec.{T}
use lib.ListN.{length}
use Rattle.policy.specs.Lists.{NoRepeat, keep}
use Rattle.policy.specs.Contract.{Aid, eq_aid, Row, Contract, Link}
use Rattle.policy.proofs.Sets.{not_e, same_length, keep_in, in_keep, once_keep}
use Rattle.policy.proofs.Links.{links, link_in, in_link, once_links}
use Rattle.policy.proofs.Effect.{Others}
use Rattle.noninterference.specs.Alike.{at_end}
use Rattle.noninterference.proofs.Agree.{Sets, seen, Agree, swap, off, Asked}

length_split : {A : Type 0} (p : A → Bool) (l : List A) → length l ≡ length (keep p l) + length (keep (λ x. not (p x)) l)
length_split p [] = refl
length_split p (x ∷ l) = go (p x) (length_split p l)
  where
    go : (b : Bool) → length l ≡ length (keep p l) + length (keep (λ x. not (p x)) l)
        → suc (length l) ≡ length (cond b (x ∷ keep p l) (keep p l)) + length (cond (not b) (x ∷ keep (λ x. not (p x)) l) (keep (λ x. not (p x)) l))
    go true e = omega arith
    go false e = omega arith

module _ (b : Aid) (rows : Contract → List Row) (f : List Contract → Contract → Row → Bool) (asked : Asked b rows f) where
  abbrev all : List Contract → List Link
  all cs = links rows (f cs) cs

  -- a row with B at an end
  abbrev end : Link → Bool
  end x = eq_aid x.owner b || eq_aid x.row.aid b

  at_end_lem : (x : Link) (c : Contract) → x.owner ≡ c.aid → end x ≡ at_end b c x.row
  at_end_lem x c e = λ i. eq_aid (e i) b || eq_aid x.row.aid b

  -- those with B at an end are the same on both
  ends_sub : (cs ds : List Contract) → Agree b cs ds → (x : Link) → In x (keep end (all cs)) → In x (keep end (all ds))
  ends_sub cs ds ag x m =
      let (mx, t) = keep_in end (all cs) m in
      let (c, mc, own, mr, passes) = link_in rows (f cs) cs x mx in
      let (k, mk, p) = ag.to c mc in
      in_keep end (in_link rows (f ds) ds x k mk (own ∙ p.aid) (seen b rows c k (asked.rows_agree c k p) x.row (subst T (at_end_lem x c own) t) mr)
      (subst T (asked.agreed ag c k p x.row) passes)) t

  -- those of others among themselves are what they were
  rest_sub : (cs ds : List Contract) → Others b cs ds → (x : Link) → In x (keep (λ x. not (end x)) (all cs)) → In x (keep (λ x. not (end x)) (all ds))
  rest_sub cs ds o x m =
      let (mx, t) = keep_in (λ x. not (end x)) (all cs) m in
      let (c, mc, own, mr, passes) = link_in rows (f cs) cs x mx in
      let (no-c, no-r) = off b c x.row (λ e. not_e (end x) t (subst T (sym (at_end_lem x c own)) e)) in
      in_keep (λ x. not (end x)) (in_link rows (f ds) ds x c ((o c no-c).0 mc) own mr (subst T (asked.of_others o c x.row no-r) passes)) t

  -- as many of both sorts
  as_many : (p : Link → Bool) (cs ds : List Contract) → Sets cs → Sets ds → ((x : Link) → In x (keep p (all cs)) → In x (keep p (all ds)))
      → ((x : Link) → In x (keep p (all ds)) → In x (keep p (all cs))) → length (keep p (all cs)) ≡ length (keep p (all ds))
  as_many p cs ds sc sd = same_length (keep p (all cs)) (keep p (all ds)) (once_keep p (all cs) (once cs sc)) (once_keep p (all ds) (once ds sd))
    where
      once : (cs : List Contract) → Sets cs → NoRepeat (all cs)
      once cs s = once_links rows (f cs) cs s.one_each (λ c m. asked.rows_once c (s.four_sets c m))

  -- two cards with as many rows have as many after a change of B's contract alone that is the same on both
  pub count_same : (cs₁ cs₂ ds₁ ds₂ : List Contract) → Sets cs₁ → Sets cs₂ → Sets ds₁ → Sets ds₂
      → Agree b cs₁ cs₂ → Agree b ds₁ ds₂ → Others b cs₁ ds₁ → Others b cs₂ ds₂
      → length (links rows (f cs₁) cs₁) ≡ length (links rows (f cs₂) cs₂) → length (links rows (f ds₁) ds₁) ≡ length (links rows (f ds₂) ds₂)
  count_same cs₁ cs₂ ds₁ ds₂ c₁ c₂ d₁ d₂ ac ad o₁ o₂ e =
      let s₁ = length_split end (all cs₁) in
      let s₂ = length_split end (all cs₂) in
      let s₃ = length_split end (all ds₁) in
      let s₄ = length_split end (all ds₂) in
      let p = as_many end cs₁ cs₂ c₁ c₂ (ends_sub cs₁ cs₂ ac) (ends_sub cs₂ cs₁ (swap b ac)) in
      let q = as_many end ds₁ ds₂ d₁ d₂ (ends_sub ds₁ ds₂ ad) (ends_sub ds₂ ds₁ (swap b ad)) in
      let u₁ = as_many (λ x. not (end x)) cs₁ ds₁ c₁ d₁ (rest_sub cs₁ ds₁ o₁) (rest_sub ds₁ cs₁ (λ c m. Iff.symm (o₁ c m))) in
      let u₂ = as_many (λ x. not (end x)) cs₂ ds₂ c₂ d₂ (rest_sub cs₂ ds₂ o₂) (rest_sub ds₂ cs₂ (λ c m. Iff.symm (o₂ c m))) in
      omega arith
