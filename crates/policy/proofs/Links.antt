-- The rows of contracts that pass a test, each with its owner: what the two lists of a card have.
use mathlib.Core.Path.{◌≡◌, sym, ◌∙◌, subst}
use mathlib.Core.Bool.{Bool}
use mathlib.Core.List.{List, map}
use mathlib.Core.List.Memᴰ.{cast as in_cast}
use mathlib.Core.List.{Memᴰ as In}
use lib.Dec.{T}
use Rattle.policy.specs.Lists.{NoRepeat, keep, flat}
use Rattle.policy.specs.Contract.{Row, Contract, Link}
use Rattle.policy.proofs.Sets.{keep_in, in_keep, once_keep, in_map, map_in, once_map, map_inj, once_of_map, in_flat, flat_in, once_flat}

module _ (rows : Contract → List Row) (f : Contract → Row → Bool) where
  abbrev links_of : Contract → List Link
  links_of c = map (λ r. record { owner = c.aid; row = r }) (keep (f c) (rows c))

  abbrev pub links : List Contract → List Link
  links cs = flat (λ c. map (λ r. record { owner = c.aid; row = r }) (keep (f c) (rows c))) cs

  pub link_in : (cs : List Contract) (x : Link) → In x (links cs) → (c : Contract) × In c cs × (x.owner ≡ c.aid) × In x.row (rows c) × T (f c x.row)
  link_in cs x m =
      let (c, mc, mx) = flat_in links_of cs m in
      let (r, mr, is) = map_in (λ r. record { owner = c.aid; row = r }) (keep (f c) (rows c)) mx in
      let (in_rows, passes) = keep_in (f c) (rows c) mr in
      let e : r ≡ x.row = λ i. (sym is i).row in
      (c, mc, (λ i. (is i).owner), subst (λ (z : Row). In z (rows c)) e in_rows, subst (λ (z : Row). T (f c z)) e passes)

  pub in_link : (cs : List Contract) (x : Link) (c : Contract) → In c cs → x.owner ≡ c.aid → In x.row (rows c) → T (f c x.row) → In x (links cs)
  in_link cs x c m e mr h =
      let same : x ≡ record { owner = c.aid; row = x.row } = λ i. record { owner = e i; row = x.row } in
      in_flat links_of m (in_cast same (in_map (λ r. record { owner = c.aid; row = r }) (in_keep (f c) mr h)))

  pub once_links : (cs : List Contract) → NoRepeat (map (λ c. c.aid) cs) → ((c : Contract) → In c cs → NoRepeat (rows c)) → NoRepeat (links cs)
  once_links cs one sets = once_flat links_of cs (once_of_map (λ c. c.aid) cs one)
      (λ c m. once_map (λ r. record { owner = c.aid; row = r }) (keep (f c) (rows c)) (λ r s _ _ e. λ i. (e i).row) (once_keep (f c) (rows c) (sets c m)))
      (λ c d z m n p q. map_inj (λ c. c.aid) cs one m n (sym (owner_is c z p) ∙ owner_is d z q))
    where
      owner_is : (c : Contract) (z : Link) → In z (links_of c) → z.owner ≡ c.aid
      owner_is c z m = let p = map_in (λ r. record { owner = c.aid; row = r }) (keep (f c) (rows c)) m in λ i. (p.2 i).owner
