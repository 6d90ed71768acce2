-- Parts of an image: bytes that are zero, bytes that are the same, and the places of AIDs.
use Prim.Native.Nat.{ℕ, zero, suc, ◌+◌, ◌-◌, ◌≤◌, ◌<◌}
use native.Mathlib.Omega.{arith}
use mathlib.Core.Path.{◌≡◌, refl, sym, ap, ◌∙◌, subst}
use mathlib.Core.Bool.{◌&&◌}
use mathlib.Core.List.{List, [], ◌∷◌, ◌++◌}
use lib.Dec.{T, eqb, leb, eqb→eq, leb→le, le→leb}
use lib.ListN.{length, get_or, take, drop, replicate, length-replicate, get_or-replicate, take-append-drop}
use lib.Seq.{drop_at, length-take-le, ext_get_or}
use Rattle.policy.specs.Lists.{every}
use Rattle.policy.specs.Contract.{Aid, valid_aid}
use Rattle.policy.specs.Tables.{read_aid, write_aid}
use Rattle.policy.proofs.Sets.{and_l, and_r, and_i, eq_bytes→}
use Rattle.policy.proofs.Equal.{eq_aid_of}
use Rattle.rows.proofs.Parts.{part_length, part_byte, part_rest, part_cons}
use Rattle.soundness.specs.Check.{byte_at, part_at, is_zero, zeros_at, same_at, aid_ok}

-- ---- lists
every_zero : (p : List ℕ) → T (every is_zero p) → p ≡ replicate (length p) 0
every_zero [] h = refl
every_zero (x ∷ p) h = λ i. eqb→eq x 0 (and_l (eqb x 0) (every is_zero p) h) i ∷ every_zero p (and_r (eqb x 0) (every is_zero p) h) i

zero_every : (n : ℕ) → T (every is_zero (replicate n 0))
zero_every zero = tt
zero_every (suc n) = and_i (eqb 0 0) (every is_zero (replicate n 0)) tt (zero_every n)

-- ---- zeros
module _ (l : List ℕ) where
  module _ (at n : ℕ) where
    pub zeros_part : at + n ≤ length l → T (zeros_at l at n) → part_at l at n ≡ replicate n 0
    unfolding zeros_at
    zeros_part h z = every_zero (part_at l at n) z ∙ ap (λ (k : ℕ). replicate k 0) (part_length l at n h)

    pub part_zeros : part_at l at n ≡ replicate n 0 → T (zeros_at l at n)
    unfolding zeros_at
    part_zeros e = subst (λ (z : List ℕ). T (every is_zero z)) (sym e) (zero_every n)

    pub zero_byte : at + n ≤ length l → T (zeros_at l at n) → (k : ℕ) → k < n → byte_at l (at + k) ≡ 0
    zero_byte h z k p = sym (part_byte l at n k p) ∙ ap (λ (q : List ℕ). get_or q k 0) (zeros_part h z) ∙ get_or-replicate n k 0 0 p

    pub byte_zeros : at + n ≤ length l → ((k : ℕ) → k < n → byte_at l (at + k) ≡ 0) → T (zeros_at l at n)
    byte_zeros h z = part_zeros (ext_get_or 0 (part_at l at n) (replicate n 0) (part_length l at n h ∙ sym (length-replicate n 0))
        (λ k p. let q : k < n = subst (λ (m : ℕ). k < m) (part_length l at n h) p in part_byte l at n k q ∙ z k q ∙ sym (get_or-replicate n k 0 0 q)))

  -- ---- the same bytes
  module _ (a b n : ℕ) where
    pub same_part : T (same_at l a b n) → part_at l a n ≡ part_at l b n
    unfolding same_at
    same_part h = eq_bytes→ (part_at l a n) (part_at l b n) h

    pub part_same : part_at l a n ≡ part_at l b n → T (same_at l a b n)
    unfolding same_at
    part_same e = eq_aid_of e

-- ---- the place of an AID
abbrev pub Filled : List ℕ → Type 0
Filled p = write_aid (read_aid p) ≡ p

pub filled_inj : {p q : List ℕ} → Filled p → Filled q → read_aid p ≡ read_aid q → p ≡ q
filled_inj f g e = sym f ∙ ap write_aid e ∙ g

-- a length of 5 to 16, that many bytes, and zeros
fill : (n : ℕ) (b : List ℕ) → length b ≡ 16 → 5 ≤ n → n ≤ 16 → drop n b ≡ replicate (16 - n) 0 → Filled (n ∷ b) × T (valid_aid (take n b))
fill n b e h m z =
    let k : length (take n b) ≡ n = length-take-le n b (omega arith) in (
      rw k (ap (λ (q : List ℕ). n ∷ take n b ++ q) (sym z) ∙ ap (λ (q : List ℕ). n ∷ q) (take-append-drop n b)),
      rw k (and_i (leb 5 n) (leb n 16) (le→leb 5 n h) (le→leb n 16 m)),
    )

module _ (l : List ℕ) (at : ℕ) (h : at + 17 ≤ length l) where
  abbrev place : List ℕ
  place = part_at l at 17

  abbrev size : ℕ
  size = byte_at l at

  abbrev body : List ℕ
  body = part_at l (at + 1) 16

  place_is : place ≡ size ∷ body
  place_is = part_cons l at 16 (omega arith)

  pub ok_filled : T (aid_ok l at) → Filled place × T (valid_aid (read_aid place))
  unfolding aid_ok
  ok_filled t =
      let sized : T (leb 5 size && leb size 16) = and_l (leb 5 size && leb size 16) (zeros_at l (at + (1 + size)) (16 - size)) t in
      let zeros : T (zeros_at l (at + (1 + size)) (16 - size)) = and_r (leb 5 size && leb size 16) (zeros_at l (at + (1 + size)) (16 - size)) t in
      let five : 5 ≤ size = leb→le 5 size (and_l (leb 5 size) (leb size 16) sized) in
      let most : size ≤ 16 = leb→le size 16 (and_r (leb 5 size) (leb size 16) sized) in
      let e : at + (1 + size) ≡ at + 1 + size = omega arith in
      let rest : drop size body ≡ replicate (16 - size) 0 =
      part_rest l (at + 1) 16 size most ∙ ap (λ (k : ℕ). part_at l k (16 - size)) (sym e) ∙ zeros_part l (at + (1 + size)) (16 - size) (omega arith) zeros in
      rw place_is (fill size body (part_length l (at + 1) 16 (omega arith)) five most rest)

  pub filled_ok : (a : Aid) → T (valid_aid a) → place ≡ write_aid a → T (aid_ok l at)
  unfolding aid_ok
  filled_ok a v e =
      let n : length a ≡ size = sym (ap (λ (q : List ℕ). get_or q 0 0) (sym place_is ∙ e)) in
      let b : body ≡ a ++ replicate (16 - length a) 0 = ap (drop 1) (sym place_is ∙ e) in
      let s : T (leb 5 size && leb size 16) = subst (λ (k : ℕ). T (leb 5 k && leb k 16)) n v in
      let most : size ≤ 16 = leb→le size 16 (and_r (leb 5 size) (leb size 16) s) in
      let p : at + (1 + size) ≡ at + 1 + size = omega arith in
      let rest : part_at l (at + (1 + size)) (16 - size) ≡ replicate (16 - size) 0 =
      ap (λ (k : ℕ). part_at l k (16 - size)) p ∙ sym (part_rest l (at + 1) 16 size most) ∙ ap (drop size) b
      ∙ drop_at a (replicate (16 - length a) 0) size n ∙ ap (λ (k : ℕ). replicate (16 - k) 0) n in
      and_i (leb 5 size && leb size 16) (zeros_at l (at + (1 + size)) (16 - size)) s (part_zeros l (at + (1 + size)) (16 - size) rest)

  pub zeros_blank : T (zeros_at l at 17) → place ≡ write_aid []
  zeros_blank z = zeros_part l at 17 h z

  pub blank_zeros : place ≡ write_aid [] → T (zeros_at l at 17)
  blank_zeros e = part_zeros l at 17 e
