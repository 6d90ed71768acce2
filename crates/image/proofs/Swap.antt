-- Two lists of bytes that differ in one segment only: where it stands in both, and so what is read there and what is written there.
use Prim.Native.Nat.{ℕ, suc, ◌+◌, ◌*◌, ◌-◌, ◌<◌}
use native.Mathlib.Omega.{arith}
use native.Mathlib.Nat.{add_assoc, lt_trans, lt_irrefl}
use mathlib.Core.Path.{◌≡◌, refl, sym, ap, ◌∙◌, subst}
use mathlib.Core.List.{List, [], ◌∷◌, ◌++◌, append_assoc, append-nil}
use mathlib.Core.List.{Memᴰ as In}
use lib.ListN.{length, get_or, take, drop, length-append}
use lib.Seq.{take_at, drop_at, get_or_at, get_or-take, get_or-drop, drop-drop}
use Rattle.policy.specs.Lists.{flat, from, upto}
use Rattle.policy.proofs.Sets.{flat_append, flat_ext, length_from, from_in, upto_in}
use Rattle.policy.proofs.Pieces.{length_flat, length_table}
use Rattle.bits.proofs.Loops.{upto_split}
use Rattle.rows.specs.Area.{over}

-- a has s from `off` on, b has s' there, and for the rest they are equal
pub record Swap (a b : List ℕ) (off : ℕ) (s s' : List ℕ) : Type 0 where
  pub front : List ℕ
  pub back : List ℕ
  pub front_length : length front ≡ off
  pub one : a ≡ front ++ (s ++ back)
  pub two : b ≡ front ++ (s' ++ back)

module _ {a b : List ℕ} {off : ℕ} {s s' : List ℕ} (h : Swap a b off s s') where
  -- ---- what is read
  pub swap_drop : drop off a ≡ s ++ h.back
  swap_drop = ap (drop off) h.one ∙ drop_at h.front (s ++ h.back) off h.front_length

  pub swap_read : (n : ℕ) → length s ≡ n → take n (drop off a) ≡ s
  swap_read n e = ap (take n) swap_drop ∙ take_at s h.back n e

  -- ---- what is written
  pub swap_write : length s ≡ length s' → b ≡ over off s' a
  swap_write e =
      let p : take off a ≡ h.front = ap (take off) h.one ∙ take_at h.front (s ++ h.back) off h.front_length in
      let q : drop (off + length s') a ≡ h.back = sym (drop-drop (length s') off a) ∙ ap (drop (length s')) swap_drop ∙ drop_at s h.back (length s') e in
      h.two ∙ λ i. sym p i ++ (s' ++ sym q i)

  pub swap_cast : {x : ℕ} {t t' : List ℕ} → off ≡ x → s ≡ t → s' ≡ t' → Swap a b x t t'
  swap_cast e p q = record {
    front = h.front;
    back = h.back;
    front_length = h.front_length ∙ e;
    one = h.one ∙ ap (λ (z : List ℕ). h.front ++ (z ++ h.back)) p;
    two = h.two ∙ ap (λ (z : List ℕ). h.front ++ (z ++ h.back)) q;
  }

pub swap_byte : {a b : List ℕ} {off x : ℕ} {s s' : List ℕ} → Swap a b off (x ∷ s) s' → (d : ℕ) → get_or a off d ≡ x
swap_byte {off = off} {x = x} {s = s} h d = ap (λ (z : List ℕ). get_or z off d) h.one ∙ get_or_at h.front x (s ++ h.back) d off h.front_length

-- byte i of what is read from `off` on
pub segment_byte : (l : List ℕ) (off n i d : ℕ) {s : List ℕ} → take n (drop off l) ≡ s → i < n → get_or l (off + i) d ≡ get_or s i d
segment_byte l off n i d e lt = sym (get_or-drop off l i d) ∙ sym (get_or-take n (drop off l) i d lt) ∙ ap (λ (z : List ℕ). get_or z i d) e

-- ---- narrower: the whole, past a part that both have, and the part before one that both have
pub swap_after : (p s s' : List ℕ) {n : ℕ} → length p ≡ n → Swap (p ++ s) (p ++ s') n s s'
swap_after p s s' e = record {
  front = p;
  back = [];
  front_length = e;
  one = ap (λ (z : List ℕ). p ++ z) (sym (append-nil s));
  two = ap (λ (z : List ℕ). p ++ z) (sym (append-nil s'));
}

module _ {a b : List ℕ} {off : ℕ} where
  pub swap_skip : (p s s' : List ℕ) {n : ℕ} → length p ≡ n → Swap a b off (p ++ s) (p ++ s') → Swap a b (off + n) s s'
  swap_skip p s s' e h = record {
    front = h.front ++ p;
    back = h.back;
    front_length = length-append h.front p ∙ λ i. h.front_length i + e i;
    one = h.one ∙ seam s;
    two = h.two ∙ seam s';
  }
    where
      seam : (z : List ℕ) → h.front ++ ((p ++ z) ++ h.back) ≡ (h.front ++ p) ++ (z ++ h.back)
      seam z = ap (λ (y : List ℕ). h.front ++ y) (append_assoc p z h.back) ∙ sym (append_assoc h.front p (z ++ h.back))

  pub swap_head : (s s' r : List ℕ) → Swap a b off (s ++ r) (s' ++ r) → Swap a b off s s'
  swap_head s s' r h = record {
    front = h.front;
    back = r ++ h.back;
    front_length = h.front_length;
    one = h.one ∙ seam s;
    two = h.two ∙ seam s';
  }
    where
      seam : (z : List ℕ) → h.front ++ ((z ++ r) ++ h.back) ≡ h.front ++ (z ++ (r ++ h.back))
      seam z = ap (λ (y : List ℕ). h.front ++ y) (append_assoc z r h.back)

-- ---- one of many parts of w bytes each
module _ {A : Type 0} (f g : A → List ℕ) (w : ℕ) (xs : List A) (u v : A) (ys : List A) {a b : List ℕ} {off : ℕ} where
  pub swap_among : ((x : A) → In x xs → length (f x) ≡ w) → ((x : A) → In x xs → f x ≡ g x) → ((y : A) → In y ys → f y ≡ g y)
      → Swap a b off (flat f (xs ++ (u ∷ ys))) (flat g (xs ++ (v ∷ ys))) → Swap a b (off + length xs * w) (f u) (g v)
  swap_among wide before after h =
      swap_head (f u) (g v) (flat f ys) (swap_skip (flat f xs) (f u ++ flat f ys) (g v ++ flat f ys) (length_flat f w xs wide) (swap_cast h refl (flat_append f xs (u ∷ ys))
      (flat_append g xs (v ∷ ys) ∙ λ i. sym (flat_ext f g xs before) i ++ (g v ++ sym (flat_ext f g ys after) i))))

module _ (f g : ℕ → List ℕ) (w n k : ℕ) {a b : List ℕ} {off : ℕ} where
  pub swap_upto : k < n → ((i : ℕ) → i < n → length (f i) ≡ w) → ((i : ℕ) → (i ≡ k → ⊥) → f i ≡ g i) → Swap a b off (flat f (upto n)) (flat g (upto n)) → Swap a b (off + k * w) (f k) (g k)
  swap_upto lt wide same h =
      let d : n ≡ k + suc (n - suc k) = omega arith in
      let e : upto n ≡ upto k ++ (k ∷ from (suc k) (n - suc k)) = ap upto d ∙ upto_split k (suc (n - suc k)) in
      let q : Swap a b (off + length (upto k) * w) (f k) (g k) =
      swap_among f g w (upto k) k k (from (suc k) (n - suc k)) (λ i m. wide i (lt_trans (upto_in k m) lt)) (λ i m. same i (λ z. lt_irrefl k (subst (λ (y : ℕ). y < k) z (upto_in k m))))
      (λ i m. same i (λ z. lt_irrefl k (subst (λ (y : ℕ). k < y) z (from_in (suc k) (n - suc k) m).0))) (swap_cast h refl (ap (flat f) e) (ap (flat g) e)) in
      swap_cast q (ap (λ (z : ℕ). off + z * w) (length_from 0 k)) refl refl

-- and of lines of such parts
module _ (f g : ℕ → ℕ → List ℕ) (w n m i j : ℕ) {a b : List ℕ} {off : ℕ} where
  pub swap_grid : i < n → j < m → ((x y : ℕ) → length (f x y) ≡ w) → ((x y : ℕ) → ((x ≡ i) × (y ≡ j) → ⊥) → f x y ≡ g x y)
      → Swap a b off (flat (λ x. flat (f x) (upto m)) (upto n)) (flat (λ x. flat (g x) (upto m)) (upto n)) → Swap a b (off + (i * (m * w) + j * w)) (f i j) (g i j)
  swap_grid p q wide same h =
      let line = swap_upto (λ x. flat (f x) (upto m)) (λ x. flat (g x) (upto m)) (m * w) n i p (λ x r. length_table (f x) w m (λ y s. wide x y))
      (λ x ne. flat_ext (f x) (g x) (upto m) (λ y _. same x y (λ e. ne e.0))) h in
      swap_cast (swap_upto (f i) (g i) w m j q (λ y s. wide i y) (λ y ne. same i y (λ e. ne e.1)) line) (add_assoc off (i * (m * w)) (j * w)) refl refl
