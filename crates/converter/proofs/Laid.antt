-- Bytes laid side by side: a loop that writes a piece in each turn, one write after another, and a buffer written whole. Assumes nothing.
use Prim.Native.Nat.{ℕ, ◌+◌, ◌*◌, ◌-◌, ◌≤◌, ◌<◌}
use native.Mathlib.Omega.{arith}
use native.Mathlib.Nat.{add-zero, zero-add}
use mathlib.Core.Path.{◌≡◌, refl, sym, ap, ◌∙◌}
use mathlib.Core.List.{List, ◌++◌, append-nil}
use lib.ListN.{length, take, drop, replicate, take-append-drop, length-append, length-replicate}
use lib.Seq.{drop-length}
use Rattle.policy.specs.Lists.{flat, upto}
use Rattle.converter.specs.Enlarged.{filled}
use Rattle.policy.proofs.Pieces.{length_table, row_ends}
use Rattle.bits.proofs.Gathered.{flat_snoc}
use Rattle.rows.specs.Area.{part, over}
use Rattle.rows.proofs.Over.{over_on, length_over, length_part, lent}
use borrow.Rule.Slice.PartMut.{put_mid}

-- ---- a write to a part of a buffer: bytes, and bytes copied from a part of another
pub put_over : (a n : ℕ) (out x : List ℕ) → length x ≡ n → put_mid a n out x ≡ over a x out
put_over a n out x e = lent a n x out e

pub put_part : (to end n : ℕ) (out one src : List ℕ) (from last : ℕ) → end ≡ to + n → last ≡ from + n → last ≤ length src
    → one ≡ take (last - from) (drop from src) → put_mid to (end - to) out one ≡ over to (part from n src) out
put_part to end n out one src from last e f room p =
    let k : end - to ≡ n = omega arith in
    let m : last - from ≡ n = omega arith in
    let q : one ≡ part from n src = p ∙ ap (λ (i : ℕ). take i (drop from src)) m in
    (λ i. put_mid to (k i) out (q i)) ∙ put_over to n out (part from n src) (length_part from n src (omega arith))

-- zeros to the end of a part
pub put_zeros : (to end : ℕ) (out one : List ℕ) → to ≤ end → end ≤ length out
    → one ≡ replicate (length (take (end - to) (drop to out))) 0 → put_mid to (end - to) out one ≡ over to (replicate (end - to) 0) out
put_zeros to end out one h room p =
    let k : length (take (end - to) (drop to out)) ≡ end - to = length_part to (end - to) out (omega arith) in
    ap (put_mid to (end - to) out) (p ∙ ap (λ (n : ℕ). replicate n 0) k) ∙ put_over to (end - to) out (replicate (end - to) 0) (length-replicate (end - to) 0)

-- bytes in a part, filled up with zeros
pub put_filled : (to end k n : ℕ) (out one x : List ℕ) → length x ≡ k → end ≡ to + (k + n) → end ≤ length out
    → one ≡ filled (length (take (end - to) (drop to out))) x → put_mid to (end - to) out one ≡ over to (x ++ replicate n 0) out
put_filled to end k n out one x long e room p =
    let m : length (take (end - to) (drop to out)) ≡ k + n = length_part to (end - to) out (omega arith) ∙ omega arith in
    let d : length (take (end - to) (drop to out)) - length x ≡ n = omega (arith, m) in
    let q : one ≡ x ++ replicate n 0 = p ∙ ap (λ (i : ℕ). x ++ replicate i 0) d in
    ap (put_mid to (end - to) out) q ∙ put_over to (end - to) out (x ++ replicate n 0) (length-append x (replicate n 0) ∙ rw (long, length-replicate) (omega arith))

-- ---- writes one after another, the first of k bytes, the second of m
module _ (at : ℕ) (x out : List ℕ) (k : ℕ) (long : length x ≡ k) where
  pub over_next : (to : ℕ) (y one two : List ℕ) → one ≡ over at x out → two ≡ over to y one → at + k ≤ length out → to ≡ at + k → two ≡ over at (x ++ y) out
  over_next to y one two p q room e = q ∙ ap (over to y) p ∙ over_on at x out (omega arith) to y (omega arith)

  pub over_third : (to : ℕ) (y : List ℕ) (m : ℕ) → length y ≡ m → (end : ℕ) (z one two three : List ℕ) → one ≡ over at x out → two ≡ over to y one → three ≡ over end z two
      → at + (k + m) ≤ length out → to ≡ at + k → end ≡ at + (k + m) → three ≡ over at ((x ++ y) ++ z) out
  over_third to y m h end z one two three p q r room e f =
      let both : length (x ++ y) ≡ k + m = length-append x y ∙ (λ i. long i + h i) in
      r ∙ ap (over end z) (over_next to y one two p q (omega arith) e) ∙ over_on at (x ++ y) out (omega arith) end z (omega arith)

-- the whole buffer
pub over_whole : (x l : List ℕ) → length x ≡ length l → over 0 x l ≡ x
over_whole x l e = ap (λ (k : ℕ). x ++ drop k l) (zero-add (length x) ∙ e) ∙ ap (λ (z : List ℕ). x ++ z) (drop-length l) ∙ append-nil x

-- ---- a loop that lays n pieces of w bytes from index `at` on, and has made r turns
pub record Laid (f : ℕ → List ℕ) (w at n : ℕ) (out new : List ℕ) (r : ℕ) : Type 0 where
  pub wide : (i : ℕ) → i < n → length (f i) ≡ w
  pub room : at + n * w ≤ length out
  pub within : r ≤ n
  pub sized : length new ≡ length out
  pub is : new ≡ over at (flat f (upto r)) out

pub laid_none : (f : ℕ → List ℕ) (w at n : ℕ) (out : List ℕ) → ((i : ℕ) → i < n → length (f i) ≡ w) → at + n * w ≤ length out → Laid f w at n out out 0
laid_none f w at n out h e = record { wide = h; room = e; within = omega arith; sized = refl; is = rw add-zero (sym (take-append-drop at out)) }

module _ {f : ℕ → List ℕ} {w at n : ℕ} {out new : List ℕ} {r : ℕ} (h : Laid f w at n out new r) where
  pub laid_on : (to : ℕ) (next : List ℕ) → r < n → to ≡ at + r * w → next ≡ over to (f r) new → Laid f w at n out next (r + 1)
  laid_on to next lt e p =
      let long : length (f r) ≡ w = h.wide r lt in
      let made : length (flat f (upto r)) ≡ r * w = length_table f w r (λ i k. h.wide i (omega arith)) in
      let ends = row_ends r n w lt in
      record {
        wide = h.wide;
        room = h.room;
        within = omega arith;
        sized = ap length p ∙ length_over to (f r) new (omega (arith, h.sized, h.room)) ∙ h.sized;
        is = over_next at (flat f (upto r)) out (r * w) made to (f r) new next h.is p (omega (arith, h.room)) e ∙ ap (λ (z : List ℕ). over at z out) (sym (flat_snoc f r));
      }

  pub laid_all : n ≤ r → new ≡ over at (flat f (upto n)) out
  laid_all p = let e : r ≡ n = omega (arith, h.within) in h.is ∙ ap (λ (k : ℕ). over at (flat f (upto k)) out) e

  -- and zeros after them all
  pub laid_filled : n ≤ r → (to d : ℕ) (next : List ℕ) → to ≡ at + n * w → next ≡ over to (replicate d 0) new → next ≡ over at (flat f (upto n) ++ replicate d 0) out
  laid_filled p to d next e q = over_next at (flat f (upto n)) out (n * w) (length_table f w n h.wide) to (replicate d 0) new next (laid_all p) q h.room e
