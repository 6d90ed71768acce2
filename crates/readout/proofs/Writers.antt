-- What a pen puts: bytes one after another, those that stand only where a test passes, and loops. Assumes nothing.
use Prim.Native.Nat.{ℕ, ◌+◌, ◌≤◌, ◌<◌}
use native.Mathlib.Omega.{arith}
use native.Mathlib.Nat.{add-zero}
use mathlib.Core.Path.{◌≡◌, refl, sym, ap, ◌∙◌, subst}
use mathlib.Core.Bool.{Bool, true, false}
use mathlib.Core.List.{List, [], ◌++◌, append-nil}
use lib.ListN.{length, take, drop, length-append, take-append-drop}
use Rattle.policy.specs.Lists.{flat, upto}
use Rattle.policy.specs.Tables.{bit, row_of}
use Rattle.bits.proofs.Row.{bit_seen}
use Rattle.bits.proofs.Gathered.{flat_snoc, flat_room}
use Rattle.rows.specs.Area.{over}
use Rattle.rows.proofs.Over.{over_on}
use Rattle.readout.specs.declared.pen.Pen.{Pen}
use Rattle.readout.specs.Parts.{Put, Short, given}

-- ---- what a pen puts
pub put_nothing : (p : Pen) → Put p [] p
put_nothing p = record {
  lent = refl;
  same = refl;
  ends = sym (add-zero p.at);
  leaves = λ _. sym (take-append-drop p.at p.out.now) ∙ ap (λ (x : ℕ). take p.at p.out.now ++ drop x p.out.now) (sym (add-zero p.at));
}

-- ---- bytes, and others after them
pub short_first : (p : Pen) (a b : List ℕ) → Short p (a ++ b) → Short p a
short_first p a b h = let e = length-append a b in omega arith

module _ {p q : Pen} {a : List ℕ} (u : Put p a q) where
  pub short_next : (b : List ℕ) → Short p (a ++ b) → Short q b
  short_next b h = let e = length-append a b in omega (arith, u.ends)

  pub after : {b : List ℕ} {r : Pen} → Put q b r → Put p (a ++ b) r
  after {b} {r} v =
      let e = length-append a b in
      record {
        lent = v.lent ∙ u.lent;
        same = v.same ∙ u.same;
        ends = omega (arith, u.ends, v.ends);
        leaves = λ h.
            let l : p.at + length a ≤ length p.out.now = omega arith in
            let k : q.at + length b ≤ length q.out.now = omega (arith, u.ends, u.same) in
            v.leaves k ∙ ap (over q.at b) (u.leaves l) ∙ over_on p.at a p.out.now l q.at b u.ends;
      }

-- ---- the same bytes by another name
pub short_as : (p : Pen) (a b : List ℕ) → a ≡ b → Short p b → Short p a
short_as p a b e h = subst (λ (z : List ℕ). Short p z) (sym e) h

pub put_as : {p q : Pen} (a b : List ℕ) → a ≡ b → Put p a q → Put p b q
put_as {p} {q} a b e h = subst (λ (z : List ℕ). Put p z q) e h

-- ---- bytes that stand only where a test passes
module _ (t : Bool) (bytes : List ℕ) where
  pub given_here : t ≡ true → given t bytes ≡ bytes
  given_here e = ap (λ (b : Bool). given b bytes) e

  pub given_none : (p : Pen) → t ≡ false → Put p (given t bytes) p
  given_none p e = put_as [] (given t bytes) (λ i. given (sym e i) bytes) (put_nothing p)

-- and only where a bit of a row is set, which code has read as b
module _ (m : ℕ) (f : ℕ → Bool) (row k : ℕ) (b : Bool) (e : row ≡ row_of m f) (l : k < m) (d : b ≡ bit row k) where
  pub bit_on : b ≡ true → (bytes mine : List ℕ) → mine ≡ bytes → mine ≡ given (f k) bytes
  bit_on t bytes mine q = q ∙ sym (given_here (f k) bytes (sym (bit_seen m f row k b d e l) ∙ t))

  pub bit_off : b ≡ false → (bytes : List ℕ) (p : Pen) → Put p (given (f k) bytes) p
  bit_off t bytes p = given_none (f k) bytes p (sym (bit_seen m f row k b d e l) ∙ t)

-- ---- two and three parts, which make up one: where each may start, and what they leave
pub record Shorts (p : Pen) (a b c : List ℕ) : Type 0 where
  pub first : Short p a
  pub second : {q : Pen} → Put p a q → Short q b
  pub third : {q r : Pen} → Put p a q → Put q b r → Short r c

module _ (a b c whole : List ℕ) (e : a ++ (b ++ c) ≡ whole) where
  pub three_short : (p : Pen) → Short p whole → Shorts p a b c
  three_short p s =
      let h : Short p (a ++ (b ++ c)) = short_as p (a ++ (b ++ c)) whole e s in
      record {
        first = short_first p a (b ++ c) h;
        second = λ {q} u. short_first q b c (short_next u (b ++ c) h);
        third = λ {q} {r} u v. short_next v c (short_next u (b ++ c) h);
      }

  pub three_put : {p q r n : Pen} → Put p a q → Put q b r → Put r c n → Put p whole n
  three_put u v w = put_as (a ++ (b ++ c)) whole e (after u (after v w))

module _ (a b whole : List ℕ) (e : a ++ b ≡ whole) where
  pub two_short : (p : Pen) → Short p whole → Shorts p a b []
  two_short p = three_short a b [] whole (ap (λ (z : List ℕ). a ++ z) (append-nil b) ∙ e) p

  pub two_put : {p q n : Pen} → Put p a q → Put q b n → Put p whole n
  two_put u v = put_as (a ++ b) whole e (after u v)

-- ---- a loop over the numbers below n that puts the bytes of each
module _ (f : ℕ → List ℕ) {p q : Pen} (i : ℕ) (h : Put p (flat f (upto i)) q) where
  pub turn_short : (n : ℕ) → i < n → Short p (flat f (upto n)) → Short q (f i)
  turn_short n l s = omega (arith, h.ends, flat_room f n i (omega arith))

  pub turn_on : {r : Pen} → Put q (f i) r → Put p (flat f (upto (i + 1))) r
  turn_on {r} v = put_as (flat f (upto i) ++ f i) (flat f (upto (i + 1))) (sym (flat_snoc f i)) (after h v)

  pub turn_all : (n : ℕ) → i ≡ n → Put p (flat f (upto n)) q
  turn_all n e = put_as (flat f (upto i)) (flat f (upto n)) (ap (λ (k : ℕ). flat f (upto k)) e) h
