-- Bytes put over a place of a list: loops that copy, a part that was lent, and places one after the other.
use Prim.Native.Nat.{ℕ, ◌+◌, ◌-◌, ◌≤◌, ◌<◌}
use native.Mathlib.Nat.{add_assoc}
use native.Mathlib.Numerals.{add-one}
use native.Mathlib.Omega.{arith}
use mathlib.Core.Path.{◌≡◌, refl, sym, ap, ◌∙◌}
use mathlib.Core.List.{List, ◌++◌, append_assoc}
use lib.ListN.{length, get_or, take, drop, take-append-drop, set, length-append, length-drop, length-set}
use lib.Seq.{paste, paste-zero, paste-suc, take-length, length-take-le, take_at, drop_at, drop-append-add, drop-drop, get_or-take, get_or-drop}
use Rattle.rows.specs.Area.{part, over}

-- ---- a loop that copies the n bytes of s into d from index at on, and has made j turns
pub record Copied (d : List ℕ) (at : ℕ) (s : List ℕ) (n : ℕ) (a : List ℕ) (j : ℕ) : Type 0 where
  pub room : at + n ≤ length d
  pub long : length s ≡ n
  pub within : j ≤ n
  pub same : length a ≡ length d
  pub is : a ≡ paste d at s j

pub copied_none : (d : List ℕ) (at : ℕ) (s : List ℕ) (n : ℕ) → at + n ≤ length d → length s ≡ n → Copied d at s n d 0
copied_none d at s n h e = record { room = h; long = e; within = omega arith; same = refl; is = paste-zero d at s }

module _ {d : List ℕ} {at : ℕ} {s : List ℕ} {n : ℕ} {a : List ℕ} {j : ℕ} (c : Copied d at s n a j) where
  pub copied_on : (b : ℕ) → j < n → b ≡ get_or s j 0 → Copied d at s n (set a (at + j) b) (j + 1)
  copied_on b h e =
      record {
        room = c.room;
        long = c.long;
        within = omega arith;
        same = simp length-set (omega arith);
        is = rw (c.is, e, add-one) (paste-suc d at s j 0 (omega arith) (omega arith));
      }

  pub copied_all : n ≤ j → a ≡ over at s d
  copied_all h =
      let e : j ≡ length s = omega arith in
      c.is ∙ rw (e, take-length, append_assoc)

-- past a first part whose length is known
past : (p q : List ℕ) (m n : ℕ) → length p ≡ m → drop (m + n) (p ++ q) ≡ drop n q
past p q m n e = rw (← e) (drop-append-add p q n)

pub length_part : (at n : ℕ) (l : List ℕ) → at + n ≤ length l → length (part at n l) ≡ n
length_part at n l h = length-take-le n (drop at l) (rw length-drop (omega arith))

pub get_d_part : (at n : ℕ) (l : List ℕ) (i : ℕ) → i < n → get_or (part at n l) i 0 ≡ get_or l (at + i) 0
get_d_part at n l i h = rw (get_or-take, get_or-drop)

-- ---- a part that was lent comes back over its place
pub lent : (at n : ℕ) (new l : List ℕ) → length new ≡ n → take at l ++ (new ++ drop n (drop at l)) ≡ over at new l
lent at n new l e = rw (drop-drop, e)

module _ (at : ℕ) (x l : List ℕ) (room : at + length x ≤ length l) where
  head_length : length (take at l ++ x) ≡ at + length x
  head_length = length-append (take at l) x ∙ rw (length-take-le at l (omega arith))

  regroup : over at x l ≡ (take at l ++ x) ++ drop (at + length x) l
  regroup = sym (append_assoc (take at l) x (drop (at + length x) l))

  drop_over : (n : ℕ) → drop (at + length x + n) (over at x l) ≡ drop (at + length x + n) l
  drop_over n =
      ap (drop (at + length x + n)) regroup ∙ past (take at l ++ x) (drop (at + length x) l) (at + length x) n head_length ∙ drop-drop n (at + length x) l

  -- bytes over the place that follows
  pub over_on : (m : ℕ) (y : List ℕ) → m ≡ at + length x → over m y (over at x l) ≡ over at (x ++ y) l
  over_on m y e =
      let t : take (at + length x) (over at x l) ≡ take at l ++ x = ap (take (at + length x)) regroup ∙ take_at (take at l ++ x) (drop (at + length x) l) (at + length x) head_length in
      rw (e, t, drop_over (length y), length-append, append_assoc (take at l) x, append_assoc x y, add_assoc)

  -- the place itself; a place after it is as it was
  pub part_at_lem : (n : ℕ) → length x ≡ n → part at n (over at x l) ≡ x
  part_at_lem n e =
      rw (drop_at (take at l) (x ++ drop (at + length x) l) at (length-take-le at l (omega arith))) (take_at x (drop (at + length x) l) n e)

  pub part_after : (i n : ℕ) → at + length x ≤ i → part i n (over at x l) ≡ part i n l
  part_after i n h =
      let e : at + length x + (i - (at + length x)) ≡ i = omega arith in
      ap (take n) (rw e at (drop_over (i - (at + length x))))

  pub length_over : length (over at x l) ≡ length l
  length_over = ap length regroup ∙ length-append (take at l ++ x) (drop (at + length x) l) ∙ rw (head_length, length-drop) (omega arith)

-- bytes put where they stand change nothing
pub over_where_it_stands : (a : List ℕ) (to from n : ℕ) → from + n ≤ length a → to ≡ from → a ≡ over to (part from n a) a
over_where_it_stands a to from n h e =
    sym (ap (λ (m : ℕ). over m (part from n a) a) e
    ∙ ap (λ (m : ℕ). take from a ++ (part from n a ++ drop (from + m) a)) (length_part from n a h)
    ∙ ap (λ (l : List ℕ). take from a ++ (part from n a ++ l)) (sym (drop-drop n from a))
    ∙ ap (λ (l : List ℕ). take from a ++ l) (take-append-drop n (drop from a)) ∙ take-append-drop from a)
