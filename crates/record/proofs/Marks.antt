-- Rows sifted by their marks: only a row whose mark was met may be one of those before it. Assumes nothing.
use Prim.Native.Nat.{ℕ, ◌/◌, ◌%◌, ◌<◌}
use native.Mathlib.Omega.{arith}
use mathlib.Core.Path.{◌≡◌, refl, sym, ap, ◌∙◌}
use mathlib.Core.Logic.{◌⊎◌, inl, inr}
use mathlib.Core.Bool.{Bool, true, false, not, ◌&&◌, ◌||◌, or-true}
use mathlib.Core.List.{List, [], ◌∷◌, ◌++◌}
use mathlib.Core.List.Memᴰ.{not-nil as in_nil}
use mathlib.Core.List.{Memᴰ as In}
use lib.Dec.{T, eqb, eqb→eq}
use lib.ListN.{length, get_or, replicate, length-set}
use lib.Seq.{get_or-set_same, get_or-set_other}
use borrow.Author.Tests.{eq-eqb, not-true, not-false}
use Rattle.policy.specs.Lists.{NoRepeat}
use Rattle.policy.specs.Contract.{Aid as Bytes, Row, has_row}
use Rattle.policy.specs.Tables.{bit, row_of}
use Rattle.policy.proofs.Sets.{false_T, not_i, test, once_snoc, each_snoc}
use Rattle.policy.proofs.Equal.{eqb_of}
use Rattle.policy.proofs.Bits.{bit_row_of}
use Rattle.record.specs.Marks.{row_mark, marked, with_mark, Sifts}
use Rattle.record.proofs.Others.{own_row}

-- ---- a row's mark
mark_low : (r : Row) → row_mark r < 2048
unfolding row_mark
mark_low r = omega arith

pub mark_fits : (r : Row) {h : ℕ} → h ≡ row_mark r → h < 2048
mark_fits r e = omega (arith, mark_low r)

-- ---- the marks that were met, and one more
module _ (seen : List ℕ) (h : ℕ) (long : length seen ≡ 32) (low : h < 2048) where
  word : get_or (with_mark h seen) (h / 64) 0 ≡ row_of 64 (λ j. eqb j (h % 64) || bit (get_or seen (h / 64) 0) j)
  unfolding with_mark
  word = get_or-set_same seen (h / 64) _ 0 (omega arith)

  in_word : (k : ℕ) → k < 64 → bit (get_or (with_mark h seen) (h / 64) 0) k ≡ eqb k (h % 64) || bit (get_or seen (h / 64) 0) k
  in_word k l = ap (λ (w : ℕ). bit w k) word ∙ bit_row_of 64 (λ j. eqb j (h % 64) || bit (get_or seen (h / 64) 0) j) k l

  mark_met : marked (with_mark h seen) h ≡ true
  unfolding marked
  mark_met = in_word (h % 64) (omega arith) ∙ ap (λ (b : Bool). b || bit (get_or seen (h / 64) 0) (h % 64)) (eq-eqb (h % 64) (h % 64) refl)

  mark_stays : (g : ℕ) → marked seen g ≡ true → marked (with_mark h seen) g ≡ true
  unfolding marked with_mark
  mark_stays g m = go (test (eqb (g / 64) (h / 64)))
    where
      go : T (eqb (g / 64) (h / 64)) ⊎ (T (eqb (g / 64) (h / 64)) → ⊥) → bit (get_or (with_mark h seen) (g / 64) 0) (g % 64) ≡ true
      go (inl t) =
          let e : g / 64 ≡ h / 64 = eqb→eq (g / 64) (h / 64) t in
          ap (λ (k : ℕ). bit (get_or (with_mark h seen) k 0) (g % 64)) e ∙ in_word (g % 64) (omega arith)
          ∙ ap (λ (b : Bool). eqb (g % 64) (h % 64) || b) (sym (ap (λ (k : ℕ). bit (get_or seen k 0) (g % 64)) e) ∙ m) ∙ or-true (eqb (g % 64) (h % 64))
      go (inr f) = ap (λ (w : ℕ). bit w (g % 64)) (get_or-set_other seen (h / 64) (g / 64) _ 0 (λ e. f (eqb_of e))) ∙ m

  long_still : length (with_mark h seen) ≡ 32
  unfolding with_mark
  long_still = length-set seen (h / 64) _ ∙ long

-- the comparison decides where the mark was met
module _ {x : Row} {h : ℕ} {seen then : List ℕ} {m : Bool} (e : h ≡ row_mark x) (g : (m ≡ marked seen h) × (then ≡ with_mark h seen)) {l : List Row} where
  sifts : {b : Bool} → b ≡ (m && has_row x l) → Sifts x l seen b then
  sifts f = record { found = f ∙ ap (λ (z : Bool). z && has_row x l) (g.0 ∙ ap (marked seen) e); marks = g.1 ∙ ap (λ (k : ℕ). with_mark k seen) e }

  pub sifts_new : not m ≡ true → Sifts x l seen false then
  sifts_new n = sifts (ap (λ (z : Bool). z && has_row x l) (sym (not-true m n)))

  pub sifts_met : {b : Bool} → b ≡ has_row x l → not m ≡ false → Sifts x l seen b then
  sifts_met f n = sifts (f ∙ ap (λ (z : Bool). z && has_row x l) (sym (not-false m n)))

-- ---- the rows so far: none is the own, none stands twice, and the mark of each was met
pub record Sifted (own : Bytes) (l : List Row) (seen : List ℕ) : Type 0 where
  pub long : length seen ≡ 32
  pub away : (x : Row) → In x l → T (not (own_row own x))
  pub once : NoRepeat l
  pub met : (x : Row) → In x l → marked seen (row_mark x) ≡ true

pub sifted_none : {own : Bytes} → Sifted own [] (replicate 32 0)
sifted_none = record { long = refl; away = λ x m. absurd (in_nil m); once = tt; met = λ x m. absurd (in_nil m) }

pub sifted_more : {own : Bytes} {l : List Row} {x : Row} {seen : List ℕ} → Sifted own l seen → own_row own x ≡ false → (In x l → ⊥) → Sifted own (l ++ (x ∷ [])) (with_mark (row_mark x) seen)
sifted_more {own} {l} {x} {seen} h e f =
    record {
      long = long_still seen (row_mark x) h.long (mark_low x);
      away = each_snoc {P = λ y. T (not (own_row own y))} l x h.away (not_i (own_row own x) (false_T e));
      once = once_snoc l x h.once f;
      met = each_snoc {P = λ y. marked (with_mark (row_mark x) seen) (row_mark y) ≡ true} l x
          (λ y m. mark_stays seen (row_mark x) h.long (mark_low x) (row_mark y) (h.met y m)) (mark_met seen (row_mark x) h.long (mark_low x));
    }
