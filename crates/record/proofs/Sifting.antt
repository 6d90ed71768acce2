-- A loop over the rows of a list, those before it sifted by their marks; and how many rows fit in so many bytes. Assumes nothing.
use Prim.Native.Nat.{ℕ, suc, zero, ◌+◌, ◌≤◌, ◌<◌}
use native.Mathlib.Omega.{arith}
use mathlib.Core.Path.{◌≡◌, refl, sym, ap, ◌∙◌}
use mathlib.Core.Bool.{Bool, true, false, not, ◌&&◌}
use mathlib.Core.List.{List, [], ◌∷◌, ◌++◌}
use mathlib.Core.List.Memᴰ.{append_right as in_right}
use mathlib.Core.List.Memᴰ.{head as here}
use lib.Dec.{T}
use lib.ListN.{length, take, drop, get_or, length-drop, replicate, take-append-drop}
use lib.Seq.{drop-drop, take-add, take_all}
use Rattle.policy.specs.Lists.{distinct}
use Rattle.policy.specs.Contract.{Aid as Bytes, Row, eq_row, has_row}
use Rattle.policy.specs.Record.{got, a_row, many, not_own}
use Rattle.policy.proofs.Sets.{T_true, T_false, true_T, false_T, and_l, and_r, and_i, not_e, every_in, in_every, once_behind, distinct→once, once→distinct}
use Rattle.policy.proofs.Equal.{eq_row→, eq_row_refl, has_row_lem, row_has}
use Rattle.record.specs.Meaning.{items_of, Good}
use Rattle.record.specs.Readable.{is_got}
use Rattle.record.specs.Marks.{row_mark, marked, Sifts}
use Rattle.record.proofs.Marks.{Sifted, sifted_none, sifted_more}
use Rattle.record.proofs.Others.{own_row}
use Rattle.record.proofs.Places.{RowFits, row_fits, row_form, good_first}
use Rattle.record.proofs.Split.{good, good_cons, cons_value}

-- ---- the rows of all from the k-th on are to come
pub record Sifting (own : Bytes) (all todo : List Row) (k : ℕ) (seen : List ℕ) : Type 0 where
  pub inside : k ≤ length all
  pub last : todo ≡ drop k all
  pub sifted : Sifted own (take k all) seen

abbrev proper : Bytes → List Row → Bool
proper own l = not_own own l && distinct eq_row l

pub sifting_start : (own : Bytes) (all : List Row) → Sifting own all all 0 (replicate 32 0)
sifting_start own all = record { inside = omega arith; last = refl; sifted = sifted_none }

module _ {own : Bytes} {all todo : List Row} {k : ℕ} {seen : List ℕ} (h : Sifting own all todo k seen) where
  pub sifting_left : length todo + k ≡ length all
  sifting_left = omega (arith, h.inside, ap length h.last, length-drop k all)

  pub sifting_end : todo ≡ [] → true ≡ proper own all
  sifting_end e =
      let l = take k all in
      let n : take k all ≡ all = take_all k all (omega (arith, sifting_left, ap length e)) in
      sym (T_true (proper own l) (and_i (not_own own l) (distinct eq_row l) (in_every _ l h.sifted.away) (once→distinct eq_row eq_row→ eq_row_refl l h.sifted.once)))
      ∙ ap (proper own) n

  -- the next row: it is the own, it is one of those before it, or it is one more
  module _ {x : Row} {rest : List Row} (e : todo ≡ x ∷ rest) {o : Bool} (w : o ≡ own_row own x) where
    abbrev so_far : List Row
    so_far = take k all

    abbrev whole : List Row
    whole = so_far ++ (x ∷ rest)

    fails : (T (not_own own whole) → T (distinct eq_row whole) → ⊥) → false ≡ proper own all
    fails f =
        sym (T_false (proper own whole) (λ t. f (and_l (not_own own whole) (distinct eq_row whole) t) (and_r (not_own own whole) (distinct eq_row whole) t)))
        ∙ ap (proper own) (ap (λ (r : List Row). so_far ++ r) (sym e ∙ h.last) ∙ take-append-drop k all)

    pub sifting_own : o ≡ true → false ≡ proper own all
    sifting_own t = fails (λ a d. not_e (own_row own x) (every_in (λ y. not (own_row own y)) whole a (in_right so_far (here refl))) (true_T (sym w ∙ t)))

    module _ {then : List ℕ} {b : Bool} (g : Sifts x so_far seen b then) where
      pub sifting_twice : b ≡ true → false ≡ proper own all
      sifting_twice t = fails (λ a d. once_behind so_far x rest (distinct→once eq_row eq_row→ eq_row_refl whole d)
          (has_row_lem x so_far (and_r (marked seen (row_mark x)) (has_row x so_far) (true_T (sym g.found ∙ t)))))

      pub sifting_next : o ≡ false → b ≡ false → Sifting own all rest (k + 1) then
      sifting_next t f =
          let d : drop k all ≡ x ∷ rest = sym h.last ∙ e in
          record {
            inside = omega (arith, ap length d, length-drop k all);
            last = sym (sym (drop-drop 1 k all) ∙ ap (drop 1) d);
            sifted = rw (take-add k 1 all, d, g.marks) (sifted_more h.sifted (sym w ∙ t)
                (λ i. false_T (sym g.found ∙ f) (and_i (marked seen (row_mark x)) (has_row x so_far) (true_T (h.sifted.met x i)) (row_has i))));
          }

-- ---- so many rows are at least so many bytes
row_short : (s : List ℕ) {r : Row} {t : List ℕ} → a_row s ≡ got r t → length t < length s
row_short s {r} {t} e =
    let f : RowFits s = row_fits s (rw e tt) in
    let g = sym e ∙ row_form s f in
    let z : t ≡ drop (get_or s 0 0 + 1 + 2) s = cc in
    omega (arith, ap length z, length-drop (get_or s 0 0 + 1 + 2) s, f.front.some)

rows_below : (n : ℕ) (s : List ℕ) → Good (many a_row n s) → length (items_of a_row n s) ≤ length s
rows_below zero s h = omega arith
rows_below (suc n) s h =
    let f = good_first (a_row s) _ h in
    let m : Good (many a_row n f.1) = good_cons f.0 (many a_row n f.1) (rw f.2 at h) in
    rw (f.2, cons_value f.0 (many a_row n f.1) m) (omega (arith, row_short s f.2, rows_below n f.1 m))

pub rows_low : (n : ℕ) (s : List ℕ) → T (is_got (many a_row n s)) → length (items_of a_row n s) ≤ length s
rows_low n s h = rows_below n s (good (many a_row n s) h)
