-- What each write of R-2's converter leaves, and that it stays in the two images: `search writes`; and the answer of both converters.
use Prim.Native.Nat.{ℕ, ◌+◌, ◌*◌, ◌-◌, ◌≤◌, ◌<◌}
use native.Mathlib.Omega.{arith}
use mathlib.Core.Path.{◌≡◌, refl, sym, ap, ◌∙◌}
use mathlib.Core.Bool.{Bool, true, false, cond}
use mathlib.Core.List.{List, ◌++◌, append_assoc}
use borrow.Rule.Slice.PartMut.{put_mid}
use lib.Dec.{T}
use lib.ListN.{length, take, drop, replicate, length-append, length-replicate}
use Rattle.policy.specs.Lists.{flat, upto}
use Rattle.policy.specs.Layout.{Layout, narrow, small}
use Rattle.policy.specs.Sound.{sound}
use Rattle.policy.specs.Judge.{Out, refusal}
use Rattle.policy.specs.Eras.{carried, convert}
use Rattle.policy.proofs.Pieces.{length_table}
use Rattle.geometry.specs.Geometry.{place_at}
use Rattle.geometry.specs.declared.Kept.TheVariants.{WaitingGrants}
use Rattle.rows.specs.Area.{part, over}
use Rattle.rows.proofs.Over.{length_over, length_part}
use Rattle.converter.specs.Converted.{old_at, old_count, named_at, front_of, new_row, Converted}
use Rattle.converter.proofs.Laid.{put_part, put_zeros, over_next, over_whole, Laid, laid_none, laid_all}
use Rattle.converter.proofs.Old.{old_size, few, callee_lt, service_lt, row_in, tokens_in_lem, row_long, carried_bytes}

module _ (old : List ℕ) (ok : T (sound narrow old)) where
  -- row r, which is read from `from` and `tok` and written to `to`
  pub row_made : (r : ℕ) → r < old_count old → (out : List ℕ) → length out ≡ 1110 → (from tok to : ℕ) → from ≡ old_at r → tok ≡ named_at old from → to ≡ place_at small WaitingGrants r
      → (one two : List ℕ) → one ≡ take (from + 18 - from) (drop from old) → two ≡ take (tok + 2 - tok) (drop tok old)
      → put_mid (to + 18) (to + 20 - (to + 18)) (put_mid to (to + 18 - to) out one) two ≡ over (place_at small WaitingGrants r) (new_row old r) out
  unfolding new_row
  row_made r lt out sized from tok to ef et e one two p q =
      let inside : from + 18 ≤ length old = omega (arith, old_size old ok, row_in old ok r lt) in
      let named : tok ≡ named_at old (old_at r) = et ∙ ap (named_at old) ef in
      let tok_in : tok + 2 ≤ length old = omega (arith, old_size old ok, tokens_in_lem old ok r lt) in
      let k : length (part from 18 old) ≡ 18 = length_part from 18 old inside in
      over_next to (part from 18 old) out 18 k (to + 18) (part tok 2 old) _ _ (put_part to (to + 18) 18 out one old from (from + 18) refl refl inside p)
      (put_part (to + 18) (to + 20) 2 _ two old tok (tok + 2) (omega arith) refl tok_in q) (omega (arith, few old ok)) refl
      ∙ (λ i. over (e i) (part (ef i) 18 old ++ part (named i) 2 old) out)

  -- ---- the loop over the rows
  pub rows_none : (n : ℕ) (out : List ℕ) → n ≤ old_count old → length out ≡ 1110 → Laid (new_row old) 20 790 n out out 0
  rows_none n out h e = laid_none (new_row old) 20 790 n out (λ i lt. row_long old ok i (omega arith)) (omega (arith, few old ok))

  rows_long : (n : ℕ) → n ≤ old_count old → length (flat (new_row old) (upto n)) ≡ n * 20
  rows_long n h = length_table (new_row old) 20 n (λ i lt. row_long old ok i (omega arith))

  -- ---- the whole
  module _ (out : List ℕ) (sized : length out ≡ 1110) where
    abbrev front : List ℕ
    front = small.header ++ front_of old

    front_long : length front ≡ 790
    front_long = omega (arith, length_part 3 787 old (omega (arith, old_size old ok)))

    -- the header, then the part up to the rows
    pub front_made : (end : ℕ) → end ≡ 790 → (one two : List ℕ) → one ≡ small.header → two ≡ over 3 (take (end - 3) (drop 3 old)) (one ++ drop 3 out) → two ≡ over 0 front out
    front_made end e one two p q =
        over_next 0 small.header out 3 refl 3 (front_of old) _ _ (ap (λ (z : List ℕ). z ++ drop 3 out) p)
        (q ∙ ap (λ (k : ℕ). over 3 (take (k - 3) (drop 3 old)) (one ++ drop 3 out)) e) (omega arith) refl

    -- the rows, after the front, then zeros to the end
    pub all_made : (n : ℕ) → n ≡ old_count old → (one two : List ℕ) (r : ℕ) → one ≡ over 0 front out → Laid (new_row old) 20 790 n one two r → n ≤ r → (end : ℕ) → end ≡ place_at small WaitingGrants n
        → (zeros : List ℕ) → zeros ≡ replicate (length (take (length two - end) (drop end two))) 0 → put_mid end (length two - end) two zeros ≡ carried narrow small old
    all_made n i one two r p h le end e zeros z =
        let new = flat (new_row old) (upto n) in
        let fits = few old ok in
        let both_long : length (front ++ new) ≡ 790 + n * 20 = length-append front new ∙ omega (arith, front_long, rows_long n (omega arith)) in
        let two_is : two ≡ over 0 (front ++ new) out = over_next 0 front out 790 front_long 790 new one two p (laid_all h le) (omega arith) refl in
        let two_long : length two ≡ 1110 = ap length two_is ∙ length_over 0 (front ++ new) out (omega (arith, both_long)) ∙ sized in
        let fill : length two - end ≡ 1110 - place_at small WaitingGrants (old_count old) = rw (← i) (omega (arith, two_long)) in
        let rest = replicate {A = ℕ} (length two - end) 0 in
        put_zeros end (length two) two zeros (omega (arith, two_long)) (omega arith) z
        ∙ over_next 0 (front ++ new) out (790 + n * 20) both_long end rest two _ two_is refl (omega arith) (omega arith)
        ∙ over_whole ((front ++ new) ++ rest) out (length-append (front ++ new) rest ∙ rw (both_long, length-replicate) (omega (arith, two_long)))
        ∙ append_assoc front new rest ∙ (λ j. front ++ (flat (new_row old) (upto (i j)) ++ replicate (fill j) 0)) ∙ sym (carried_bytes old ok)

-- ---- the answer
abbrev accepted : List ℕ → Out
accepted b = record { answered = 0; second = 0; bytes = b }

module _ (L M : Layout) (old lent : List ℕ) where
  -- what the caller has of it
  pub convert_is : (b : Bool) (left : List ℕ) → Converted L M old lent b left → convert L M old lent ≡ record { answered = cond b 0 1; second = cond b 0 255; bytes = left }
  unfolding convert
  convert_is b left h = ap (λ (x : Bool). cond x (accepted (carried L M old)) (refusal 1 255 lent)) (sym h.answer) ∙ go b h.bytes
    where
      go : (b : Bool) → left ≡ cond b (carried L M old) lent → cond b (accepted (carried L M old)) (refusal 1 255 lent) ≡ record { answered = cond b 0 1; second = cond b 0 255; bytes = left }
      go true e = λ i. record { answered = 0; second = 0; bytes = sym e i }
      go false e = λ i. record { answered = 1; second = 255; bytes = sym e i }

pub ruleset writes = (few, old_size, row_in, tokens_in_lem, callee_lt, service_lt)
