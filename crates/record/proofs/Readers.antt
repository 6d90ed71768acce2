-- The code's readers against those of policy: one thing, and so many of them after a count. Assumes nothing.
use Prim.Native.Nat.{ℕ, suc, zero, ◌-◌, ◌≤◌, ◌<◌}
use mathlib.Core.Path.{◌≡◌, refl, sym, ◌∙◌}
use mathlib.Core.Bool.{Bool, true, false}
use mathlib.Core.List.{List, ◌∷◌}
use native.Mathlib.Omega.{arith}
use native.Mathlib.Numerals.{add-one, sub-one}
use lib.Dec.{T, leb}
use lib.ListN.{length, take, drop}
use borrow.Author.Tests.{le-leb, lt-leb}
use Rattle.std.specs.Prelude.{Option, Some, None, option_and_then}
use Rattle.policy.specs.Tables.{read_number}
use Rattle.policy.specs.Record.{Got, got, bad, Reader, and_then, given, done, number, aid, many, counted}
use Rattle.record.specs.Meaning.{items_of}
use Rattle.record.specs.Readable.{is_got}
use Rattle.record.specs.Reading.{count, after, times}
use Rattle.record.proofs.Fronts.{ReadsOnly, many_only, AidFront, aid_good, aid_bad, number_none, number_some}

-- ---- an AID, of its length byte and what follows it
module _ {s rest : List ℕ} {n : ℕ} (e : s ≡ n ∷ rest) where
  pub aid_none : (5 ≤ n → n ≤ 16 → n ≤ length rest → ⊥) → bad ≡ aid s
  aid_none h = rw e (sym (aid_bad (n ∷ rest) (λ f. h f.low f.high (omega (arith, f.long)))))

  pub aid_some : 5 ≤ n → n ≤ 16 → n ≤ length rest → got (take n rest) (drop n rest) ≡ aid s
  aid_some a b l =
      let f : AidFront (n ∷ rest) = record { some = omega arith; low = a; high = b; long = omega arith } in
      rw e (sym (simp add-one at (aid_good (n ∷ rest) f)))

-- ---- a count
module _ (w most : ℕ) (s : List ℕ) where
  pub count_none : length s < w → bad ≡ count w most s
  unfolding number
  count_none h = rw (number_none w 0 s h) refl

  count_form : {n : ℕ} → w ≤ length s → n ≡ read_number 0 (take w (drop 0 s)) → count w most s ≡ given (leb n most) (done n) (drop w s)
  unfolding number
  count_form h e = rw (number_some w 0 s h, ← e) refl

  pub count_over : {n : ℕ} → w ≤ length s → n ≡ read_number 0 (take w (drop 0 s)) → most < n → bad ≡ count w most s
  count_over {n} h e l = sym (count_form h e ∙ rw (lt-leb n most l) refl)

  pub count_some : {n : ℕ} → w ≤ length s → n ≡ read_number 0 (take w (drop 0 s)) → n ≤ most → got n (drop w s) ≡ count w most s
  count_some {n} h e l = sym (count_form h e ∙ rw (le-leb n most l) refl)

-- ---- so many things, one after another
module _ (f : List ℕ → Option (List ℕ)) (n : ℕ) (s : List ℕ) where
  pub times_none : 0 < n → None ≡ f s → times f n s ≡ None
  times_none l e = go n l
    where
      go : (k : ℕ) → 0 < k → times f k s ≡ None
      go zero l = absurd (omega arith)
      go (suc k) l = rw (← e) refl

  pub times_some : {t : List ℕ} → 0 < n → Some t ≡ f s → times f n s ≡ times f (n - 1) t
  times_some {t} l e = go n l
    where
      go : (k : ℕ) → 0 < k → times f k s ≡ times f (k - 1) t
      go zero l = absurd (omega arith)
      go (suc k) l = rw (← e, sub-one (suc k)) refl

module _ {A : Type 0} (p : Reader A) where
  then_after : (g : Got A) (n : ℕ) → ((s : List ℕ) → times (λ t. after (p t)) n s ≡ after (many p n s))
      → option_and_then (times (λ t. after (p t)) n) (after g) ≡ after (and_then g (λ a t. and_then (many p n t) (λ l u. got (a ∷ l) u)))
  then_after (got a t) n h = h t ∙ go (many p n t)
    where
      go : (g : Got (List A)) → after g ≡ after (and_then g (λ l u. got (a ∷ l) u))
      go (got l u) = refl
      go bad = refl
  then_after bad n h = refl

  pub times_many : (n : ℕ) (s : List ℕ) → times (λ t. after (p t)) n s ≡ after (many p n s)
  times_many zero s = refl
  times_many (suc n) s = then_after (p s) n (times_many n)

-- ---- a list: v reads its things, and p says what they are
module _ {A : Type 0} (v p : Reader A) (w most : ℕ) (s : List ℕ) where
  counted_is : counted w most v s ≡ and_then (count w most s) (λ n. many v n)
  unfolding counted
  counted_is = go (number w s)
    where
      by_test : (b : Bool) (n : ℕ) (t : List ℕ) → given b (many v n) t ≡ and_then (given b (done n) t) (λ n. many v n)
      by_test true n t = refl
      by_test false n t = refl

      go : (g : Got ℕ) → and_then g (λ n. given (leb n most) (many v n)) ≡ and_then (and_then g (λ n. given (leb n most) (done n))) (λ n. many v n)
      go (got n t) = by_test (leb n most) n t
      go bad = refl

  pub list_none : bad ≡ count w most s → bad ≡ counted w most v s
  list_none e = sym (counted_is ∙ rw (← e) refl)

  module _ {n : ℕ} {t : List ℕ} (e : got n t ≡ count w most s) where
    of_many : counted w most v s ≡ many v n t
    of_many = counted_is ∙ rw (← e) refl

    pub list_bad : None ≡ after (many v n t) → bad ≡ counted w most v s
    list_bad h = go (many v n t) h ∙ sym of_many
      where
        go : (g : Got (List A)) → None ≡ after g → bad ≡ g
        go (got l u) h = absurd (let z : ◌≡◌ {A = ℕ} 0 1 = cc in omega arith)
        go bad h = refl

    module _ {u : List ℕ} (only : ReadsOnly v p) (h : Some u ≡ after (many v n t)) where
      read : (l : List A) × (many v n t ≡ got l u)
      read = go (many v n t) h
        where
          go : (g : Got (List A)) → Some u ≡ after g → (l : List A) × (g ≡ got l u)
          go (got l x) h = (l, cc)
          go bad h = absurd (let z : ◌≡◌ {A = ℕ} 0 1 = cc in omega arith)

      same : many p n t ≡ got read.0 u
      same = many_only only n t read.0 u read.1

      pub list_holds : T (is_got (many p n t))
      list_holds = rw same tt

      pub list_good : got (items_of p n t) u ≡ counted w most v s
      list_good = rw same (sym (of_many ∙ read.1))
