-- What follows a thing that was read is an end of the bytes that it was read of. Assumes nothing.
use Prim.Native.Nat.{ℕ, suc, zero, ◌+◌, ◌*◌, ◌-◌, ◌≤◌}
use mathlib.Core.Path.{◌≡◌, refl, ap, sym, ◌∙◌}
use mathlib.Core.Bool.{Bool, true, false}
use mathlib.Core.List.{List, [], ◌∷◌}
use native.Mathlib.Omega.{arith}
use lib.ListN.{length, drop, get_or, length-drop}
use lib.Seq.{drop-drop}
use Rattle.policy.specs.Layout.{Layout}
use Rattle.policy.specs.Record.{Got, got, bad, Reader, and_then, ◌>>=◌, given, done, byte, number, number_from, aid, row_of, valid_tokens, valid_row, many, counted, token_list, caller_list, row_list}
use Rattle.record.proofs.Fronts.{AidFront, aid_fits, aid_good, ValidFront, valid_fit, valid_good}

-- t is what follows the first bytes of s
abbrev End : List ℕ → List ℕ → Type 0
End s t = (n : ℕ) × (n ≤ length s) × (t ≡ drop n s)

abbrev pub Ends : {A : Type 0} → Reader A → Type 0
Ends {A} p = (s : List ℕ) (a : A) (t : List ℕ) → p s ≡ got a t → End s t

no_got : {A B : Type 0} {a : A} {t : List ℕ} → ◌≡◌ {A = Got A} bad (got a t) → B
no_got e = absurd (let z : ◌≡◌ {A = ℕ} 0 1 = cc in omega arith)

ends_done : {A : Type 0} (a : A) → Ends (done a)
ends_done a s b t e = (0, omega arith, cc)

ends_then : {A B : Type 0} {p : Reader A} {f : A → Reader B} → Ends p → ((a : A) → Ends (f a)) → Ends (p >>= f)
ends_then {A} {B} {p} {f} h k s b u e = go (p s) refl e
  where
    go : (g : Got A) → p s ≡ g → and_then g f ≡ got b u → End s u
    go (got a t) q j =
        let x = h s a t q in
        let y = k a t b u j in
        (x.0 + y.0, omega (arith, x.1, y.1, ap length x.2, length-drop x.0 s), y.2 ∙ ap (drop y.0) x.2 ∙ drop-drop y.0 x.0 s)
    go bad q j = no_got j

ends_given : {A : Type 0} (b : Bool) {p : Reader A} → Ends p → Ends (given b p)
ends_given true h = h
ends_given false h = λ s a t e. no_got e

ends_byte : Ends byte
unfolding byte
ends_byte [] a t e = no_got e
ends_byte (b ∷ s) a t e = (1, omega arith, cc)

ends_number_from : (w n : ℕ) → Ends (number_from w n)
ends_number_from zero n = ends_done n
ends_number_from (suc w) n = ends_then {p = byte} {f = λ b. number_from w (n * 256 + b)} ends_byte (λ b. ends_number_from w (n * 256 + b))

ends_number : (w : ℕ) → Ends (number w)
unfolding number
ends_number w = ends_number_from w 0

pub ends_aid : Ends aid
ends_aid s a t e =
    let f : AidFront s = aid_fits s e in
    let g = sym e ∙ aid_good s f in
    (get_or s 0 0 + 1, omega (arith, f.long), let z : t ≡ drop (get_or s 0 0 + 1) s = cc in z)

module _ (L : Layout) where
  pub ends_tokens : Ends (valid_tokens L)
  ends_tokens s a t e =
      let f : ValidFront L s = valid_fit L s e in
      (2, f.long, let g = sym e ∙ valid_good L s f in let z : t ≡ drop 2 s = cc in z)

  pub ends_row : Ends (valid_row L)
  unfolding row_of
  ends_row = ends_then {p = aid} ends_aid (λ a. ends_then {p = valid_tokens L} {f = λ k. done (record { aid = a; tok = k })} ends_tokens (λ k. ends_done _))

  ends_many : {A : Type 0} {p : Reader A} → Ends p → (n : ℕ) → Ends (many p n)
  ends_many h zero = ends_done []
  ends_many {p = p} h (suc n) = ends_then {p = p} h (λ a. ends_then {p = many p n} {f = λ l. done (a ∷ l)} (ends_many h n) (λ l. ends_done _))

  ends_counted : {A : Type 0} {p : Reader A} (w most : ℕ) → Ends p → Ends (counted w most p)
  unfolding counted
  ends_counted {p = p} w most h = ends_then {p = number w} (ends_number w) (λ n. ends_given _ {p = many p n} (ends_many h n))

  pub ends_services : Ends (token_list L)
  ends_services = ends_counted 1 L.services ends_tokens

  pub ends_callers : Ends (caller_list L)
  ends_callers = ends_counted 1 L.most_callers ends_aid

  pub ends_rows : Ends (row_list L)
  ends_rows = ends_counted L.count_width L.most_rows ends_row

-- the position where it begins, in the whole record s
module _ {A : Type 0} {p : Reader A} (h : Ends p) (s : List ℕ) {at : ℕ} {a : A} {t : List ℕ} (l : at ≤ length s) (e : got a t ≡ p (drop at s)) where
  end : End (drop at s) t
  end = h (drop at s) a t (sym e)

  pub end_low : length t ≤ length s
  end_low = omega (arith, ap length end.2, length-drop end.0 (drop at s), length-drop at s)

  pub end_here : drop (length s - length t) s ≡ t
  end_here =
      let k : length s - length t ≡ at + end.0 = omega (arith, end.1, ap length end.2, length-drop end.0 (drop at s), length-drop at s) in
      rw k (sym (end.2 ∙ drop-drop end.0 at s))
