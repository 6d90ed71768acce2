-- Marks of the items of a row, gathered in one number: only an item whose mark was met may be the same as one before it.
use Prim.Native.Nat.{ℕ, ◌+◌, ◌-◌, ◌%◌, ◌≤◌, ◌<◌}
use native.Mathlib.Omega.{arith}
use mathlib.Core.Path.{◌≡◌, refl, sym, ap, ap₂, ◌∙◌}
use mathlib.Core.Logic.{◌⊎◌, inl, inr}
use mathlib.Core.Bool.{Bool, true, false, not, ◌||◌, cond, or-true}
use mathlib.Core.List.{List}
use lib.Bits.{bit_xor}
use lib.Dec.{T, eqb}
use lib.ListN.{take, drop}
use lib.Seq.{take-take}
use borrow.Author.Tests.{eq-eqb}
use Rattle.policy.specs.Lists.{implies, every, upto}
use Rattle.policy.specs.Tables.{bit, row_of}
use Rattle.policy.proofs.Sets.{T_false, true_T, false_T, and_r}
use Rattle.policy.proofs.Pieces.{in_or_off}
use Rattle.policy.proofs.Bits.{bit_row_of}
use Rattle.bits.proofs.Loops.{every_intro}
use Rattle.rows.specs.Area.{little}
use Rattle.soundness.specs.Check.{part_at, zeros_at, same_at, tok_mark, row_mark, place_of, new_row, tok_place, has_tok, tok_fits}
use Rattle.rows.proofs.Parts.{part_rest}
use Rattle.soundness.proofs.Parts.{same_part}

module _ (h : ℕ → ℕ) (low : (q : ℕ) → h q < 64) where
  -- the marks of the first k items are among those in seen
  abbrev pub Marked : ℕ → ℕ → Type 0
  Marked seen k = (q : ℕ) → q < k → bit seen (h q) ≡ true

  pub marked_none : (seen : ℕ) → Marked seen 0
  marked_none seen q l = absurd (omega arith)

  pub marked_more : (seen s k : ℕ) {x : ℕ} → Marked seen k → x ≡ h k → s ≡ row_of 64 (λ j. eqb j x || bit seen j) → Marked s (k + 1)
  marked_more seen s k {x} m e f q l =
      ap (λ (z : ℕ). bit z (h q)) f ∙ bit_row_of 64 (λ j. eqb j x || bit seen j) (h q) (low q) ∙ go (in_or_off q k)
    where
      go : (q < k) ⊎ (k ≤ q) → eqb (h q) x || bit seen (h q) ≡ true
      go (inl i) = ap (λ (b : Bool). eqb (h q) x || b) (m q i) ∙ or-true (eqb (h q) x)
      go (inr i) = let p : q ≡ k = omega arith in ap (λ (b : Bool). b || bit seen (h q)) (eq-eqb (h q) x (ap h p ∙ sym e))

  -- item k need be compared with those before it only where its mark was met
  pub met_is : (same : ℕ → Bool) (seen k : ℕ) {x : ℕ} {met : Bool} → Marked seen k → x ≡ h k → met ≡ bit seen x → ((q : ℕ) → T (same q) → h q ≡ h k)
      → implies met (every (λ q. not (same q)) (upto k)) ≡ every (λ q. not (same q)) (upto k)
  met_is same seen k {x} {met} m e f alike = go met f
    where
      go : (b : Bool) → b ≡ bit seen x → implies b (every (λ q. not (same q)) (upto k)) ≡ every (λ q. not (same q)) (upto k)
      go true p = refl
      go false p = sym (every_intro (λ q. not (same q)) k (λ q l. ap not (T_false (same q) (λ t.
          false_T (sym p) (true_T (ap (bit seen) (e ∙ sym (alike q t)) ∙ m q l))))))

-- ---- the tokens of a package's services
module _ (l : List ℕ) (toks line prov : ℕ) where
  abbrev pub place : ℕ → ℕ
  place k = tok_place l toks line prov k

  abbrev pub toks_mark : ℕ → ℕ
  toks_mark k = tok_mark (little (part_at l (place k) 2))

  pub tok_low : (k : ℕ) → toks_mark k < 64
  tok_low k = omega arith

  -- the code's test of service k is that of the definition
  pub tok_met : (seen k : ℕ) {x : ℕ} {met r : Bool} → Marked toks_mark tok_low seen k → x ≡ toks_mark k → met ≡ bit seen x
      → r ≡ tok_fits l toks line prov met k → r ≡ tok_fits l toks line prov true k
  tok_met seen k {x} {met} m e f g =
      g ∙ ap (λ (b : Bool). cond (bit prov k) b (zeros_at l (place k) 2))
      (met_is toks_mark tok_low (has_tok l toks line prov (place k)) seen k m e f
      (λ q t. ap (λ (p : List ℕ). tok_mark (little p)) (sym (same_part l (place k) (place q) 2 (and_r (bit prov q) (same_at l (place k) (place q) 2) t)))))

-- ---- the rows of a list
module _ (l : List ℕ) (at w : ℕ) where
  abbrev pub rows_mark : ℕ → ℕ
  rows_mark r = row_mark l (place_of at w r) w

  pub row_low : (r : ℕ) → rows_mark r < 64
  row_low r = omega arith

  -- 8 bytes of the same rows are the same
  word_same : (a b e : ℕ) → e + 8 ≤ w → part_at l a w ≡ part_at l b w → part_at l (a + e) 8 ≡ part_at l (b + e) 8
  word_same a b e h p = sym (word a) ∙ ap (λ (z : List ℕ). take 8 (drop e z)) p ∙ word b
    where
      word : (c : ℕ) → take 8 (drop e (part_at l c w)) ≡ part_at l (c + e) 8
      word c = ap (take 8) (part_rest l c w e (omega arith)) ∙ take-take 8 (w - e) (drop (c + e) l) (omega arith)

  pub row_met : (seen r : ℕ) {x : ℕ} {met b : Bool} → 16 ≤ w → Marked rows_mark row_low seen r → x ≡ rows_mark r → met ≡ bit seen x → b ≡ implies met (new_row l at w r) → b ≡ new_row l at w r
  unfolding new_row
  row_met seen r h m e f g = g ∙ met_is rows_mark row_low (λ q. same_at l (place_of at w r) (place_of at w q) w) seen r m e f
      (λ q t. let p = sym (same_part l (place_of at w r) (place_of at w q) w t) in
      ap₂ (λ (x y : List ℕ). bit_xor (little x) (little y) % 59) (word_same (place_of at w q) (place_of at w r) (w - 16) (omega arith) p) (word_same (place_of at w q) (place_of at w r) (w - 8) (omega arith) p))
