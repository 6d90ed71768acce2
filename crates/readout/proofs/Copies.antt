-- A copy of bytes, eight at a time: what the first words leave, and the rest after them. Assumes nothing.
use Prim.Native.Nat.{ℕ, ◌+◌, ◌*◌, ◌-◌, ◌≤◌}
use native.Mathlib.Omega.{arith}
use mathlib.Core.Path.{◌≡◌, sym, ap, ap₂, ◌∙◌}
use mathlib.Core.List.{List}
use borrow.Rule.Slice.PartMut.{put_mid}
use lib.ListN.{length, take, drop, length-drop}
use lib.Seq.{take-length, length-take-le}
use Rattle.std.proofs.Math.Seq.{take-add}
use Rattle.std.proofs.lemmas.List.{take-append-drop}
use Rattle.rows.specs.Area.{part, over}
use Rattle.rows.proofs.Over.{lent, over_on, length_part}

module _ (d s : List ℕ) (at k : ℕ) (room : at + length s ≤ length d) {out : List ℕ} (i : out ≡ over at (take (k * 8) s) d) where
  pub eight_more : {z : List ℕ} → k * 8 + 8 ≤ length s → z ≡ take (k * 8 + 8 - k * 8) (drop (k * 8) s)
      → put_mid (at + k * 8) (at + k * 8 + 8 - (at + k * 8)) out z ≡ over at (take ((k + 1) * 8) s) d
  eight_more {z} f p =
      let n : k * 8 + 8 - k * 8 ≡ 8 = omega arith in
      let q : z ≡ part (k * 8) 8 s = p ∙ ap (λ (m : ℕ). take m (drop (k * 8) s)) n in
      let e : length z ≡ at + k * 8 + 8 - (at + k * 8) = ap length q ∙ length_part (k * 8) 8 s f ∙ omega arith in
      let t = length-take-le (k * 8) s (omega arith) in
      lent (at + k * 8) (at + k * 8 + 8 - (at + k * 8)) z out e
      ∙ ap₂ (over (at + k * 8)) q i
      ∙ over_on at (take (k * 8) s) d (omega arith) (at + k * 8) (part (k * 8) 8 s) (omega arith)
      ∙ ap (λ (x : List ℕ). over at x d) (sym (take-add (k * 8) 8 s) ∙ ap (λ (m : ℕ). take m s) (omega arith))

  pub rest_too : k * 8 ≤ length s → over (at + k * 8) (take (length s - k * 8) (drop (k * 8) s)) out ≡ over at s d
  rest_too f =
      let t = length-take-le (k * 8) s f in
      let q : take (length s - k * 8) (drop (k * 8) s) ≡ drop (k * 8) s =
      ap (λ (m : ℕ). take m (drop (k * 8) s)) (sym (length-drop (k * 8) s)) ∙ take-length (drop (k * 8) s) in
      ap₂ (over (at + k * 8)) q i
      ∙ over_on at (take (k * 8) s) d (omega arith) (at + k * 8) (drop (k * 8) s) (omega arith)
      ∙ ap (λ (x : List ℕ). over at x d) (take-append-drop (k * 8) s)
