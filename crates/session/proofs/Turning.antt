-- The code's turn is the definition's, and what the program does with it. Assumes nothing.
use Prim.Native.Nat.{ℕ, ◌-◌, ◌≤◌}
use mathlib.Core.Path.{◌≡◌, refl, sym, ap, ◌∙◌, subst}
use mathlib.Core.Bool.{Bool}
use mathlib.Core.List.{List, ◌++◌}
use lib.ListN.{length, take, get_or}
use lib.Seq.{length-take-le, take_at}
use Rattle.lines.specs.declared.Held.TheVariants.{Record, Start, Bad, End}
use Rattle.lines.specs.Lines.{record_line, bad_line, Printed}
use Rattle.lines.specs.Frames.{held_as}
use Rattle.lines.specs.Session.{judging, Turn, reads, prints, closes, stops, turn}
use Rattle.lines.proofs.Session.{turn_by_lem}
use Rattle.session.specs.declared.Then.{Then}
use Rattle.session.specs.declared.Then.TheVariants as then
use Rattle.session.specs.declared.Progress.{Progress}
use Rattle.session.specs.Turned.{TurnedBy, Turned, took_in, gave_out, stopped, AdvancedBy, Advanced}

module _ (n : ℕ) (image l : List ℕ) (ended : Bool) where
  pub of_record : {k r : ℕ} {left lent text : List ℕ} → held_as l ended ≡ Record k
      → Printed (record_line n (get_or (take k l) 3 0) (judging image (take k l)).0 (judging image (take k l)).1) lent r text × (left ≡ (judging image (take k l)).2)
      → Turned (turn n image l ended) (then.Line r) image left lent text
  of_record {k = k} e (p, q) =
      let line : List ℕ = record_line n (get_or (take k l) 3 0) (judging image (take k l)).0 (judging image (take k l)).1 in
      record { is = (line, turn_by_lem n image l ended e ∙ ap (λ (z : List ℕ). prints line z) (sym q), p) }

  pub of_start : {k : ℕ} {lent text : List ℕ} → held_as l ended ≡ Start k → Turned (turn n image l ended) (then.Read k) image image lent text
  of_start e = record { is = (turn_by_lem n image l ended e, refl) }

  pub of_bad : {r : ℕ} {lent text : List ℕ} → held_as l ended ≡ Bad → Printed (bad_line n) lent r text → Turned (turn n image l ended) (then.Last r) image image lent text
  of_bad e p = record { is = (_, turn_by_lem n image l ended e, p, refl) }

  pub of_end : {lent text : List ℕ} → held_as l ended ≡ End → Turned (turn n image l ended) then.End image image lent text
  of_end e = record { is = (turn_by_lem n image l ended e, refl) }

-- ---- what the code's turn tells
module _ {t : Turn} {r : Then} {image left lent text : List ℕ} (h : Turned t r image left lent text) where
  pub told_read : {k : ℕ} → r ≡ then.Read k → (t ≡ reads k) × (left ≡ image)
  told_read e = subst (λ (z : Then). TurnedBy t z image left lent text) e h.is

  pub told_line : {n : ℕ} → r ≡ then.Line n → (line : List ℕ) × (t ≡ prints line left) × Printed line lent n text
  told_line e = subst (λ (z : Then). TurnedBy t z image left lent text) e h.is

  pub told_last : {n : ℕ} → r ≡ then.Last n → (line : List ℕ) × (t ≡ closes line) × Printed line lent n text × (left ≡ image)
  told_last e = subst (λ (z : Then). TurnedBy t z image left lent text) e h.is

  pub told_end : r ≡ then.End → (t ≡ stops) × (left ≡ image)
  told_end e = subst (λ (z : Then). TurnedBy t z image left lent text) e h.is

-- ---- the program's turn
module _ {t : Turn} {p q : Progress} {image left lent buf : List ℕ} where
  pub by_read : {k : ℕ} (got : ℕ) → (t ≡ reads k) × (left ≡ image) → q ≡ took_in p (k - p.have) got → got ≤ k - p.have → take p.have buf ≡ take p.have lent
      → Advanced t p q image left lent buf
  by_read got e s most keeps = record { is = subst (λ (z : Turn). AdvancedBy z p q image left lent buf) (sym e.0) (got, most, s, keeps, e.1) }

  pub by_line : {line : List ℕ} (taken : Bool) → t ≡ prints line left → q ≡ gave_out p taken → Advanced t p q image left lent buf
  by_line taken e s = record { is = subst (λ (z : Turn). AdvancedBy z p q image left lent buf) (sym e) (taken, s, refl) }

  pub by_last : {line : List ℕ} → t ≡ closes line → q ≡ stopped p → buf ≡ lent → left ≡ image → Advanced t p q image left lent buf
  by_last e s keeps f = record { is = subst (λ (z : Turn). AdvancedBy z p q image left lent buf) (sym e) (s, keeps, f) }

  pub by_end : (t ≡ stops) × (left ≡ image) → q ≡ stopped p → buf ≡ lent → Advanced t p q image left lent buf
  by_end e s keeps = record { is = subst (λ (z : Turn). AdvancedBy z p q image left lent buf) (sym e.0) (s, keeps, e.1) }

-- bytes behind those held are no part of them
pub keeps_held : (n : ℕ) (lent rest : List ℕ) → n ≤ length lent → take n (take n lent ++ rest) ≡ take n lent
keeps_held n lent rest h = take_at (take n lent) rest n (length-take-le n lent h)
