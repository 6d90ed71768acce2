-- What the session program prints, one frame at a time: the turns of its loop. Assumes nothing.
use Prim.Native.Nat.{ℕ, zero, suc, ◌+◌, ◌*◌, ◌-◌, ◌≤◌, ◌<◌}
use mathlib.Core.Path.{◌≡◌, refl, sym, ap, ◌∙◌, subst}
use mathlib.Core.Bool.{Bool, true, false, cond}
use mathlib.Core.List.{List, [], ◌++◌, append_assoc}
use native.Mathlib.Omega.{arith}
use lib.Dec.{ltb}
use lib.ListN.{length, get_or, take, drop, length-append, length-take, length-drop, take-append-drop, drop_of_length-le}
use borrow.Author.Tests.{ltb-true, ltb-false}
use Rattle.policy.specs.Layout.{small}
use Rattle.policy.specs.Tables.{empty_image}
use Rattle.policy.specs.Judge.{judge}
use Rattle.lines.specs.Lines.{record_line, bad_line}
use Rattle.lines.specs.Frames.{ends, broken, holds, frame, Session, held_as}
use Rattle.lines.specs.declared.Held.{Held}
use Rattle.lines.specs.declared.Held.TheVariants.{Record, Start, Bad, End}
use Rattle.lines.specs.Session.{lines, transcript_from, judging, printed, Turn, reads, prints, closes, stops, turn_by, turn, Turns, read, print, close, stop}
use Rattle.lines.specs.Reached.{IsFrame}
use Rattle.lines.proofs.Frames.{session_ends, session_bad, session_holds}
use Rattle.lines.proofs.Holding.{Part, Begun, Sees, sees}

module _ {S : Type 0} (step : S → List ℕ → ℕ × ℕ × S) (n : ℕ) (state : S) (s : List ℕ) where
  printing : Session → List ℕ
  printing q = lines step n state q.records q.bad

  pub transcript_ends : frame s ≡ ends → transcript_from step n state s ≡ []
  unfolding printing
  transcript_ends e = ap printing (session_ends s e)

  pub transcript_bad : frame s ≡ broken → transcript_from step n state s ≡ bad_line n
  unfolding printing
  transcript_bad e = ap printing (session_bad s e)

  pub transcript_holds :
      (r rest : List ℕ) → frame s ≡ holds r rest
      → transcript_from step n state s ≡ record_line n (get_or r 3 0) (step state r).0 (step state r).1 ++ transcript_from step (suc n) (step state r).2 rest
  unfolding printing
  transcript_holds r rest e = ap printing (session_holds s r rest e)

-- ---- the turn, by what the bytes held are
module _ (n : ℕ) (image l : List ℕ) (ended : Bool) where
  pub turn_by_lem : {h : Held} → held_as l ended ≡ h → turn n image l ended ≡ turn_by n image l h
  unfolding turn
  turn_by_lem e = ap (λ (h : Held). turn_by n image l h) e

  -- what it calls for: more of the frame, or a frame that is judged
  abbrev pub Calls : Turn → Type 0
  Calls (reads k) = Begun l ended k
  Calls (prints line left) = (r : List ℕ) × IsFrame r × (left ≡ (judge small image r).bytes)
  Calls (closes line) = Unit {0}
  Calls stops = Unit {0}

  called : (h : Held) → Sees l ended h → Calls (turn_by n image l h)
  called (Record k) w = (take k l, w.own, refl)
  called (Start k) w = w
  called Bad w = tt
  called End w = tt

  pub calls : {t : Turn} → turn n image l ended ≡ t → Calls t
  calls e = subst (λ (x : Turn). Calls x) (sym (turn_by_lem refl) ∙ e) (called (held_as l ended) (sees l ended))

-- ---- turns print the transcript
module _ (n : ℕ) (image l : List ℕ) (ended : Bool) (rest : List ℕ) where
  -- what a turn does to the transcript of the input from there on
  abbrev Says : Turn → Type 0
  Says (reads k) = Unit {0}
  Says (prints text left) = transcript_from judging n image (l ++ rest) ≡ text ++ transcript_from judging (suc n) left rest
  Says (closes text) = transcript_from judging n image (l ++ rest) ≡ text
  Says stops = transcript_from judging n image (l ++ rest) ≡ []

  module _ (part : Part l) (last : ended ≡ true → rest ≡ []) where
    by_held : (h : Held) → Sees l ended h → Says (turn_by n image l h)
    by_held (Record k) w =
        transcript_holds judging n image (l ++ rest) (take k l) (drop k l ++ rest) (w.cuts rest)
        ∙ rw (drop_of_length-le l {i = k} (omega (arith, w.all part))) refl
    by_held (Start k) w = tt
    by_held Bad w = transcript_bad judging n image (l ++ rest) (w rest last)
    by_held End w = transcript_ends judging n image (l ++ rest) (w rest last)

    says : (t : Turn) → turn n image l ended ≡ t → Says t
    says t e = subst (λ (x : Turn). Says x) (sym (turn_by_lem n image l ended refl) ∙ e) (by_held (held_as l ended) (sees l ended))

-- nothing is held at first, and the input may go on
going : (s : List ℕ) → false ≡ true → s ≡ []
going s e = let z : ◌≡◌ {A = ℕ} 0 1 = cc in absurd (omega arith)

none_held : Part []
none_held high low s m q a = let z : ◌≡◌ {A = ℕ} 0 1 = cc in absurd (omega arith)

pub turns_print : {n : ℕ} {image l rest out : List ℕ} {ended : Bool} → Part l → (ended ≡ true → rest ≡ []) → Turns n image l ended rest out → out ≡ transcript_from judging n image (l ++ rest)
turns_print {n} {image} {l} part last (read {rest = rest} piece e s fits last₂ t) =
    turns_print ((calls n image l false e).onward piece fits) last₂ t ∙ ap (λ (x : List ℕ). transcript_from judging n image x) (append_assoc l piece rest ∙ ap (λ (x : List ℕ). l ++ x) (sym s))
turns_print {n} {image} {l} {rest} {ended = ended} part last (print {left = left} {text = text} e t) =
    ap (λ (x : List ℕ). text ++ x) (turns_print none_held last t) ∙ sym (says n image l ended rest part last (prints text left) e)
turns_print {n} {image} {l} {rest} {ended = ended} part last (close {text = text} e) = sym (says n image l ended rest part last (closes text) e)
turns_print {n} {image} {l} {rest} {ended = ended} part last (stop e) = sym (says n image l ended rest part last stops e)

-- from the start of an input on, in reads of any size
pub session_prints : {s out : List ℕ} → Turns 1 (empty_image small) [] false s out → out ≡ printed s
unfolding printed
session_prints {s} t = turns_print none_held (going s) t

-- and every input has such turns: a read takes as many bytes as are called for, or as are left
unread : List ℕ → Bool → List ℕ → ℕ
unread l ended rest = 3 * length rest + (2 * length l + cond ended 0 1)

abbrev Goes : ℕ → Type 0
Goes k = (n : ℕ) (image l rest : List ℕ) (ended : Bool) → Part l → (ended ≡ true → rest ≡ []) → unread l ended rest < k → (out : List ℕ) × Turns n image l ended rest out

goes : (k : ℕ) → Goes k
unfolding unread
goes zero n image l rest ended part last low = absurd (omega arith)
goes (suc k) n image l rest ended part last low = by (goes k) (held_as l ended) refl (sees l ended)
  where
    by : Goes k → (h : Held) → held_as l ended ≡ h → Sees l ended h → (out : List ℕ) × Turns n image l ended rest out
    by on (Record m) e w =
        let t = on (suc n) (judging image (take m l)).2 [] rest ended none_held last (omega (arith, w.least, w.within)) in
        (_, print (turn_by_lem n image l ended e) t.1)
    by on (Start m) e w =
        let p : length (l ++ take (m - length l) rest) ≤ m = simp (length-append, length-take) (omega (arith, w.more)) in
        let none : ltb (length rest) (m - length l) ≡ true → drop (m - length l) rest ≡ [] = λ q. drop_of_length-le rest {i = m - length l} (le_of_lt (ltb-true (length rest) (m - length l) q)) in
        let t = on n image (l ++ take (m - length l) rest) (drop (m - length l) rest) (ltb (length rest) (m - length l)) (w.onward _ p) none (less (ltb (length rest) (m - length l)) refl) in (
          t.0,
          subst (λ (b : Bool). Turns n image l b rest t.0) (sym w.going)
              (read (take (m - length l) rest) (subst (λ (b : Bool). turn n image l b ≡ reads m) w.going (turn_by_lem n image l ended e)) (sym (take-append-drop (m - length l) rest)) p none t.1),
        )
      where
        le_of_lt : {a b : ℕ} → a < b → a ≤ b
        le_of_lt h = omega arith

        less : (b : Bool) → ltb (length rest) (m - length l) ≡ b → unread (l ++ take (m - length l) rest) b (drop (m - length l) rest) < k
        less true q =
            let c : cond {A = ℕ} ended 0 1 ≡ 1 = rw w.going refl in
            let h : length rest < m - length l = ltb-true (length rest) (m - length l) q in
            simp (length-append, length-take, length-drop) (omega (arith, low, c, h))
        less false q =
            let c : cond {A = ℕ} ended 0 1 ≡ 1 = rw w.going refl in
            let h : m - length l ≤ length rest = ltb-false (length rest) (m - length l) q in
            simp (length-append, length-take, length-drop) (omega (arith, low, c, h, w.more))
    by on Bad e w = (_, close (turn_by_lem n image l ended e))
    by on End e w = (_, stop (turn_by_lem n image l ended e))

pub session_goes : (s : List ℕ) → (out : List ℕ) × Turns 1 (empty_image small) [] false s out
session_goes s = goes (suc (unread [] false s)) 1 (empty_image small) [] s false none_held (going s) (omega arith)
