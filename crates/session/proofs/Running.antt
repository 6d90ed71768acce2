-- A run, turn by turn: how far it has come, what is left of it, and where it ends. Assumes nothing.
use Prim.Native.Nat.{ℕ, ◌+◌, ◌*◌, ◌-◌, ◌≤◌, ◌<◌}
use mathlib.Core.Path.{◌≡◌, refl, sym, ◌∙◌, subst}
use mathlib.Core.Logic.{◌⊎◌, inl, inr}
use mathlib.Core.Bool.{Bool, true, false, not, ◌&&◌, cond}
use mathlib.Core.List.{List}
use native.Mathlib.Numerals.{add-one}
use native.Mathlib.Omega.{arith}
use lib.Dec.{ltb}
use lib.ListN.{length, take}
use lib.Seq.{length-take-le}
use borrow.Author.Tests.{ltb-true, ltb-false}
use Rattle.lines.specs.Frames.{longest}
use Rattle.lines.specs.Session.{Turn, reads, prints, closes, stops, turn}
use Rattle.lines.specs.Reached.{Reached}
use Rattle.lines.proofs.Reached.{onward}
use Rattle.lines.proofs.Holding.{Begun}
use Rattle.lines.proofs.Session.{calls}
use Rattle.session.specs.declared.Progress.{Progress}
use Rattle.session.specs.Turned.{last_ordinal, Ready, started, took_in, gave_out, stopped, AdvancedBy, Advanced, Over}

-- a run on its way, or ended
pub record Runs (p : Progress) (image buf : List ℕ) : Type 0 where
  pub reached : Reached p.ordinal image
  pub held : p.have ≤ longest
  pub below : p.going ≡ true → p.ordinal < last_ordinal
  pub over : p.going ≡ false → Over (turn p.ordinal image (take p.have buf) p.ended) p

-- what is left: ordinals, and bytes of a frame
abbrev pub left_over_lem : Progress → ℕ
left_over_lem p = cond p.going ((last_ordinal - p.ordinal) * (longest + 3) + cond p.ended 1 (longest + 2 - p.have)) 0

never : {A : Type 0} {b : Bool} → b ≡ true → b ≡ false → A
never e f = let z : ◌≡◌ {A = Bool} true false = sym e ∙ f in absurd (let y : ◌≡◌ {A = ℕ} 0 1 = cc in omega arith)

halted : (t : Turn) (p : Progress) → (p.closed ≡ true) ⊎ (p.ordinal ≡ last_ordinal) → Over t p
halted (reads k) p h = h
halted (prints line after) p h = h
halted (closes line) p h = tt
halted stops p h = tt

-- the run starts
pub begins : {p : Progress} {image : List ℕ} (buf : List ℕ) → p ≡ started → Reached 1 image → Runs p image buf
begins {image = image} buf s r = subst (λ (p : Progress). Runs p image buf) (sym s)
    (record { reached = r; held = omega arith; below = λ e. omega arith; over = λ e. never refl e })

-- the next turn may follow
pub ready : {p : Progress} {image buf : List ℕ} → Runs p image buf → p.going ≡ true → length buf ≡ longest → Ready p buf
ready run on fits = record { buffer = fits; held = run.held; below = run.below on }

-- one turn: the run is on its way, and less is left
module _ (p : Progress) (image left lent buf : List ℕ) (run : Runs p image lent) (on : p.going ≡ true) (fits : length lent ≡ longest) where
  abbrev Moved : Progress → Type 0
  Moved q = Runs q left buf × (left_over_lem q < left_over_lem p)

  low : p.ordinal < last_ordinal
  low = run.below on

  some_left : (c : Bool) → 1 ≤ (last_ordinal - p.ordinal) * (longest + 3) + cond c 1 (longest + 2 - p.have)
  some_left c = omega (arith, low)

  ended : buf ≡ lent → left ≡ image → Over (turn p.ordinal image (take p.have lent) p.ended) (stopped p) → Moved (stopped p)
  ended keeps f o = (
    record {
      reached = rw f run.reached;
      held = run.held;
      below = λ g. never g refl;
      over = λ g. rw (f, keeps) o;
    },
    rw on (some_left p.ended),
  )

  took : (k got : ℕ) → Begun (take p.have lent) p.ended k → got ≤ k - p.have → left ≡ image → Moved (took_in p (k - p.have) got)
  took k got b most f =
      let n = length-take-le p.have lent (omega (arith, run.held, fits)) in (
        record {
          reached = rw f run.reached;
          held = omega (arith, most, b.more, b.most, n);
          below = λ g. low;
          over = λ g. never refl g;
        },
        rw (on, b.going) (less (omega (arith, b.more, n)) b.most (ltb got (k - p.have)) refl),
      )
    where
      less : p.have < k → k ≤ longest → (c : Bool) → ltb got (k - p.have) ≡ c
          → (last_ordinal - p.ordinal) * (longest + 3) + cond c 1 (longest + 2 - (p.have + got)) < (last_ordinal - p.ordinal) * (longest + 3) + (longest + 2 - p.have)
      less a b true g = omega arith
      less a b false g = let h : k - p.have ≤ got = ltb-false got (k - p.have) g in omega arith

  gave : (taken : Bool) → Reached (p.ordinal + 1) left → Moved (gave_out p taken)
  gave taken r = (
    record { reached = r; held = omega arith; below = λ g. below taken g; over = λ g. halted (turn (p.ordinal + 1) left (take 0 buf) p.ended) (gave_out p taken) (why taken g) },
    rw on (less (taken && ltb (p.ordinal + 1) last_ordinal) p.ended),
  )
    where
      below : (b : Bool) → b && ltb (p.ordinal + 1) last_ordinal ≡ true → p.ordinal + 1 < last_ordinal
      below true g = ltb-true (p.ordinal + 1) last_ordinal g
      below false g = never g refl

      why : (b : Bool) → b && ltb (p.ordinal + 1) last_ordinal ≡ false → (not b ≡ true) ⊎ (p.ordinal + 1 ≡ last_ordinal)
      why true g = let d : last_ordinal ≤ p.ordinal + 1 = ltb-false (p.ordinal + 1) last_ordinal g in inr (omega (arith, d, low))
      why false g = inl refl

      less : (g c : Bool) → cond g ((last_ordinal - (p.ordinal + 1)) * (longest + 3) + cond c 1 (longest + 2 - 0)) 0 < (last_ordinal - p.ordinal) * (longest + 3) + cond p.ended 1 (longest + 2 - p.have)
      less true true = omega (arith, low, some_left p.ended)
      less true false = omega (arith, low, some_left p.ended)
      less false c = some_left p.ended

  go : (q : Progress) (t : Turn) → turn p.ordinal image (take p.have lent) p.ended ≡ t → AdvancedBy t p q image left lent buf → Moved q
  go q (reads k) e (got, most, s, keeps, f) = subst Moved (sym s) (took k got (calls p.ordinal image (take p.have lent) p.ended e) most f)
  go q (prints line after) e (taken, s, f) =
      let b = calls p.ordinal image (take p.have lent) p.ended e in
      subst Moved (sym s) (gave taken (rw (add-one, f, b.2) (onward b.0 b.1 run.reached)))
  go q (closes line) e (s, keeps, f) = subst Moved (sym s) (ended keeps f (subst (λ (t : Turn). Over t (stopped p)) (sym e) tt))
  go q stops e (s, keeps, f) = subst Moved (sym s) (ended keeps f (subst (λ (t : Turn). Over t (stopped p)) (sym e) tt))

  pub moves : {q : Progress} → Advanced (turn p.ordinal image (take p.have lent) p.ended) p q image left lent buf → Moved q
  moves {q} a = go q _ refl a.is
