-- How an input splits: one turn at a time, with nothing lost or repeated. Assumes nothing.
use Prim.Native.Nat.{ℕ, zero, suc, ◌+◌, ◌*◌, ◌≤◌, ◌<◌}
use mathlib.Core.Path.{◌≡◌, refl, sym, ap, ◌∙◌}
use mathlib.Core.Bool.{Bool, true, false, ◌&&◌, cond}
use mathlib.Core.List.{List, [], ◌∷◌, ◌++◌}
use native.Mathlib.Omega.{arith}
use lib.Dec.{leb}
use lib.ListN.{length, take, drop, length-append, take-append-drop}
use lib.Seq.{length-take-le}
use borrow.Author.Tests.{leb-true}
use Rattle.policy.specs.Lists.{flat}
use Rattle.std.specs.Prelude.{Option, Some, None}
use Rattle.lines.specs.Frames.{longest, announced, Start, ends, broken, holds, cut, frame, Session, onward, session_by, session}

-- a record that an input starts with: it and the rest are the input, and its length is one that a record has
pub record Held (s r rest : List ℕ) : Type 0 where
  pub whole : r ++ rest ≡ s
  pub least : 4 ≤ length r
  pub most : length r ≤ longest

never : {A : Type 0} (r rest : List ℕ) → broken ≡ holds r rest → A
never r rest e = let z : ◌≡◌ {A = ℕ} 0 1 = cc in absurd (omega arith)

-- the cases of a record of n bytes
module _ (s r rest : List ℕ) (n : ℕ) where
  fits : 4 ≤ n → n ≤ longest → (b : Bool) → leb n (length s) ≡ b → cond b (holds (take n s) (drop n s)) broken ≡ holds r rest → Held s r rest
  fits low high true e h =
      let p : take n s ≡ r = cc in
      let q : drop n s ≡ rest = cc in
      let m : length r ≡ n = ap length (sym p) ∙ length-take-le n s (leb-true n (length s) e) in record {
        whole = rw (← p, ← q) (take-append-drop n s);
        least = omega arith;
        most = omega arith;
      }
  fits low high false e h = never r rest h

  allowed : (a b : Bool) → leb 4 n ≡ a → leb n longest ≡ b → cut (cond (a && b) (Some n) None) s ≡ holds r rest → Held s r rest
  allowed true true p q h = fits (leb-true 4 n p) (leb-true n longest q) (leb n (length s)) refl h
  allowed true false p q h = never r rest h
  allowed false b p q h = never r rest h

pub held : (s r rest : List ℕ) → frame s ≡ holds r rest → Held s r rest
held [] r rest h = let z : ◌≡◌ {A = ℕ} 0 1 = cc in absurd (omega arith)
held (b ∷ []) r rest h = never r rest h
held (high ∷ low ∷ s) r rest h = let n = high * 256 + low in allowed (high ∷ low ∷ s) r rest n (leb 4 n) (leb n longest) refl refl h

shorter : (s r rest : List ℕ) → frame s ≡ holds r rest → length rest < length s
shorter s r rest e = let h = held s r rest e in omega (arith, h.least, simp length-append at (ap length h.whole))

-- steps to spare make no odds
fuel : (j k : ℕ) (s : List ℕ) → length s < j → length s < k → session_by j s ≡ session_by k s
fuel zero k s f g = absurd (omega arith)
fuel (suc j) zero s f g = absurd (omega arith)
fuel (suc j) (suc k) s f g = go (λ rest. fuel j k rest) (frame s) refl
  where
    go : ((rest : List ℕ) → length rest < j → length rest < k → session_by j rest ≡ session_by k rest) → (h : Start) → frame s ≡ h
        → onward h (session_by j) ≡ onward h (session_by k)
    go ih ends e = refl
    go ih broken e = refl
    go ih (holds r rest) e =
        let l : length rest < length s = shorter s r rest e in
        ap (λ (q : Session). record { records = r ∷ q.records; bad = q.bad }) (ih rest (omega arith) (omega arith))

-- ---- one frame of a session
module _ (s : List ℕ) where
  turn : (h : Start) → frame s ≡ h → session s ≡ onward h (session_by (length s))
  unfolding session
  turn h e = ap (λ (f : Start). onward f (session_by (length s))) e

  pub session_ends : frame s ≡ ends → session s ≡ record { records = []; bad = false }
  session_ends e = turn ends e

  pub session_bad : frame s ≡ broken → session s ≡ record { records = []; bad = true }
  session_bad e = turn broken e

  pub session_holds : (r rest : List ℕ) → frame s ≡ holds r rest → session s ≡ record { records = r ∷ (session rest).records; bad = (session rest).bad }
  unfolding session
  session_holds r rest e =
      let l : length rest < length s = shorter s r rest e in
      turn (holds r rest) e
      ∙ ap (λ (q : Session). record { records = r ∷ q.records; bad = q.bad }) (fuel (length s) (suc (length rest)) rest (omega arith) (omega arith))

-- ---- a whole session
nothing_left : (s : List ℕ) → frame s ≡ ends → s ≡ []
nothing_left [] e = refl
nothing_left (b ∷ []) e = let z : ◌≡◌ {A = ℕ} 0 1 = cc in absurd (omega arith)
nothing_left (high ∷ low ∷ s) e = absurd (no (announced high low) e)
  where
    no : (f : Option ℕ) → cut f (high ∷ low ∷ s) ≡ ends → ⊥
    no (Some n) h = some_of (leb n (length (high ∷ low ∷ s))) h
      where
        some_of : (b : Bool) → cond b (holds (take n (high ∷ low ∷ s)) (drop n (high ∷ low ∷ s))) broken ≡ ends → ⊥
        some_of true h = let z : ◌≡◌ {A = ℕ} 0 1 = cc in omega arith
        some_of false h = let z : ◌≡◌ {A = ℕ} 0 1 = cc in omega arith
    no None h = let z : ◌≡◌ {A = ℕ} 0 1 = cc in omega arith

-- no byte is lost or repeated: the records of an input that ends well are the input
all_records : (k : ℕ) (s : List ℕ) → length s < k → (session_by k s).bad ≡ false → flat (λ r. r) (session_by k s).records ≡ s
all_records zero s f b = absurd (omega arith)
all_records (suc k) s f b = go (λ rest. all_records k rest) (frame s) refl b
  where
    go : ((rest : List ℕ) → length rest < k → (session_by k rest).bad ≡ false → flat (λ r. r) (session_by k rest).records ≡ rest)
        → (h : Start) → frame s ≡ h → (onward h (session_by k)).bad ≡ false → flat (λ r. r) (onward h (session_by k)).records ≡ s
    go ih ends e b = sym (nothing_left s e)
    go ih broken e b = let z : ◌≡◌ {A = ℕ} 0 1 = cc in absurd (omega arith)
    go ih (holds r rest) e b =
        let l : length rest < length s = shorter s r rest e in
        ap (λ (t : List ℕ). r ++ t) (ih rest (omega arith) b) ∙ (held s r rest e).whole

pub session_whole : (s : List ℕ) → (session s).bad ≡ false → flat (λ r. r) (session s).records ≡ s
unfolding session
session_whole s b = all_records (suc (length s)) s (omega arith) b

-- ---- what the two length bytes of a record tell
pub announced_sizes : (high low n : ℕ) → announced high low ≡ Some n → (n ≡ high * 256 + low) × (4 ≤ n) × (n ≤ longest)
announced_sizes high low n h = go (high * 256 + low) (leb 4 (high * 256 + low)) (leb (high * 256 + low) longest) refl refl h
  where
    go : (m : ℕ) (a b : Bool) → leb 4 m ≡ a → leb m longest ≡ b → cond (a && b) (Some m) None ≡ Some n → (n ≡ m) × (4 ≤ n) × (n ≤ longest)
    go m true true p q h =
        let e : n ≡ m = cc in
        let l : 4 ≤ m = leb-true 4 m p in
        let u : m ≤ longest = leb-true m longest q in (e, omega arith, omega arith)
    go m true false p q h = let z : ◌≡◌ {A = ℕ} 0 1 = cc in absurd (omega arith)
    go m false b p q h = let z : ◌≡◌ {A = ℕ} 0 1 = cc in absurd (omega arith)
