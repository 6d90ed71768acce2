-- What a kind gives: what is asked of any of them, a refusal by its cause, and the tables that an acceptance writes. Assumes nothing.
use Prim.Native.Nat.{ℕ, ◌≤◌, zero, suc}
use mathlib.Core.Path.{◌≡◌, sym, ap, ◌∙◌, subst, refl}
use mathlib.Core.List.{List}
use Rattle.policy.specs.Layout.{Layout}
use Rattle.policy.specs.Tables.{Tables, encode, decode}
use Rattle.policy.specs.Settled.{settled}
use Rattle.image.specs.Wrote.{Wrote}
use mathlib.Core.Option.{some, Option}
use lib.ListN.{length}
use Rattle.policy.specs.Contract.{Aid}
use Rattle.policy.specs.Record.{Change}
use Rattle.policy.specs.Causes.{answer}
use Rattle.policy.specs.Lookup.{number_of, free_number}
use Rattle.policy.specs.ShortCheck.{short_look}
use Rattle.policy.specs.Judge.{Out, look_causes, refusal, table_causes, judged}
use Rattle.policy.proofs.SoundFacts.{sound_formed}
use Rattle.policy.proofs.Found.{NumberIs, number_is}
use Rattle.policy.proofs.Pieces.{valid_short}
use Rattle.image.specs.Laid.{Laid}
use Rattle.image.proofs.Laid.{sound_laid}
use Rattle.changes.specs.Asked.{Asked}
use Rattle.answers.specs.Numbers.{number, answered, Answers}
use Rattle.answers.specs.declared.Refusal.{Refusal}
use Rattle.answers.specs.declared.Refusal.TheVariants.{Unsound, Malformed, Contradictory, Installed, NotInstalled, Pointless, NoNumber, Ungranted, NeedUnmet, UnmetFull, WaitingFull, BufferShort}
use Rattle.std.specs.Prelude.{Result, Ok, Err, IsErrAnd}
use Rattle.policy.specs.Lists.{or_else}
use Rattle.policy.specs.Draft.{Draft, Look, draft, number_for}
use Rattle.policy.proofs.Settled.{settled_refused, settled_short, settled_accepted}

-- an acceptance of package number n, and its bytes
pub accepted_answers : (L : Layout) {t : Tables} {img : List ℕ} → Wrote L img t → (n : ℕ) → Answers (record { answered = 0; second = n; bytes = encode L t }) (Ok n) img
accepted_answers L w n = record { answered = refl; second_is = refl; bytes_are = ap (encode L) (sym w.tables) ∙ w.laid.laid }

-- what the exit of a `?` hands on
pub answers_as : {o : Out} {b : List ℕ} (e : Refusal) (y : Result ℕ Refusal) → IsErrAnd y (λ x. x ≡ e) → Answers o (Err e) b → Answers o y b
answers_as {o} {b} e y h a = go y h
  where
    go : (y : Result ℕ Refusal) → IsErrAnd y (λ x. x ≡ e) → Answers o y b
    go (Ok n) p = absurd p
    go (Err x) p = subst (λ (z : Refusal). Answers o (Err z) b) (sym p) a

-- a cause has a number above 0
pub number_above : (e : Refusal) → (k : ℕ) × (number e ≡ suc k)
number_above Unsound = (0, refl)
number_above Malformed = (1, refl)
number_above Contradictory = (2, refl)
number_above Installed = (3, refl)
number_above NotInstalled = (4, refl)
number_above Pointless = (5, refl)
number_above NoNumber = (6, refl)
number_above Ungranted = (7, refl)
number_above NeedUnmet = (8, refl)
number_above UnmetFull = (9, refl)
number_above WaitingFull = (10, refl)
number_above BufferShort = (11, refl)

-- what is asked of any kind
module _ (L : Layout) (img : List ℕ) (a : Aid) {c : Change} (ask : Asked L img a c) where
  pub asked_laid : Laid L img
  asked_laid = sound_laid L ask.is_sound

  pub asked_short : length a ≤ 16
  asked_short = valid_short a ask.first_valid

  pub aid_at_lem : (n : ℕ) → number_of L (decode L img) a ≡ some n → (decode L img).aid n ≡ a
  aid_at_lem n at = (subst (NumberIs (decode L img) a) at (number_is L (decode L img) (sound_formed L img ask.is_sound).names a)).1

-- ---- a refusal by its cause, from a test that came out so; an acceptance, from one that let through
refused : {o : Out} {b : List ℕ} (e : Refusal) → o ≡ refusal (number e) 255 b → Answers o (Err e) b
refused {o} {b} e h = subst (λ (o : Out). Answers o (Err e) b) (sym h) (record { answered = refl; second_is = refl; bytes_are = refl })

module _ (L : Layout) (img : List ℕ) (a : Aid) (c : Change) where
  abbrev t : Tables
  t = decode L img

  -- the cause e, by whose number the kind is refused
  by_cause : (e : Refusal) → ((k : ℕ) → number e ≡ suc k → settled L img a c ≡ refusal (suc k) 255 img) → Answers (settled L img a c) (Err e) img
  by_cause e f = let k = number_above e in refused e (f k.0 k.1 ∙ ap (λ (n : ℕ). refusal n 255 img) (sym k.1))

  pub answers_early : (e : Refusal) → answer (table_causes L (decode L img) a c) ≡ number e → Answers (settled L img a c) (Err e) img
  answers_early e h = by_cause e (λ k q. settled_refused L img a c k (h ∙ q))

  -- package number n, its short check k and its draft d
  module _ (ask : Asked L img a c) (n : ℕ) (k : Look) (d : Draft) (early : answer (table_causes L (decode L img) a c) ≡ 0) (short-is : short_look L (decode L img) a c ≡ k)
      (draft_is : draft L (decode L img) a c ≡ d) (number_is : number_for L (decode L img) a ≡ n) {A : Type 0} {r : Result A Refusal} (h : answered r ≡ answer (look_causes k)) where
    checked : {x : Result A Refusal} → r ≡ x → answer (look_causes (short_look L t a c)) ≡ answered x
    checked p = ap (λ (z : Look). answer (look_causes z)) short-is ∙ sym h ∙ ap answered p

    pub answers_late : {e : Refusal} → r ≡ Err e → Answers (settled L img a c) (Err e) img
    answers_late {e} p = by_cause e (λ k q. settled_short L img a c ask.is_sound ask.within ask.is_proper early k (checked p ∙ q))

    pub answers_done : {x : A} → r ≡ Ok x → {img' : List ℕ} → Wrote L img' d.tables → Answers (settled L img a c) (Ok n) img'
    answers_done p {img'} w = subst (λ (o : Out). Answers o (Ok n) img') (sym o) (accepted_answers L w n)
      where
        o : settled L img a c ≡ refusal 0 n (encode L d.tables)
        o = settled_accepted L img a c ask.is_sound ask.within ask.is_proper early (checked p) ∙ λ i. refusal 0 (number_is i) (encode L (draft_is i).tables)

-- the number of an acceptance, where the package is on the card
pub number_for_lem : (L : Layout) (t : Tables) (a : Aid) (n : ℕ) → number_of L t a ≡ some n → number_for L t a ≡ n
unfolding number_for
number_for_lem L t a n e = ap (λ (o : Option ℕ). or_else o (or_else (free_number L t) 255 (λ m. m)) (λ m. m)) e

-- the answer of causes 4 to 7, or that of causes 8 to 11 where it is 0
abbrev pub first_of : ℕ → ℕ → ℕ
first_of zero m = m
first_of (suc n) m = suc n

pub settled_by : (L : Layout) (img : List ℕ) (a : Aid) (c : Change) → Asked L img a c → settled L img a c
    ≡ judged L img (number_for L (decode L img) a) (draft L (decode L img) a c).tables (first_of (answer (table_causes L (decode L img) a c)) (answer (look_causes (short_look L (decode L img) a c))))
settled_by L img a c ask = go (answer (table_causes L (decode L img) a c)) (answer (look_causes (short_look L (decode L img) a c))) refl refl
  where
    go : (m n : ℕ) → answer (table_causes L (decode L img) a c) ≡ m → answer (look_causes (short_look L (decode L img) a c)) ≡ n
        → settled L img a c ≡ judged L img (number_for L (decode L img) a) (draft L (decode L img) a c).tables (first_of m n)
    go zero zero e f = settled_accepted L img a c ask.is_sound ask.within ask.is_proper e f
    go zero (suc n) e f = settled_short L img a c ask.is_sound ask.within ask.is_proper e n f
    go (suc m) n e f = settled_refused L img a c m e
