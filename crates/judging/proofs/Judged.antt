-- The judgement of a record by the causes in turn, as the code finds them. Assumes nothing.
use Prim.Native.Nat.{ℕ}
use mathlib.Core.Path.{◌≡◌, refl, sym, ap, ◌∙◌, subst}
use mathlib.Core.Bool.{Bool, true, false, not, cond}
use mathlib.Core.List.{List}
use lib.Dec.{T}
use borrow.Author.Tests.{not-true, not-false}
use Rattle.std.specs.Prelude.{Option, Some, None, Err}
use Rattle.policy.specs.Layout.{Layout}
use Rattle.policy.specs.Contract.{Aid, Tok}
use Rattle.policy.specs.Record.{Change, remove, remove_service, parse, proper}
use Rattle.policy.specs.Sound.{sound}
use Rattle.policy.specs.Judge.{Out, refusal, judge}
use Rattle.policy.specs.Settled.{settled, Gives}
use Rattle.policy.proofs.ParseFacts.{parsed_within}
use Rattle.policy.proofs.Sets.{true_T}
use Rattle.policy.proofs.Settled.{judge_unsound, judge_malformed, judge_improper, judge_settled}
use Rattle.answers.specs.Numbers.{number, Answers}
use Rattle.answers.specs.declared.Refusal.{Refusal}
use Rattle.answers.specs.declared.Refusal.TheVariants.{Unsound, Malformed, Contradictory}
use Rattle.record.specs.Listed.{bytes_of}
use Rattle.record.specs.Parsing.{Parses, kind_of, record_of, request_of}
use Rattle.record.specs.declared.reading.Record.{Record}
use Rattle.changes.specs.Asked.{Asked}
use Rattle.judging.specs.Properly.{properly, Taken}

-- what a test of the code tells of b, as the code tests `not r`
passed : {r b : Bool} → r ≡ b → not r ≡ false → T b
passed {r} e h = true_T (sym e ∙ not-false r h)

failed : {r b : Bool} → r ≡ b → not r ≡ true → b ≡ false
failed {r} e h = sym e ∙ not-true r h

-- an outcome that is a refusal
pub refuses : {o : Out} {img : List ℕ} (e : Refusal) → o ≡ refusal (number e) 255 img → Answers o (Err e) img
refuses {img = img} e h = subst (λ (z : Out). Answers z (Err e) img) (sym h) (record { answered = refl; second_is = refl; bytes_are = refl })

-- ---- cause 3: b is whether the record is proper
module _ (L : Layout) (img : List ℕ) (a : Aid) (d : Change) {b : Bool} (e : b ≡ proper L a d) where
  pub improper : not b ≡ true → Answers (properly L img a d) (Err Contradictory) img
  improper h = refuses Contradictory (ap (λ (z : Bool). cond z (settled L img a d) (refusal 3 255 img)) (failed e h))

  module _ (h : not b ≡ false) where
    pub asked : Taken L img a d → Asked L img a d
    asked t = record { is_sound = t.is_sound; first_valid = t.first_valid; within = t.within; is_proper = passed e h }

    pub settles : {n s : ℕ} {left : List ℕ} → Gives (settled L img a d) n s left → Gives (properly L img a d) n s left
    settles {n} {s} {left} g = subst (λ (z : Bool). Gives (cond z (settled L img a d) (refusal 3 255 img)) n s left) (sym (not-false b h) ∙ e) g

-- a removal always is
module _ (L : Layout) (img : List ℕ) (a : Aid) (d : Change) (e : true ≡ proper L a d) where
  pub asked_always : Taken L img a d → Asked L img a d
  asked_always = asked L img a d e refl

  pub settles_always : {n s : ℕ} {left : List ℕ} → Gives (settled L img a d) n s left → Gives (properly L img a d) n s left
  settles_always = settles L img a d e refl

pub remove_proper : (L : Layout) (a : Aid) → true ≡ proper L a remove
unfolding proper
remove_proper L a = refl

pub service_proper : (L : Layout) (a : Aid) (s : Tok) → true ≡ proper L a (remove_service s)
unfolding proper
service_proper L a s = refl

-- ---- causes 1 and 2 in turn, and then what the kind comes to
module _ (L : Layout) (img s : List ℕ) {ok : Bool} (e : ok ≡ sound L img) where
  pub unsound : not ok ≡ true → Answers (judge L img s) (Err Unsound) img
  unsound h = refuses Unsound (judge_unsound L img s (failed e h))

  module _ (h : not ok ≡ false) {r : Option Record} (p : Parses L s r) where
    pub malformed : r ≡ None → Answers (judge L img s) (Err Malformed) img
    malformed q = refuses Malformed (judge_malformed L img s (passed e h) (sym p ∙ ap request_of q))

    module _ {x : Record} (q : r ≡ Some x) where
      parsed : parse L s ≡ request_of (Some x)
      parsed = sym p ∙ ap request_of q

      pub taken : Taken L img (bytes_of x.aid) (kind_of x.kind)
      taken = let w = parsed_within L s (record_of x) parsed in record { is_sound = passed e h; first_valid = w.0; within = w.1 }

      judged : (b : Bool) → proper L (bytes_of x.aid) (kind_of x.kind) ≡ b
          → judge L img s ≡ cond b (settled L img (bytes_of x.aid) (kind_of x.kind)) (refusal 3 255 img)
      judged true z = judge_settled L img s (record_of x) (passed e h) parsed (true_T z)
      judged false z = judge_improper L img s (record_of x) (passed e h) parsed z

      pub judges : {n m : ℕ} {left : List ℕ} → Gives (properly L img (bytes_of x.aid) (kind_of x.kind)) n m left → Gives (judge L img s) n m left
      judges {n} {m} {left} g = subst (λ (z : Out). Gives z n m left) (sym (judged (proper L (bytes_of x.aid) (kind_of x.kind)) refl)) g
