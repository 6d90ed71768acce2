-- Kind 11: what the code has found decides the whole contract. Assumes nothing.
use Prim.Native.Nat.{ℕ, ◌≤◌}
use mathlib.Core.Path.{◌≡◌, refl, sym, ap, ◌∙◌, subst}
use mathlib.Core.Bool.{Bool, true, false, not, ◌||◌, cond, or_comm}
use mathlib.Core.List.{List}
use mathlib.Core.Option.{Option, none, some}
use lib.Bits.{bit_or}
use lib.Dec.{T, eqb}
use Rattle.std.specs.Prelude.{Result, Ok, Err}
use Rattle.policy.specs.Lists.{exists, is_some, or_else}
use Rattle.policy.specs.Contract.{Contract}
use Rattle.policy.specs.Layout.{Layout}
use Rattle.policy.specs.Causes.{answer}
use Rattle.policy.specs.Tables.{Tables, decode, encode}
use Rattle.policy.specs.Lookup.{number_of, free_number}
use Rattle.policy.specs.Draft.{Look, kept, replace_at, draft, number_for}
use Rattle.policy.specs.ShortCheck.{fine, now_met, short_replace, short_look}
use Rattle.policy.specs.Judge.{refusal, table_causes, look_causes}
use Rattle.policy.specs.Settled.{settled}
use Rattle.policy.proofs.Sets.{T_false, exists_in}
use Rattle.policy.proofs.Formed.{Formed, Fitting}
use Rattle.policy.proofs.Found.{NumberIs, number_is}
use Rattle.policy.proofs.SoundFacts.{sound_formed, sound_fitting}
use Rattle.policy.proofs.KindReplace.{or_never, none_waited}
use Rattle.policy.proofs.Settled.{settled_refused, settled_accepted}
use Rattle.image.specs.Read.{mask_of}
use Rattle.image.proofs.Masks.{mask_ext, mask_or, mask_zero}
use Rattle.answers.specs.Numbers.{number, answered}
use Rattle.answers.specs.declared.Refusal.{Refusal}
use Rattle.answers.specs.declared.Refusal.TheVariants.{Ungranted}
use Rattle.changes.specs.Asked.{Asked}
use Rattle.packages.specs.Conditions.{kept_granted}
use Rattle.packages.specs.Decides.{comes_due, bring_cause, Replaces, Comes, replace_of, Renews}
use Rattle.packages.specs.declared.decide.Bring.{Bring}
use Rattle.packages.proofs.Checks.{refused_late}
use Rattle.packages.proofs.Brought.ShortCheck.{replace_stays, replace_look}

-- at the package's number
replaces_so : (L : Layout) (t : Tables) (k : Contract) (n : ℕ) (b : Bring) → Formed L t → T (t.used n) → t.aid n ≡ k.aid → Replaces L t k n b → Comes L t k n b
replaces_so L t k n b f un an h = record {
  at_is = h.at_is;
  met_is = h.met_is;
  due_is = h.none_due ∙ sym (mask_zero (comes_due L t k.aid) t.waiting (T_false (exists (comes_due L t k.aid) t.waiting)
      (λ x. let q = exists_in (comes_due L t k.aid) t.waiting x in none_waited L t n k f un an q.0 q.1 q.2)));
  calls_is = h.calls_is ∙ ap (λ (m : ℕ). bit_or m (mask_of (λ u. eqb u.caller n) t.unmet)) h.met_is ∙ mask_or (now_met L t k) (λ u. eqb u.caller n) t.unmet
      ∙ mask_ext (λ u. now_met L t k u || eqb u.caller n) (λ u. eqb u.caller n || now_met L t k u) t.unmet (λ u _. or_comm (now_met L t k u) (eqb u.caller n));
  grants_is = h.grants_is ∙ mask_ext (λ w. eqb w.callee n) (λ w. eqb w.callee n || comes_due L t k.aid w) t.waiting
      (λ w m. or_never (eqb w.callee n) (comes_due L t k.aid w) (none_waited L t n k f un an w m));
  dropped_is = h.dropped_is;
}

module _ (L : Layout) (img : List ℕ) (k : Contract) (ask : Asked L img k.aid (replace_of k)) where
  abbrev t : Tables
  t = decode L img

  -- cause 5, by what the search found
  pub absent_or : (o : Option ℕ) → number_of L (decode L img) k.aid ≡ o → answer (table_causes L (decode L img) k.aid (replace_of k)) ≡ cond (not (is_some o)) 5 0
  absent_or o e = λ i. cond (not (is_some (e i))) 5 0

  accepted_at : (m : ℕ) → number_of L t k.aid ≡ some m → answer (look_causes (short_look L t k.aid (replace_of k))) ≡ 0
      → settled L img k.aid (replace_of k) ≡ record { answered = 0; second = m; bytes = encode L (replace_at L t m k).tables }
  unfolding draft number_for
  accepted_at m o e =
      settled_accepted L img k.aid (replace_of k) ask.is_sound ask.within ask.is_proper (absent_or (some m) o) e
      ∙ ap (λ (x : Option ℕ). record { answered = 0; second = or_else x (or_else (free_number L t) 255 (λ z. z)) (λ z. z); bytes = encode L (or_else x (kept t) (λ z. replace_at L t z k)).tables }) o

  pub decides_5 : number_of L (decode L img) k.aid ≡ none → settled L img k.aid (replace_of k) ≡ refusal 5 255 img
  decides_5 o = settled_refused L img k.aid (replace_of k) 4 (absent_or none o)

  -- n is the package's number, b what is found of the contract there, and stay whether what stays is granted
  module _ (low : L.capacity ≤ 32) {n : ℕ} (here : number_of L (decode L img) k.aid ≡ some n) {b : Bring} (new : Replaces L (decode L img) k n b) {stay : Bool}
      (ek : stay ≡ kept_granted L (decode L img) k.grants n b.dropped) where
    formed : Formed L t
    formed = sound_formed L img ask.is_sound

    fitting : Fitting L t
    fitting = sound_fitting L img ask.is_sound

    its : NumberIs t k.aid (some n)
    its = subst (NumberIs t k.aid) here (number_is L t formed.names k.aid)

    found : Comes L t k n b
    found = replaces_so L t k n b formed its.0 its.1 new

    -- the answer of the short check at its number
    at_its : {x : ℕ} → x ≡ answer (look_causes (short_replace L t n k)) → x ≡ answer (look_causes (short_look L t k.aid (replace_of k)))
    unfolding short_look
    at_its e = e ∙ ap (λ (o : Option ℕ). answer (look_causes (or_else o fine (λ i. short_replace L t i k)))) (sym here)

    pub decides_8 : stay ≡ false → settled L img k.aid (replace_of k) ≡ refusal 8 255 img
    decides_8 q =
        let r : Result Unit Refusal = Err Ungranted in
        refused_late L img k.aid (replace_of k) ask (absent_or (some n) here) {r = r} (at_its (replace_stays L t formed fitting low k n b found its.0 its.1 (sym ek ∙ q))) refl

    -- r is whether one of causes 8 to 11 is against it
    module _ (q : stay ≡ true) where
      late : (r : Result Unit Refusal) → answered r ≡ bring_cause L t k b → answered r ≡ answer (look_causes (short_look L t k.aid (replace_of k)))
      late r ec = at_its (ec ∙ ap (λ (l : Look). answer (look_causes l)) (replace_look L t formed fitting low k n b found its.0 its.1 (sym ek ∙ q)))

      pub decides_late : (r : Result Unit Refusal) → answered r ≡ bring_cause L (decode L img) k b → {e : Refusal} → r ≡ Err e
          → settled L img k.aid (replace_of k) ≡ refusal (number e) 255 img
      decides_late r ec = refused_late L img k.aid (replace_of k) ask (absent_or (some n) here) (late r ec)

      pub renews : (r : Result Unit Refusal) → answered r ≡ bring_cause L (decode L img) k b → {x : Unit} → r ≡ Ok x → Renews L img k b
      renews r ec p = record {
        outcome = accepted_at n here (sym (late r ec) ∙ ap answered p) ∙ ap (λ (x : ℕ). record { answered = 0; second = x; bytes = encode L (replace_at L t x k).tables }) (sym new.at_is);
        here = here ∙ ap some (sym new.at_is);
        found = subst (λ (x : ℕ). Comes L t k x b) (sym new.at_is) found;
      }
