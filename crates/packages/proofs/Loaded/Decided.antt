-- Kind 1: what the code has found decides the load. Assumes nothing.
use Prim.Native.Nat.{ℕ, ◌≤◌}
use mathlib.Core.Path.{◌≡◌, refl, sym, ap, ap₂, ◌∙◌, subst}
use mathlib.Core.Bool.{Bool, true, false, not, ◌&&◌, ◌||◌, cond}
use mathlib.Core.List.{List}
use mathlib.Core.Option.{Option, none, some}
use Rattle.std.specs.Prelude.{Result, Ok, Err}
use Rattle.answers.specs.Numbers.{number, answered}
use Rattle.answers.specs.declared.Refusal.{Refusal}
use lib.Dec.{T, eqb, eqb→eq}
use Rattle.policy.specs.Lists.{is_some, or_else}
use Rattle.policy.specs.Contract.{Contract}
use Rattle.policy.specs.Layout.{Layout}
use Rattle.policy.specs.Causes.{answer}
use Rattle.policy.specs.Tables.{Tables, bit, decode, encode}
use Rattle.policy.specs.Lookup.{number_of, free_number}
use Rattle.policy.specs.Draft.{Look, kept, load_at, dropped_by, draft, number_for}
use Rattle.policy.specs.ShortCheck.{now_met, short_look}
use Rattle.policy.specs.Judge.{refusal, table_causes, look_causes}
use Rattle.policy.specs.Settled.{settled}
use Rattle.policy.proofs.Sets.{T_false, and_l}
use Rattle.policy.proofs.Bits.{bit_none}
use Rattle.policy.proofs.Formed.{Formed}
use Rattle.policy.proofs.Found.{FreeIs, free_number_is}
use Rattle.policy.proofs.SoundFacts.{sound_formed, sound_fitting}
use Rattle.policy.proofs.Settled.{settled_refused, settled_accepted}
use Rattle.image.proofs.Masks.{mask_ext}
use Rattle.changes.specs.Asked.{Asked}
use Rattle.packages.specs.Decides.{comes_due, bring_cause, Newcomes, Comes, load_of, Loads}
use Rattle.packages.specs.declared.decide.Bring.{Bring}
use Rattle.packages.proofs.Checks.{none_is, refused_late}
use Rattle.packages.proofs.Brought.ShortCheck.{load_look}

-- at a free number
newcomes_so : (L : Layout) (t : Tables) (k : Contract) (n : ℕ) (b : Bring) → Formed L t → (T (t.used n) → ⊥) → Newcomes L t k n b → Comes L t k n b
newcomes_so L t k n b f free h = record {
  at_is = h.at_is;
  met_is = h.met_is;
  due_is = h.due_is;
  calls_is = h.calls_is ∙ h.met_is ∙ mask_ext (now_met L t k) (λ u. eqb u.caller n || now_met L t k u) t.unmet (λ u m. else u.caller (now_met L t k u) (f.unmet.off.off_used u m));
  grants_is = h.grants_is ∙ h.due_is ∙ mask_ext (comes_due L t k.aid) (λ w. eqb w.callee n || comes_due L t k.aid w) t.waiting (λ w m. else w.callee (comes_due L t k.aid w) (f.waiting.wait_used w m));
  dropped_is = λ z. ap (λ (m : ℕ). bit m z) h.none_dropped ∙ bit_none z
      ∙ sym (T_false (t.provides n z && dropped_by L t k n z) (λ x. free (f.names.prov_used n z (and_l (t.provides n z) (dropped_by L t k n z) x))));
}
  where
    else : (x : ℕ) (o : Bool) → T (t.used x) → o ≡ eqb x n || o
    else x o u = ap (λ (e : Bool). e || o) (sym (T_false (eqb x n) (λ e. free (subst (λ (i : ℕ). T (t.used i)) (eqb→eq x n e) u))))

module _ (L : Layout) (img : List ℕ) (k : Contract) (ask : Asked L img k.aid (load_of k)) where
  abbrev t : Tables
  t = decode L img

  -- causes 4 and 7, by what the searches found
  pub early : (o f : Option ℕ) → number_of L (decode L img) k.aid ≡ o → free_number L (decode L img) ≡ f
      → answer (table_causes L (decode L img) k.aid (load_of k)) ≡ cond (is_some o) 4 (cond (not (is_some f)) 7 0)
  early o f e q = λ i. cond (is_some (e i)) 4 (cond (not (is_some (q i))) 7 0)

  -- no cause applies
  accepted_at : (m : ℕ) → number_of L t k.aid ≡ none → free_number L t ≡ some m → answer (look_causes (short_look L t k.aid (load_of k))) ≡ 0
      → settled L img k.aid (load_of k) ≡ record { answered = 0; second = m; bytes = encode L (load_at L t m k).tables }
  unfolding draft number_for
  accepted_at m o f e =
      settled_accepted L img k.aid (load_of k) ask.is_sound ask.within ask.is_proper (early none (some m) o f) e
      ∙ ap₂ (λ (x y : Option ℕ). record { answered = 0; second = or_else x (or_else y 255 (λ z. z)) (λ z. z); bytes = encode L (or_else y (kept t) (λ z. load_at L t z k)).tables }) o f

  pub decides_4 : is_some (number_of L (decode L img) k.aid) ≡ true → settled L img k.aid (load_of k) ≡ refusal 4 255 img
  decides_4 h =
      settled_refused L img k.aid (load_of k) 3
      (early (number_of L t k.aid) (free_number L t) refl refl ∙ (λ i. cond (h i) 4 (cond (not (is_some (free_number L t))) 7 0)))

  -- the package is not there
  module _ (gone : is_some (number_of L (decode L img) k.aid) ≡ false) where
    away : number_of L t k.aid ≡ none
    away = none_is (number_of L t k.aid) gone

    pub decides_7 : free_number L (decode L img) ≡ none → settled L img k.aid (load_of k) ≡ refusal 7 255 img
    decides_7 f = settled_refused L img k.aid (load_of k) 6 (early none none away f)

    -- m is the lowest unused number, b what is found of the contract there, and r whether one of causes 8 to 11 is against it
    module _ (low : L.capacity ≤ 32) {m : ℕ} (free : free_number L (decode L img) ≡ some m) {b : Bring} (new : Newcomes L (decode L img) k m b) where
      none_there : T (t.used m) → ⊥
      none_there = (subst (FreeIs L.packages t.used) free (free_number_is L t)).1

      found : Comes L t k m b
      found = newcomes_so L t k m b (sound_formed L img ask.is_sound) none_there new

      late : (r : Result Unit Refusal) → answered r ≡ bring_cause L t k b → answered r ≡ answer (look_causes (short_look L t k.aid (load_of k)))
      unfolding short_look
      late r ec = ec ∙ ap (λ (l : Look). answer (look_causes l)) (load_look L t (sound_formed L img ask.is_sound) (sound_fitting L img ask.is_sound) low k m b found none_there)

      pub decides_late : (r : Result Unit Refusal) → answered r ≡ bring_cause L (decode L img) k b → {e : Refusal} → r ≡ Err e → settled L img k.aid (load_of k) ≡ refusal (number e) 255 img
      decides_late r ec = refused_late L img k.aid (load_of k) ask (early none (some m) away free) (late r ec)

      pub loads : (r : Result Unit Refusal) → answered r ≡ bring_cause L (decode L img) k b → {x : Unit} → r ≡ Ok x → Loads L img k b
      loads r ec p = record {
        outcome = accepted_at m away free (sym (late r ec) ∙ ap answered p) ∙ ap (λ (x : ℕ). record { answered = 0; second = x; bytes = encode L (load_at L t x k).tables }) (sym new.at_is);
        away = away;
        free = free ∙ ap some (sym new.at_is);
        found = subst (λ (x : ℕ). Comes L t k x b) (sym new.at_is) found;
      }
