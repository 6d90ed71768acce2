-- The plan of kind 3 comes to its outcome, and what the two ways through add_service give. Assumes nothing.
use Prim.Native.Nat.{ℕ}
use mathlib.Core.Path.{◌≡◌, refl, sym, ap, ◌∙◌, subst}
use mathlib.Core.Bool.{Bool, true, false, not}
use mathlib.Core.List.{List, [], ◌∷◌}
use mathlib.Core.Option.{Option, none, some}
use lib.Dec.{T}
use Rattle.policy.specs.Lists.{is_some, or_else}
use Rattle.policy.specs.Contract.{Aid, Tok, has_tok}
use Rattle.policy.specs.Layout.{Layout}
use Rattle.policy.specs.Record.{add_service}
use Rattle.policy.specs.Causes.{◌when◌, answer}
use Rattle.policy.specs.Tables.{Tables, decode}
use Rattle.policy.specs.Lookup.{number_of, service_of, free_number, free_service, contract_at}
use Rattle.policy.specs.Draft.{Look, kept, draft, number_for, add_service_at}
use Rattle.policy.specs.ShortCheck.{fine, short_look, short_add_service}
use Rattle.policy.specs.Judge.{Out, look_causes, judged}
use Rattle.policy.specs.Settled.{settled}
use Rattle.policy.proofs.Sets.{true_T}
use Rattle.policy.proofs.Formed.{Formed}
use Rattle.policy.proofs.Found.{NumberIs, ServiceIs, FreeIs, number_is, service_is, free_service_is}
use Rattle.policy.proofs.SoundFacts.{sound_formed}
use Rattle.policy.proofs.HasRow.{has_tok_is}
use Rattle.image.specs.Wrote.{Wrote}
use Rattle.changes.specs.Asked.{Asked}
use Rattle.services.specs.Adding.{added, AddFits, ask_mask, due_mask, plan_by, adding_at, adding_plan, adding_done}
use Rattle.services.specs.declared.adding.Adding.{Adding}
use Rattle.std.specs.Prelude.{Result, Ok, Err}
use Rattle.answers.specs.Numbers.{Answers}
use Rattle.answers.specs.declared.Refusal.{Refusal}
use Rattle.answers.specs.declared.Refusal.TheVariants.{NotInstalled, Pointless, NoNumber}
use Rattle.geometry.specs.declared.Tokens.{Tokens}
use Rattle.geometry.specs.Geometry.{tok_of}
use Rattle.policy.specs.Tables.{encode}
use Rattle.changes.proofs.Verdicts.{first_of, settled_by, accepted_answers}
use Rattle.changes.proofs.SoundRows.{callers_in, given_in}
use Rattle.services.proofs.Added.Tables.{rows_met, rows_due, room_then, added_is}

module _ (L : Layout) (img : List ℕ) (a : Aid) (n : Tokens) (l : List Aid) where
  abbrev t : Tables
  t = decode L img

  abbrev s : Tok
  s = tok_of n

  -- what the rows of the lists decide
  abbrev look_of : Bool → Bool → Look
  look_of g f = record { granted = g; needed = true; unmet_fits = true; waiting_fits = f }

  -- the outcome on package j: whether it has the service, and its free service number
  abbrev outcome : ℕ → Bool → Option ℕ → Look → Out
  outcome j had free k =
      judged L img j (or_else free (kept t) (λ k. add_service_at L t j k s l)).tables (first_of (answer (6 when had ∷ 7 when not (is_some free) ∷ [])) (answer (look_causes k)))

  abbrev planned : ℕ → Option ℕ → Option ℕ → Look → Result Adding Refusal
  planned j had free look = or_else had (or_else free (Err NoNumber) (λ k. plan_by L t n l j k look)) (λ k. Err Pointless)

  comes_to : (j : ℕ) (had free : Option ℕ) (g f : Bool) → outcome j (is_some had) free (look_of g f) ≡ adding_done L img l (planned j had free (look_of g f))
  comes_to j (some k) free g f = refl
  comes_to j none none g f = refl
  comes_to j none (some k) false f = refl
  comes_to j none (some k) true false = refl
  comes_to j none (some k) true true = refl

  settled_adding : Asked L img a (add_service s l) → settled L img a (add_service s l) ≡ adding_done L img l (adding_plan L t n l a)
  unfolding draft short_look number_for
  settled_adding ask = settled_by L img a (add_service s l) ask ∙ go (number_of L t a)
    where
      go : (o : Option ℕ) → judged L img (or_else o (or_else (free_number L t) 255 (λ n. n)) (λ n. n))
          (or_else o (kept t) (λ j. or_else (free_service L t j) (kept t) (λ k. add_service_at L t j k s l))).tables
          (first_of (answer (5 when not (is_some o) ∷ 6 when or_else o false (λ j. has_tok s (contract_at L t j).provides) ∷ 7 when or_else o false (λ j. not (is_some (free_service L t j))) ∷ []))
          (answer (look_causes (or_else o fine (λ j. short_add_service L t j s l)))))
          ≡ adding_done L img l (or_else o (Err NotInstalled) (λ j. planned j (service_of L t j s) (free_service L t j) (short_add_service L t j s l)))
      go none = refl
      go (some j) =
          (λ i. outcome j (has_tok_is L t (sound_formed L img ask.is_sound) j s i) (free_service L t j) (short_add_service L t j s l))
          ∙ comes_to j (service_of L t j s) (free_service L t j) (short_add_service L t j s l).granted (short_add_service L t j s l).waiting_fits

  -- ---- what an accepting plan says
  pub record Says (j k met due : ℕ) : Type 0 where
    pub at : number_of L (decode L img) a ≡ some j
    pub fresh : service_of L (decode L img) j s ≡ none
    pub free : free_service L (decode L img) j ≡ some k
    pub met_is : met ≡ ask_mask L (decode L img) s j
    pub due_is : due ≡ due_mask L (decode L img) s j
    pub room : T (short_add_service L (decode L img) j s l).waiting_fits

  abbrev PlanSays : Result Adding Refusal → Type 0
  PlanSays (Err e) = Unit {0}
  PlanSays (Ok p) = Says p.service.provider p.service.number p.met p.due × (p.service.tokens ≡ n)

  plan_says : PlanSays (adding_plan L t n l a)
  plan_says = go (number_of L t a) refl
    where
      by_look_lem : (j k : ℕ) → number_of L t a ≡ some j → service_of L t j s ≡ none → free_service L t j ≡ some k → (g f : Bool) → (short_add_service L t j s l).waiting_fits ≡ f
          → PlanSays (plan_by L t n l j k (look_of g f))
      by_look_lem j k p q r false f e = tt
      by_look_lem j k p q r true false e = tt
      by_look_lem j k p q r true true e = (record { at = p; fresh = q; free = r; met_is = refl; due_is = refl; room = true_T e }, refl)

      by_free_lem : (j : ℕ) → number_of L t a ≡ some j → service_of L t j s ≡ none → (o : Option ℕ) → free_service L t j ≡ o → PlanSays (or_else o (Err NoNumber) (adding_at L t n l j))
      by_free_lem j p q none r = tt
      by_free_lem j p q (some k) r = by_look_lem j k p q r (short_add_service L t j s l).granted (short_add_service L t j s l).waiting_fits refl

      by_service_lem : (j : ℕ) → number_of L t a ≡ some j → (o : Option ℕ) → service_of L t j s ≡ o
          → PlanSays (or_else o (or_else (free_service L t j) (Err NoNumber) (adding_at L t n l j)) (λ k. Err Pointless))
      by_service_lem j p none q = by_free_lem j p q (free_service L t j) refl
      by_service_lem j p (some k) q = tt

      go : (o : Option ℕ) → number_of L t a ≡ o
          → PlanSays (or_else o (Err NotInstalled) (λ j. or_else (service_of L t j s) (or_else (free_service L t j) (Err NoNumber) (adding_at L t n l j)) (λ k. Err Pointless)))
      go none p = tt
      go (some j) p = by_service_lem j p (service_of L t j s) refl

  module _ (ask : Asked L img a (add_service (tok_of n) l)) (plan : Result Adding Refusal) (e : plan ≡ adding_plan L (decode L img) n l a) where
    formed : Formed L t
    formed = sound_formed L img ask.is_sound

    settled_as : {q : Result Adding Refusal} → plan ≡ q → settled L img a (add_service s l) ≡ adding_done L img l q
    settled_as h = settled_adding ask ∙ ap (adding_done L img l) (sym e ∙ h)

    pub adding_refused : {c : Refusal} → plan ≡ Err c → Answers (settled L img a (add_service (tok_of n) l)) (Err c) img
    adding_refused {c} h = subst (λ (o : Out). Answers o (Err c) img) (sym (settled_as h)) (record { answered = refl; second_is = refl; bytes_are = refl })

    -- the plan is to add the service p, by the masks of the unmet calls on it and of the waiting grants that are due
    module _ {p : Adding} (h : plan ≡ Ok p) where
      abbrev j : ℕ
      j = p.service.provider

      abbrev k : ℕ
      k = p.service.number

      says : Says j k p.met p.due
      says = (subst PlanSays (sym e ∙ h) plan_says).0

      tokens_so : p.service.tokens ≡ n
      tokens_so = (subst PlanSays (sym e ∙ h) plan_says).1

      number_so : NumberIs t a (some j)
      number_so = subst (NumberIs t a) says.at (number_is L t formed.names a)

      free_so : FreeIs L.services (t.provides j) (some k)
      free_so = subst (FreeIs L.services (t.provides j)) says.free (free_service_is L t j)

      fresh_so : ServiceIs t j s none
      fresh_so = subst (ServiceIs t j s) says.fresh (service_is L t formed.names j s)

      fits : AddFits L p.met p.due j k s l (decode L img)
      fits = record {
        service_in = free_so.0;
        takes_in = record {
          package_in = formed.names.used_lt j number_so.0;
          callers = callers_in L img ask.is_sound;
          calls_on = rows_met L t formed j s k free_so.0 free_so.1 fresh_so p.met p.due says.met_is says.due_is;
          givers = given_in L img ask.is_sound;
          dues_on = rows_due L t formed j s k free_so.0 free_so.1 fresh_so p.met p.due says.met_is says.due_is;
        };
        room = room_then L t formed j s k free_so.0 free_so.1 fresh_so p.met p.due says.met_is says.due_is l says.room;
      }

      pub adding_fits : AddFits L p.met p.due p.service.provider p.service.number (tok_of p.service.tokens) l (decode L img)
      adding_fits = subst (λ (z : Tokens). AddFits L p.met p.due j k (tok_of z) l (decode L img)) (sym tokens_so) fits

      pub adding_answers : {after : List ℕ} → Wrote L after (added L p.met p.due p.service.provider p.service.number (tok_of p.service.tokens) l (decode L img))
          → Answers (settled L img a (add_service (tok_of n) l)) (Ok p.service.provider) after
      adding_answers {after} w = subst (λ (o : Out). Answers o (Ok j) after) (sym (settled_as h))
          (subst (λ (z : Tokens). Answers (record { answered = 0; second = j; bytes = encode L (add_service_at L t j k (tok_of z) l).tables }) (Ok j) after) (sym tokens_so)
          (accepted_answers L draft_written j))
        where
          draft_written : Wrote L after (add_service_at L t j k s l).tables
          draft_written = subst (Wrote L after) (added_is L t formed j s k free_so.0 free_so.1 fresh_so p.met p.due says.met_is says.due_is l)
              (subst (λ (z : Tokens). Wrote L after (added L p.met p.due j k (tok_of z) l t)) tokens_so w)
