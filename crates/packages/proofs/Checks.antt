-- What the code that decides of a contract that comes has found. Assumes nothing.
use Prim.Native.Nat.{ℕ, zero, suc, ◌+◌, ◌≤◌, ◌<◌}
use native.Mathlib.Omega.{arith}
use mathlib.Core.Path.{◌≡◌, refl, sym, ap, ap₂, ◌∙◌, subst}
use mathlib.Core.Bool.{Bool, true, false, not, ◌&&◌, ◌||◌, cond, and-false}
use mathlib.Core.List.Memᴰ.{head as here}
use mathlib.Core.List.Memᴰ.{tail as there}
use mathlib.Core.List.{List, [], ◌∷◌, Memᴰ as In}
use mathlib.Core.Option.{Option, none, some}
use lib.Bits.{bit_and}
use lib.Dec.{T, eqb, leb, le→leb, leb→le}
use lib.ListN.{length, get_or, drop, length-drop}
use borrow.Author.Tests.{eq-eqb, ne_eqb, le-leb, lt-leb}
use Rattle.std.specs.Prelude.{Some, None, Result, Err}
use Rattle.std.specs.Prelude.{Option as Answer}
use Rattle.std.specs.Iterator.{YieldsThen}
use Rattle.std.specs.List.{filter, slice_get}
use Rattle.std.specs.Option.{MatchOption, option_map}
use Rattle.std.specs.Option.{is_some as answer_is_some}
use Rattle.std.proofs.lemmas.Iterator.{YieldsList}
use Rattle.std.proofs.lemmas.Iterator.Consumers.{nth_from_yields_List}
use Rattle.policy.specs.Lists.{implies, every, keep, is_some}
use Rattle.policy.specs.Contract.{Tok, eq_tok, Row, Contract}
use Rattle.policy.specs.Contract.{Aid as Bytes}
use Rattle.policy.specs.Layout.{Layout}
use Rattle.policy.specs.Causes.{answer}
use Rattle.policy.specs.Judge.{refusal, table_causes, look_causes}
use Rattle.policy.specs.Settled.{settled}
use Rattle.policy.specs.Record.{Change}
use Rattle.policy.specs.Record.{Got, got, bad, and_then, byte, aid, tokens, row_of as the_row, many, a_row}
use Rattle.policy.specs.Tables.{Tables, row_of, bit, decode}
use Rattle.policy.specs.Lookup.{Place as Found, places, numbers, server_of}
use Rattle.policy.specs.Sound.{sound}
use Rattle.policy.specs.ShortCheck.{count, sum, short_look}
use Rattle.policy.proofs.Sets.{T_eq, T_true, T_false, false_T, upto_in, length_keep}
use Rattle.policy.proofs.Bits.{bit_none}
use Rattle.policy.proofs.SoundFacts.{sound_formed}
use Rattle.policy.proofs.Settled.{settled_short}
use Rattle.answers.specs.Numbers.{number, answered}
use Rattle.answers.specs.declared.Refusal.{Refusal}
use Rattle.bits.proofs.Loops.{every_intro}
use Rattle.bits.proofs.Row.{row_bit, row_beside, bit_seen}
use Rattle.geometry.specs.declared.Table.{Table}
use Rattle.geometry.specs.declared.Table.TheVariants.{Calls, Needs}
use Rattle.image.specs.declared.read.Place.{Place}
use Rattle.image.specs.Laid.{table_of}
use Rattle.image.specs.Read.{found_place, mask_of}
use Rattle.image.proofs.LaidImage.{place_none}
use Rattle.record.specs.Meaning.{value_of, items_of}
use Rattle.record.specs.Listed.{rows_of}
use Rattle.record.specs.declared.list.Rows.{Rows}
use Rattle.record.proofs.Fronts.{aid_good, aid_fits}
use Rattle.changes.specs.Asked.{Asked}
use Rattle.changes.specs.Left.{in_column}
use Rattle.changes.specs.Own.{served}
use Rattle.changes.proofs.Verdicts.{number_above}
use Rattle.packages.specs.Conditions.{granted_at, own_granted, CallsCome, needs_served, granted_to, others_granted, service_granted, row_granted, caller_granted, kept_granted}
use Rattle.packages.specs.Decides.{unmet_fit, waiting_fit, limit_cause, bring_cause}
use Rattle.packages.specs.declared.decide.Bring.{Bring}

-- ---- what package n may call at the place p: the rows of w, or a bit of the row
module _ (L : Layout) (t : Tables) (w m n : ℕ) (s : Tok) (p : Found) (g : bit_and w m ≡ bit_and w (mask_of (λ x. eqb x.callee p.callee && eq_tok x.tok s) t.waiting)) where
  pub may_bit : bit_and w m ≡ 0 → (row : ℕ) (b : Bool) → row ≡ row_of L.services (t.grants p.callee n) → b ≡ bit row p.service → p.service < L.services → b ≡ granted_at L t w n s p
  may_bit z row b e q h =
      bit_seen L.services (t.grants p.callee n) row p.service b q e h
      ∙ ap (λ (x : Bool). x || t.grants p.callee n p.service) (sym (ap not (eq-eqb (bit_and w m) 0 z)) ∙ ap (λ (x : ℕ). not (eqb x 0)) g)

-- ---- a list of rows has no more of them than its part has bytes
tokens_less : (s : List ℕ) {v : Tok} {u : List ℕ} → tokens s ≡ got v u → length u ≤ length s
unfolding tokens byte
tokens_less [] e = absurd (cc)
tokens_less (x ∷ []) e = absurd (cc)
tokens_less (x ∷ (y ∷ s)) {u = u} e = let q : s ≡ u = cc in omega (arith, ap length q)

row_less : (s : List ℕ) {a : Row} {u : List ℕ} → a_row s ≡ got a u → length u < length s
unfolding the_row
row_less s {a} {u} e = go (aid s) refl e
  where
    last : (b : Bytes) (t : List ℕ) (g : Got Tok) → tokens t ≡ g → and_then g (λ v w. got (record { aid = b; tok = v }) w) ≡ got a u → length u ≤ length t
    last b t bad q h = absurd (cc)
    last b t (got v w) q h = let z : w ≡ u = cc in omega (arith, tokens_less t q, ap length z)

    go : (g : Got Bytes) → aid s ≡ g → and_then g (λ b t. and_then (tokens t) (λ v w. got (record { aid = b; tok = v }) w)) ≡ got a u → length u < length s
    go bad q h = absurd (cc)
    go (got b t) q h =
        let f = aid_fits s q in
        let z : t ≡ drop (get_or s 0 0 + 1) s = let w = aid_good s f in cc in
        omega (arith, f.some, last b t (tokens t) refl h, ap length z, length-drop (get_or s 0 0 + 1) s)

rows_less : (n : ℕ) (s : List ℕ) → length (items_of a_row n s) ≤ length s
rows_less zero s = omega arith
rows_less (suc n) s = go (rows_less n) (a_row s) refl
  where
    more : (a : Row) (m : Got (List Row)) (k : ℕ) → length (value_of [] m) ≤ k → length (value_of [] (and_then m (λ l u. got (a ∷ l) u))) ≤ k + 1
    more a (got l u) k h = omega arith
    more a bad k h = omega arith

    go : ((t : List ℕ) → length (items_of a_row n t) ≤ length t) → (g : Got Row) → a_row s ≡ g
        → length (value_of [] (and_then g (λ a t. and_then (many a_row n t) (λ l u. got (a ∷ l) u)))) ≤ length s
    go h bad e = omega arith
    go h (got a t) e = let q = more a (many a_row n t) (length t) (h t) in omega (arith, row_less s e)

pub rows_few : (l : Rows) (f : Row → Bool) → count f (rows_of l) ≤ length l.part.now
rows_few l f = omega (arith, length_keep f (rows_of l), rows_less l.left l.part.now)

-- ---- calls without a server, u of them counted already: one more, and no more than fit
module _ (f : Row → Bool) (calls : Rows) {l rest : List Row} {x : Row} (u : ℕ) where
  pub one_counted : u + count f l ≡ count f (rows_of calls) → l ≡ x ∷ rest → f x ≡ true → u + 1 ≤ length calls.part.now
  one_counted h e q = let p : u + suc (count f rest) ≡ count f (rows_of calls) = rw (e, q) at h in omega (arith, rows_few calls f)

pub unserved_at : (L : Layout) (t : Tables) (r : Row) (o : Answer Place) → o ≡ found_place (server_of L t r) → o ≡ None → not (served L t r) ≡ true
unserved_at L t r o e h = ap (λ (p : Option Found). not (is_some p)) (place_none (server_of L t r) o e h)

-- two tests that agree on a list
every_ext : (f g : ℕ → Bool) (l : List ℕ) → ((x : ℕ) → In x l → f x ≡ g x) → every f l ≡ every g l
every_ext f g [] e = refl
every_ext f g (x ∷ l) e = ap₂ ◌&&◌ (e x (here refl)) (every_ext f g l (λ y m. e y (there m)))

-- ---- the calls of package i on services of package n that stay: `kept`, made of the row of its calls and of the services d that go
module _ (L : Layout) (t : Tables) (low : L.services ≤ 16) (gs : List Row) (n i d row kept : ℕ) (e : row ≡ row_of L.services (t.calls i n))
    (q : kept ≡ row_of 16 (λ k. bit row k && not (bit d k))) where
  abbrev stays : ℕ → Bool
  stays k = t.calls i n k && not (bit d k)

  kept_bit : (k : ℕ) → k < L.services → bit kept k ≡ stays k
  kept_bit = row_bit L.services stays kept (q ∙ row_beside L.services 16 (t.calls i n) (λ k. not (bit d k)) row low e)

  pub kept_by : row_granted L t gs n i (bit kept) ≡ row_granted L t gs n i stays
  kept_by = every_ext (service_granted L t gs n i (bit kept)) (service_granted L t gs n i stays) (places L)
      (λ k m. ap (λ (b : Bool). implies b (granted_to L t gs i (t.tok n k))) (kept_bit k (upto_in L.services m)))

  pub kept_none : kept ≡ 0 → true ≡ row_granted L t gs n i stays
  kept_none z = sym (every_intro (service_granted L t gs n i (bit kept)) L.services (λ k h. ap (λ (x : ℕ). implies (bit x k) (granted_to L t gs i (t.tok n k))) z ∙ ap (λ (b : Bool). implies b (granted_to L t gs i (t.tok n k))) (bit_none k))) ∙ kept_by

-- package n of a sound image provides nothing: there is no call on it
pub none_called : (L : Layout) (img : List ℕ) (gs : List Row) (n d row : ℕ) → T (sound L img) → row ≡ row_of L.services ((decode L img).provides n) → row ≡ 0
    → true ≡ kept_granted L (decode L img) gs n d
none_called L img gs n d row ok e z =
    sym (every_intro (caller_granted L t gs n d) L.packages (λ i _. every_intro (service_granted L t gs n i (λ k. t.calls i n k && not (bit d k))) L.services (λ k h.
    ap (λ (b : Bool). implies (b && not (bit d k)) (granted_to L t gs i (t.tok n k)))
    (T_false (t.calls i n k) (λ a. false_T (off k h) ((sound_formed L img ok).calls.of_prov i n k a))))))
  where
    t : Tables
    t = decode L img

    off : (k : ℕ) → k < L.services → t.provides n k ≡ false
    off k h = sym (row_bit L.services (t.provides n) row e k h) ∙ ap (λ (x : ℕ). bit x k) z ∙ bit_none k

-- ---- no service is dropped: a column has none of them
no_ones : (g : ℕ → ℕ → Bool) (l m : List ℕ) → ((i k : ℕ) → g i k ≡ false) → sum (λ i. count (g i) l) m ≡ 0
no_ones g l [] e = refl
no_ones g l (i ∷ m) e = ap₂ ◌+◌ (ap (λ (f : ℕ → Bool). count f l) (λ j k. e i k j) ∙ none l) (no_ones g l m e)
  where
    none : (l : List ℕ) → count (λ k. false) l ≡ 0
    none [] = refl
    none (k ∷ l) = none l

pub column_off : (L : Layout) (tb : Table) (t : Tables) (n d : ℕ) → d ≡ 0 → 0 ≡ in_column L tb t n (bit d)
column_off L tb t n d e =
    sym (no_ones (λ i k. table_of tb t i n k && bit d k) (places L) (numbers L)
    (λ i k. ap (λ (x : Bool). table_of tb t i n k && x) (ap (λ (z : ℕ). bit z k) e ∙ bit_none k) ∙ and-false (table_of tb t i n k)))

-- ---- at most n of l pass: no n-th of those that do
module _ {S A : Type 0} {steps : S → Answer A → S → Type 0} {v : A → Row} {s : S} (test : Row → Bool) (l : List Row) (r : Answer A) (u : S) (n : ℕ) where
  pub none_after : (xs : List A) × YieldsThen steps s xs r u × MatchOption r (length xs ≤ n) (λ _. length xs ≡ n) → YieldsList steps v s (filter test l)
      → {b : Bool} → answer_is_some r ≡ not b → b ≡ leb (count test l) n
  none_after ran y {b} e = not-not b ∙ ap not (sym e ∙ is_got r ∙ ap answer_is_some (nth_from_yields_List r u n ran y) ∙ there_is (filter test l) n)
      ∙ sym (not-not (leb (length (filter test l)) n)) ∙ ap (λ (m : List Row). leb (length m) n) (kept l)
    where
      not-not : (b : Bool) → b ≡ not (not b)
      not-not true = refl
      not-not false = refl

      is_got : (o : Answer A) → answer_is_some o ≡ answer_is_some (option_map v o)
      is_got None = refl
      is_got (Some x) = refl

      there_is : (m : List Row) (n : ℕ) → answer_is_some (slice_get m n) ≡ not (leb (length m) n)
      there_is [] n = sym (ap not (le-leb 0 n (omega arith)))
      there_is (x ∷ m) zero = sym (ap not (lt-leb (suc (length m)) 0 (omega arith)))
      there_is (x ∷ m) (suc n) = there_is m n ∙ ap not (T_eq (leb (length m) n) (leb (suc (length m)) (suc n))
          (λ h. le→leb (suc (length m)) (suc n) (omega (arith, leb→le (length m) n h))) (λ h. le→leb (length m) n (omega (arith, leb→le (suc (length m)) (suc n) h))))

      kept : (l : List Row) → filter test l ≡ keep test l
      kept [] = refl
      kept (x ∷ l) = ap (λ (m : List Row). cond (test x) (x ∷ m) m) (kept l)

-- ---- the first cause that applies
abbrev cause_of : Bool → Bool → Bool → Bool → Bool → Bool → ℕ
cause_of g o d e u w = cond (not (g && o)) 8 (cond (not (d && e)) 9 (cond (not u) 10 (cond (not w) 11 0)))

module _ (L : Layout) (t : Tables) (k : Contract) (b : Bring) where
  abbrev mine : Bool
  mine = own_granted L t b.due b.at k.calls

  abbrev others : Bool
  others = others_granted L t k.grants b.met

  abbrev here_all : Bool
  here_all = needs_served L t k.needs

  abbrev freed : Bool
  freed = eqb (in_column L Needs t b.at (bit b.dropped)) 0

  abbrev more : ℕ
  more = count (λ r. not (served L t r)) k.calls + in_column L Calls t b.at (bit b.dropped)

  abbrev room : Bool
  room = unmet_fit L t b.calls more

  abbrev wait_room : Bool
  wait_room = waiting_fit L t b.grants k.provides k.grants

  -- by what its calls come to
  module _ (r : Answer ℕ) (come : CallsCome L t b.due b.at k.calls r) where
    pub cause_1 : r ≡ None → 8 ≡ bring_cause L t k b
    cause_1 q = λ i. cause_of (sym (T_false mine (subst (CallsCome L t b.due b.at k.calls) q come)) i) others here_all freed room wait_room

    module _ {n : ℕ} (q1 : r ≡ Some n) where
      all_come : CallsCome L t b.due b.at k.calls (Some n)
      all_come = subst (CallsCome L t b.due b.at k.calls) q1 come

      on_1 : true ≡ mine
      on_1 = sym (T_true mine all_come.0)

      -- the third, before the second tells
      pub cause_3 : {x : Bool} → x ≡ others → x ≡ false → 8 ≡ bring_cause L t k b
      cause_3 e q = λ i. cause_of (on_1 i) ((sym q ∙ e) i) here_all freed room wait_room

      module _ {x : Bool} (e3 : x ≡ others) (q3 : x ≡ true) where
        on_3 : true ≡ others
        on_3 = sym q3 ∙ e3

        pub cause_2 : {d : Bool} → d ≡ here_all → d ≡ false → 9 ≡ bring_cause L t k b
        cause_2 e q = λ i. cause_of (on_1 i) (on_3 i) ((sym q ∙ e) i) freed room wait_room

        module _ {d : Bool} (e2 : d ≡ here_all) (q2 : d ≡ true) (z : ℕ) (ez : z ≡ in_column L Needs t b.at (bit b.dropped)) where
          on_2 : true ≡ here_all
          on_2 = sym q2 ∙ e2

          pub cause_freed : (z ≡ 0 → ⊥) → 9 ≡ bring_cause L t k b
          cause_freed q = λ i. cause_of (on_1 i) (on_3 i) (on_2 i) ((sym (ne_eqb z 0 q) ∙ ap (λ (v : ℕ). eqb v 0) ez) i) room wait_room

          pub cause_rest : z ≡ 0 → {m x : ℕ} → m ≡ in_column L Calls t b.at (bit b.dropped) → x ≡ limit_cause L t b.calls b.grants (n + m) k.provides k.grants → x ≡ bring_cause L t k b
          cause_rest q e l = l ∙ (λ i. cause_of (on_1 i) (on_3 i) (on_2 i) ((sym (eq-eqb z 0 q) ∙ ap (λ (v : ℕ). eqb v 0) ez) i) (unmet_fit L t b.calls (all_come.1 i + e i)) wait_room)

-- so many calls without a server are no more than the bytes of their list
pub calls_few : (L : Layout) (t : Tables) (w n : ℕ) (l : Rows) (r : Answer ℕ) {u : ℕ} → CallsCome L t w n (rows_of l) r → r ≡ Some u → u ≤ length l.part.now
calls_few L t w n l r come e = let q = (subst (CallsCome L t w n (rows_of l)) e come).1 in omega (arith, rows_few l (λ x. not (served L t x)))

-- ---- what is decided, by what the code found: a package, and what is found later
pub none_is : {A : Type 0} (o : Option A) → is_some o ≡ false → o ≡ none
none_is none e = refl
none_is (some x) e = absurd (cc)

-- no cause before 8 applies, and the short check has told r
pub refused_late : (L : Layout) (img : List ℕ) (a : Bytes) (c : Change) → Asked L img a c → answer (table_causes L (decode L img) a c) ≡ 0 → {A : Type 0} {r : Result A Refusal}
    → answered r ≡ answer (look_causes (short_look L (decode L img) a c)) → {e : Refusal} → r ≡ Err e → settled L img a c ≡ refusal (number e) 255 img
refused_late L img a c ask early h {e} p =
    let k = number_above e in
    settled_short L img a c ask.is_sound ask.within ask.is_proper early k.0 (sym h ∙ ap answered p ∙ k.1) ∙ ap (λ (x : ℕ). refusal x 255 img) (sym k.1)
