-- Rules that differ in the kinds that are read, and in nothing else: every record is judged alike whose kind both read or neither does, and
-- every card goes on. A record of a kind that is not read, or of another version, is malformed.
use Prim.Native.Nat.{ℕ, zero, suc, ◌+◌, ◌*◌, ◌≤◌, ◌<◌}
use native.Mathlib.Omega.{arith}
use mathlib.Core.Path.{◌≡◌, refl, ap, ◌∙◌}
use mathlib.Core.Logic.{◌⊎◌, inl, inr}
use mathlib.Core.Bool.{Bool, true, false, not, ◌&&◌, cond}
use mathlib.Core.List.{List, [], ◌∷◌, ◌++◌}
use mathlib.Core.List.Memᴰ.{head as here}
use mathlib.Core.List.Memᴰ.{tail as there}
use mathlib.Core.List.{Memᴰ as In}
use mathlib.Core.Option.{Option, none, some}
use lib.Dec.{T, eqb, eqb→eq, leb, leb→le, le→leb, nleb→lt}
use lib.ListN.{length, get_or}
use Rattle.policy.specs.Contract.{Aid, Contract}
use Rattle.policy.specs.Layout.{Layout, LayoutOk, ten, eleven, nine}
use Rattle.policy.specs.Record.{Request, Change, load, remove, add_service, remove_service, add_call, remove_call, add_grant, remove_grant, add_need, remove_need, replace, Got, got, bad, and_then, done, given}
use Rattle.policy.specs.Record.{byte, bytes, number, aid, tokens, row_of, valid_tokens, counted, a_contract, a_service, kinds, change, fields, whole, parse, proper}
use Rattle.policy.specs.Causes.{◌when◌, answer}
use Rattle.policy.specs.Machine.{effect, causes4to7, causes8to11, causes3to11, Held, held, machine}
use Rattle.policy.specs.Tables.{Tables, decode, encode}
use Rattle.policy.specs.Lookup.{number_of, service_of, server_of, spot_of, free_number, free_service, contract_at}
use Rattle.policy.specs.Sound.{aids_ok, tokens_ok, blanks_ok, entries_ok, bits_provided, needs_called, bits_granted, lists_ok, rows_ok, methods_ok, grants_ok, sound_tables, sound}
use Rattle.policy.specs.Draft.{Draft, draft, new_services, number_for, look}
use Rattle.policy.specs.Judge.{Out, refusal, look_causes, table_causes, judge_causes, judged, judge_tables, judge}
use Rattle.policy.specs.History.{AllAllowed}
use Rattle.policy.specs.Eras.{with_reads, Stays, OtherKindsStay, KindsChange, Malformed, UnreadMalformed, OtherVersion}
use Rattle.policy.proofs.Sets.{T_eq, T_false, test, not_i, or_l, or_r, or_e}
use Rattle.policy.proofs.Equal.{eqb_of}
use Rattle.policy.proofs.Step.{standing_allowed}
use Rattle.policy.proofs.Settled.{judge_malformed}
use Rattle.policy.proofs.Eras.{stays}

-- what the machine holds after what was read
abbrev after : (L : Layout) → List Contract → Option Request → Held L
after L cs o = elim o [ none ↦ held L cs cs 2 | some q ↦ held L cs (effect L cs q.aid q.change) (answer (causes3to11 L cs q)) ]

module _ (M : Layout) (r : ℕ → Bool) where
  same_readers : kinds (with_reads M r) ≡ kinds M
  unfolding a_contract a_service tokens row_of valid_tokens counted number byte aid bytes
  same_readers = refl

  same_decode : (img : List ℕ) → decode (with_reads M r) img ≡ decode M img
  unfolding decode
  same_decode img = refl

  same_encode : (t : Tables) → encode (with_reads M r) t ≡ encode M t
  unfolding encode
  same_encode t = refl

  same_sound : (img : List ℕ) → sound (with_reads M r) img ≡ sound M img
  unfolding sound sound_tables decode encode aids_ok tokens_ok blanks_ok entries_ok bits_provided needs_called bits_granted lists_ok rows_ok methods_ok grants_ok number_of service_of server_of spot_of
  same_sound img = refl

  -- the kinds ask nothing of what is read: cause 3, causes 4 to 7 and the draft on tables, the machine's effect and its causes 4 to 7
  abbrev SameKind : Aid → Change → Type 0
  SameKind a c =
      (proper (with_reads M r) a c ≡ proper M a c)
      × ((t : Tables) → table_causes (with_reads M r) t a c ≡ table_causes M t a c)
      × ((t : Tables) → draft (with_reads M r) t a c ≡ draft M t a c)
      × ((cs : List Contract) → effect (with_reads M r) cs a c ≡ effect M cs a c)
      × ((cs : List Contract) → causes4to7 (with_reads M r) cs a c ≡ causes4to7 M cs a c)

  same_kind : (a : Aid) (c : Change) → SameKind a c
  unfolding proper draft new_services number_of service_of server_of spot_of free_number free_service contract_at
  same_kind a (load p c g n) = (refl, λ t. refl, λ t. refl, λ cs. refl, λ cs. refl)
  same_kind a remove = (refl, λ t. refl, λ t. refl, λ cs. refl, λ cs. refl)
  same_kind a (add_service x l) = (refl, λ t. refl, λ t. refl, λ cs. refl, λ cs. refl)
  same_kind a (remove_service x) = (refl, λ t. refl, λ t. refl, λ cs. refl, λ cs. refl)
  same_kind a (add_call x) = (refl, λ t. refl, λ t. refl, λ cs. refl, λ cs. refl)
  same_kind a (remove_call x) = (refl, λ t. refl, λ t. refl, λ cs. refl, λ cs. refl)
  same_kind a (add_grant x) = (refl, λ t. refl, λ t. refl, λ cs. refl, λ cs. refl)
  same_kind a (remove_grant x) = (refl, λ t. refl, λ t. refl, λ cs. refl, λ cs. refl)
  same_kind a (add_need x) = (refl, λ t. refl, λ t. refl, λ cs. refl, λ cs. refl)
  same_kind a (remove_need x) = (refl, λ t. refl, λ t. refl, λ cs. refl, λ cs. refl)
  same_kind a (replace p c g n) = (refl, λ t. refl, λ t. refl, λ cs. refl, λ cs. refl)

  same_number : (t : Tables) (a : Aid) → number_for (with_reads M r) t a ≡ number_for M t a
  unfolding number_for number_of free_number
  same_number t a = refl

  same_look : (d : Draft) → look (with_reads M r) d ≡ look M d
  unfolding look
  same_look d = refl

  -- ---- reading
  same_parse : (s : List ℕ) → r (get_or s 3 0) ≡ M.reads (get_or s 3 0) → parse (with_reads M r) s ≡ parse M s
  unfolding parse fields number byte change
  same_parse [] e = refl
  same_parse (h ∷ []) e = refl
  same_parse (h ∷ x ∷ []) e = refl
  same_parse (h ∷ x ∷ v ∷ []) e = refl
  same_parse (h ∷ x ∷ v ∷ k ∷ s) e = λ i. whole (and_then (given (eqb ((0 * 256 + h) * 256 + x) (length (h ∷ x ∷ v ∷ k ∷ s)) && eqb v M.version) aid s)
      (λ a t. and_then (given (e i) (get_or (same_readers i) k (λ s. bad)) t) (λ c. done (record { aid = a; change = c }))))

  -- ---- the engine
  same_judged : (img : List ℕ) (m : ℕ) (t : Tables) (n : ℕ) → judged (with_reads M r) img m t n ≡ judged M img m t n
  same_judged img m t zero = λ i. record { answered = 0; second = m; bytes = same_encode t i }
  same_judged img m t (suc n) = refl

  same_tables : (img : List ℕ) (t : Tables) (o : Option Request) → judge_tables (with_reads M r) img t o ≡ judge_tables M img t o
  same_tables img t none = refl
  same_tables img t (some q) =
      let L = with_reads M r in
      let a = q.aid in
      let c = q.change in
      let (propers, causes, drafts, _, _) = same_kind a c in
      let looks : look L (draft L t a c) ≡ look M (draft M t a c) = same_look (draft L t a c) ∙ ap (look M) (drafts t) in
      same_judged img (number_for L t a) (draft L t a c).tables (answer (judge_causes L t q))
      ∙ (λ i. judged M img (same_number t a i) (drafts t i).tables (answer (3 when not (propers i) ∷ causes t i ++ look_causes (looks i))))

  same_engine : (img s : List ℕ) → r (get_or s 3 0) ≡ M.reads (get_or s 3 0) → judge (with_reads M r) img s ≡ judge M img s
  unfolding judge
  same_engine img s e =
      (λ i. cond (same_sound img i) (judge_tables (with_reads M r) img (same_decode img i) (same_parse s e i)) (refusal 1 255 img))
      ∙ ap (λ (o : Out). cond (sound M img) o (refusal 1 255 img)) (same_tables img (decode M img) (parse M s))

  -- ---- the machine
  same_effect : (cs : List Contract) (q : Request) → effect (with_reads M r) cs q.aid q.change ≡ effect M cs q.aid q.change
  same_effect cs q = (same_kind q.aid q.change).3 cs

  same_answer : (cs : List Contract) (q : Request) → answer (causes3to11 (with_reads M r) cs q) ≡ answer (causes3to11 M cs q)
  same_answer cs q = let (propers, _, _, _, tests) = same_kind q.aid q.change in λ i. answer (3 when not (propers i) ∷ tests cs i ++ causes8to11 M (same_effect cs q i))

  held_answered : (cs ds : List Contract) (n : ℕ) → (held (with_reads M r) cs ds n).answered ≡ (held M cs ds n).answered
  held_answered cs ds zero = refl
  held_answered cs ds (suc n) = refl

  held_contracts : (cs ds : List Contract) (n : ℕ) → (held (with_reads M r) cs ds n).contracts ≡ (held M cs ds n).contracts
  held_contracts cs ds zero = refl
  held_contracts cs ds (suc n) = refl

  same_answered : (cs : List Contract) (o : Option Request) → (after (with_reads M r) cs o).answered ≡ (after M cs o).answered
  same_answered cs none = refl
  same_answered cs (some q) =
      held_answered cs (effect (with_reads M r) cs q.aid q.change) (answer (causes3to11 (with_reads M r) cs q))
      ∙ (λ i. (held M cs (same_effect cs q i) (same_answer cs q i)).answered)

  same_contracts : (cs : List Contract) (o : Option Request) → (after (with_reads M r) cs o).contracts ≡ (after M cs o).contracts
  same_contracts cs none = refl
  same_contracts cs (some q) =
      held_contracts cs (effect (with_reads M r) cs q.aid q.change) (answer (causes3to11 (with_reads M r) cs q))
      ∙ (λ i. (held M cs (same_effect cs q i) (same_answer cs q i)).contracts)

  pub other_kinds_stay : OtherKindsStay M r
  unfolding machine
  other_kinds_stay s e = record {
    engine = λ img. same_engine img s e;
    answers = λ cs. ap (λ (o : Option Request). (after (with_reads M r) cs o).answered) (same_parse s e) ∙ same_answered cs (parse M s);
    contracts = λ cs. ap (λ (o : Option Request). (after (with_reads M r) cs o).contracts) (same_parse s e) ∙ same_contracts cs (parse M s);
  }

  -- ---- every card goes on
  pub same_allowed : (cs : List Contract) → AllAllowed M cs → AllAllowed (with_reads M r) cs
  same_allowed cs a c m = let v = a c m in record { tokens = record { provides = v.tokens.provides; calls = v.tokens.calls; grants = v.tokens.grants }; own = v.own }

  pub kinds_change : LayoutOk (with_reads M r) → (ks : List ℕ) → ((k : ℕ) → (In k ks → ⊥) → r k ≡ M.reads k) → KindsChange M (with_reads M r) ks
  kinds_change lo ks same =
      let h : Stays M (with_reads M r) = stays M (with_reads M r) (record { packages = refl; services = refl; width = refl; capacity = refl; header = refl; early = refl }) lo in
      record {
        same_image = h.same_image;
        goes_on = λ img cs f. h.goes_on img cs f (same_allowed cs (standing_allowed M img cs f));
        others = λ s n. other_kinds_stay s (same (get_or s 3 0) n);
      }

-- ---- which kinds begin and end
-- a number up to m + 1 is one up to m, or m + 1
last : (k m : ℕ) → k ≤ suc m → (k ≤ m) ⊎ (k ≡ suc m)
last k m h = go (test (leb k m))
  where
    go : T (leb k m) ⊎ (T (leb k m) → ⊥) → (k ≤ m) ⊎ (k ≡ suc m)
    go (inl x) = inl (leb→le k m x)
    go (inr x) = inr (same (nleb→lt k m (not_i (leb k m) x)))
      where
        same : m < k → k ≡ suc m
        same g = omega (arith, h)

-- R-1
pub but_11 : (k : ℕ) → (In k (11 ∷ []) → ⊥) → eleven k ≡ ten k
but_11 k n = T_eq (eleven k) (ten k) (λ h. le→leb k 10 (go (last k 10 (leb→le k 11 h)))) (λ h. le→leb k 11 (wider (leb→le k 10 h)))
  where
    go : (k ≤ 10) ⊎ (k ≡ 11) → k ≤ 10
    go (inl h) = h
    go (inr e) = absurd (n (here e))

    wider : k ≤ 10 → k ≤ 11
    wider h = omega arith

-- R-13
pub but_9_and_10 : (k : ℕ) → (In k (9 ∷ 10 ∷ []) → ⊥) → nine k ≡ eleven k
but_9_and_10 k n = T_eq (nine k) (eleven k) (λ h. le→leb k 11 (to (or_e (leb k 8) (eqb k 11) h))) (λ h. at_11 (last k 10 (leb→le k 11 h)))
  where
    to : T (leb k 8) ⊎ T (eqb k 11) → k ≤ 11
    to (inl h) = let q = leb→le k 8 h in omega arith
    to (inr h) = let q = eqb→eq k 11 h in omega arith

    at_9 : (k ≤ 8) ⊎ (k ≡ 9) → T (nine k)
    at_9 (inl h) = or_l (leb k 8) (eqb k 11) (le→leb k 8 h)
    at_9 (inr e) = absurd (n (here e))

    at_10 : (k ≤ 9) ⊎ (k ≡ 10) → T (nine k)
    at_10 (inl h) = at_9 (last k 8 h)
    at_10 (inr e) = absurd (n (there (here e)))

    at_11 : (k ≤ 10) ⊎ (k ≡ 11) → T (nine k)
    at_11 (inl h) = at_10 (last k 9 h)
    at_11 (inr e) = or_r (leb k 8) (eqb k 11) (eqb_of e)

-- ---- a kind that is not read, and a version that is not the card's
module _ (L : Layout) where
  malformed : (s : List ℕ) → parse L s ≡ none → Malformed L s
  unfolding machine
  malformed s e = record {
    not_read = e;
    engine = λ img ok. judge_malformed L img s ok e;
    answers = λ cs. ap (λ (o : Option Request). (after L cs o).answered) e;
    contracts = λ cs. ap (λ (o : Option Request). (after L cs o).contracts) e;
  }

  bad_after : {A B : Type 0} (x : Got A) → and_then {B = B} x (λ a s. bad) ≡ bad
  bad_after (got a s) = refl
  bad_after bad = refl

  unread : (s : List ℕ) → L.reads (get_or s 3 0) ≡ false → parse L s ≡ none
  unfolding parse fields number byte change
  unread [] e = refl
  unread (h ∷ []) e = refl
  unread (h ∷ x ∷ []) e = refl
  unread (h ∷ x ∷ v ∷ []) e = refl
  unread (h ∷ x ∷ v ∷ k ∷ s) e =
      let first = given (eqb ((0 * 256 + h) * 256 + x) (length (h ∷ x ∷ v ∷ k ∷ s)) && eqb v L.version) aid s in
      (λ i. whole (and_then first (λ a t. and_then (given (e i) (get_or (kinds L) k (λ s. bad)) t) (λ c. done (record { aid = a; change = c }))))) ∙ ap whole (bad_after first)

  pub unread_malformed : UnreadMalformed L
  unread_malformed s n = malformed s (unread s (T_false (L.reads (get_or s 3 0)) n))

  versioned : (s : List ℕ) → eqb (get_or s 2 0) L.version ≡ false → parse L s ≡ none
  unfolding parse fields number byte
  versioned [] e = refl
  versioned (h ∷ []) e = refl
  versioned (h ∷ x ∷ []) e = refl
  versioned (h ∷ x ∷ v ∷ []) e = refl
  versioned (h ∷ x ∷ v ∷ k ∷ s) e =
      let l = length (h ∷ x ∷ v ∷ k ∷ s) in
      let fits = eqb ((0 * 256 + h) * 256 + x) l in
      (λ i. whole (and_then (given (fits && e i) aid s) (λ a t. and_then (change L k t) (λ c. done (record { aid = a; change = c })))))
      ∙ (λ i. whole (and_then (given (and_false fits i) aid s) (λ a t. and_then (change L k t) (λ c. done (record { aid = a; change = c })))))
    where
      and_false : (b : Bool) → b && false ≡ false
      and_false true = refl
      and_false false = refl

  pub other_version : OtherVersion L
  other_version s n = malformed s (versioned s (T_false (eqb (get_or s 2 0) L.version) (λ h. n (eqb→eq (get_or s 2 0) L.version h))))
