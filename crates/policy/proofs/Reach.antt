-- Causes 4 to 7 and the searches that they ask of: where none applies, a record's draft and its short check are those at what was found.
use Prim.Native.Nat.{ℕ}
use mathlib.Core.Path.{◌≡◌, sym}
use mathlib.Core.Bool.{Bool, false, not, ◌||◌}
use mathlib.Core.List.{List, [], ◌∷◌}
use mathlib.Core.Option.{Option, none, some}
use lib.Dec.{T}
use Rattle.policy.specs.Lists.{is_some, or_else}
use Rattle.policy.specs.Contract.{Aid, Tok, Row, Contract, has_tok, has_row}
use Rattle.policy.specs.Layout.{Layout}
use Rattle.policy.specs.Record.{Change, load, remove, add_service, remove_service, add_call, remove_call, add_grant, remove_grant, add_need, remove_need, replace}
use Rattle.policy.specs.Causes.{Cause, ◌when◌, answer}
use Rattle.policy.specs.Tables.{Tables}
use Rattle.policy.specs.Lookup.{Place, Spot, number_of, service_of, server_of, spot_of, free_number, free_service, contract_at}
use Rattle.policy.specs.Draft.{Draft, Look, kept, add_call_at, remove_call_at, add_need_at, remove_need_at, add_grant_at, remove_grant_at, add_service_at, remove_service_at, remove_at, load_at, replace_at, draft}
use Rattle.policy.specs.Judge.{absent, table_causes}
use Rattle.policy.specs.ShortCheck.{fine, short_add_call, short_add_need, short_add_grant, short_remove_grant, short_add_service, short_remove_service, short_remove, short_load, short_replace, short_look}
use Rattle.policy.proofs.Sets.{false_T, or_l, or_r, not_i, not_not, none_to, some_to}
use Rattle.policy.proofs.Equal.{has_tok_lem, tok_has, has_row_lem, row_has}
use Rattle.policy.proofs.Answers.{answer_zero}
use Rattle.policy.proofs.Formed.{Formed, ProvidesAt, at, RowAt, GrantAt}
use Rattle.policy.proofs.Found.{NumberIs, ServiceIs, ServerIs, SpotIs, FreeIs, free_number_is, free_service_is, number_is, service_is, server_is, spot_is}
use Rattle.policy.proofs.ContractAt.{provides_at_lem, calls_at, needs_at_lem, grants_at_lem}

-- cause 6 of kinds 7 and 9: the row that is asked for holds, and the new one does not yet
pub asked_and_new : (x y : Bool) → (T (not x || y) → ⊥) → T x × (T y → ⊥)
asked_and_new x y n = (not_not x (λ h. n (or_l (not x) y h)), λ h. n (or_r (not x) y h))

module _ (L : Layout) (t : Tables) (f : Formed L t) (a : Aid) where
  -- ---- the searches, by any law Q of what they find
  -- the package, where cause 5 does not apply; and the causes after it
  at_number : (Q : Option ℕ → Type 0) (others : Option ℕ → List Cause) → answer (5 when absent L t a ∷ others (number_of L t a)) ≡ 0
      → ((i : ℕ) → T (t.used i) → t.aid i ≡ a → answer (others (some i)) ≡ 0 → Q (some i)) → Q (number_of L t a)
  at_number Q others e h =
      let z = answer_zero 4 (absent L t a) (others (number_of L t a)) e in
      some_to (NumberIs t a) (λ o. answer (others o) ≡ 0 → Q o) (number_of L t a) (number_is L t f.names a) z.0 (λ i n. h i n.0 n.1) z.1

  -- and cause 6 is the only one after it
  at_six : (Q : Option ℕ → Type 0) (b : Option ℕ → Bool) → answer (5 when absent L t a ∷ 6 when b (number_of L t a) ∷ []) ≡ 0
      → ((i : ℕ) → T (t.used i) → t.aid i ≡ a → (T (b (some i)) → ⊥) → Q (some i)) → Q (number_of L t a)
  at_six Q b e h = at_number Q (λ o. 6 when b o ∷ []) e (λ i u ai q. h i u ai (false_T (answer_zero 5 (b (some i)) [] q).0))

  -- a service that is provided
  at_service_lem : (Q : Option ℕ → Type 0) (j : ℕ) (s : Tok) → ProvidesAt t j s → ((k : ℕ) → T (t.provides j k) → t.tok j k ≡ s → Q (some k)) → Q (service_of L t j s)
  at_service_lem Q j s (at z p e) h = go (service_of L t j s) (service_is L t f.names j s)
    where
      go : (o : Option ℕ) → ServiceIs t j s o → Q o
      go none n = absurd (n z p (sym e))
      go (some k) n = h k n.0 n.1

  provided : (j : ℕ) (s : Tok) → T (has_tok s (contract_at L t j).provides) → ProvidesAt t j s
  provided j s h = (provides_at_lem L t f j s).0 (has_tok_lem s (contract_at L t j).provides h)

  -- ---- the kinds
  module _ (P : Draft → Look → Type 0) where
    abbrev Reaches : Change → Type 0
    Reaches c = answer (table_causes L t a c) ≡ 0 → P (draft L t a c) (short_look L t a c)

    pub reach_1 : (p : List Tok) (c g n : List Row)
        → ((m : ℕ) → NumberIs t a none → FreeIs L.packages t.used (some m)
        → P (load_at L t m (record { aid = a; provides = p; calls = c; grants = g; needs = n })) (short_load L t (record { aid = a; provides = p; calls = c; grants = g; needs = n })))
        → Reaches (load p c g n)
    unfolding draft short_look
    reach_1 p c g n h e =
        let k : Contract = record { aid = a; provides = p; calls = c; grants = g; needs = n } in
        let z = answer_zero 3 (is_some (number_of L t a)) (7 when not (is_some (free_number L t)) ∷ []) e in
        some_to (FreeIs L.packages t.used) (λ o. P (or_else o (kept t) (λ m. load_at L t m k)) (short_load L t k)) (free_number L t) (free_number_is L t)
        (answer_zero 6 (not (is_some (free_number L t))) [] z.1).0
        (λ m. h m (none_to (NumberIs t a) (number_of L t a) (number_is L t f.names a) (not_i (is_some (number_of L t a)) (false_T z.0))))

    pub reach_2 : ((n : ℕ) → T (t.used n) → t.aid n ≡ a → P (remove_at L t n) (short_remove L t n)) → Reaches remove
    unfolding draft short_look
    reach_2 h e = at_number (λ o. P (or_else o (kept t) (remove_at L t)) (or_else o fine (short_remove L t))) (λ o. []) e (λ n u an _. h n u an)

    pub reach_3 : (s : Tok) (l : List Aid)
        → ((j k : ℕ) → T (t.used j) → t.aid j ≡ a → (ProvidesAt t j s → ⊥) → FreeIs L.services (t.provides j) (some k) → P (add_service_at L t j k s l) (short_add_service L t j s l))
        → Reaches (add_service s l)
    unfolding draft short_look
    reach_3 s l h e =
        at_number (λ o. P (or_else o (kept t) (λ j. or_else (free_service L t j) (kept t) (λ k. add_service_at L t j k s l))) (or_else o fine (λ j. short_add_service L t j s l)))
        (λ o. 6 when or_else o false (λ i. has_tok s (contract_at L t i).provides) ∷ 7 when or_else o false (λ j. not (is_some (free_service L t j))) ∷ []) e
        (λ j u aj q.
        let z = answer_zero 5 (has_tok s (contract_at L t j).provides) (7 when not (is_some (free_service L t j)) ∷ []) q in
        some_to (FreeIs L.services (t.provides j)) (λ o. P (or_else o (kept t) (λ k. add_service_at L t j k s l)) (short_add_service L t j s l)) (free_service L t j) (free_service_is L t j)
        (answer_zero 6 (not (is_some (free_service L t j))) [] z.1).0
        (λ k. h j k u aj (λ p. false_T z.0 (tok_has ((provides_at_lem L t f j s).1 p)))))

    pub reach_4 : (s : Tok) → ((j k : ℕ) → T (t.provides j k) → t.aid j ≡ a → t.tok j k ≡ s → P (remove_service_at L t j k) (short_remove_service L t j k)) → Reaches (remove_service s)
    unfolding draft short_look
    reach_4 s h e =
        at_six (λ o. P (or_else o (kept t) (λ j. or_else (service_of L t j s) (kept t) (remove_service_at L t j))) (or_else o fine (λ j. or_else (service_of L t j s) fine (short_remove_service L t j))))
        (λ o. not (or_else o false (λ i. has_tok s (contract_at L t i).provides))) e
        (λ j u aj n. at_service_lem (λ o. P (or_else o (kept t) (remove_service_at L t j)) (or_else o fine (short_remove_service L t j))) j s
        (provided j s (not_not (has_tok s (contract_at L t j).provides) n)) (λ k p. h j k p aj))

    pub reach_5 : (r : Row)
        → ((i : ℕ) → T (t.used i) → t.aid i ≡ a → (RowAt t t.calls t.unmet i r → ⊥) → (o : Option Place) → ServerIs t r o → P (add_call_at L t i r o) (short_add_call L t i o))
        → Reaches (add_call r)
    unfolding draft short_look
    reach_5 r h e =
        at_six (λ o. P (or_else o (kept t) (λ i. add_call_at L t i r (server_of L t r))) (or_else o fine (λ i. short_add_call L t i (server_of L t r))))
        (λ o. or_else o false (λ i. has_row r (contract_at L t i).calls)) e
        (λ i u ai n. h i u ai (λ m. n (row_has ((calls_at L t f i r).1 m))) (server_of L t r) (server_is L t f.names r))

    pub reach_6 : (r : Row) → ((i : ℕ) → T (t.used i) → t.aid i ≡ a → (o : Option Place) → ServerIs t r o → P (remove_call_at L t i r o) fine) → Reaches (remove_call r)
    unfolding draft short_look
    reach_6 r h e =
        at_six (λ o. P (or_else o (kept t) (λ i. remove_call_at L t i r (server_of L t r))) fine)
        (λ o. not (or_else o false (λ i. has_row r (contract_at L t i).calls))) e
        (λ i u ai _. h i u ai (server_of L t r) (server_is L t f.names r))

    pub reach_7 : (r : Row)
        → ((j : ℕ) → T (t.used j) → t.aid j ≡ a → (GrantAt t j r → ⊥) → (o : Option Spot) → SpotIs t j r o → P (add_grant_at L t j r o) (short_add_grant L t o))
        → Reaches (add_grant r)
    unfolding draft short_look
    reach_7 r h e =
        at_six (λ o. P (or_else o (kept t) (λ j. add_grant_at L t j r (spot_of L t j r))) (or_else o fine (λ j. short_add_grant L t (spot_of L t j r))))
        (λ o. not (L.early || or_else o false (λ i. has_tok r.tok (contract_at L t i).provides)) || or_else o false (λ i. has_row r (contract_at L t i).grants)) e
        (λ j u aj n.
        let w = asked_and_new (L.early || has_tok r.tok (contract_at L t j).provides) (has_row r (contract_at L t j).grants) n in
        h j u aj (λ g. w.1 (row_has ((grants_at_lem L t f j r).1 g))) (spot_of L t j r) (spot_is L t f.names j r))

    pub reach_8 : (r : Row)
        → ((j : ℕ) → T (t.used j) → t.aid j ≡ a → (o : Option Spot) → SpotIs t j r o → P (remove_grant_at L t j r o) (short_remove_grant L t j o))
        → Reaches (remove_grant r)
    unfolding draft short_look
    reach_8 r h e =
        at_six (λ o. P (or_else o (kept t) (λ j. remove_grant_at L t j r (spot_of L t j r))) (or_else o fine (λ j. short_remove_grant L t j (spot_of L t j r))))
        (λ o. not (or_else o false (λ i. has_row r (contract_at L t i).grants))) e
        (λ j u aj _. h j u aj (spot_of L t j r) (spot_is L t f.names j r))

    pub reach_9 : (r : Row)
        → ((i : ℕ) → T (t.used i) → t.aid i ≡ a → RowAt t t.calls t.unmet i r → (RowAt t t.needs [] i r → ⊥) → (o : Option Place) → ServerIs t r o
        → P (add_need_at L t i r o) (short_add_need L t o))
        → Reaches (add_need r)
    unfolding draft short_look
    reach_9 r h e =
        at_six (λ o. P (or_else o (kept t) (λ i. add_need_at L t i r (server_of L t r))) (short_add_need L t (server_of L t r)))
        (λ o. not (or_else o false (λ i. has_row r (contract_at L t i).calls)) || or_else o false (λ i. has_row r (contract_at L t i).needs)) e
        (λ i u ai n.
        let w = asked_and_new (has_row r (contract_at L t i).calls) (has_row r (contract_at L t i).needs) n in
        h i u ai ((calls_at L t f i r).0 (has_row_lem r (contract_at L t i).calls w.0)) (λ m. w.1 (row_has ((needs_at_lem L t f i r).1 m))) (server_of L t r) (server_is L t f.names r))

    pub reach_10 : (r : Row) → ((i : ℕ) → T (t.used i) → t.aid i ≡ a → (o : Option Place) → ServerIs t r o → P (remove_need_at L t i r o) fine) → Reaches (remove_need r)
    unfolding draft short_look
    reach_10 r h e =
        at_six (λ o. P (or_else o (kept t) (λ i. remove_need_at L t i r (server_of L t r))) fine)
        (λ o. not (or_else o false (λ i. has_row r (contract_at L t i).needs))) e
        (λ i u ai _. h i u ai (server_of L t r) (server_is L t f.names r))

    pub reach_11 : (p : List Tok) (c g n : List Row)
        → ((i : ℕ) → T (t.used i) → t.aid i ≡ a
        → P (replace_at L t i (record { aid = a; provides = p; calls = c; grants = g; needs = n })) (short_replace L t i (record { aid = a; provides = p; calls = c; grants = g; needs = n })))
        → Reaches (replace p c g n)
    unfolding draft short_look
    reach_11 p c g n h e =
        let k : Contract = record { aid = a; provides = p; calls = c; grants = g; needs = n } in
        at_number (λ o. P (or_else o (kept t) (λ i. replace_at L t i k)) (or_else o fine (λ i. short_replace L t i k))) (λ o. []) e (λ i u ai _. h i u ai)
