-- The plan of a record of kinds 5 to 8 comes to its outcome. Assumes nothing.
use Prim.Native.Nat.{ℕ}
use mathlib.Core.Path.{◌≡◌, refl, sym, ap, ◌∙◌, subst}
use mathlib.Core.Bool.{Bool, true, false, not, ◌&&◌, ◌||◌, cond, and_comm}
use mathlib.Core.List.{List, [], ◌∷◌}
use mathlib.Core.Option.{Option, none, some}
use lib.Dec.{T, eqb, ltb}
use lib.ListN.{length}
use borrow.Author.Tests.{eq-eqb, ne_eqb}
use Rattle.policy.specs.Lists.{exists, keep, is_some, or_else}
use Rattle.policy.specs.Contract.{Aid, eq_aid, eq_tok, Row, has_tok, has_row}
use Rattle.policy.specs.Layout.{Layout}
use Rattle.policy.specs.Record.{Change, add_call, remove_call, add_grant, remove_grant}
use Rattle.policy.specs.Causes.{◌when◌, answer}
use Rattle.policy.specs.Tables.{Tables, Unmet, Waiting, decode}
use Rattle.policy.specs.Lookup.{Place, Spot, number_of, server_of, spot_of, free_number, contract_at}
use Rattle.policy.specs.Sound.{sound, eq_unmet, eq_waiting}
use Rattle.policy.specs.Draft.{Draft, Look, kept, draft, number_for, call_row, grant_row, has_unmet, has_waiting, add_call_at, remove_call_at, add_grant_at, remove_grant_at}
use Rattle.policy.specs.ShortCheck.{fine, short_look, short_add_call, short_add_grant, short_remove_grant}
use Rattle.policy.specs.Judge.{Out, table_causes, look_causes, judged, absent, holds}
use Rattle.policy.specs.Settled.{settled}
use Rattle.policy.proofs.Sets.{T_eq, true_T, false_T}
use Rattle.policy.proofs.Equal.{eq_unmet→, eq_unmet_refl, eq_waiting→, eq_waiting_refl}
use Rattle.policy.proofs.SoundFacts.{sound_formed}
use Rattle.policy.proofs.HasRow.{has_call_is, has_grant_is}
use Rattle.rows.specs.Area.{keep_rows}
use Rattle.image.proofs.Masks.{mask_zero, zero_mask, keep_mask}
use Rattle.image.specs.Laid.{with_items}
use Rattle.image.specs.Read.{Item, items_of, item, item_aid, item_tok, item_number, mask_of}
use Rattle.geometry.specs.declared.Kept.{Kept}
use Rattle.geometry.specs.declared.Kept.TheVariants.{UnmetCalls, WaitingGrants}
use Rattle.changes.specs.Asked.{Asked}
use Rattle.std.specs.Prelude.{Result, Ok, Err}
use Rattle.answers.specs.declared.Refusal.{Refusal}
use Rattle.answers.specs.declared.Refusal.TheVariants.{NotInstalled, Pointless, Ungranted, UnmetFull, WaitingFull}
use Rattle.links.specs.Plans.{place, spot, row_mask, edited, done, owned, call_plan, grant_plan, add_row, drop_row, add_call_plan, remove_call_plan, add_grant_plan, remove_grant_plan}
use Rattle.links.specs.declared.plan.Edit.{Edit}
use Rattle.links.specs.declared.plan.Edit.TheVariants.{Call, Uncall, Grant, Ungrant, Add, Drop}
use Rattle.changes.proofs.Verdicts.{first_of, settled_by}

-- ---- masks of the rows that are one row
module _ {A : Type 0} (eq : A → A → Bool) (x : A) (f : A → Bool) (same : f ≡ eq x) (l : List A) where
  -- nothing is marked exactly where the row is not there
  mask_has : eqb (mask_of f l) 0 ≡ not (exists (eq x) l)
  mask_has = go (exists f l) refl ∙ ap (λ (g : A → Bool). not (exists g l)) same
    where
      go : (b : Bool) → exists f l ≡ b → eqb (mask_of f l) 0 ≡ not b
      go false e = eq-eqb (mask_of f l) 0 (mask_zero f l e)
      go true e = ne_eqb (mask_of f l) 0 (λ z. false_T (zero_mask f l z) (true_T e))

  mask_drops : keep_rows (mask_of f l) l ≡ keep (λ y. not (eq x y)) l
  mask_drops = keep_mask f l ∙ ap (λ (g : A → Bool). keep (λ y. not (g y)) l) same

pub unmet_same : (u : Unmet) → (λ (v : Unmet). eq_unmet v u) ≡ eq_unmet u
unmet_same u = λ z v. T_eq (eq_unmet v u) (eq_unmet u v) (flip v u) (flip u v) z
  where
    flip : (v w : Unmet) → T (eq_unmet v w) → T (eq_unmet w v)
    flip v w h = subst (λ (z : Unmet). T (eq_unmet z v)) (eq_unmet→ v w h) (eq_unmet_refl v)

pub waiting_same : (w : Waiting) → (λ (v : Waiting). eq_waiting v w) ≡ eq_waiting w
waiting_same w = λ z v. T_eq (eq_waiting v w) (eq_waiting w v) (flip v w) (flip w v) z
  where
    flip : (v w : Waiting) → T (eq_waiting v w) → T (eq_waiting w v)
    flip v w h = subst (λ (z : Waiting). T (eq_waiting z v)) (eq_waiting→ v w h) (eq_waiting_refl v)

-- ---- the two lists alike: which items are the row r of package n
abbrev pub eq_item : (l : Kept) → Item l → Item l → Bool
eq_item UnmetCalls u v = eq_unmet u v
eq_item WaitingGrants v w = eq_waiting v w

abbrev pub is_row : (l : Kept) → ℕ → Row → Item l → Bool
is_row l n r x = eq_aid (item_aid l x) r.aid && eq_tok (item_tok l x) r.tok && eqb (item_number l x) n

pub row_same : (l : Kept) (n : ℕ) (r : Row) → is_row l n r ≡ eq_item l (item l r.aid r.tok n)
row_same UnmetCalls n r = unmet_same (call_row n r)
row_same WaitingGrants n r = (λ z w. swap (eq_aid w.caller r.aid) (eq_tok w.tok r.tok) (eqb w.callee n) z) ∙ waiting_same (grant_row n r)
  where
    swap : (a b c : Bool) → a && b && c ≡ a && c && b
    swap false b c = refl
    swap true b c = and_comm b c

-- the list has the row r of package n
abbrev pub has_item : Kept → Tables → ℕ → Row → Bool
has_item l t n r = exists (eq_item l (item l r.aid r.tok n)) (items_of l t)

pub row_none : (l : Kept) (t : Tables) (n : ℕ) (r : Row) → eqb (row_mask l t n r) 0 ≡ not (has_item l t n r)
row_none l t n r = mask_has (eq_item l) (item l r.aid r.tok n) (is_row l n r) (row_same l n r) (items_of l t)

pub row_drops : (l : Kept) (t : Tables) (n : ℕ) (r : Row) → keep_rows (row_mask l t n r) (items_of l t) ≡ keep (λ x. not (eq_item l (item l r.aid r.tok n) x)) (items_of l t)
row_drops l t n r = mask_drops (eq_item l) (item l r.aid r.tok n) (is_row l n r) (row_same l n r) (items_of l t)

module _ (L : Layout) (img : List ℕ) (a : Aid) (r : Row) where
  abbrev t : Tables
  t = decode L img

  -- ---- a change of package number i: whether cause 6 applies, the short check, and the draft; and what comes of a plan
  abbrev outcome : ℕ → Bool → Look → Draft → Out
  outcome i six k d = judged L img i d.tables (first_of (answer (6 when six ∷ [])) (answer (look_causes k)))

  abbrev comes : ℕ → Result Edit Refusal → Out
  comes i p = done L img r (owned i p)

  module _ (c : Change) (ask : Asked L img a c) where
    -- by the number of the package: cause 6, the short check, the draft and the plan
    at_number : (six : Option ℕ → Bool) (k : Option ℕ → Look) (d : Option ℕ → Draft) (p : ℕ → Result Edit Refusal)
        → table_causes L t a c ≡ (5 when absent L t a ∷ 6 when six (number_of L t a) ∷ []) → short_look L t a c ≡ k (number_of L t a)
        → draft L t a c ≡ d (number_of L t a) → ((i : ℕ) → outcome i (six (some i)) (k (some i)) (d (some i)) ≡ comes i (p i))
        → settled L img a c ≡ done L img r (or_else (number_of L t a) (Err NotInstalled) (λ i. owned i (p i)))
    unfolding number_for
    at_number six k d p e f g h =
        settled_by L img a c ask ∙ (λ z. judged L img (number_for L t a) (g z).tables (first_of (answer (e z)) (answer (look_causes (f z))))) ∙ go (number_of L t a)
      where
        go : (o : Option ℕ)
            → judged L img (or_else o (or_else (free_number L t) 255 (λ n. n)) (λ n. n)) (d o).tables
            (first_of (answer (5 when not (is_some o) ∷ 6 when six o ∷ [])) (answer (look_causes (k o)))) ≡ done L img r (or_else o (Err NotInstalled) (λ i. owned i (p i)))
        go none = refl
        go (some i) = h i

  -- ---- a row added to a list, and dropped from it
  abbrev fits_in : Kept → Bool → Look
  fits_in UnmetCalls f = record { granted = true; needed = true; unmet_fits = f; waiting_fits = true }
  fits_in WaitingGrants f = record { granted = true; needed = true; unmet_fits = true; waiting_fits = f }

  -- the cause for a list that is full
  abbrev full_in : Kept → Refusal
  full_in UnmetCalls = UnmetFull
  full_in WaitingGrants = WaitingFull

  abbrev room : Kept → Bool
  room l = ltb (length (items_of l t)) L.capacity

  add_row_at : (l : Kept) (n : ℕ) → outcome n (has_item l t n r) (fits_in l (room l)) (kept (edited t r n (Add l))) ≡ comes n (add_row L t r l n (full_in l))
  add_row_at l n =
      go l (has_item l t n r) (room l) ∙ ap (λ (z : Bool). comes n (cond z (cond (room l) (Ok (Add l)) (Err (full_in l))) (Err Pointless))) (sym (row_none l t n r))
    where
      go : (l : Kept) (b f : Bool) → outcome n b (fits_in l f) (kept (edited t r n (Add l))) ≡ comes n (cond (not b) (cond f (Ok (Add l)) (Err (full_in l))) (Err Pointless))
      go l true f = refl
      go UnmetCalls false true = refl
      go UnmetCalls false false = refl
      go WaitingGrants false true = refl
      go WaitingGrants false false = refl

  drop_row_at : (l : Kept) (n : ℕ)
      → outcome n (not (has_item l t n r)) fine (kept (with_items l (keep (λ x. not (eq_item l (item l r.aid r.tok n) x)) (items_of l t)) t)) ≡ comes n (drop_row L t r l n)
  drop_row_at l n =
      ap (λ (m : List (Item l)). outcome n (not (has_item l t n r)) fine (kept (with_items l m t))) (sym (row_drops l t n r)) ∙ go (has_item l t n r)
      ∙ ap (λ (z : Bool). comes n (cond z (Err Pointless) (Ok (Drop l (row_mask l t n r))))) (sym (row_none l t n r))
    where
      go : (b : Bool) → outcome n (not b) fine (kept (edited t r n (Drop l (row_mask l t n r)))) ≡ comes n (cond (not b) (Err Pointless) (Ok (Drop l (row_mask l t n r))))
      go true = refl
      go false = refl

  -- ---- what cause 6 asks of a row, by where it stands
  abbrev called_at : ℕ → Option Place → Bool
  called_at i o = or_else o (has_unmet (call_row i r) t.unmet) (λ p. t.calls i p.callee p.service)

  abbrev granted_at : ℕ → Option Spot → Bool
  granted_at j o = or_else o (has_waiting (grant_row j r) t.waiting) (λ p. t.grants j p.caller p.service)

  -- ---- kind 5
  add_call_at_lem : (i : ℕ) (o : Option Place) → outcome i (called_at i o) (short_add_call L t i o) (add_call_at L t i r o) ≡ comes i (add_call_plan L t r i o)
  add_call_at_lem i none = add_row_at UnmetCalls i
  add_call_at_lem i (some p) = go (t.calls i p.callee p.service) (t.grants p.callee i p.service)
    where
      go : (b g : Bool) → outcome i b (record { granted = g; needed = true; unmet_fits = true; waiting_fits = true }) (add_call_at L t i r (some p))
          ≡ comes i (cond b (Err Pointless) (cond g (Ok (Call (place p))) (Err Ungranted)))
      go true g = refl
      go false true = refl
      go false false = refl

  -- ---- kind 6
  remove_call_at_lem : (i : ℕ) (o : Option Place) → outcome i (not (called_at i o)) fine (remove_call_at L t i r o) ≡ comes i (remove_call_plan L t r i o)
  remove_call_at_lem i none = drop_row_at UnmetCalls i
  remove_call_at_lem i (some p) = go (t.calls i p.callee p.service)
    where
      go : (b : Bool) → outcome i (not b) fine (remove_call_at L t i r (some p)) ≡ comes i (cond b (Ok (Uncall (place p))) (Err Pointless))
      go true = refl
      go false = refl

  -- ---- kind 7
  add_grant_at_lem : (j : ℕ) (o : Option Spot) → outcome j (granted_at j o) (short_add_grant L t o) (add_grant_at L t j r o) ≡ comes j (add_grant_plan L t r j o)
  add_grant_at_lem j none = add_row_at WaitingGrants j
  add_grant_at_lem j (some p) = go (t.grants j p.caller p.service)
    where
      go : (b : Bool) → outcome j b fine (add_grant_at L t j r (some p)) ≡ comes j (cond b (Err Pointless) (Ok (Grant (spot p))))
      go true = refl
      go false = refl

  -- ---- kind 8
  remove_grant_at_lem : (j : ℕ) (o : Option Spot)
      → outcome j (not (granted_at j o)) (short_remove_grant L t j o) (remove_grant_at L t j r o) ≡ comes j (remove_grant_plan L t r j o)
  remove_grant_at_lem j none = drop_row_at WaitingGrants j
  remove_grant_at_lem j (some p) = go (t.grants j p.caller p.service) (t.calls p.caller j p.service)
    where
      go : (b c : Bool) → outcome j (not b) (record { granted = not c; needed = true; unmet_fits = true; waiting_fits = true }) (remove_grant_at L t j r (some p))
          ≡ comes j (cond b (cond c (Err Ungranted) (Ok (Ungrant (spot p)))) (Err Pointless))
      go true true = refl
      go true false = refl
      go false c = refl

  -- ---- the kinds
  module _ (ok : T (sound L img)) where
    called : (i : ℕ) → has_row r (contract_at L t i).calls ≡ called_at i (server_of L t r)
    called i = has_call_is L t (sound_formed L img ok) i r

    granted : (j : ℕ) → has_row r (contract_at L t j).grants ≡ granted_at j (spot_of L t j r)
    granted j = has_grant_is L t (sound_formed L img ok) j r

  pub add_call_planned : Asked L img a (add_call r) → settled L img a (add_call r) ≡ done L img r (call_plan L t (add_call_plan L t r) a r)
  unfolding draft short_look
  add_call_planned ask =
      at_number (add_call r) ask (λ o. or_else o false (λ i. has_row r (contract_at L t i).calls)) (λ o. or_else o fine (λ i. short_add_call L t i (server_of L t r)))
      (λ o. or_else o (kept t) (λ i. add_call_at L t i r (server_of L t r))) (λ i. add_call_plan L t r i (server_of L t r)) refl refl refl
      (λ i. ap (λ (b : Bool). outcome i b (short_add_call L t i (server_of L t r)) (add_call_at L t i r (server_of L t r))) (called ask.is_sound i) ∙ add_call_at_lem i (server_of L t r))

  pub remove_call_planned : Asked L img a (remove_call r) → settled L img a (remove_call r) ≡ done L img r (call_plan L t (remove_call_plan L t r) a r)
  unfolding draft short_look
  remove_call_planned ask =
      at_number (remove_call r) ask (λ o. not (or_else o false (λ i. has_row r (contract_at L t i).calls))) (λ o. fine)
      (λ o. or_else o (kept t) (λ i. remove_call_at L t i r (server_of L t r))) (λ i. remove_call_plan L t r i (server_of L t r)) refl refl refl
      (λ i. ap (λ (b : Bool). outcome i (not b) fine (remove_call_at L t i r (server_of L t r))) (called ask.is_sound i) ∙ remove_call_at_lem i (server_of L t r))

  -- R-2: no service is asked for
  pub add_grant_planned : L.early ≡ true → Asked L img a (add_grant r) → settled L img a (add_grant r) ≡ done L img r (grant_plan L t (add_grant_plan L t r) a r)
  unfolding draft short_look
  add_grant_planned early ask =
      at_number (add_grant r) ask (λ o. or_else o false (λ j. has_row r (contract_at L t j).grants)) (λ o. or_else o fine (λ j. short_add_grant L t (spot_of L t j r)))
      (λ o. or_else o (kept t) (λ j. add_grant_at L t j r (spot_of L t j r))) (λ j. add_grant_plan L t r j (spot_of L t j r))
      (ap (λ (b : Bool). 5 when absent L t a ∷ 6 when (not (b || holds L t a (λ k. has_tok r.tok k.provides)) || holds L t a (λ k. has_row r k.grants)) ∷ []) early) refl refl
      (λ j. ap (λ (b : Bool). outcome j b (short_add_grant L t (spot_of L t j r)) (add_grant_at L t j r (spot_of L t j r))) (granted ask.is_sound j) ∙ add_grant_at_lem j (spot_of L t j r))

  pub remove_grant_planned : Asked L img a (remove_grant r) → settled L img a (remove_grant r) ≡ done L img r (grant_plan L t (remove_grant_plan L t r) a r)
  unfolding draft short_look
  remove_grant_planned ask =
      at_number (remove_grant r) ask (λ o. not (or_else o false (λ j. has_row r (contract_at L t j).grants))) (λ o. or_else o fine (λ j. short_remove_grant L t j (spot_of L t j r)))
      (λ o. or_else o (kept t) (λ j. remove_grant_at L t j r (spot_of L t j r))) (λ j. remove_grant_plan L t r j (spot_of L t j r)) refl refl refl
      (λ j. ap (λ (b : Bool). outcome j (not b) (short_remove_grant L t j (spot_of L t j r)) (remove_grant_at L t j r (spot_of L t j r))) (granted ask.is_sound j) ∙ remove_grant_at_lem j (spot_of L t j r))
