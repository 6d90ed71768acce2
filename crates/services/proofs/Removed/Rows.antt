-- Kind 4: the rows that a service leaves behind, how many they are, and the lists with them. Assumes nothing.
use Prim.Native.Nat.{ℕ, ◌+◌, ◌≤◌, ◌<◌, suc, zero}
use native.Mathlib.Omega.{arith}
use mathlib.Core.Path.{◌≡◌, refl, sym, ap, ◌∙◌}
use mathlib.Core.Bool.{Bool, true, false, cond, ◌&&◌, and-true, and-false}
use mathlib.Core.List.{List, [], ◌∷◌, map}
use lib.ListN.{length, length-map}
use borrow.Author.Tests.{eq-eqb, ne_eqb}
use Rattle.policy.specs.Lists.{keep, from}
use Rattle.policy.specs.Layout.{Layout}
use Rattle.policy.specs.Tables.{Tables, Unmet, Waiting, bit, row_of}
use Rattle.policy.specs.ShortCheck.{count}
use Rattle.policy.proofs.Sets.{flat_ext, true_T, false_T}
use Rattle.geometry.specs.declared.Table.{Table}
use Rattle.geometry.specs.declared.Table.TheVariants.{Calls, Grants, Needs}
use Rattle.geometry.specs.declared.Kept.{Kept}
use Rattle.geometry.specs.declared.Kept.TheVariants.{UnmetCalls, WaitingGrants}
use Rattle.image.specs.Read.{item}
use Rattle.image.specs.Laid.{with_unmet, with_waiting}
use Rattle.changes.specs.Left.{only, by_list, left_one, RoomBehind}
use Rattle.services.specs.Removal.{between, left_bit, left_bits, rows_with_bits}
use lib.Dec.{eqb, eqb→eq}
use Rattle.policy.specs.Lookup.{numbers, places, service_at}
use Rattle.policy.specs.Draft.{call_row, left_by}
use Rattle.changes.proofs.LeftRows.{only_keep}
use mir.Val.{bool_byte}
use Rattle.bits.proofs.Row.{bit_seen, row_bit}
use Rattle.bits.proofs.Tests.{bool_is}

-- a bit of a row that was read, as a number
pub bit_number : (n : ℕ) (f : ℕ → Bool) (row k : ℕ) (b : Bool) → b ≡ bit row k → row ≡ row_of n f → k < n → bool_byte b ≡ cond (f k) 1 0
bit_number n f row k b e q h = bool_is b (f k) (bit_seen n f row k b e q h)

pub bit_small : (b : Bool) (n : ℕ) → 0 < n → bool_byte b ≤ n
bit_small true n h = omega arith
bit_small false n h = omega arith

between_apart : (tb : Table) (t : Tables) (u : List Unmet) (w : List Waiting) → between tb (with_unmet u (with_waiting w t)) ≡ between tb t
between_apart Calls t u w = refl
between_apart Grants t u w = refl
between_apart Needs t u w = refl

module _ (L : Layout) (l : Kept) (t : Tables) (tb : Table) where
  -- the row of `leave_bit`, and turn i of `leave_bits`
  module _ (j k i : ℕ) where
    pub bit_left : (r m o : ℕ) → r ≡ row_of L.services (between tb t j i) → m ≡ by_list l j i → o ≡ by_list l i j → k < L.services
        → left_one l t (t.aid m) j o (bit r) k ≡ left_bit L l t tb j k i
    bit_left r m o e p q h = λ z. only (row_bit L.services (between tb t j i) r e k h z) (item l (t.aid (p z)) (t.tok j k) (q z))

    pub bits_left : (u : List Unmet) (w : List Waiting) → left_bit L l (with_unmet u (with_waiting w t)) tb j k i ≡ left_bit L l t tb j k i
    bits_left u w = ap (λ (b : ℕ → ℕ → ℕ → Bool). left_one l t (t.aid (by_list l j i)) j (by_list l i j) (b j i) k) (between_apart tb t u w)

-- ---- how many, in either list
module _ (L : Layout) (l : Kept) (t : Tables) (tb : Table) where
  pub bits_length : (j k : ℕ) → length (left_bits L l t tb j k) ≡ count (λ i. between tb t j i k) (numbers L)
  bits_length j k =
      ap length (only_keep (λ i. between tb t j i k) (λ i. item l (t.aid (by_list l j i)) (t.tok j k) (by_list l i j)) (numbers L))
      ∙ length-map (keep (λ i. between tb t j i k) (numbers L)) (λ i. item l (t.aid (by_list l j i)) (t.tok j k) (by_list l i j))

-- ---- those that are k and pass, of the numbers from i on
module _ (f : ℕ → Bool) (k : ℕ) where
  abbrev test : ℕ → Bool
  test z = f z && eqb z k

  keep_off : (i n : ℕ) → k < i → keep test (from i n) ≡ []
  keep_off i zero h = refl
  keep_off i (suc n) h =
      ap (λ (b : Bool). cond b (i ∷ keep test (from (suc i) n)) (keep test (from (suc i) n))) (ap (λ (b : Bool). f i && b) (ne_eqb i k (λ e. absurd (omega arith))) ∙ and-false (f i))
      ∙ keep_off (suc i) n (omega arith)

  keep_on : (i n : ℕ) → i ≤ k → k < i + n → keep test (from i n) ≡ only (f k) k
  keep_on i zero h l = absurd (omega arith)
  keep_on i (suc n) h l = go (eqb i k) refl (λ q. keep_on (suc i) n q (omega arith))
    where
      rest : List ℕ
      rest = keep test (from (suc i) n)

      past : (i k : ℕ) → i ≤ k → (i ≡ k → ⊥) → suc i ≤ k
      past i k h ne = omega arith

      go : (b : Bool) → eqb i k ≡ b → (suc i ≤ k → rest ≡ only (f k) k) → cond (f i && eqb i k) (i ∷ rest) rest ≡ only (f k) k
      go true e ih =
          let q : i ≡ k = eqb→eq i k (true_T e) in
          (λ z. cond (f i && e z) (i ∷ keep_off (suc i) n (omega arith) z) (keep_off (suc i) n (omega arith) z)) ∙ ap (λ (b : Bool). only b i) (and-true (f i)) ∙ ap (λ (x : ℕ). only (f x) x) q
      go false e ih =
          ap (λ (b : Bool). cond b (i ∷ rest) rest) (ap (λ (b : Bool). f i && b) e ∙ and-false (f i)) ∙ ih (past i k h (λ q. false_T e (true_T (eq-eqb i k q))))

-- ---- the rows are the draft's
module _ (L : Layout) (t : Tables) (j k : ℕ) where
  pub service_calls_left : k < L.services → left_bits L UnmetCalls t Calls j k ≡ left_by L t t.calls j (λ z. eqb z k)
  service_calls_left h =
      flat_ext (λ i. only (t.calls i j k) (call_row i (service_at t j k))) (λ i. map (λ z. call_row i (service_at t j z)) (keep (λ z. t.calls i j z && eqb z k) (places L))) (numbers L)
      (λ i _. one (t.calls i j k) (λ z. call_row i (service_at t j z)) ∙ ap (map (λ z. call_row i (service_at t j z))) (sym (keep_on (t.calls i j) k 0 L.services (omega arith) (omega arith))))
    where
      one : {A : Type 0} (b : Bool) (g : ℕ → A) → only b (g k) ≡ map g (only b k)
      one true g = refl
      one false g = refl

  pub service_grants_left : left_bits L WaitingGrants t Grants j k
      ≡ map (λ i. record { caller = t.aid i; callee = j; tok = t.tok j k }) (keep (λ i. t.grants j i k) (numbers L))
  service_grants_left = only_keep (λ i. t.grants j i k) (λ i. record { caller = t.aid i; callee = j; tok = t.tok j k }) (numbers L)

-- ---- `leave_service`: service k of package j goes
pub bits_room : (L : Layout) (l : Kept) (t : Tables) (tb : Table) (j k : ℕ) → rows_with_bits L l t tb j k ≤ L.capacity → RoomBehind l L (left_bits L l t tb j k) t
bits_room L l t tb j k r = let e = bits_length L l t tb j k in omega arith
