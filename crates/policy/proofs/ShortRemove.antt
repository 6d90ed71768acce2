-- Kinds 2 and 4: the short check says what the full look at the draft says.
use Prim.Native.Nat.{ℕ, ◌+◌}
use native.Mathlib.Nat.{le_trans}
use mathlib.Core.Path.{◌≡◌, ap, ◌∙◌, subst}
use mathlib.Core.Bool.{Bool, true, false, not, ◌&&◌, ◌||◌, cond, and-true}
use mathlib.Core.List.{◌++◌, map}
use mathlib.Core.List.Memᴰ.{cast as in_cast}
use mathlib.Core.List.{Memᴰ as In}
use lib.Dec.{T, eqb, eqb→eq, eqb_refl, leb}
use lib.ListN.{length, length-append, length-map}
use Rattle.policy.specs.Lists.{keep}
use Rattle.policy.specs.Contract.{Tok, eq_tok}
use Rattle.policy.specs.Layout.{Layout}
use Rattle.policy.specs.Record.{remove, remove_service}
use Rattle.policy.specs.Tables.{Tables, Unmet, Waiting}
use Rattle.policy.specs.Lookup.{service_at, numbers, places}
use Rattle.policy.specs.Draft.{call_row, left_by, look, remove_at, remove_service_at}
use Rattle.policy.specs.ShortCheck.{count, sum, ones, short_remove, short_remove_service}
use Rattle.policy.proofs.Sets.{same_length, keep_in, in_keep, once_keep, length_keep, in_map, map_in, once_map, pairs, in_upto, once_upto}
use Rattle.policy.proofs.Formed.{Bits, Formed, Lawful, Fitting, KindShort}
use Rattle.policy.proofs.Facts.{need_bits}
use Rattle.policy.proofs.Reach.{reach_2, reach_4}
use Rattle.policy.proofs.Dropped.{left_in, in_left_by, once_left, lawful_dropped}
use Rattle.policy.proofs.KindRemove.{dropping as dropping_2}
use Rattle.policy.proofs.KindRemoveService.{dropping as dropping_4}
use Rattle.policy.proofs.Short.{nil_length, none_pass, none_pairs, length_pairs, left_count, look_is, fits, fits_as, granted}

module _ (L : Layout) (t : Tables) where
  -- ---- how many rows the bits on package j leave
  left_all : (b : ℕ → ℕ → ℕ → Bool) (j : ℕ) → length (left_by L t b j (λ z. true)) ≡ ones L t (λ i k. b i j k)
  left_all b j =
      left_count L t b j (λ z. true)
      ∙ (λ z. sum (λ i. count (λ k. and-true (b i j k) z) (places L)) (numbers L))

  module _ (fm : Formed L t) where
    -- and those on its service k: one for each caller
    left_one_lem : (b : ℕ → ℕ → ℕ → Bool) → Bits t.used t.provides b → (j k : ℕ) → length (left_by L t b j (λ z. eqb z k)) ≡ count (λ i. b i j k) (numbers L)
    left_one_lem b bits j k =
        same_length (left_by L t b j (λ z. eqb z k)) (map row (keep callers (numbers L))) (once_left L t fm.names j (λ z. eqb z k) b bits)
        (once_map row (keep callers (numbers L)) (λ x y _ _ e. ap (λ (u : Unmet). u.caller) e) (once_keep callers (numbers L) (once_upto L.packages))) to fro
        ∙ length-map (keep callers (numbers L)) row
      where
        row : ℕ → Unmet
        row i = call_row i (service_at t j k)

        callers : ℕ → Bool
        callers i = b i j k

        to : (u : Unmet) → In u (left_by L t b j (λ z. eqb z k)) → In u (map row (keep callers (numbers L)))
        to u m =
            let p = left_in L t fm.names j (λ z. eqb z k) b bits m in
            let e : p.1 ≡ k = eqb→eq p.1 k p.3 in
            in_cast (p.4 ∙ ap (λ (z : ℕ). call_row p.0 (service_at t j z)) e)
            (in_map row (in_keep callers (in_upto L.packages p.0 (fm.names.used_lt p.0 (bits.by_used p.0 j p.1 p.2))) (subst (λ (z : ℕ). T (b p.0 j z)) e p.2)))

        fro : (u : Unmet) → In u (map row (keep callers (numbers L))) → In u (left_by L t b j (λ z. eqb z k))
        fro u m =
            let p = map_in row (keep callers (numbers L)) m in
            in_cast p.2 (in_left_by L t fm.names j (λ z. eqb z k) b bits p.0 k (keep_in callers (numbers L) p.1).1 (eqb_refl k))

    module _ (law : Lawful t) where
      -- ---- kind 2
      look_removed : (n : ℕ) → T (t.used n) → look L (remove_at L t n) ≡ short_remove L t n
      look_removed n un = look_is L (remove_at L t n)
          (granted L (remove_at L t n).tables (lawful_dropped L t (remove_at L t n).tables n (λ x. true) (keep by_other t.unmet) fm (dropping_2 L t fm n un) law))
          (nil_length (left_by L t t.needs n (λ x. true)) ∙ ap (λ (x : ℕ). eqb x 0) (left_all t.needs n) ∙ none_pairs (λ i. t.needs i n) (places L) (numbers L))
          (fits_as L (length-append (keep by_other t.unmet) (left_by L t t.calls n (λ x. true)) ∙ ap (λ (x : ℕ). count by_other t.unmet + x) (left_all t.calls n)))
          (fits_as L (length-append (keep of_other t.waiting) (pairs wait_for (λ j. t.grants j n) (places L) (numbers L))
          ∙ ap (λ (x : ℕ). count of_other t.waiting + x) (length_pairs wait_for (λ j. t.grants j n) (places L) (numbers L))))
        where
          by_other : Unmet → Bool
          by_other u = not (eqb u.caller n)

          of_other : Waiting → Bool
          of_other w = not (eqb w.callee n)

          wait_for : ℕ → ℕ → Waiting
          wait_for j k = record { caller = t.aid n; callee = j; tok = t.tok j k }

      -- ---- kind 4
      look_dropped : Fitting L t → (j k : ℕ) → T (t.provides j k) → look L (remove_service_at L t j k) ≡ short_remove_service L t j k
      look_dropped fit j k pk = look_is L (remove_service_at L t j k)
          (granted L (remove_service_at L t j k).tables (lawful_dropped L t (remove_service_at L t j k).tables j (λ x. eqb x k) t.unmet fm (dropping_4 L t fm j k pk) law))
          (nil_length (left_by L t t.needs j (λ x. eqb x k)) ∙ ap (λ (x : ℕ). eqb x 0) (left_one_lem t.needs (need_bits L t fm) j k) ∙ none_pass (λ i. t.needs i j k) (numbers L))
          (fits_as L (length-append t.unmet (left_by L t t.calls j (λ x. eqb x k)) ∙ ap (λ (x : ℕ). length t.unmet + x) (left_one_lem t.calls fm.calls j k)))
          (waiting_fits_lem fit j k L.early)
        where
          -- its grants go, so the list fits; or they wait
          waiting_fits_lem : Fitting L t → (j k : ℕ) (b : Bool)
              → leb (length (cond b (t.waiting ++ map (λ i. record { caller = t.aid i; callee = j; tok = t.tok j k }) (keep (λ i. t.grants j i k) (numbers L)))
              (keep (λ w. not (eqb w.callee j && eq_tok w.tok (t.tok j k))) t.waiting))) L.capacity
              ≡ not b || leb (length t.waiting + count (λ i. t.grants j i k) (numbers L)) L.capacity
          waiting_fits_lem fit j k true = fits_as L (length-append t.waiting (map now_waits (keep callers (numbers L))) ∙ ap (λ (x : ℕ). length t.waiting + x) (length-map (keep callers (numbers L)) now_waits))
            where
              now_waits : ℕ → Waiting
              now_waits i = record { caller = t.aid i; callee = j; tok = t.tok j k }

              callers : ℕ → Bool
              callers i = t.grants j i k
          waiting_fits_lem fit j k false = fits L (count stays t.waiting) (le_trans (length_keep stays t.waiting) fit.waiting_fits)
            where
              stays : Waiting → Bool
              stays w = not (eqb w.callee j && eq_tok w.tok (t.tok j k))

-- ---- the two kinds
pub short_2 : KindShort remove
short_2 L t a fm law _ _ _ = reach_2 L t fm a (λ d k. look L d ≡ k) (λ n u _. look_removed L t fm law n u)

pub short_4 : (s : Tok) → KindShort (remove_service s)
short_4 s L t a fm law fit _ _ = reach_4 L t fm a (λ d k. look L d ≡ k) s (λ j k p _ _. look_dropped L t fm law fit j k p)
