-- What stands at a position of a record: lists, tokens, AIDs, rows. Assumes nothing.
use Prim.Native.Nat.{ℕ, ◌+◌}
use mathlib.Core.Path.{◌≡◌, refl}
use mathlib.Core.List.{List}
use native.Mathlib.Nat.{add-zero}
use lib.ListN.{take, drop, get_or}
use lib.Seq.{drop-drop, get_or-drop}
use Rattle.policy.specs.Record.{Got, got, bad, and_then, aid, tokens, row_of, a_row}
use Rattle.record.specs.Meaning.{Good}
use Rattle.record.proofs.Fronts.{tok_at, AidFront, aid_fits, aid_good, TokensFront, tokens_good, tokens_fit}

-- a row that stands at the front of t
pub record RowFits (t : List ℕ) : Type 0 where
  pub front : AidFront t
  pub back : TokensFront (drop (get_or t 0 0 + 1) t)

pub row_form : (t : List ℕ) → RowFits t
    → a_row t
    ≡ got (record { aid = take (get_or t 0 0) (drop 1 t); tok = tok_at t (get_or t 0 0 + 1) })
    (drop (get_or t 0 0 + 1 + 2) t)
unfolding row_of
row_form t h =
    let b : ℕ = get_or t 0 0 in
    rw (aid_good t h.front, tokens_good (drop (b + 1) t) h.back, get_or-drop (b + 1) t 0 0, get_or-drop (b + 1) t 1 0, drop-drop 2 (b + 1) t, add-zero (b + 1))

pub good_got : {A : Type 0} (g : Got A) → Good g → (a : A) × (u : List ℕ) × (g ≡ got a u)
good_got (got a u) h = (a, u, refl)
good_got bad h = absurd h

-- what was read first, where something was read after it
pub good_first : {A B : Type 0} (g : Got A) (f : A → List ℕ → Got B) → Good (and_then g f) → (a : A) × (u : List ℕ) × (g ≡ got a u)
good_first (got a u) f h = (a, u, refl)
good_first bad f h = absurd h

pub row_fits : (t : List ℕ) → Good (a_row t) → RowFits t
unfolding row_of
row_fits t h =
    let f : AidFront t = aid_fits t (good_first (aid t) _ h).2 in
    record { front = f; back = tokens_fit _ (good_first (tokens (drop (get_or t 0 0 + 1) t)) _ (rw (aid_good t f) at h)).2 }
