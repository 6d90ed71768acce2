-- Tables that an image has room for: what is written of them is read back. A sound image's are such, and so are those between two writes.
use Rattle.std.specs.Prelude.{ℕ, ◌≤◌, ◌<◌, ◌≡◌, ◌⊎◌, Bool, [], T, length}
use mathlib.Core.List.{Memᴰ as In}
use Rattle.policy.specs.Layout.{Layout}
use Rattle.policy.specs.Tables.{Tables, Unmet, Waiting, no_tok}

-- a table's bits stand in range
abbrev pub BitsIn : Layout → (ℕ → ℕ → ℕ → Bool) → Type 0
BitsIn L b = (x y z : ℕ) → T (b x y z) → (x < L.packages) × (y < L.packages) × (z < L.services)

-- and so do all other parts
pub record Room (L : Layout) (t : Tables) : Type 0 where
  pub used_in : (n : ℕ) → T (t.used n) → n < L.packages
  pub aid_short : (n : ℕ) → length (t.aid n) ≤ 16
  pub aid_off : (n : ℕ) → L.packages ≤ n → t.aid n ≡ []
  pub tok_off : (j k : ℕ) → (L.packages ≤ j) ⊎ (L.services ≤ k) → t.tok j k ≡ no_tok
  pub provides_in : (j k : ℕ) → T (t.provides j k) → (j < L.packages) × (k < L.services)
  pub calls_in : BitsIn L t.calls
  pub grants_in : BitsIn L t.grants
  pub needs_in : BitsIn L t.needs
  pub unmet_fits : length t.unmet ≤ L.capacity
  pub unmet_short : (u : Unmet) → In u t.unmet → length u.callee ≤ 16
  pub waiting_fits : length t.waiting ≤ L.capacity
  pub waiting_short : (v : Waiting) → In v t.waiting → length v.caller ≤ 16
  -- before R-2 a row of waiting grants holds the number of a provided service
  pub waiting_own : (T L.early → ⊥) → (v : Waiting) → In v t.waiting
      → (k : ℕ) × T (t.provides v.callee k) × (t.tok v.callee k ≡ v.tok)
