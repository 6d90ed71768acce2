-- The rows of the two lists that become bits: waiting grants, and unmet calls on a package's services.
use Rattle.std.specs.Prelude.{ℕ, ◌+◌, ◌-◌, ◌<◌, T, length}
use mathlib.Core.List.{List, [], ◌∷◌, Memᴰ as In}
use Rattle.policy.specs.Lists.{is_some, or_else, upto}
use Rattle.policy.specs.Contract.{Aid, Tok}
use Rattle.policy.specs.Layout.{Layout}
use Rattle.policy.specs.Tables.{Tables, Unmet, Waiting, bit}
use Rattle.policy.specs.Lookup.{grant_at, number_of, service_of, spot_of}
use Rattle.policy.specs.Draft.{with_calls, with_grants}
use Rattle.policy.specs.ShortCheck.{count}
use Rattle.geometry.specs.declared.Kept.{Kept}
use Rattle.rows.specs.Area.{keep_rows}
use Rattle.image.specs.Laid.{with_unmet, with_waiting}
use Rattle.image.specs.Read.{items_of, unmet_row, waiting_row}
use Rattle.changes.specs.Masks.{listed}

-- their callers' numbers are in range, and those of the packages that give a grant
abbrev pub CallersIn : Layout → List Unmet → Type 0
CallersIn L l = (u : Unmet) → In u l → u.caller < L.packages

abbrev pub GivenIn : Layout → List Waiting → Type 0
GivenIn L l = (w : Waiting) → In w l → w.callee < L.packages

-- ---- tables without the rows of two masks, of unmet calls and of waiting grants
abbrev pub without_rows : ℕ → ℕ → Tables → Tables
without_rows met due t = with_waiting (keep_rows due t.waiting) (with_unmet (keep_rows met t.unmet) t)

module _ (L : Layout) where
  -- how many rows list l has room for, once those of the mask have gone
  abbrev pub room_after : Kept → ℕ → Tables → ℕ
  room_after l mask t = L.capacity + count (bit mask) (upto 32) - length (items_of l t)

  -- the number of the package with an AID, and of a service of a package; past the last for none
  abbrev pub holder : Tables → Aid → ℕ
  holder t a = or_else (number_of L t a) L.packages (λ n. n)

  abbrev pub service_number : Tables → ℕ → Tok → ℕ
  service_number t n s = or_else (service_of L t n s) L.services (λ n. n)

  -- the waiting grants of l that the mask names are bits
  abbrev pub settled_rows : ℕ → ℕ → List Waiting → Tables → Tables
  settled_rows mask r l t =
      with_grants (listed (λ w. w.callee) (λ w. holder t w.caller) (λ w. service_number t w.callee w.tok) mask r l t.grants)
      t.waiting t

  abbrev pub settled_all : ℕ → Tables → Tables
  settled_all mask t = settled_rows mask 0 t.waiting t

  -- row r of them alone
  abbrev pub settled_one : ℕ → ℕ → Tables → Tables
  settled_one mask r t = settled_rows mask r (waiting_row t r ∷ []) t

  -- if the mask names row r, it stands as a bit: caller and service are on the card
  abbrev pub DueAt : ℕ → Tables → ℕ → Type 0
  DueAt mask t r = T (bit mask r) → T (is_some (spot_of L t (waiting_row t r).callee (grant_at (waiting_row t r))))

  -- the unmet calls of l: they are calls on package n's services with their tokens
  abbrev pub met_rows : ℕ → ℕ → ℕ → List Unmet → Tables → Tables
  met_rows mask n r l t = with_calls (listed (λ u. u.caller) (λ u. n) (λ u. service_number t n u.tok) mask r l t.calls) t.unmet t

  abbrev pub met_all : ℕ → ℕ → Tables → Tables
  met_all mask n t = met_rows mask n 0 t.unmet t

  -- row r of them alone
  abbrev pub met_one : ℕ → ℕ → ℕ → Tables → Tables
  met_one mask n r t = met_rows mask n r (unmet_row t r ∷ []) t

  -- if the mask names it, package n has its service
  abbrev pub CallOn : ℕ → ℕ → Tables → ℕ → Type 0
  CallOn mask n t r = T (bit mask r) → T (is_some (service_of L t n (unmet_row t r).tok))

  -- the unmet calls of one mask, on package n's services, and the waiting grants of another have become bits, and the unmet calls and
  -- waiting grants of two more have left their lists
  abbrev pub taken_in : ℕ → ℕ → ℕ → ℕ → ℕ → Tables → Tables
  taken_in n met due calls grants t = without_rows calls grants (settled_all due (met_all met n t))

  -- what that asks of the tables: numbers in range, and for each row that a mask names its service and caller on the card
  pub record TakesIn (n met due : ℕ) (t : Tables) : Type 0 where
    pub package_in : n < L.packages
    pub callers : CallersIn L t.unmet
    pub calls_on : (r : ℕ) → r < length t.unmet → CallOn met n t r
    pub givers : GivenIn L t.waiting
    pub dues_on : (r : ℕ) → r < length t.waiting → DueAt due t r
