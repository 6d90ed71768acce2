-- What tables and drafts satisfy, as facts; and what they stand for, package by package. The interface between the laws.
use Prim.Native.Nat.{ℕ, ◌≤◌, ◌<◌}
use mathlib.Core.Path.{◌≡◌}
use mathlib.Core.Logic.{◌↔◌}
use mathlib.Core.Bool.{Bool}
use mathlib.Core.List.{List, [], map}
use mathlib.Core.List.{Memᴰ as In}
use lib.Dec.{T}
use lib.ListN.{length}
use Rattle.policy.specs.Lists.{NoRepeat}
use Rattle.policy.specs.Contract.{Aid, Tok, Row, Contract, valid_aid}
use Rattle.policy.specs.Layout.{Layout}
use Rattle.policy.specs.Record.{Change, proper}
use Rattle.policy.specs.Causes.{answer}
use Rattle.policy.specs.Machine.{effect}
use Rattle.policy.specs.Tables.{Tables, Unmet, Waiting, no_tok}
use Rattle.policy.specs.Lookup.{service_at}
use Rattle.policy.specs.Draft.{Draft, call_row, grant_row, draft, look}
use Rattle.policy.specs.Judge.{table_causes}
use Rattle.policy.specs.Records.{ValidTok, WithinChange}
use Rattle.policy.specs.History.{FourSets}
use Rattle.policy.specs.ShortCheck.{short_look}

-- ---- facts about tables, by their parts, so that an unchanged part is passed on as it is
-- Formed holds of every draft's tables; Lawful, Fitting and Ruled besides of a sound image's
pub record Names (L : Layout) (used : ℕ → Bool) (aid : ℕ → Aid) (tok : ℕ → ℕ → Tok) (provides : ℕ → ℕ → Bool) : Type 0 where
  pub used_lt : (n : ℕ) → T (used n) → n < L.packages
  pub prov_lt : (j k : ℕ) → T (provides j k) → k < L.services
  pub prov_used : (j k : ℕ) → T (provides j k) → T (used j)
  pub aid_valid : (n : ℕ) → T (used n) → T (valid_aid (aid n))
  pub aid_blank : (n : ℕ) → (T (used n) → ⊥) → aid n ≡ []
  pub tok_blank : (j k : ℕ) → (T (provides j k) → ⊥) → tok j k ≡ no_tok
  pub aid_inj : (i j : ℕ) → T (used i) → T (used j) → aid i ≡ aid j → i ≡ j
  pub tok_inj : (j k l : ℕ) → T (provides j k) → T (provides j l) → tok j k ≡ tok j l → k ≡ l

-- bits of caller i, callee j and the callee's service k
pub record Bits (used : ℕ → Bool) (provides : ℕ → ℕ → Bool) (b : ℕ → ℕ → ℕ → Bool) : Type 0 where
  pub by_used : (i j k : ℕ) → T (b i j k) → T (used i)
  pub of_prov : (i j k : ℕ) → T (b i j k) → T (provides j k)
  pub other : (i j k : ℕ) → T (b i j k) → i ≡ j → ⊥

-- rows of used callers on services that are not on the card
pub record Off (used : ℕ → Bool) (aid : ℕ → Aid) (tok : ℕ → ℕ → Tok) (provides : ℕ → ℕ → Bool) (l : List Unmet) : Type 0 where
  pub off_used : (u : Unmet) → In u l → T (used u.caller)
  pub off_card : (u : Unmet) → In u l → (j k : ℕ) → T (provides j k) → aid j ≡ u.callee → tok j k ≡ u.tok → ⊥

pub record UnmetRows (used : ℕ → Bool) (aid : ℕ → Aid) (tok : ℕ → ℕ → Tok) (provides : ℕ → ℕ → Bool) (l : List Unmet) : Type 0 where
  pub off : Off used aid tok provides l
  pub unmet_valid : (u : Unmet) → In u l → T (valid_aid u.callee)
  pub unmet_other : (u : Unmet) → In u l → u.callee ≡ aid u.caller → ⊥
  pub unmet_once : NoRepeat l

-- grants of used packages to others, whose caller and service are not both on the card
pub record WaitingRows (used : ℕ → Bool) (aid : ℕ → Aid) (tok : ℕ → ℕ → Tok) (provides : ℕ → ℕ → Bool) (l : List Waiting) : Type 0 where
  pub wait_valid : (w : Waiting) → In w l → T (valid_aid w.caller)
  pub wait_used : (w : Waiting) → In w l → T (used w.callee)
  pub wait_other : (w : Waiting) → In w l → w.caller ≡ aid w.callee → ⊥
  pub wait_off : (w : Waiting) → In w l → (n k : ℕ) → T (used n) → aid n ≡ w.caller → T (provides w.callee k) → tok w.callee k ≡ w.tok → ⊥
  pub wait_once : NoRepeat l

-- a grant bit by caller, callee and service, as for calls
abbrev pub grant_bit : Tables → ℕ → ℕ → ℕ → Bool
grant_bit t i j k = t.grants j i k

pub record Formed (L : Layout) (t : Tables) : Type 0 where
  pub names : Names L t.used t.aid t.tok t.provides
  pub calls : Bits t.used t.provides t.calls
  pub grants : Bits t.used t.provides (grant_bit t)
  pub need_call : (i j k : ℕ) → T (t.needs i j k) → T (t.calls i j k)
  pub unmet : UnmetRows t.used t.aid t.tok t.provides t.unmet
  pub waiting : WaitingRows t.used t.aid t.tok t.provides t.waiting

abbrev pub Lawful : Tables → Type 0
Lawful t = (i j k : ℕ) → T (t.calls i j k) → T (grant_bit t i j k)

pub record Fitting (L : Layout) (t : Tables) : Type 0 where
  pub unmet_fits : length t.unmet ≤ L.capacity
  pub waiting_fits : length t.waiting ≤ L.capacity

-- the rules of L allow the tables: the method tokens of provided services and of unmet calls are L's
pub record Ruled (L : Layout) (t : Tables) : Type 0 where
  pub provided : (j k : ℕ) → T (t.provides j k) → ValidTok L (t.tok j k)
  pub unmet : (u : Unmet) → In u t.unmet → ValidTok L u.tok
  pub waiting : (w : Waiting) → In w t.waiting → ValidTok L w.tok
  pub own : (T L.early → ⊥) → (w : Waiting) → In w t.waiting → (k : ℕ) × T (t.provides w.callee k) × (t.tok w.callee k ≡ w.tok)

-- ---- what package n of the tables provides, calls, grants and needs
pub data ProvidesAt (t : Tables) (n : ℕ) (s : Tok) : Type 0 where
  at : (k : ℕ) → T (t.provides n k) → s ≡ t.tok n k → ProvidesAt t n s

-- a row as a bit of b, or as a row of a list: for calls and for needs
pub data RowAt (t : Tables) (b : ℕ → ℕ → ℕ → Bool) (l : List Unmet) (n : ℕ) (r : Row) : Type 0 where
  bit : (j k : ℕ) → T (b n j k) → r ≡ service_at t j k → RowAt t b l n r
  row : In (call_row n r) l → RowAt t b l n r

pub data GrantAt (t : Tables) (n : ℕ) (r : Row) : Type 0 where
  bit : (i k : ℕ) → T (t.grants n i k) → r.aid ≡ t.aid i → r.tok ≡ t.tok n k → GrantAt t n r
  row : In (grant_row n r) t.waiting → GrantAt t n r

-- package n has the contract c; a need may also be one of those lost
pub record HasContract (t : Tables) (lost : List Unmet) (n : ℕ) (c : Contract) : Type 0 where
  pub aid : c.aid ≡ t.aid n
  pub provides : (s : Tok) → In s c.provides ↔ ProvidesAt t n s
  pub calls : (r : Row) → In r c.calls ↔ RowAt t t.calls t.unmet n r
  pub grants : (r : Row) → In r c.grants ↔ GrantAt t n r
  pub needs : (r : Row) → In r c.needs ↔ RowAt t t.needs lost n r

-- the tables, with the lost needs, have these contracts and no others
pub record Stands (t : Tables) (lost : List Unmet) (cs : List Contract) : Type 0 where
  pub these : (c : Contract) → In c cs → (n : ℕ) × T (t.used n) × HasContract t lost n c
  pub no_others : (n : ℕ) → T (t.used n) → (c : Contract) × In c cs × (c.aid ≡ t.aid n)
  pub one_each : NoRepeat (map (λ c. c.aid) cs)
  pub four_sets : (c : Contract) → In c cs → FourSets c

-- ---- what each kind has to show: its draft is formed, and stands for the contracts that the record would leave
pub record Turns (L : Layout) (d : Draft) (ds : List Contract) : Type 0 where
  pub formed : Formed L d.tables
  pub lost_off : Off d.tables.used d.tables.aid d.tables.tok d.tables.provides d.lost
  pub stands : Stands d.tables d.lost ds

abbrev pub KindTurns : Change → Type 0
KindTurns c = (L : Layout) (t : Tables) (cs : List Contract) (a : Aid) → Formed L t → Stands t [] cs → T (valid_aid a) → WithinChange L c → T (proper L a c)
    → answer (table_causes L t a c) ≡ 0 → Turns L (draft L t a c) (effect L cs a c)

-- and its short check says what the full look at its draft says, where the tables are lawful and fit
abbrev pub KindShort : Change → Type 0
KindShort c = (L : Layout) (t : Tables) (a : Aid) → Formed L t → Lawful t → Fitting L t → WithinChange L c → T (proper L a c) → answer (table_causes L t a c) ≡ 0
    → look L (draft L t a c) ≡ short_look L t a c
