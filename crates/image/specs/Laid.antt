-- An image that is what its tables say, and tables with one part changed.
use Rattle.std.specs.Prelude.{ℕ, ◌≤◌, ◌<◌, ◌≡◌, ◌⊎◌, Bool, ◌&&◌, cond, List, [], T, eqb, length}
use mathlib.Core.List.{Memᴰ as In}
use Rattle.policy.specs.Contract.{Aid, Tok}
use Rattle.policy.specs.Layout.{Layout}
use Rattle.policy.specs.Tables.{Tables, Unmet, Waiting, no_tok, decode, encode}
use Rattle.policy.specs.Draft.{put, put2, with_calls, with_grants, with_needs}
use Rattle.policy.specs.Room.{BitsIn, Room}
use Rattle.geometry.specs.declared.Card.{Card}
use Rattle.geometry.specs.declared.Table.{Table}
use Rattle.geometry.specs.declared.Table.TheVariants.{Calls, Grants, Needs}
use Rattle.geometry.specs.declared.Kept.{Kept}
use Rattle.geometry.specs.declared.Kept.TheVariants.{UnmetCalls, WaitingGrants}
use Rattle.geometry.specs.Geometry.{layout_of, tables_of}
use Rattle.image.specs.Read.{Item}

-- ---- the three tables of bits
abbrev pub table_of : Table → Tables → ℕ → ℕ → ℕ → Bool
table_of Calls t = t.calls
table_of Grants t = t.grants
table_of Needs t = t.needs

-- the image is what its tables say
pub record Laid (L : Layout) (img : List ℕ) : Type 0 where
  pub laid : encode L (decode L img) ≡ img
  pub room : Room L (decode L img)

-- the same of a card, on which grants may be given early, so that the room says nothing of services that are: a fact with one proof
pub record RoomOn (L : Layout) (t : Tables) : Type 0 where
  pub used_in : (n : ℕ) → T (t.used n) → n < L.packages
  pub aid_short : (n : ℕ) → length (t.aid n) ≤ 16
  pub aid_off : (n : ℕ) → L.packages ≤ n → t.aid n ≡ []
  pub tok_off : (j k : ℕ) → (L.packages ≤ j) ⊎ (L.services ≤ k) → t.tok j k ≡ no_tok
  pub provides_in : (j k : ℕ) → T (t.provides j k) → (j < L.packages) × (k < L.services)
  pub calls_in : BitsIn L t.calls
  pub grants_in : BitsIn L t.grants
  pub needs_in : BitsIn L t.needs
  pub unmet_fits : length t.unmet ≤ L.capacity
  pub unmet_short : (u : Unmet) → In u t.unmet → length u.callee ≤ 16
  pub waiting_fits : length t.waiting ≤ L.capacity
  pub waiting_short : (v : Waiting) → In v t.waiting → length v.caller ≤ 16

pub record LaidOn (c : Card) (img : List ℕ) : Type 0 where
  pub laid : encode (layout_of c) (tables_of c img) ≡ img
  pub room : RoomOn (layout_of c) (tables_of c img)

-- ---- tables with one part changed
abbrev pub with_used : (ℕ → Bool) → Tables → Tables
with_used f t = record {
  used = f;
  aid = t.aid;
  tok = t.tok;
  provides = t.provides;
  calls = t.calls;
  grants = t.grants;
  needs = t.needs;
  unmet = t.unmet;
  waiting = t.waiting;
}

abbrev pub with_aid : ℕ → Aid → Tables → Tables
with_aid n a t = record {
  used = t.used;
  aid = put n a t.aid;
  tok = t.tok;
  provides = t.provides;
  calls = t.calls;
  grants = t.grants;
  needs = t.needs;
  unmet = t.unmet;
  waiting = t.waiting;
}

abbrev pub with_tok : ℕ → ℕ → Tok → Tables → Tables
with_tok j k s t = record {
  used = t.used;
  aid = t.aid;
  tok = put2 j k s t.tok;
  provides = t.provides;
  calls = t.calls;
  grants = t.grants;
  needs = t.needs;
  unmet = t.unmet;
  waiting = t.waiting;
}

-- row j is f
abbrev pub with_provides : ℕ → (ℕ → Bool) → Tables → Tables
with_provides j f t = record {
  used = t.used;
  aid = t.aid;
  tok = t.tok;
  provides = λ x y. cond (eqb x j) (f y) (t.provides x y);
  calls = t.calls;
  grants = t.grants;
  needs = t.needs;
  unmet = t.unmet;
  waiting = t.waiting;
}

abbrev pub with_table : Table → (ℕ → ℕ → ℕ → Bool) → Tables → Tables
with_table Calls b t = with_calls b t.unmet t
with_table Grants b t = with_grants b t.waiting t
with_table Needs b t = with_needs b t

-- entry i, j of a table is f
abbrev pub with_entry : Table → ℕ → ℕ → (ℕ → Bool) → Tables → Tables
with_entry tb i j f t = with_table tb (λ x y z. cond (eqb x i && eqb y j) (f z) (table_of tb t x y z)) t

abbrev pub with_unmet : List Unmet → Tables → Tables
with_unmet l t = with_calls t.calls l t

abbrev pub with_waiting : List Waiting → Tables → Tables
with_waiting l t = with_grants t.grants l t

abbrev pub with_items : (l : Kept) → List (Item l) → Tables → Tables
with_items UnmetCalls m t = with_unmet m t
with_items WaitingGrants m t = with_waiting m t
