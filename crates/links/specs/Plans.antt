-- Kinds 5 to 8 by what is found in the tables: a plan by where the record's row stands, and the outcome that it comes to.
use Rattle.std.specs.Prelude.{ℕ, ◌<◌, Bool, true, false, ◌&&◌, cond, List, [], ◌∷◌, ◌++◌, eqb, ltb, length, Result, Ok, Err}
use Rattle.std.proofs.Math.Option.{Option, none, some}
use Rattle.policy.specs.Lists.{or_else}
use Rattle.policy.specs.Contract.{Aid, eq_aid, eq_tok, Row}
use Rattle.policy.specs.Layout.{Layout}
use Rattle.policy.specs.Tables.{Tables, decode, encode}
use Rattle.policy.specs.Lookup.{Place as Served, Spot as Spotted, number_of, server_of, spot_of}
use Rattle.policy.specs.Draft.{put3}
use Rattle.policy.specs.Judge.{Out, refusal}
use Rattle.rows.specs.Area.{keep_rows}
use Rattle.geometry.specs.declared.Table.{Table}
use Rattle.geometry.specs.declared.Table.TheVariants.{Calls, Grants, Needs}
use Rattle.geometry.specs.declared.Kept.{Kept}
use Rattle.geometry.specs.declared.Kept.TheVariants.{UnmetCalls, WaitingGrants}
use Rattle.image.specs.Laid.{table_of, with_table, with_items}
use Rattle.image.specs.Read.{asked, items_of, item, item_aid, item_tok, item_number, mask_of}
use Rattle.image.specs.declared.read.Place.{Place}
use Rattle.image.specs.declared.read.Spot.{Spot}
use Rattle.record.specs.declared.RowKind.{RowKind}
use Rattle.record.specs.declared.RowKind.TheVariants.{AddCall, RemoveCall, AddGrant, RemoveGrant}
use Rattle.answers.specs.Numbers.{number}
use Rattle.answers.specs.declared.Refusal.{Refusal}
use Rattle.answers.specs.declared.Refusal.TheVariants.{NotInstalled, Pointless, Ungranted, UnmetFull, WaitingFull}
use Rattle.links.specs.declared.plan.Edit.{Edit}
use Rattle.links.specs.declared.plan.Edit.TheVariants.{Call, Uncall, Grant, Ungrant, Add, Drop}
use Rattle.links.specs.declared.plan.Plan.{Plan}
use Rattle.links.specs.declared.link.Link.{Link}

-- which rows of a list are the row r of package n
abbrev pub row_mask : Kept → Tables → ℕ → Row → ℕ
row_mask l t n r = mask_of (λ x. eq_aid (item_aid l x) r.aid && eq_tok (item_tok l x) r.tok && eqb (item_number l x) n) (items_of l t)

module _ (t : Tables) where
  -- bit z of entry x, y changed to v
  abbrev pub with_bit : Table → ℕ → ℕ → ℕ → Bool → Tables
  with_bit tb x y z v = with_table tb (put3 x y z v (table_of tb t)) t

-- the row of a link
abbrev pub row : Link → Row
row l = asked l.other.now l.tokens

-- bit z of entry x, y is there
abbrev pub BitAt : Layout → ℕ → ℕ → ℕ → Type 0
BitAt L x y z = (x < L.packages) × (y < L.packages) × (z < L.services)

-- a service of the card and a grant that is a bit, as code holds them
abbrev pub place : Served → Place
place p = record { callee = p.callee; service = p.service }

abbrev pub spot : Spotted → Spot
spot p = record { caller = p.caller; service = p.service }

-- ---- what the row r of a package comes to, by the package's number and where the row stands
module _ (L : Layout) (t : Tables) (r : Row) where
  -- a row added to a list, where it is not there and the list has room; a row dropped from it
  abbrev pub add_row : Kept → ℕ → Refusal → Result Edit Refusal
  add_row l n full = cond (eqb (row_mask l t n r) 0) (cond (ltb (length (items_of l t)) L.capacity) (Ok (Add l)) (Err full))
      (Err Pointless)

  abbrev pub drop_row : Kept → ℕ → Result Edit Refusal
  drop_row l n = cond (eqb (row_mask l t n r) 0) (Err Pointless) (Ok (Drop l (row_mask l t n r)))

  -- a call of package i, by the place of its service
  abbrev pub add_call_plan : ℕ → Option Served → Result Edit Refusal
  add_call_plan i none = add_row UnmetCalls i UnmetFull
  add_call_plan i (some p) = cond (t.calls i p.callee p.service) (Err Pointless)
      (cond (t.grants p.callee i p.service) (Ok (Call (place p))) (Err Ungranted))

  abbrev pub remove_call_plan : ℕ → Option Served → Result Edit Refusal
  remove_call_plan i none = drop_row UnmetCalls i
  remove_call_plan i (some p) = cond (t.calls i p.callee p.service) (Ok (Uncall (place p))) (Err Pointless)

  -- a grant of package j, by where it stands as a bit
  abbrev pub add_grant_plan : ℕ → Option Spotted → Result Edit Refusal
  add_grant_plan j none = add_row WaitingGrants j WaitingFull
  add_grant_plan j (some p) = cond (t.grants j p.caller p.service) (Err Pointless) (Ok (Grant (spot p)))

  abbrev pub remove_grant_plan : ℕ → Option Spotted → Result Edit Refusal
  remove_grant_plan j none = drop_row WaitingGrants j
  remove_grant_plan j (some p) = cond (t.grants j p.caller p.service)
      (cond (t.calls p.caller j p.service) (Err Ungranted) (Ok (Ungrant (spot p))))
      (Err Pointless)

-- the change, with the package's number
abbrev pub owned : ℕ → Result Edit Refusal → Result Plan Refusal
owned n (Ok e) = Ok (record { owner = n; edit = e })
owned n (Err e) = Err e

-- the plan of the package with the AID a
abbrev pub call_plan : Layout → Tables → (ℕ → Option Served → Result Edit Refusal) → Aid → Row → Result Plan Refusal
call_plan L t f a r = or_else (number_of L t a) (Err NotInstalled) (λ i. owned i (f i (server_of L t r)))

abbrev pub grant_plan : Layout → Tables → (ℕ → Option Spotted → Result Edit Refusal) → Aid → Row → Result Plan Refusal
grant_plan L t f a r = or_else (number_of L t a) (Err NotInstalled) (λ j. owned j (f j (spot_of L t j r)))

-- what a record of each kind comes to
abbrev pub plan_of : Layout → Tables → Aid → Row → RowKind → Result Plan Refusal
plan_of L t a r AddCall = call_plan L t (add_call_plan L t r) a r
plan_of L t a r RemoveCall = call_plan L t (remove_call_plan L t r) a r
plan_of L t a r AddGrant = grant_plan L t (add_grant_plan L t r) a r
plan_of L t a r RemoveGrant = grant_plan L t (remove_grant_plan L t r) a r

-- ---- the row r of package n: the tables after a change, and the outcome of a plan
abbrev pub edited : Tables → Row → ℕ → Edit → Tables
edited t r n (Call p) = with_bit t Calls n p.callee p.service true
edited t r n (Uncall p) = with_bit (with_bit t Needs n p.callee p.service false) Calls n p.callee p.service false
edited t r n (Grant p) = with_bit t Grants n p.caller p.service true
edited t r n (Ungrant p) = with_bit t Grants n p.caller p.service false
edited t r n (Add l) = with_items l (items_of l t ++ (item l r.aid r.tok n ∷ [])) t
edited t r n (Drop l m) = with_items l (keep_rows m (items_of l t)) t

abbrev pub done : Layout → List ℕ → Row → Result Plan Refusal → Out
done L img r (Err e) = refusal (number e) 255 img
done L img r (Ok p) = record { answered = 0; second = p.owner; bytes = encode L (edited (decode L img) r p.owner p.edit) }

-- what carrying it out needs: numbers in range, and room in a list that grows
module _ (L : Layout) (t : Tables) where
  abbrev pub Fits : ℕ → Edit → Type 0
  Fits n (Call p) = BitAt L n p.callee p.service
  Fits n (Uncall p) = BitAt L n p.callee p.service
  Fits n (Grant p) = BitAt L n p.caller p.service
  Fits n (Ungrant p) = BitAt L n p.caller p.service
  Fits n (Add l) = length (items_of l t) < L.capacity
  Fits n (Drop l m) = Unit {0}

  abbrev pub Inside : Result Plan Refusal → Type 0
  Inside (Err e) = Unit {0}
  Inside (Ok p) = (p.owner < L.packages) × Fits p.owner p.edit
