-- Kind 11: the calls of others on services that went, as they were noted, stand behind the package's own rows. Assumes nothing.
use Prim.Native.Nat.{ℕ, ◌<◌}
use native.Mathlib.Omega.{arith}
use mathlib.Core.Path.{◌≡◌, refl, sym, ap, ap₂, ◌∙◌, subst}
use mathlib.Core.Bool.{Bool, true, false, ◌&&◌}
use mathlib.Core.List.{List, ◌++◌, append_assoc}
use lib.Dec.{T}
use lib.ListN.{get_or, length-append}
use Rattle.policy.specs.Lists.{flat, keep, upto}
use Rattle.policy.specs.Contract.{Contract}
use Rattle.policy.specs.Layout.{Layout}
use Rattle.policy.specs.Tables.{Tables, Unmet, bit}
use Rattle.policy.specs.Lookup.{places, numbers, service_at}
use Rattle.policy.specs.Draft.{Services, call_row, left_by, dropped_by}
use Rattle.policy.proofs.Sets.{upto_in, flat_ext}
use Rattle.policy.proofs.Formed.{Formed, Fitting}
use Rattle.policy.proofs.BroughtNames.{dropped, unmet_still, left_off, brought_at}
use Rattle.geometry.specs.declared.Kept.TheVariants.{UnmetCalls}
use Rattle.image.specs.Read.{item}
use Rattle.changes.specs.Left.{only, behind, RoomBehind, token_in}
use Rattle.changes.proofs.LeftRows.{only_pairs}
use Rattle.packages.specs.Writes.{noted_rows, NotedIn}
use Rattle.packages.proofs.Brought.OwnRows.{own_done}

module _ (L : Layout) (t : Tables) (n : ℕ) (k : Contract) (now : Services) (f : Formed L t) (an : t.aid n ≡ k.aid) (mask : ℕ)
    (is : (z : ℕ) → bit mask z ≡ t.provides n z && dropped_by L t k n z) (rows tokens : List ℕ) (noted : NotedIn L t n mask rows)
    (toks : (z : ℕ) → z < L.services → token_in tokens z ≡ t.tok n z) where
  -- a call is on a provided service
  on_provided : (o p d : Bool) → (T o → T p) → o && (p && d) ≡ o && d
  on_provided true true d h = refl
  on_provided true false d h = absurd (h tt)
  on_provided false p d h = refl

  abbrev left : List Unmet
  left = left_by L t t.calls n (dropped L t n k now)

  noted_left : noted_rows L k.aid rows tokens ≡ left_by L t t.calls n (dropped_by L t k n)
  noted_left =
      flat_ext (λ i. flat (λ z. only (bit (get_or rows i 0) z) (item UnmetCalls k.aid (token_in tokens z) i)) (upto L.services))
      (λ i. flat (λ z. only (t.calls i n z && dropped_by L t k n z) (call_row i (service_at t n z))) (upto L.services)) (upto L.packages)
      (λ i m. flat_ext (λ z. only (bit (get_or rows i 0) z) (item UnmetCalls k.aid (token_in tokens z) i)) (λ z. only (t.calls i n z && dropped_by L t k n z) (call_row i (service_at t n z))) (upto L.services)
      (λ z o. ap₂ (λ (b : Bool) (u : Unmet). only b u)
      (noted i (upto_in L.packages m) z ∙ ap (λ (b : Bool). t.calls i n z && b) (is z) ∙ on_provided (t.calls i n z) (t.provides n z) (dropped_by L t k n z) (f.calls.of_prov i n z))
      (λ j. record { callee = sym an j; tok = toks z (upto_in L.services o) j; caller = i })))
      ∙ only_pairs (λ i z. call_row i (service_at t n z)) (λ i z. t.calls i n z && dropped_by L t k n z) (places L) (numbers L)

  pub noted_room : Fitting L (brought_at L t n k now).tables → RoomBehind UnmetCalls L (noted_rows L k.aid rows tokens) (own_done L t n k now)
  noted_room fit = subst (λ (m : List Unmet). RoomBehind UnmetCalls L m (own_done L t n k now)) (sym noted_left)
      (let stay = keep (unmet_still L t n k now) t.unmet in
      let own = left_off L t n k now k.calls in
      omega (arith, fit.unmet_fits, length-append stay (own ++ left), length-append own left, length-append stay own))

  pub noted_behind : behind UnmetCalls (noted_rows L k.aid rows tokens) (own_done L t n k now) ≡ (brought_at L t n k now).tables
  noted_behind =
      ap (λ (m : List Unmet). behind UnmetCalls m (own_done L t n k now)) noted_left
      ∙ (λ i. record {
        used = (own_done L t n k now).used;
        aid = (own_done L t n k now).aid;
        tok = (own_done L t n k now).tok;
        provides = (own_done L t n k now).provides;
        calls = (own_done L t n k now).calls;
        grants = (own_done L t n k now).grants;
        needs = (own_done L t n k now).needs;
        unmet = append_assoc (keep (unmet_still L t n k now) t.unmet) (left_off L t n k now k.calls) left i;
        waiting = (own_done L t n k now).waiting;
      })
