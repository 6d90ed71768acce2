-- What the writes of a package's own rows leave, row by row: its calls, then its grants, then its needs. Assumes nothing.
use Prim.Native.Nat.{ℕ, ◌+◌, ◌≤◌}
use native.Mathlib.Omega.{arith}
use mathlib.Core.Path.{◌≡◌, sym, ap, ◌∙◌, subst}
use mathlib.Core.Bool.{not, cond}
use mathlib.Core.List.{List, [], ◌∷◌, ◌++◌}
use mathlib.Core.Option.{Option, none, some}
use lib.ListN.{length}
use Rattle.policy.specs.Lists.{every, keep, is_some}
use Rattle.policy.specs.Contract.{Row}
use Rattle.policy.specs.Layout.{Layout}
use Rattle.policy.specs.Tables.{Tables, decode}
use Rattle.policy.specs.Lookup.{Place, Spot, number_of, service_of, server_of, spot_of}
use Rattle.policy.specs.Draft.{call_row, grant_row, add_call_at, add_grant_at}
use Rattle.policy.proofs.Sets.{and_r, length_snoc}
use Rattle.image.specs.Laid.{Laid}
use Rattle.image.specs.Wrote.{Wrote}
use Rattle.changes.specs.Own.{need_at, served, own_rows, OwnFits}

-- ---- room in a list for those that f finds nothing for
module _ {A B C : Type 0} (f : A → Option B) (x : A) (l : List A) (rows : List C) (most : ℕ) where
  abbrev later : List A
  later = keep (λ y. not (is_some (f y))) l

  abbrev RoomBy : Option B → Type 0
  RoomBy o = length rows + length (cond (not (is_some o)) (x ∷ later) later) ≤ most

  after : (u : C) → RoomBy none → length (rows ++ (u ∷ [])) + length later ≤ most
  after u q = subst (λ (n : ℕ). n + length later ≤ most) (sym (length_snoc rows u)) (omega (arith, q))

-- the calls c, the grants g and the needs m are to come; with all rows the tables are s
pub record OwnLeft (L : Layout) (n : ℕ) (s : Tables) (c g m : List Row) (img : List ℕ) : Type 0 where
  pub laid : Laid L img
  pub fit : OwnFits L n c g m (decode L img)
  pub left : own_rows L n c g m (decode L img) ≡ s

module _ (L : Layout) (n : ℕ) where
  -- ---- a row changes no lookup
  call_fits : (x : Row) (c g m : List Row) (t : Tables) (o : Option Place) → RoomBy (server_of L t) x c t.unmet L.capacity o → OwnFits L n (x ∷ c) g m t
      → OwnFits L n c g m (add_call_at L t n x o).tables
  unfolding number_of service_of server_of spot_of
  call_fits x c g m t none q f =
      record { package_in = f.package_in; calls_fit = after (server_of L t) x c t.unmet L.capacity (call_row n x) q; grants_fit = f.grants_fit; needs_on = f.needs_on }
  call_fits x c g m t (some p) q f = record { package_in = f.package_in; calls_fit = q; grants_fit = f.grants_fit; needs_on = f.needs_on }

  grant_fits : (x : Row) (g m : List Row) (t : Tables) (o : Option Spot) → RoomBy (spot_of L t n) x g t.waiting L.capacity o → OwnFits L n [] (x ∷ g) m t
      → OwnFits L n [] g m (add_grant_at L t n x o).tables
  unfolding number_of service_of server_of spot_of
  grant_fits x g m t none q f =
      record { package_in = f.package_in; calls_fit = f.calls_fit; grants_fit = after (spot_of L t n) x g t.waiting L.capacity (grant_row n x) q; needs_on = f.needs_on }
  grant_fits x g m t (some p) q f = record { package_in = f.package_in; calls_fit = f.calls_fit; grants_fit = q; needs_on = f.needs_on }

  need_fits : (x : Row) (m : List Row) (t : Tables) (o : Option Place) → OwnFits L n [] [] (x ∷ m) t → OwnFits L n [] [] m (need_at t n o)
  unfolding number_of service_of server_of spot_of
  need_fits x m t none f =
      record { package_in = f.package_in; calls_fit = f.calls_fit; grants_fit = f.grants_fit; needs_on = and_r (served L t x) (every (served L t) m) f.needs_on }
  need_fits x m t (some p) f =
      record { package_in = f.package_in; calls_fit = f.calls_fit; grants_fit = f.grants_fit; needs_on = and_r (served L t x) (every (served L t) m) f.needs_on }

-- ---- the loops: a list has a first row x and rest
module _ {L : Layout} {n : ℕ} {s : Tables} {img : List ℕ} where
  module _ {x : Row} {rest : List Row} where
    module _ {c g m : List Row} (w : OwnLeft L n s c g m img) (e : c ≡ x ∷ rest) where
      calls : OwnLeft L n s (x ∷ rest) g m img
      calls = subst (λ (c : List Row). OwnLeft L n s c g m img) e w

      pub call_next : {img' : List ℕ} → Wrote L img' (add_call_at L (decode L img) n x (server_of L (decode L img) x)).tables → OwnLeft L n s rest g m img'
      call_next v =
          let t = decode L img in
          record {
            laid = v.laid;
            fit = subst (OwnFits L n rest g m) (sym v.tables) (call_fits L n x rest g m t (server_of L t x) calls.fit.calls_fit calls.fit);
            left = ap (own_rows L n rest g m) v.tables ∙ calls.left;
          }

    module _ {g m : List Row} (w : OwnLeft L n s [] g m img) (e : g ≡ x ∷ rest) where
      grants : OwnLeft L n s [] (x ∷ rest) m img
      grants = subst (λ (g : List Row). OwnLeft L n s [] g m img) e w

      pub grant_next : {img' : List ℕ} → Wrote L img' (add_grant_at L (decode L img) n x (spot_of L (decode L img) n x)).tables → OwnLeft L n s [] rest m img'
      grant_next v =
          let t = decode L img in
          record {
            laid = v.laid;
            fit = subst (OwnFits L n [] rest m) (sym v.tables) (grant_fits L n x rest m t (spot_of L t n x) grants.fit.grants_fit grants.fit);
            left = ap (own_rows L n [] rest m) v.tables ∙ grants.left;
          }

    module _ {m : List Row} (w : OwnLeft L n s [] [] m img) (e : m ≡ x ∷ rest) where
      needs : OwnLeft L n s [] [] (x ∷ rest) img
      needs = subst (λ (m : List Row). OwnLeft L n s [] [] m img) e w

      pub need_next : {img' : List ℕ} → Wrote L img' (need_at (decode L img) n (server_of L (decode L img) x)) → OwnLeft L n s [] [] rest img'
      need_next v =
          let t = decode L img in
          record {
            laid = v.laid;
            fit = subst (OwnFits L n [] [] rest) (sym v.tables) (need_fits L n x rest t (server_of L t x) needs.fit);
            left = ap (own_rows L n [] [] rest) v.tables ∙ needs.left;
          }
