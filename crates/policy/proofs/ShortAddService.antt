-- Kind 3: the short check says what the full look at the draft says.
use Prim.Native.Nat.{ℕ, ◌≤◌}
use native.Mathlib.Omega.{arith}
use mathlib.Core.Path.{◌≡◌, refl, sym}
use mathlib.Core.Logic.{inl, inr}
use mathlib.Core.Bool.{Bool, not, ◌&&◌, ◌||◌}
use mathlib.Core.List.{List}
use mathlib.Core.List.Memᴰ.{cast as in_cast}
use mathlib.Core.Option.{some}
use lib.Dec.{T}
use lib.ListN.{length}
use Rattle.policy.specs.Lists.{implies, every, exists, keep}
use Rattle.policy.specs.Contract.{Aid, eq_aid, Tok, eq_tok}
use Rattle.policy.specs.Layout.{Layout}
use Rattle.policy.specs.Record.{add_service}
use Rattle.policy.specs.Tables.{Tables, Unmet}
use Rattle.policy.specs.Draft.{has_unmet, has_waiting, asks_for, installed_aid, now_granted, add_service_at, look}
use Rattle.policy.specs.ShortCheck.{short_add_service}
use Rattle.policy.proofs.Sets.{T_eq, and_l, and_r, and_i, implies_i, implies_e, every_in, in_every, length_keep}
use Rattle.policy.proofs.Equal.{eq_aid→, eq_aid_refl, eq_tok→, eq_tok_refl, has_unmet_lem, unmet_has}
use Rattle.policy.proofs.Put.{OldOrNew, old_or_new}
use Rattle.policy.proofs.EveryBit.{BitIn, among, among_to, among_back}
use Rattle.policy.proofs.Formed.{grant_bit, Formed, Lawful, Fitting, KindShort}
use Rattle.policy.proofs.Found.{FreeIs}
use Rattle.policy.proofs.Reach.{reach_3}
use Rattle.policy.proofs.Short.{length_kept, look_is, fits, fits_as}

-- ---- kind 3
module _ (L : Layout) (t : Tables) (formed : Formed L t) (lawful : Lawful t) (fitting : Fitting L t) (s : Tok) (l : List Aid) where
  module _ (j k : ℕ) (uj : T (t.used j)) (free : FreeIs L.services (t.provides j) (some k)) where
    abbrev after : Tables
    after = (add_service_at L t j k s l).tables

    look_3 : look L (add_service_at L t j k s l) ≡ short_add_service L t j s l
    look_3 = look_is L (add_service_at L t j k s l) (T_eq full (every short t.unmet) to back) refl
        (fits L (length after.unmet) kept)
        (fits_as L (length_kept (keep (λ w. not (now_granted L t j s w)) t.waiting) (λ a. record { caller = a; callee = j; tok = s })
        (keep (λ a. not (installed_aid L t a || has_waiting (record { caller = a; callee = j; tok = s }) t.waiting)) l)))
      where
        full : Bool
        full = among L after.calls (grant_bit after)

        allowed : ℕ → Bool
        allowed x = exists (eq_aid (t.aid x)) l || has_waiting (record { caller = t.aid x; callee = j; tok = s }) t.waiting

        short : Unmet → Bool
        short u = implies (asks_for L t (t.aid j) s u) (allowed u.caller)

        kept : length after.unmet ≤ L.capacity
        kept = omega (arith, length_keep (λ u. not (asks_for L t (t.aid j) s u)) t.unmet, fitting.unmet_fits)

        asked : ℕ → Bool
        asked x = has_unmet (record { callee = t.aid j; tok = s; caller = x }) t.unmet

        given : ℕ → Bool
        given x = t.used x && allowed x

        to : T full → T (every short t.unmet)
        to h = in_every short t.unmet (λ u i. implies_i (asks_for L t (t.aid j) s u) (allowed u.caller) (λ q.
            let x = u.caller in
            let c = eq_aid u.callee (t.aid j) in
            let d = eq_tok u.tok s in
            let e = eq_aid→ u.callee (t.aid j) (and_l c d q) in
            let f = eq_tok→ u.tok s (and_r c d q) in
            let bit = (old_or_new j k t.calls asked x j k).1 (inr (refl, refl, unmet_has (in_cast (λ z. record { callee = sym e z; tok = sym f z; caller = x }) i))) in
            let within : BitIn L x j k = (formed.names.used_lt x (formed.unmet.off.off_used u i), formed.names.used_lt j uj, free.0) in
            allows x ((old_or_new j k (grant_bit t) given x j k).0 (among_to L after.calls (grant_bit after) h x j k within bit))))
          where
            allows : (x : ℕ) → OldOrNew j k (grant_bit t) given x j k → T (allowed x)
            allows x (inl o) = absurd (free.1 (formed.grants.of_prov x j k o))
            allows x (inr w) = and_r (t.used x) (allowed x) w.2

        back : T (every short t.unmet) → T full
        back h = among_back L after.calls (grant_bit after) (λ x y z c. (old_or_new j k (grant_bit t) given x y z).1 (go x y z ((old_or_new j k t.calls asked x y z).0 c)))
          where
            go : (x y z : ℕ) → OldOrNew j k t.calls asked x y z → OldOrNew j k (grant_bit t) given x y z
            go x y z (inl o) = inl (lawful x y z o)
            go x y z (inr n) =
                let u : Unmet = record { callee = t.aid j; tok = s; caller = x } in
                let i = has_unmet_lem u t.unmet n.2 in
                let asks = and_i (eq_aid (t.aid j) (t.aid j)) (eq_tok s s) (eq_aid_refl (t.aid j)) (eq_tok_refl s) in
                inr (
                  n.0,
                  n.1,
                  and_i (t.used x) (allowed x) (formed.unmet.off.off_used u i)
                      (implies_e (asks_for L t (t.aid j) s u) (allowed x) (every_in short t.unmet h i) asks),
                )

pub short_3 : (s : Tok) (l : List Aid) → KindShort (add_service s l)
short_3 s l L t a formed lawful fitting _ _ = reach_3 L t formed a (λ d k. look L d ≡ k) s l (λ j k u _ _ free. look_3 L t formed lawful fitting s l j k u free)
