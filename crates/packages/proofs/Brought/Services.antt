-- The services of a contract that comes, placed one after another beside those that stay: they stand where the definitions place them. Assumes
-- nothing.
use Prim.Native.Nat.{ℕ, ◌≤◌, ◌<◌}
use native.Mathlib.Omega.{arith}
use mathlib.Core.Path.{◌≡◌, refl, sym, ap, ◌∙◌, subst}
use mathlib.Core.Logic.{◌⊎◌, inl, inr}
use mathlib.Core.Bool.{Bool, true, false, not, ◌&&◌, cond}
use mathlib.Core.List.{List, [], ◌∷◌}
use mathlib.Core.List.Memᴰ.{cases_cons as in_cons}
use mathlib.Core.List.Memᴰ.{cast as in_cast}
use mathlib.Core.List.Memᴰ.{head as here}
use mathlib.Core.List.Memᴰ.{not-nil as in_nil}
use mathlib.Core.List.Memᴰ.{tail as there}
use mathlib.Core.List.{Memᴰ as In}
use mathlib.Core.Option.{Option, none, some}
use lib.Dec.{T, eqb, eqb_refl}
use Rattle.policy.specs.Lists.{exists, first, or_else, NoRepeat}
use Rattle.policy.specs.Contract.{Tok, eq_tok, Contract, has_tok}
use Rattle.policy.specs.Layout.{Layout}
use Rattle.policy.specs.Tables.{Tables, bit, row_of}
use Rattle.policy.specs.Lookup.{places, free_service}
use Rattle.policy.specs.Draft.{Services, put, place_service, place_services, kept_services, new_services}
use Rattle.policy.proofs.Sets.{T_eq, T_true, T_false, and_l, and_r, and_i, exists_in, in_exists}
use Rattle.policy.proofs.Equal.{eq_tok→}
use Rattle.policy.proofs.Put.{at_new, at_old, by_number}
use Rattle.policy.proofs.Formed.{Formed}
use Rattle.bits.proofs.Row.{bits_row}
use Rattle.changes.specs.Places.{opened}
use Rattle.packages.specs.Writes.{keeps, placed_one, placed_all, placed}
use Rattle.packages.proofs.Brought.Readied.{readied_with, readied}

module _ (L : Layout) (t : Tables) (n : ℕ) (k : Contract) (kept : ℕ) where
  -- at number n stand the services w
  at_own : {A : Type 0} (v o : A) → cond (eqb n n) v o ≡ v
  at_own v o = ap (λ (b : Bool). cond b v o) (T_true (eqb n n) (eqb_refl n))

  -- ---- one service more, at place y
  abbrev more : Services → ℕ → Tok → Services
  more w y s = record { tok = put y s w.tok; provides = put y true w.provides }

  inside : {A : Type 0} (p q : Bool) (s v o : A) → cond (p && q) s (cond p v o) ≡ cond p (cond q s v) o
  inside true q s v o = refl
  inside false q s v o = refl

  opened_one : (w : Services) (y : ℕ) (s : Tok) → opened n y s (readied_with L t n k w) ≡ readied_with L t n k (more w y s)
  opened_one w y s = λ i. record {
    used = (readied_with L t n k w).used;
    aid = (readied_with L t n k w).aid;
    tok = λ x z. inside (eqb x n) (eqb z y) s (w.tok z) (t.tok x z) i;
    provides = λ x z. inside (eqb x n) (eqb z y) true (w.provides z) (t.provides x z) i;
    calls = (readied_with L t n k w).calls;
    grants = (readied_with L t n k w).grants;
    needs = (readied_with L t n k w).needs;
    unmet = t.unmet;
    waiting = t.waiting;
  }

  free_same : (w : Services) → free_service L (readied_with L t n k w) n ≡ first (λ y. not (w.provides y)) (places L)
  unfolding free_service
  free_same w = λ i. first (λ y. not (at_own (w.provides y) (t.provides n y) i)) (places L)

  -- ---- the mask names those of w that were there before the services of a were placed
  record Beside (w : Services) (a : List Tok) : Type 0 where
    stays : (y : ℕ) → T (bit kept y) → T (w.provides y)
    known : (y : ℕ) → T (w.provides y) → T (bit kept y) ⊎ In (w.tok y) a

  -- a service that is not among a is found in the mask where it is found at all
  keeps_same : (w : Services) (a : List Tok) → Beside w a → (s : Tok) → (In s a → ⊥)
      → keeps L n kept s (readied_with L t n k w) ≡ exists (λ y. w.provides y && eq_tok (w.tok y) s) (places L)
  keeps_same w a b s new =
      (λ i. exists (λ y. bit kept y && eq_tok (at_own (w.tok y) (t.tok n y) i) s) (places L))
      ∙ T_eq (exists here_kept (places L)) (exists here_now (places L))
      (λ h. let q = exists_in here_kept (places L) h in
      in_exists here_now q.1 (and_i (w.provides q.0) (eq_tok (w.tok q.0) s) (b.stays q.0 (and_l (bit kept q.0) (eq_tok (w.tok q.0) s) q.2)) (and_r (bit kept q.0) (eq_tok (w.tok q.0) s) q.2)))
      (λ h. let q = exists_in here_now (places L) h in
      in_exists here_kept q.1 (back q.0 (and_r (w.provides q.0) (eq_tok (w.tok q.0) s) q.2) (b.known q.0 (and_l (w.provides q.0) (eq_tok (w.tok q.0) s) q.2))))
    where
      here_kept : ℕ → Bool
      here_kept y = bit kept y && eq_tok (w.tok y) s

      here_now : ℕ → Bool
      here_now y = w.provides y && eq_tok (w.tok y) s

      back : (y : ℕ) → T (eq_tok (w.tok y) s) → T (bit kept y) ⊎ In (w.tok y) a → T (bit kept y && eq_tok (w.tok y) s)
      back y e (inl h) = and_i (bit kept y) (eq_tok (w.tok y) s) h e
      back y e (inr m) = absurd (new (in_cast (sym (eq_tok→ (w.tok y) s e)) m))

  -- ---- one, and all
  abbrev after_one : Services → Tok → Bool → Option ℕ → Services
  after_one w s b o = cond b w (or_else o w (λ y. more w y s))

  placed_one_lem : (w : Services) (a : List Tok) → Beside w a → (s : Tok) → (In s a → ⊥) → placed_one L n kept s (readied_with L t n k w) ≡ readied_with L t n k (place_service L w s)
  placed_one_lem w a b s new =
      (λ i. cond (keeps_same w a b s new i) (readied_with L t n k w) (or_else (free_same w i) (readied_with L t n k w) (λ y. opened n y s (readied_with L t n k w))))
      ∙ go (exists (λ y. w.provides y && eq_tok (w.tok y) s) (places L)) (first (λ y. not (w.provides y)) (places L))
    where
      go : (c : Bool) (o : Option ℕ) → cond c (readied_with L t n k w) (or_else o (readied_with L t n k w) (λ y. opened n y s (readied_with L t n k w))) ≡ readied_with L t n k (after_one w s c o)
      go true o = refl
      go false none = refl
      go false (some y) = opened_one w y s

  beside_next : (w : Services) (a : List Tok) → Beside w a → (s : Tok) → Beside (place_service L w s) (s ∷ a)
  beside_next w a b s = go (exists (λ y. w.provides y && eq_tok (w.tok y) s) (places L)) (first (λ y. not (w.provides y)) (places L))
    where
      old : Beside w (s ∷ a)
      old = record { stays = b.stays; known = λ y u. wider (b.known y u) }
        where
          wider : {y : ℕ} → T (bit kept y) ⊎ In (w.tok y) a → T (bit kept y) ⊎ In (w.tok y) (s ∷ a)
          wider (inl h) = inl h
          wider (inr m) = inr (there m)

      go : (c : Bool) (o : Option ℕ) → Beside (after_one w s c o) (s ∷ a)
      go true o = old
      go false none = old
      go false (some z) = record {
        stays = λ y h. by_number z (λ (x : ℕ). T (put z true w.provides x)) y (subst T (sym (at_new z true (w.provides z))) tt) (λ ne. subst T (sym (at_old z true (w.provides y) y ne)) (b.stays y h));
        known = λ y. by_number z (λ (x : ℕ). T (put z true w.provides x) → T (bit kept x) ⊎ In (put z s w.tok x) (s ∷ a)) y
            (λ _. inr (here (at_new z s (w.tok z))))
            (λ ne u. moved y ne (old.known y (subst T (at_old z true (w.provides y) y ne) u)));
      }
        where
          moved : (y : ℕ) → (y ≡ z → ⊥) → T (bit kept y) ⊎ In (w.tok y) (s ∷ a) → T (bit kept y) ⊎ In (put z s w.tok y) (s ∷ a)
          moved y ne (inl h) = inl h
          moved y ne (inr m) = inr (in_cast (at_old z s (w.tok y) y ne) m)

  placed_all_lem : (l a : List Tok) → NoRepeat l → ((s : Tok) → In s l → In s a → ⊥) → (w : Services) → Beside w a
      → placed_all L n kept l (readied_with L t n k w) ≡ readied_with L t n k (place_services L w l)
  placed_all_lem [] a once new w b = refl
  placed_all_lem (s ∷ l) a once new w b =
      ap (placed_all L n kept l) (placed_one_lem w a b s (new s (here refl)))
      ∙ placed_all_lem l (s ∷ a) once.1 (λ x m i. apart x m (in_cons i)) (place_service L w s) (beside_next w a b s)
    where
      apart : (x : Tok) → In x l → (x ≡ s) ⊎ In x a → ⊥
      apart x m (inl e) = once.0 (in_cast (sym e) m)
      apart x m (inr i) = new x (there m) i

-- 'Services in both contracts keep theirs; dropped ones free theirs, then the others take the lowest unused in record order'
pub services_placed : (L : Layout) (t : Tables) (n : ℕ) (k : Contract) → Formed L t → NoRepeat k.provides
    → placed L n k.provides (readied L t n k) ≡ readied_with L t n k (new_services L t n k)
unfolding new_services
services_placed L t n k f once =
    placed_all_lem L t n k (row_of L.services ((readied L t n k).provides n)) k.provides [] once (λ s m i. in_nil i) (kept_services L t n k) (record {
      stays = λ y h. subst T (row_is y) h;
      known = λ y u. inl (subst T (sym (row_is y)) u);
    })
  where
    own : (y : ℕ) → (readied L t n k).provides n y ≡ (kept_services L t n k).provides y
    own y = ap (λ (b : Bool). cond b ((kept_services L t n k).provides y) (t.provides n y)) (T_true (eqb n n) (eqb_refl n))

    row_is : (y : ℕ) → bit (row_of L.services ((readied L t n k).provides n)) y ≡ (kept_services L t n k).provides y
    row_is y = bits_row L.services ((readied L t n k).provides n)
        (λ z p. own z ∙ T_false ((kept_services L t n k).provides z) (λ h. past z p (f.names.prov_lt n z (and_l (t.provides n z) (has_tok (t.tok n z) k.provides) h)))) y ∙ own y
      where
        past : (z : ℕ) → L.services ≤ z → z < L.services → ⊥
        past z p q = omega (arith, p, q)
