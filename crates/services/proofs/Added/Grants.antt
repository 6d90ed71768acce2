-- What the grants of kind 3 leave, one by one: a bit, or a row that waits, once. Assumes nothing.
use Prim.Native.Nat.{ℕ, suc, ◌+◌, ◌≤◌, ◌<◌}
use native.Mathlib.Omega.{arith}
use mathlib.Core.Path.{◌≡◌, refl, ap}
use mathlib.Core.Bool.{Bool, true, false, not, ◌||◌, cond}
use mathlib.Core.List.{List, [], ◌∷◌, ◌++◌}
use mathlib.Core.Option.{Option, none, some}
use lib.ListN.{length}
use Rattle.policy.specs.Lists.{keep, is_some}
use Rattle.policy.specs.Contract.{Aid, eq_aid, Tok}
use Rattle.policy.specs.ShortCheck.{count}
use Rattle.policy.specs.Layout.{Layout}
use Rattle.policy.specs.Tables.{Tables, Waiting, bit}
use Rattle.policy.specs.Lookup.{number_of}
use Rattle.policy.specs.Draft.{put3, with_grants}
use Rattle.policy.proofs.Sets.{keep_ext, length_snoc}
use Rattle.image.specs.Laid.{with_waiting}
use Rattle.services.specs.Adding.{waits_in, is_lone, granted_at, granted_to_each}
use Rattle.changes.proofs.MaskedRows.{some_more}
use Rattle.changes.proofs.ListLoops.{Turns}

-- ---- the grants, one by one; a grant changes no lookup, and one that is added is none of the mask's
module _ (L : Layout) (mask j k : ℕ) (s : Tok) where
  -- the mask names no rows past those of the list
  abbrev pub Held : Tables → Type 0
  Held t = (n : ℕ) → length t.waiting ≤ n → bit mask n ≡ false

  abbrev pub GrantsAsk : List Aid → Tables → Type 0
  GrantsAsk l t = (length t.waiting + count (is_lone L mask t) l ≤ L.capacity) × Held t

  pub room_here : (x : Aid) (l : List Aid) (t : Tables) → GrantsAsk (x ∷ l) t → is_lone L mask t x ≡ true → length t.waiting < L.capacity
  room_here x l t h e =
      let q : count (is_lone L mask t) (x ∷ l) ≡ suc (count (is_lone L mask t) l) = ap (λ (b : Bool). length (cond b (x ∷ keep (is_lone L mask t) l) (keep (is_lone L mask t) l))) e in
      omega (arith, h.0)

  -- the tables after the grant to x, by its number and whether it waits
  module _ (x : Aid) (l : List Aid) (t : Tables) where
    abbrev after : Option ℕ → Bool → Tables
    after none b = with_waiting (cond b t.waiting (t.waiting ++ (record { caller = x; callee = j; tok = s } ∷ []))) t
    after (some i) b = with_grants (put3 j i k true t.grants) t.waiting t

    abbrev rest : List Aid
    rest = keep (is_lone L mask t) l

    still_by : (o : Option ℕ) (b : Bool) → length t.waiting + length (cond (not (is_some o || b)) (x ∷ rest) rest) ≤ L.capacity → Held t → GrantsAsk l (after o b)
    unfolding number_of
    still_by (some i) b q h = (q, h)
    still_by none true q h = (q, h)
    still_by none false q h =
        let w : Waiting = record { caller = x; callee = j; tok = s } in
        let e : count (is_lone L mask (after none false)) l ≡ length rest =
        ap length (keep_ext (is_lone L mask (after none false)) (is_lone L mask t) l (λ a _. ap (λ (b : Bool). not (is_some (number_of L t a) || b)) (some_more (λ (v : Waiting). eq_aid v.caller a) mask t.waiting (w ∷ []) h))) in
        let z : length (t.waiting ++ (w ∷ [])) ≡ suc (length t.waiting) = length_snoc t.waiting w in
        (omega (arith, q), λ n p. h n (omega arith))

    pub grants_still : GrantsAsk (x ∷ l) t → GrantsAsk l (granted_at L mask j k s x t (number_of L t x))
    grants_still g = go (number_of L t x) g.0
      where
        go : (o : Option ℕ) → length t.waiting + length (cond (not (is_some o || waits_in mask t x)) (x ∷ rest) rest) ≤ L.capacity → GrantsAsk l (granted_at L mask j k s x t o)
        go none q = still_by none (waits_in mask t x) q g.1
        go (some i) q = still_by (some i) (waits_in mask t x) q g.1

  abbrev pub grants : Turns Aid
  grants = record {
    one = λ x t. granted_at L mask j k s x t (number_of L t x);
    all = granted_to_each L mask j k s;
    Asks = λ x t. is_lone L mask t x ≡ true → length t.waiting < L.capacity;
    AllAsk = GrantsAsk;
    none_is = λ t. refl;
    first_is = λ x l t. refl;
    here = room_here;
    still = grants_still;
  }
