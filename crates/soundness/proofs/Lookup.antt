-- The tables of an image by its bytes: bits, tokens and rows of lists; and packages and services found by their bytes.
use Prim.Native.Nat.{ℕ, ◌+◌, ◌^◌, ◌≤◌, ◌<◌}
use native.Mathlib.Omega.{arith}
use native.Mathlib.Nat.{add-zero}
use mathlib.Core.Path.{◌≡◌, refl, sym, ap, ◌∙◌, subst}
use mathlib.Core.Logic.{◌⊎◌, inl, inr}
use mathlib.Core.Bool.{Bool, true, false, ◌&&◌, cond}
use mathlib.Core.List.{List, [], ◌∷◌}
use mathlib.Core.Option.{Option as Option', none, some}
use Rattle.std.specs.Prelude.{Option, Some, None}
use Rattle.std.specs.List.{find}
use lib.Dec.{T, eqb→eq, ltb, lt→ltb}
use lib.ListN.{length, get_or, drop}
use lib.Seq.{take-take, get_or-drop}
use Rattle.policy.specs.Lists.{first, upto, or_else, eq_bytes}
use Rattle.policy.specs.Contract.{Aid, valid_aid, Tok, eq_tok}
use Rattle.policy.specs.Layout.{Layout, size, aid_size}
use Rattle.policy.specs.Record.{valid_tok}
use Rattle.policy.specs.Tables.{Tables, bit, read_aid, read_tok, read_unmet, number_with, decode}
use Rattle.policy.proofs.Sets.{T_true, and_l, and_r, and_i, test, upto_in, in_upto, Found, found}
use Rattle.policy.proofs.Equal.{eq_tok→, eq_tok_of}
use Rattle.policy.proofs.Formed.{Names}
use Rattle.policy.proofs.Pieces.{row_ends}
use Rattle.geometry.specs.Geometry.{aid_at, prov_at, entry_at}
use Rattle.geometry.specs.declared.Table.TheVariants.{Calls, Grants, Needs}
use Rattle.geometry.specs.declared.Kept.TheVariants.{WaitingGrants}
use Rattle.soundness.specs.Check.{byte_at, part_at, row_at, used_row, prov_row, same_at, row_size, is_found, is_aid, number_at, method_ok}
use Rattle.rows.proofs.Parts.{part_byte, part_length, part_rest}
use Rattle.soundness.proofs.Parts.{same_part, part_same, Filled, filled_inj}
use Rattle.soundness.proofs.Decoded.{used_read, aid_read, prov_read, calls_read, grants_read, needs_read}
use Rattle.rows.proofs.Words.{Bytes, part_bytes}
use Rattle.soundness.proofs.Encoded.{row_lt, read_grant}
use Rattle.soundness.proofs.Whole.{Full}

-- ---- tests by cases
pub cond_then : (b x y : Bool) → T b → T (cond b x y) → T x
cond_then true x y t h = h
cond_then false x y t h = absurd t

pub cond_else : (b x y : Bool) → (T b → ⊥) → T (cond b x y) → T y
cond_else true x y f h = absurd (f tt)
cond_else false x y f h = h

pub cond_by : (b x y : Bool) → (T b → T x) → ((T b → ⊥) → T y) → T (cond b x y)
cond_by true x y f g = f tt
cond_by false x y f g = g (λ u. u)

in_range : (k n : ℕ) (b : Bool) → k < n → ltb k n && b ≡ b
in_range k n b h = rw (T_true (ltb k n) (lt→ltb k n h))

-- ---- rows of lists
module _ (l : List ℕ) (at : ℕ) where
  -- the bytes of a row after its AID
  pub past : (n k : ℕ) → 17 + k < n → get_or (drop 17 (part_at l at n)) k 0 ≡ byte_at l (at + (17 + k))
  past n k h = get_or-drop 17 (part_at l at n) k 0 ∙ part_byte l at n (17 + k) h

  pub tok_bytes_lem : read_tok (part_at l at 2) ≡ record { itf = byte_at l at; mth = byte_at l (at + 1) }
  tok_bytes_lem = λ i. record { itf = (part_byte l at 2 0 (omega arith) ∙ ap (byte_at l) (add-zero at)) i; mth = part_byte l at 2 1 (omega arith) i }

  -- the test of their method token's byte is that of the tokens read
  pub method_is : (L : Layout) → method_ok L l at ≡ valid_tok L (read_tok (part_at l at 2))
  method_is L = ap (valid_tok L) (sym tok_bytes_lem)

module _ (l : List ℕ) (at : ℕ) where
  pub unmet_at_lem : read_unmet (part_at l at 20) ≡ record { callee = read_aid (part_at l at 17); tok = read_tok (part_at l (at + 17) 2); caller = byte_at l (at + 19) }
  unmet_at_lem = λ i. record {
    callee = ap read_aid (take-take 17 20 (drop at l) (omega arith)) i;
    tok = (tok ∙ sym (tok_bytes_lem l (at + 17))) i;
    caller = past l at 20 2 (omega arith) i;
  }
    where
      e : at + (17 + 1) ≡ at + 17 + 1
      e = omega arith

      tok : read_tok (drop 17 (part_at l at 20)) ≡ record { itf = byte_at l (at + 17); mth = byte_at l (at + 17 + 1) }
      tok = λ i. record { itf = past l at 20 0 (omega arith) i; mth = (past l at 20 1 (omega arith) ∙ ap (byte_at l) e) i }

  pub grant_at_lem : (toks : ℕ → ℕ → Tok) (early : Bool) → read_grant toks early (part_at l at (row_size early WaitingGrants))
      ≡ record { caller = read_aid (part_at l at 17); callee = byte_at l (at + 17); tok = cond early (read_tok (part_at l (at + 18) 2)) (toks (byte_at l (at + 17)) (byte_at l (at + 18))) }
  grant_at_lem toks true =
      let e : at + 17 + 1 ≡ at + 18 = omega arith in
      λ i. record {
        caller = ap read_aid (take-take 17 20 (drop at l) (omega arith)) i;
        callee = past l at 20 0 (omega arith) i;
        tok = ap read_tok (ap (drop 1) (part_rest l at 20 17 (omega arith)) ∙ part_rest l (at + 17) 3 1 (omega arith) ∙ ap (λ (a : ℕ). part_at l a 2) e) i;
      }
  grant_at_lem toks false = λ i. record {
    caller = ap read_aid (take-take 17 19 (drop at l) (omega arith)) i;
    callee = past l at 19 0 (omega arith) i;
    tok = toks (past l at 19 0 (omega arith) i) (past l at 19 1 (omega arith) i);
  }

-- ---- the library's option and search, by those of policy
abbrev pub rust_of : {A : Type 0} → Option' A → Option A
rust_of none = None
rust_of (some x) = Some x

pub find_first : {A : Type 0} (f : A → Bool) (l : List A) → find f l ≡ rust_of (first f l)
find_first f [] = refl
find_first f (x ∷ l) = go (f x) (find_first f l)
  where
    go : (b : Bool) → find f l ≡ rust_of (first f l) → cond b (Some x) (find f l) ≡ rust_of (cond b (some x) (first f l))
    go true e = refl
    go false e = e

pub found_is : (o : Option ℕ) (n : ℕ) → T (is_found o n) → o ≡ Some n
found_is None n t = absurd t
found_is (Some m) n t = ap Some (eqb→eq m n t)

-- ---- the lowest package with an AID
module _ (L : Layout) (l : List ℕ) (at : ℕ) where
  abbrev packages : ℕ
  packages = L.packages

  abbrev pub NumberIs : Option ℕ → Type 0
  NumberIs None = (k : ℕ) → k < packages → T (is_aid L l at k) → ⊥
  NumberIs (Some m) = (m < packages) × T (is_aid L l at m)

  pub number_is : NumberIs (number_at L l at)
  unfolding number_at
  number_is = subst NumberIs (sym (find_first (is_aid L l at) (upto packages))) (go (first (is_aid L l at) (upto packages)) (found (is_aid L l at) (upto packages)))
    where
      go : (o : Option' ℕ) → Found (is_aid L l at) (upto packages) o → NumberIs (rust_of o)
      go none h = λ k p t. h k (in_upto packages k p) t
      go (some m) h = (upto_in packages h.0, h.1)

  -- it is the same for the same bytes
  pub number_same : (b : ℕ) → part_at l at aid_size ≡ part_at l b aid_size → number_at L l at ≡ number_at L l b
  unfolding number_at same_at
  number_same b e = ap (λ (p : List ℕ). find (λ m. eq_bytes p (part_at l (aid_at L m) aid_size)) (upto packages)) e

-- ---- bits and tokens
module _ (L : Layout) (lf : Full L) (l : List ℕ) (bytes : Bytes l) (len : length l ≡ size L) where
  abbrev n : ℕ
  n = L.packages

  abbrev m : ℕ
  m = L.services

  abbrev t : Tables
  t = decode L l

  pub used_is : (i : ℕ) → i < n → t.used i ≡ bit (used_row L l) i
  used_is i h = used_read L l i ∙ in_range i n (bit (used_row L l) i) h

  pub prov_is : (j k : ℕ) → j < n → k < m → t.provides j k ≡ bit (prov_row L l j) k
  prov_is j k h p = prov_read L l j k h ∙ in_range k m (bit (prov_row L l j) k) p

  pub calls_is : (i j k : ℕ) → i < n → j < n → k < m → t.calls i j k ≡ bit (row_at L l (entry_at L Calls i j)) k
  calls_is i j k h q p = calls_read L l i j k h q ∙ in_range k m (bit (row_at L l (entry_at L Calls i j)) k) p

  pub grants_is : (j i k : ℕ) → j < n → i < n → k < m → t.grants j i k ≡ bit (row_at L l (entry_at L Grants j i)) k
  grants_is j i k h q p = grants_read L l j i k h q ∙ in_range k m (bit (row_at L l (entry_at L Grants j i)) k) p

  pub needs_is : (i j k : ℕ) → i < n → j < n → k < m → t.needs i j k ≡ bit (row_at L l (entry_at L Needs i j)) k
  needs_is i j k h q p = needs_read L l i j k h q ∙ in_range k m (bit (row_at L l (entry_at L Needs i j)) k) p

  -- the rows of services have as many bits
  pub row_small : (at : ℕ) → at + L.width ≤ length l → row_at L l at < 2 ^ m
  row_small at h = row_lt L m lf.services_full (part_at l at L.width) (part_length l at L.width h) (part_bytes l bytes at L.width)

  pub prov_small : (j : ℕ) → j < n → prov_row L l j < 2 ^ m
  prov_small j h = let e = row_ends j n L.width h in row_small (prov_at L j) (omega arith)

  -- ---- places of AIDs, filled right
  module _ (names : Names L t.used t.aid t.tok t.provides) (filled : (i : ℕ) → i < n → Filled (part_at l (aid_at L i) aid_size)) where
    module _ (at : ℕ) (fill : Filled (part_at l at aid_size)) where
      -- the AID at at is package i's when its bytes are
      pub aid_same : (i : ℕ) → i < n → T (is_aid L l at i) → t.aid i ≡ read_aid (part_at l at aid_size)
      aid_same i h e = aid_read L l i h ∙ ap read_aid (sym (same_part l at (aid_at L i) aid_size e))

      pub same_aid : (i : ℕ) → i < n → t.aid i ≡ read_aid (part_at l at aid_size) → T (is_aid L l at i)
      same_aid i h e = part_same l at (aid_at L i) aid_size (filled_inj fill (filled i h) (sym e ∙ aid_read L l i h))

      module _ (valid : T (valid_aid (read_aid (part_at l at aid_size)))) where
        -- the package is used, since its AID is valid
        pub same_used : (i : ℕ) → i < n → T (is_aid L l at i) → T (t.used i)
        same_used i h e = go (test (t.used i))
          where
            go : T (t.used i) ⊎ (T (t.used i) → ⊥) → T (t.used i)
            go (inl u) = u
            go (inr f) =
                let none : read_aid (part_at l at aid_size) ≡ [] = sym (aid_same i h e) ∙ names.aid_blank i f in
                absurd (subst (λ (z : Aid). T (valid_aid z)) none valid)

        -- a used package with this AID is the one found; and none is found where none has it
        pub found_used : (i : ℕ) → T (t.used i) → t.aid i ≡ read_aid (part_at l at aid_size) → number_at L l at ≡ Some i
        found_used i u e = go (number_at L l at) (number_is L l at)
          where
            go : (o : Option ℕ) → NumberIs L l at o → o ≡ Some i
            go None h = absurd (h i (names.used_lt i u) (same_aid i (names.used_lt i u) e))
            go (Some k) h = ap Some (names.aid_inj k i (same_used k h.0 h.1) u (aid_same k h.0 h.1 ∙ sym e))

-- ---- the number that is written for a service of package j is the service's, since tokens of one package differ
module _ (L : Layout) (t : Tables) (names : Names L t.used t.aid t.tok t.provides) where
  pub number_with_lem : (j k : ℕ) (s : Tok) → T (t.provides j k) → t.tok j k ≡ s → number_with L (t.provides j) (t.tok j) s ≡ k
  number_with_lem j k s p e = go (first f (upto L.services)) (found f (upto L.services))
    where
      f : ℕ → Bool
      f q = t.provides j q && eq_tok (t.tok j q) s

      go : (o : Option' ℕ) → Found (λ q. t.provides j q && eq_tok (t.tok j q) s) (upto L.services) o → or_else o 0 (λ q. q) ≡ k
      go none h = absurd (h k (in_upto L.services k (names.prov_lt j k p)) (and_i (t.provides j k) (eq_tok (t.tok j k) s) p (eq_tok_of e)))
      go (some q) h = names.tok_inj j q k (and_l (t.provides j q) (eq_tok (t.tok j q) s) h.1) p (eq_tok→ (t.tok j q) s (and_r (t.provides j q) (eq_tok (t.tok j q) s) h.1) ∙ sym e)
