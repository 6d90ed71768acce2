-- An image that passes the check is what its tables give, and they satisfy the facts.
use Prim.Native.Nat.{ℕ, ◌+◌, ◌*◌, ◌-◌, ◌≤◌, ◌<◌}
use native.Mathlib.Omega.{arith}
use native.Mathlib.Nat.{add-mul, add-sub_of_le}
use mathlib.Core.Path.{◌≡◌, refl, sym, ap, ◌∙◌, subst}
use mathlib.Core.Logic.{◌⊎◌, inl, inr}
use mathlib.Core.Bool.{Bool, true, false, not, ◌&&◌, cond}
use mathlib.Core.List.{List, [], map}
use mathlib.Core.List.{Memᴰ as In}
use lib.Dec.{T, eqb, leb, ltb, eqb→eq, ltb→lt, leb→le}
use lib.ListN.{length, get_or, take, drop, replicate}
use lib.Seq.{take-take}
use Rattle.policy.specs.Lists.{implies, every, upto, NoRepeat}
use Rattle.policy.specs.Contract.{Aid, valid_aid}
use Rattle.policy.specs.Layout.{Layout, size, aid_size, waiting_size}
use Rattle.policy.specs.Records.{ValidTok}
use Rattle.policy.specs.Tables.{Tables, Unmet, Waiting, no_tok, bit, read_aid, write_aid, read_tok, write_tok, read_unmet, write_unmet, read_waiting, write_waiting, read_list, write_list, decode}
use Rattle.policy.proofs.Sets.{and_l, and_r, and_i, implies_e, not_e, test, false_T, map_in, upto_in, once_map, once_upto, below_in}
use Rattle.policy.proofs.Equal.{eqb_of}
use Rattle.policy.proofs.Pieces.{in_or_off, row_ends}
use Rattle.policy.proofs.Formed.{Names, Bits, UnmetRows, WaitingRows, grant_bit, Formed, Lawful, Fitting, Ruled}
use Rattle.policy.proofs.SoundFacts.{InRange, decode_in}
use Rattle.policy.proofs.Bits.{bit_none}
use Rattle.geometry.specs.Geometry.{aid_at, tok_at, entry_at, list_at, number_in, tokens_in}
use Rattle.geometry.proofs.Bounds.{tokens_in_row}
use Rattle.geometry.specs.declared.Table.TheVariants.{Calls, Grants, Needs}
use Rattle.geometry.specs.declared.Kept.{Kept}
use Rattle.geometry.specs.declared.Kept.TheVariants.{UnmetCalls, WaitingGrants}
use Rattle.std.specs.Prelude.{Option, Some}
use Rattle.std.specs.Option.{is_none}
use Rattle.soundness.specs.Check.{byte_at, part_at, zeros_at, same_at, aid_ok, within, row_at, used_row, prov_row, number_at, is_tok, new_tok, tok_ok, toks_ok, method_ok, methods_ok, new_aid, blank_ok, package_ok, packages_ok}
use Rattle.soundness.specs.Check.{rows_fit, line_ok, lines_ok, is_used, server, unserved, token_row_ok, is_provided, number_row_ok, row_size, place_at, count_of, row_ok, new_row, rows_differ, place_ok, list_ok}
use Rattle.rows.proofs.Parts.{part_length}
use Rattle.soundness.proofs.Parts.{part_same, zero_byte, zeros_part, Filled, filled_inj, ok_filled, zeros_blank}
use Rattle.soundness.proofs.Decoded.{used_read, aid_read, aid_off, tok_read, tok_off, list_read}
use Rattle.rows.proofs.Words.{Bytes}
use Rattle.soundness.proofs.Encoded.{tok_back, unmet_back, grant_back, Numbered, list_back, length_rows}
use Rattle.soundness.proofs.Whole.{list_end_lem, Full, Parts}
use Rattle.soundness.proofs.Tests.{row_low}
use Rattle.soundness.proofs.Lookup.{found_is, cond_then, cond_else, tok_bytes_lem, method_is, past, unmet_at_lem, grant_at_lem, number_same, used_is, prov_is, calls_is, grants_is, needs_is}
use Rattle.soundness.proofs.Lookup.{found_used, number_with_lem}

-- conjunctions as they stand in the tests
three : (a b c : Bool) → T (a && b && c) → T a × T b × T c
three a b c h = let p = and_l (a && b) c h in (and_l a b p, and_r a b p, and_r (a && b) c h)

four : (a b c d : Bool) → T (a && b && c && d) → T a × T b × T c × T d
four a b c d h = let p = three a b c (and_l (a && b && c) d h) in (p.0, p.1, p.2, and_r (a && b && c) d h)

-- what a row v of waiting grants gives, by the rules of its version
record GrantFacts (L : Layout) (t : Tables) (early : Bool) (v : Waiting) : Type 0 where
  valid : T (valid_aid v.caller)
  used : T (t.used v.callee)
  other : v.caller ≡ t.aid v.callee → ⊥
  off : (i k : ℕ) → T (t.used i) → t.aid i ≡ v.caller → T (t.provides v.callee k) → t.tok v.callee k ≡ v.tok → ⊥
  method : ValidTok L v.tok
  own : (T early → ⊥) → (k : ℕ) × T (t.provides v.callee k) × (t.tok v.callee k ≡ v.tok)

-- numbers of which neither is lower
level : (i j : ℕ) → (i < j → ⊥) → (j < i → ⊥) → i ≡ j
level i j f g = omega arith

module _ (L : Layout) (lf : Full L) (l : List ℕ) (bytes : Bytes l) (len : length l ≡ size L) where
  abbrev n : ℕ
  n = L.packages

  abbrev m : ℕ
  m = L.services

  abbrev t : Tables
  t = decode L l

  abbrev place : ℕ → List ℕ
  place i = part_at l (aid_at L i) aid_size

  aid_in_lem : (i : ℕ) → i < n → aid_at L i + 17 ≤ length l
  aid_in_lem i h = let e = row_ends i n aid_size h in omega arith

  tok_in : (j k : ℕ) → j < n → k < m → tok_at L j k + 2 ≤ length l
  tok_in j k h p = let a = row_ends j n (m * 2) h in let b = row_ends k m 2 p in omega arith

  -- tokens that are read alike stand alike
  tok_inj : (a b : ℕ) → a + 2 ≤ length l → b + 2 ≤ length l → read_tok (part_at l a 2) ≡ read_tok (part_at l b 2) → part_at l a 2 ≡ part_at l b 2
  tok_inj a b h p e = sym (tok_back (part_at l a 2) (part_length l a 2 h)) ∙ ap write_tok e ∙ tok_back (part_at l b 2) (part_length l b 2 p)

  r : InRange L t
  r = decode_in L l

  -- ---- packages
  module _ (ok : T (packages_ok L l)) where
    package_used : (i : ℕ) → T (t.used i) → T (aid_ok l (aid_at L i)) × T (new_aid L l i) × T (methods_ok L l i) × T (toks_ok L l i)
    unfolding packages_ok package_ok
    package_used i u =
        let h = r.used_in i u in
        four (aid_ok l (aid_at L i)) (new_aid L l i) (methods_ok L l i) (toks_ok L l i)
        (cond_then (bit (used_row L l) i) (aid_ok l (aid_at L i) && new_aid L l i && methods_ok L l i && toks_ok L l i) (blank_ok L l i) (subst T (used_is L lf l bytes len i h) u) (below_in (package_ok L l) n ok i h))

    package_blank : (i : ℕ) → i < n → (T (t.used i) → ⊥) → T (zeros_at l (aid_at L i) aid_size) × T (eqb (prov_row L l i) 0) × T (zeros_at l (tok_at L i 0) (m * 2))
    unfolding packages_ok package_ok blank_ok
    package_blank i h f =
        three (zeros_at l (aid_at L i) aid_size) (eqb (prov_row L l i) 0) (zeros_at l (tok_at L i 0) (m * 2))
        (cond_else (bit (used_row L l) i) (aid_ok l (aid_at L i) && new_aid L l i && methods_ok L l i && toks_ok L l i) (blank_ok L l i) (λ u. f (subst T (sym (used_is L lf l bytes len i h)) u)) (below_in (package_ok L l) n ok i h))

    filled_used : (i : ℕ) → T (t.used i) → Filled (place i) × T (valid_aid (read_aid (place i)))
    filled_used i u = ok_filled l (aid_at L i) (aid_in_lem i (r.used_in i u)) (package_used i u).0

    blank_is : (i : ℕ) → i < n → (T (t.used i) → ⊥) → place i ≡ write_aid []
    blank_is i h f = zeros_blank l (aid_at L i) (aid_in_lem i h) (package_blank i h f).0

    filled : (i : ℕ) → i < n → Filled (place i)
    filled i h = go (test (t.used i))
      where
        go : T (t.used i) ⊎ (T (t.used i) → ⊥) → Filled (place i)
        go (inl u) = (filled_used i u).0
        go (inr f) = ap (λ (z : List ℕ). write_aid (read_aid z)) (blank_is i h f) ∙ sym (blank_is i h f)

    prov_used_lem : (j k : ℕ) → T (t.provides j k) → T (t.used j)
    prov_used_lem j k s = go (test (t.used j))
      where
        go : T (t.used j) ⊎ (T (t.used j) → ⊥) → T (t.used j)
        go (inl u) = u
        go (inr f) =
            let c = r.prov_in j k s in
            let e : prov_row L l j ≡ 0 = eqb→eq (prov_row L l j) 0 (package_blank j c.0 f).1 in
            absurd (false_T (bit_none k) (subst (λ (z : ℕ). T (bit z k)) e (subst T (prov_is L lf l bytes len j k c.0 c.1) s)))

    aid_valid : (i : ℕ) → T (t.used i) → T (valid_aid (t.aid i))
    aid_valid i u = subst (λ (z : Aid). T (valid_aid z)) (sym (aid_read L l i (r.used_in i u))) (filled_used i u).1

    aid_blank_lem : (i : ℕ) → (T (t.used i) → ⊥) → t.aid i ≡ []
    aid_blank_lem i f = go (in_or_off i n)
      where
        go : (i < n) ⊎ (n ≤ i) → t.aid i ≡ []
        go (inl h) = aid_read L l i h ∙ ap read_aid (blank_is i h f)
        go (inr h) = aid_off L l i h

    aid_first : (i : ℕ) → T (t.used i) → number_at L l (aid_at L i) ≡ Some i
    aid_first i u = found_is (number_at L l (aid_at L i)) i (package_used i u).1

    aid_inj : (i j : ℕ) → T (t.used i) → T (t.used j) → t.aid i ≡ t.aid j → i ≡ j
    aid_inj i j u v e =
        let p = r.used_in i u in
        let q = r.used_in j v in
        let s : Some i ≡ Some j = (sym (aid_first i u) ∙ number_same L l (aid_at L i) (aid_at L j) (filled_inj (filled i p) (filled j q) (sym (aid_read L l i p) ∙ e ∙ aid_read L l j q)) ∙ aid_first j v) in cc

    tok_ok_lem : (j k : ℕ) → T (t.used j) → k < m → T (tok_ok L l j k)
    unfolding toks_ok
    tok_ok_lem j k u p = below_in (tok_ok L l j) m (package_used j u).3 k p

    zero_tok : (j k : ℕ) → j < n → k < m → byte_at l (tok_at L j k) ≡ 0 → byte_at l (tok_at L j k + 1) ≡ 0 → t.tok j k ≡ no_tok
    zero_tok j k h p a b = tok_read L l j k h p ∙ tok_bytes_lem l (tok_at L j k) ∙ λ i. record { itf = a i; mth = b i }

    tok_blank_lem : (j k : ℕ) → (T (t.provides j k) → ⊥) → t.tok j k ≡ no_tok
    unfolding tok_ok new_tok
    tok_blank_lem j k f = go (in_or_off j n) (in_or_off k m)
      where
        at : j < n → k < m → T (t.used j) ⊎ (T (t.used j) → ⊥) → t.tok j k ≡ no_tok
        at h p (inl u) =
            let z = cond_else (bit (prov_row L l j) k) (new_tok L l k (tok_at L j k) j) (zeros_at l (tok_at L j k) 2) (λ s. f (subst T (sym (prov_is L lf l bytes len j k h p)) s)) (tok_ok_lem j k u p) in
            let e : tok_at L j k + 0 ≡ tok_at L j k = omega arith in
            zero_tok j k h p (ap (byte_at l) (sym e) ∙ zero_byte l (tok_at L j k) 2 (tok_in j k h p) z 0 (omega arith)) (zero_byte l (tok_at L j k) 2 (tok_in j k h p) z 1 (omega arith))
        at h p (inr g) =
            let z = (package_blank j h g).2 in
            let a = row_ends j n (m * 2) h in
            let b = row_ends k m 2 p in
            let e : tok_at L j k ≡ tok_at L j 0 + k * 2 = omega arith in
            let e1 : tok_at L j k + 1 ≡ tok_at L j 0 + (k * 2 + 1) = omega arith in
            zero_tok j k h p (ap (byte_at l) e ∙ zero_byte l (tok_at L j 0) (m * 2) (omega arith) z (k * 2) (omega arith))
            (ap (byte_at l) e1 ∙ zero_byte l (tok_at L j 0) (m * 2) (omega arith) z (k * 2 + 1) (omega arith))

        go : (j < n) ⊎ (n ≤ j) → (k < m) ⊎ (m ≤ k) → t.tok j k ≡ no_tok
        go (inl h) (inl p) = at h p (test (t.used j))
        go (inl h) (inr p) = tok_off L l j k (inr p)
        go (inr h) _ = tok_off L l j k (inl h)

    tok_method : (j k : ℕ) → T (t.provides j k) → ValidTok L (t.tok j k)
    unfolding methods_ok
    tok_method j k s =
        let c = r.prov_in j k s in
        let h = below_in (λ q. method_ok L l (tok_at L j q)) m (package_used j (prov_used_lem j k s)).2 k c.1 in
        subst (ValidTok L) (sym (tok_read L l j k c.0 c.1)) (subst T (method_is l (tok_at L j k) L) h)

    tok_new : (j k q : ℕ) → T (t.provides j k) → T (t.provides j q) → t.tok j k ≡ t.tok j q → q < k → ⊥
    unfolding tok_ok new_tok
    tok_new j k q s o e h =
        let c = r.prov_in j k s in
        let d = r.prov_in j q o in
        let new = cond_then (bit (prov_row L l j) k) (new_tok L l k (tok_at L j k) j) (zeros_at l (tok_at L j k) 2)
        (subst T (prov_is L lf l bytes len j k c.0 c.1) s) (tok_ok_lem j k (prov_used_lem j k s) c.1) in
        let same = part_same l (tok_at L j k) (tok_at L j q) 2 (tok_inj (tok_at L j k) (tok_at L j q) (tok_in j k c.0 c.1) (tok_in j q d.0 d.1)
        (sym (tok_read L l j k c.0 c.1) ∙ e ∙ tok_read L l j q d.0 d.1)) in
        not_e (is_tok L l (tok_at L j k) j q) (below_in (λ k'. not (is_tok L l (tok_at L j k) j k')) k new q h)
        (and_i (bit (prov_row L l j) q) (same_at l (tok_at L j k) (tok_at L j q) 2) (subst T (prov_is L lf l bytes len j q d.0 d.1) o) same)

    names : Names L t.used t.aid t.tok t.provides
    names = record {
      used_lt = r.used_in;
      prov_lt = λ j k s. (r.prov_in j k s).1;
      prov_used = prov_used_lem;
      aid_valid = aid_valid;
      aid_blank = aid_blank_lem;
      tok_blank = tok_blank_lem;
      aid_inj = aid_inj;
      tok_inj = λ j k q s o e. level k q (tok_new j q k o s (sym e)) (tok_new j k q s o e);
    }

    -- ---- bits
    module _ (lines : T (lines_ok L l)) where
      abbrev call : ℕ → ℕ → ℕ
      call i j = row_at L l (entry_at L Calls i j)

      abbrev grant : ℕ → ℕ → ℕ
      grant i j = row_at L l (entry_at L Grants j i)

      abbrev need : ℕ → ℕ → ℕ
      need i j = row_at L l (entry_at L Needs i j)

      abbrev may : ℕ → ℕ → ℕ
      may i j = cond (bit (used_row L l) i) (prov_row L l j) 0

      line_ok_lem : (i : ℕ) → i < n → T (every (λ j. rows_fit (need i j) (call i j) (grant i j) (may i j)) (upto n)) × T (eqb (grant i i) 0)
      unfolding lines_ok line_ok
      line_ok_lem i h = let o = below_in (line_ok L l) n lines i h in
          let rows = every (λ j. rows_fit (need i j) (call i j) (grant i j) (may i j)) (upto n) in (and_l rows (eqb (grant i i) 0) o, and_r rows (eqb (grant i i) 0) o)

      pair_ok : (i j : ℕ) → i < n → j < n → T (within (need i j) (call i j)) × T (within (call i j) (grant i j)) × T (within (grant i j) (may i j))
      pair_ok i j h q = three (within (need i j) (call i j)) (within (call i j) (grant i j)) (within (grant i j) (may i j))
          (below_in (λ j. rows_fit (need i j) (call i j) (grant i j) (may i j)) n (line_ok_lem i h).0 j q)

      -- bit k of a row is one of a row that it is within
      within_bit : (a b k : ℕ) → T (within a b) → k < m → T (bit a k) → T (bit b k)
      within_bit a b k h p = implies_e (bit a k) (bit b k) (below_in (λ k. implies (bit a k) (bit b k)) 16 h k (let e = lf.services_low in omega arith))

      abbrev Granted : ℕ → ℕ → ℕ → Type 0
      Granted i j k = T (t.used i) × T (t.provides j k) × (i ≡ j → ⊥)

      grant_facts : (i j k : ℕ) → i < n → j < n → k < m → T (bit (grant i j) k) → Granted i j k
      grant_facts i j k h q p s =
          let o = may_bit (bit (used_row L l) i) (prov_row L l j) (within_bit (grant i j) (may i j) k (pair_ok i j h q).2 p s) in (
            subst T (sym (used_is L lf l bytes len i h)) o.0,
            subst T (sym (prov_is L lf l bytes len j k q p)) o.1,
            λ e. off (ap (grant i) (sym e) ∙ eqb→eq (grant i i) 0 (line_ok_lem i h).1) s,
          )
        where
          off : {x : ℕ} → x ≡ 0 → T (bit x k) → ⊥
          off z b = false_T (bit_none k) (subst (λ (x : ℕ). T (bit x k)) z b)

          may_bit : (b : Bool) (x : ℕ) → T (bit (cond b x 0) k) → T b × T (bit x k)
          may_bit true x t = (tt, t)
          may_bit false x t = absurd (off refl t)

      grants_facts : (i j k : ℕ) → T (grant_bit t i j k) → Granted i j k
      grants_facts i j k s = let c = r.grants_in j i k s in grant_facts i j k c.1 c.0 c.2 (subst T (grants_is L lf l bytes len j i k c.0 c.1 c.2) s)

      lawful : Lawful t
      lawful i j k s =
          let c = r.calls_in i j k s in
          subst T (sym (grants_is L lf l bytes len j i k c.1 c.0 c.2))
          (within_bit (call i j) (grant i j) k (pair_ok i j c.0 c.1).1 c.2 (subst T (calls_is L lf l bytes len i j k c.0 c.1 c.2) s))

      need_call : (i j k : ℕ) → T (t.needs i j k) → T (t.calls i j k)
      need_call i j k s =
          let c = r.needs_in i j k s in
          subst T (sym (calls_is L lf l bytes len i j k c.0 c.1 c.2))
          (within_bit (need i j) (call i j) k (pair_ok i j c.0 c.1).0 c.2 (subst T (needs_is L lf l bytes len i j k c.0 c.1 c.2) s))

      bits_by : (b : ℕ → ℕ → ℕ → Bool) → ((i j k : ℕ) → T (b i j k) → T (grant_bit t i j k)) → Bits t.used t.provides b
      bits_by b f = record {
        by_used = λ i j k s. (grants_facts i j k (f i j k s)).0;
        of_prov = λ i j k s. (grants_facts i j k (f i j k s)).1;
        other = λ i j k s. (grants_facts i j k (f i j k s)).2;
      }

  -- ---- lists
  module _ (k : Kept) (ok : T (list_ok L l L.early k)) where
    abbrev count : ℕ
    count = count_of L l k

    abbrev w : ℕ
    w = row_size L.early k

    abbrev spot : ℕ → ℕ
    spot q = place_at L L.early k q

    abbrev row : ℕ → List ℕ
    row q = part_at l (spot q) (w)

    list_facts : (count ≤ L.capacity) × T (every (place_ok L l L.early k) (upto count)) × T (rows_differ l (list_at L k) w count) × T (zeros_at l (spot count) ((L.capacity - count) * w))
    unfolding list_ok
    list_facts =
        let p = four (leb count L.capacity) (every (place_ok L l L.early k) (upto count)) (rows_differ l (list_at L k) w count) (zeros_at l (spot count) ((L.capacity - count) * w)) ok in
        (leb→le count L.capacity p.0, p.1, p.2, p.3)

    row_ok_lem : (q : ℕ) → q < count → T (row_ok L l L.early k (spot q)) × T (new_row l (list_at L k) (w) q)
    row_ok_lem q p = (below_in (place_ok L l L.early k) count list_facts.1 q p, below_in (new_row l (list_at L k) w) count list_facts.2 q p)

    row_in : (q : ℕ) → q < count → spot q + w ≤ length l
    row_in q p = let a = list_end_lem L l len k in let b = list_facts.0 in let c = row_ends q L.capacity (w) (omega arith) in omega arith

    past_rows : part_at l (spot count) ((L.capacity - count) * w) ≡ replicate ((L.capacity - count) * w) 0
    past_rows =
        let h = list_end_lem L l len k in
        let q : L.capacity * w ≡ count * w + (L.capacity - count) * w =
        ap (λ (x : ℕ). x * w) (sym (add-sub_of_le list_facts.0)) ∙ add-mul count (L.capacity - count) (w) in
        zeros_part l (spot count) ((L.capacity - count) * w) (omega arith) list_facts.3

    -- rows are read by f and written by g, back to themselves where they pass
    module _ {A : Type 0} (f : List ℕ → A) (g : A → List ℕ)
        (back : (at : ℕ) → at + w ≤ length l → T (row_ok L l L.early k at) → g (f (part_at l at (w))) ≡ part_at l at (w)) where
      abbrev listed : List A
      listed = read_list f (w) (drop (list_at L k) l)

      rows_are : listed ≡ map (λ q. f (row q)) (upto count)
      rows_are = list_read l f (w) (list_at L k) (let h = list_end_lem L l len k in omega arith)

      rows_back : (q : ℕ) → q < count → g (f (row q)) ≡ row q
      rows_back q p = back (spot q) (row_in q p) (row_ok_lem q p).0

      rows_once : NoRepeat listed
      unfolding new_row
      rows_once = subst NoRepeat (sym rows_are)
          (once_map (λ q. f (row q)) (upto count) (λ x y a b e. level x y (new x y (upto_in count a) (upto_in count b) e) (new y x (upto_in count b) (upto_in count a) (sym e))) (once_upto count))
        where
          new : (x y : ℕ) → x < count → y < count → f (row x) ≡ f (row y) → x < y → ⊥
          new x y a b e h =
              not_e (same_at l (spot y) (spot x) (w)) (below_in (λ q. not (same_at l (spot y) (spot q) (w))) y (row_ok_lem y b).1 x h)
              (part_same l (spot y) (spot x) (w) (sym (rows_back y b) ∙ ap g (sym e) ∙ rows_back x a))

      rows_fit_lem : length listed ≤ L.capacity
      rows_fit_lem = subst (λ (z : ℕ). z ≤ L.capacity) (sym (length_rows L l f g (w) (list_at L k) (list_end_lem L l len k))) list_facts.0

      list_part : write_list L g (w) listed ≡ part_at l (list_at L k) (1 + L.capacity * w)
      list_part = list_back L l f g (w) (list_at L k) (list_end_lem L l len k) list_facts.0 rows_back past_rows

      each_row : (P : A → Type 0) → ((at : ℕ) → at + w ≤ length l → T (row_ok L l L.early k at) → P (f (part_at l at (w)))) → (x : A) → In x listed → P x
      each_row P h x i =
          let p = map_in (λ q. f (row q)) (upto count) (subst (In x) rows_are i) in
          let c = upto_in count p.1 in
          subst P (sym p.2) (h (spot p.0) (row_in p.0 c) (row_ok_lem p.0 c).0)

  module _ (packages : T (packages_ok L l)) where
    abbrev na : Names L t.used t.aid t.tok t.provides
    na = names packages

    -- a row with tokens
    module _ (k : Kept) (at : ℕ) (inside : at + 20 ≤ length l) (ok : T (token_row_ok L l k at)) where
      abbrev own : ℕ
      own = byte_at l (at + number_in k)

      abbrev toks : ℕ
      toks = at + tokens_in k

      abbrev number : Option ℕ
      number = number_at L l at

      row_four : T (is_used L l own) × T (aid_ok l at) × T (method_ok L l toks) × T (unserved L l k toks own number)
      unfolding token_row_ok
      row_four = four (is_used L l own) (aid_ok l at) (method_ok L l toks) (unserved L l k toks own number) ok

      row_filled : Filled (part_at l at 17) × T (valid_aid (read_aid (part_at l at 17)))
      row_filled = ok_filled l at (omega arith) row_four.1

      row_used : T (t.used own)
      row_used = subst T (sym (used_read L l own)) row_four.0

      row_method : ValidTok L (read_tok (part_at l toks 2))
      row_method = subst T (method_is l toks L) row_four.2

      -- a used package with the row's AID, and the one that would serve it
      module _ (j : ℕ) (u : T (t.used j)) (e : t.aid j ≡ read_aid (part_at l at 17)) where
        abbrev Free : ℕ → Bool
        Free c = not (eqb c own) && new_tok L l m toks (server k c own)

        free : T (Free j)
        free = go number (found_used L lf l bytes len na (filled packages) at row_filled.0 row_filled.1 j u e) row_four.3
          where
            go : (o : Option ℕ) → o ≡ Some j → T (unserved L l k toks own o) → T (Free j)
            go o q h = subst (λ (x : Option ℕ). T (unserved L l k toks own x)) q h

        row_other : j ≡ own → ⊥
        row_other q = not_e (eqb j own) (and_l (not (eqb j own)) (new_tok L l m toks (server k j own)) free) (eqb_of q)

        row_off : (q : ℕ) → T (t.provides (server k j own) q) → t.tok (server k j own) q ≡ read_tok (part_at l toks 2) → ⊥
        unfolding new_tok
        row_off q s f =
            let i = server k j own in
            let c = r.prov_in i q s in
            let same = part_same l toks (tok_at L i q) 2 (tok_inj toks (tok_at L i q) (let b = tokens_in_row k in omega arith) (tok_in i q c.0 c.1) (sym f ∙ tok_read L l i q c.0 c.1)) in
            not_e (is_tok L l toks i q) (below_in (λ x. not (is_tok L l toks i x)) m (and_r (not (eqb j own)) (new_tok L l m toks i) free) q c.1)
            (and_i (bit (prov_row L l i) q) (same_at l toks (tok_at L i q) 2) (subst T (prov_is L lf l bytes len i q c.0 c.1) s) same)

    -- a row with a service number
    module _ (at : ℕ) (inside : at + 19 ≤ length l) (ok : T (number_row_ok L l at)) where
      abbrev callee : ℕ
      callee = byte_at l (at + 17)

      abbrev service : ℕ
      service = byte_at l (at + 18)

      row_three : T (is_provided L l callee service) × T (aid_ok l at) × T (is_none (number_at L l at))
      unfolding number_row_ok
      row_three = three (is_provided L l callee service) (aid_ok l at) (is_none (number_at L l at)) ok

      number_filled : Filled (part_at l at 17) × T (valid_aid (read_aid (part_at l at 17)))
      number_filled = ok_filled l at (omega arith) row_three.1

      row_prov : T (t.provides callee service)
      row_prov =
          let p = three (ltb callee n) (ltb service m) (bit (prov_row L l callee) service) row_three.0 in
          subst T (sym (prov_is L lf l bytes len callee service (ltb→lt callee n p.0) (ltb→lt service m p.1))) p.2

      row_absent : (j : ℕ) → T (t.used j) → t.aid j ≡ read_aid (part_at l at 17) → ⊥
      row_absent j u e =
          let a = found_used L lf l bytes len na (filled packages) at number_filled.0 number_filled.1 j u e in
          subst (λ (o : Option ℕ). T (is_none o)) a row_three.2

    -- the AID's place of a row that passes is filled
    fill : (early : Bool) (k : Kept) (at : ℕ) → at + row_size early k ≤ length l → T (row_ok L l early k at) → Filled (part_at l at 17)
    unfolding row_ok
    fill early UnmetCalls at a b = (row_filled UnmetCalls at a b).0
    fill true WaitingGrants at a b = (row_filled WaitingGrants at a b).0
    fill false WaitingGrants at a b = (number_filled at a b).0

    -- and so the part that its AID is read from
    filled_front : (early : Bool) (k : Kept) (at : ℕ) → at + row_size early k ≤ length l → T (row_ok L l early k at) → Filled (take 17 (part_at l at (row_size early k)))
    filled_front early k at a b = subst Filled (sym (take-take 17 (row_size early k) (drop at l) (let w = row_low early k in omega arith))) (fill early k at a b)

    module _ (unmets : T (list_ok L l L.early UnmetCalls)) where
      unmet_again : (at : ℕ) → at + 20 ≤ length l → T (row_ok L l L.early UnmetCalls at) → write_unmet (read_unmet (part_at l at 20)) ≡ part_at l at 20
      unmet_again at a b = unmet_back (part_at l at 20) (part_length l at 20 a) (filled_front L.early UnmetCalls at a b)

      each_unmet : (P : Unmet → Type 0) → ((at : ℕ) → at + 20 ≤ length l → T (token_row_ok L l UnmetCalls at)
          → P (record { callee = read_aid (part_at l at 17); tok = read_tok (part_at l (at + 17) 2); caller = byte_at l (at + 19) })) → (u : Unmet) → In u t.unmet → P u
      unfolding decode row_ok
      each_unmet P f = each_row UnmetCalls unmets read_unmet write_unmet unmet_again P (λ at a b. subst P (sym (unmet_at_lem l at)) (f at a b))

      unmet_rows : UnmetRows t.used t.aid t.tok t.provides t.unmet
      unfolding decode
      unmet_rows = record {
        off = record {
          off_used = each_unmet (λ u. T (t.used u.caller)) (row_used UnmetCalls);
          off_card = each_unmet (λ u. (j k : ℕ) → T (t.provides j k) → t.aid j ≡ u.callee → t.tok j k ≡ u.tok → ⊥)
              (λ at a b j k s e f. row_off UnmetCalls at a b j (prov_used_lem packages j k s) e k s f);
        };
        unmet_valid = each_unmet (λ u. T (valid_aid u.callee)) (λ at a b. (row_filled UnmetCalls at a b).1);
        unmet_other = each_unmet (λ u. u.callee ≡ t.aid u.caller → ⊥) (λ at a b e. row_other UnmetCalls at a b (byte_at l (at + 19)) (row_used UnmetCalls at a b) (sym e) refl);
        unmet_once = rows_once UnmetCalls unmets read_unmet write_unmet unmet_again;
      }

    -- what a row of waiting grants that passes gives, by the rules of its version
    waiting_facts : (early : Bool) (at : ℕ) → at + row_size early WaitingGrants ≤ length l → T (row_ok L l early WaitingGrants at) → GrantFacts L t early
        (record { caller = read_aid (part_at l at 17); callee = byte_at l (at + 17); tok = cond early (read_tok (part_at l (at + 18) 2)) (t.tok (byte_at l (at + 17)) (byte_at l (at + 18))) })
    unfolding row_ok
    waiting_facts true at a b = record {
      valid = (row_filled WaitingGrants at a b).1;
      used = row_used WaitingGrants at a b;
      other = λ e. row_other WaitingGrants at a b (byte_at l (at + 17)) (row_used WaitingGrants at a b) (sym e) refl;
      off = λ i k u e s f. row_off WaitingGrants at a b i u e k s f;
      method = row_method WaitingGrants at a b;
      own = λ late. absurd (late tt);
    }
    waiting_facts false at a b =
        let s = row_prov at a b in
        let u = prov_used_lem packages (byte_at l (at + 17)) (byte_at l (at + 18)) s in
        record {
          valid = (number_filled at a b).1;
          used = u;
          other = λ e. row_absent at a b (byte_at l (at + 17)) u (sym e);
          off = λ i k v e _ _. row_absent at a b i v e;
          method = tok_method packages (byte_at l (at + 17)) (byte_at l (at + 18)) s;
          own = λ late. (byte_at l (at + 18), s, refl);
        }

    -- a service number is the one that is written for its service
    numbered : (early : Bool) (at : ℕ) → at + row_size early WaitingGrants ≤ length l → T (row_ok L l early WaitingGrants at) → (T early → ⊥)
        → Numbered L t.provides t.tok (get_or (drop 17 (part_at l at (row_size early WaitingGrants))) 0 0) (get_or (drop 17 (part_at l at (row_size early WaitingGrants))) 1 0)
    unfolding row_ok
    numbered true at a b late = absurd (late tt)
    numbered false at a b late =
        let j = byte_at l (at + 17) in
        let k = byte_at l (at + 18) in
        subst (λ (x : ℕ). Numbered L t.provides t.tok x (get_or (drop 17 (part_at l at 19)) 1 0)) (sym (past l at 19 0 (omega arith)))
        (subst (λ (x : ℕ). Numbered L t.provides t.tok j x) (sym (past l at 19 1 (omega arith))) (number_with_lem L t na j k (t.tok j k) (row_prov at a b) refl))

    module _ (waitings : T (list_ok L l L.early WaitingGrants)) where
      abbrev write : Waiting → List ℕ
      write = write_waiting L t.provides t.tok

      abbrev wide : ℕ
      wide = waiting_size L

      waiting_again : (at : ℕ) → at + wide ≤ length l → T (row_ok L l L.early WaitingGrants at) → write (read_waiting L t.tok (part_at l at wide)) ≡ part_at l at wide
      waiting_again at a b = grant_back L t.provides t.tok L.early (part_at l at wide) (part_length l at wide a) (filled_front L.early WaitingGrants at a b) (numbered L.early at a b)

      each_waiting : (P : Waiting → Type 0) → ((v : Waiting) → GrantFacts L t L.early v → P v) → (v : Waiting) → In v t.waiting → P v
      unfolding decode
      each_waiting P f = each_row WaitingGrants waitings (read_waiting L t.tok) write waiting_again P
          (λ at a b. subst P (sym (grant_at_lem l at t.tok L.early)) (f _ (waiting_facts L.early at a b)))

      waiting_rows : WaitingRows t.used t.aid t.tok t.provides t.waiting
      unfolding decode
      waiting_rows = record {
        wait_valid = each_waiting (λ v. T (valid_aid v.caller)) (λ v g. g.valid);
        wait_used = each_waiting (λ v. T (t.used v.callee)) (λ v g. g.used);
        wait_other = each_waiting (λ v. v.caller ≡ t.aid v.callee → ⊥) (λ v g. g.other);
        wait_off = each_waiting (λ v. (i k : ℕ) → T (t.used i) → t.aid i ≡ v.caller → T (t.provides v.callee k) → t.tok v.callee k ≡ v.tok → ⊥) (λ v g. g.off);
        wait_once = rows_once WaitingGrants waitings (read_waiting L t.tok) write waiting_again;
      }

  -- ---- the whole
  module _ (packages : T (packages_ok L l)) (lines : T (lines_ok L l)) (unmets : T (list_ok L l L.early UnmetCalls)) (waitings : T (list_ok L l L.early WaitingGrants)) where
    pub check_formed : Formed L t
    check_formed = record {
      names = names packages;
      calls = bits_by packages lines t.calls (lawful packages lines);
      grants = bits_by packages lines (grant_bit t) (λ i j k s. s);
      need_call = need_call packages lines;
      unmet = unmet_rows packages unmets;
      waiting = waiting_rows packages waitings;
    }

    pub check_ruled : Ruled L t
    check_ruled = record {
      provided = tok_method packages;
      unmet = each_unmet packages unmets (λ u. ValidTok L u.tok) (row_method packages UnmetCalls);
      waiting = each_waiting packages waitings (λ v. ValidTok L v.tok) (λ v g. g.method);
      own = λ late. each_waiting packages waitings (λ v. (k : ℕ) × T (t.provides v.callee k) × (t.tok v.callee k ≡ v.tok)) (λ v g. g.own late);
    }

    pub check_lawful : Lawful t
    check_lawful = lawful packages lines

    pub check_fitting : Fitting L t
    unfolding decode
    check_fitting = record {
      unmet_fits = rows_fit_lem UnmetCalls unmets read_unmet write_unmet (unmet_again packages unmets);
      waiting_fits = rows_fit_lem WaitingGrants waitings (read_waiting L t.tok) (write_waiting L t.provides t.tok) (waiting_again packages waitings);
    }

    pub check_parts : Parts L lf l bytes len
    unfolding decode
    check_parts = (
      λ i h. ap write_aid (aid_read L l i h) ∙ filled packages i h,
      list_part UnmetCalls unmets read_unmet write_unmet (unmet_again packages unmets),
      list_part WaitingGrants waitings (read_waiting L t.tok) (write_waiting L t.provides t.tok) (waiting_again packages waitings),
    )
