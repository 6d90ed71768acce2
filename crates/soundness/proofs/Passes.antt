-- An image that is what its tables give passes the check where they satisfy the facts.
use Prim.Native.Nat.{ℕ, zero, suc, ◌+◌, ◌*◌, ◌-◌, ◌/◌, ◌%◌, ◌^◌, ◌≤◌, ◌<◌}
use native.Mathlib.Omega.{arith}
use mathlib.Core.Path.{◌≡◌, refl, sym, ap, ◌∙◌, subst}
use mathlib.Core.Logic.{◌⊎◌, inl, inr}
use mathlib.Core.Bool.{Bool, true, false, not, ◌&&◌, cond}
use mathlib.Core.List.{List, [], ◌∷◌, ◌++◌, map}
use mathlib.Core.List.{Memᴰ as In}
use lib.Dec.{T, eqb, leb, ltb, eqb→eq, le→leb, lt→ltb}
use lib.ListN.{length, get_or, take, drop, replicate}
use lib.Seq.{take_at, drop_at, take-take}
use Rattle.policy.specs.Lists.{implies, every, upto, NoRepeat}
use Rattle.policy.specs.Contract.{Aid, Tok, valid_aid}
use Rattle.policy.specs.Layout.{Layout, size, aid_size, unmet_size}
use Rattle.policy.specs.Records.{ValidTok}
use Rattle.policy.specs.Tables.{Tables, Unmet, Waiting, no_tok, bit, read_aid, write_aid, read_tok, write_tok, read_unmet, number_with, read_waiting, read_list, write_list, decode}
use Rattle.policy.proofs.Sets.{T_false, and_l, and_r, and_i, implies_i, not_i, test, false_T, in_map, in_upto, in_below}
use Rattle.policy.proofs.Equal.{eqb_of}
use Rattle.policy.proofs.Pieces.{in_or_off, length_aid, valid_short, length_unmet, length_waiting, row_ends}
use Rattle.policy.proofs.Formed.{grant_bit, Formed, Lawful, Fitting, Ruled}
use Rattle.policy.proofs.Sets.{map_inj}
use Rattle.policy.proofs.Bits.{bit_none}
use Rattle.bits.proofs.Row.{bit_past, bit_ext}
use Rattle.geometry.specs.Geometry.{aid_at, tok_at, entry_at, list_at, number_in, tokens_in}
use Rattle.geometry.specs.declared.Table.TheVariants.{Calls, Grants, Needs}
use Rattle.geometry.specs.declared.Kept.{Kept}
use Rattle.geometry.specs.declared.Kept.TheVariants.{UnmetCalls, WaitingGrants}
use Rattle.std.specs.Prelude.{Option, Some, None}
use Rattle.std.specs.Option.{is_none}
use Rattle.soundness.specs.Check.{is_found, byte_at, part_at, zeros_at, same_at, aid_ok, within, row_at, used_row, prov_row, number_at, is_tok, new_tok, tok_ok, toks_ok, method_ok, methods_ok, new_aid, blank_ok, package_ok, packages_ok}
use Rattle.soundness.specs.Check.{rows_fit, line_ok, lines_ok, is_used, is_aid, server, unserved, token_row_ok, is_provided, number_row_ok, row_size, place_at, count_of, row_ok, new_row, rows_differ, place_ok, list_ok}
use Rattle.soundness.proofs.Parts.{same_part, byte_zeros, part_zeros, Filled, filled_ok, blank_zeros}
use Rattle.soundness.proofs.Decoded.{used_read, aid_read, tok_read, list_read}
use Rattle.rows.proofs.Words.{Bytes}
use Rattle.soundness.proofs.Encoded.{write_grant, list_parts, length_rows}
use Rattle.soundness.proofs.Whole.{Full, list_end_lem, Parts}
use Rattle.soundness.proofs.Lookup.{cond_by, tok_bytes_lem, method_is, past, unmet_at_lem, grant_at_lem, number_is, NumberIs, used_is, prov_is, calls_is, grants_is, needs_is, row_small, prov_small}
use Rattle.soundness.proofs.Tests.{row_low}
use Rattle.soundness.proofs.Lookup.{aid_same, same_used, found_used, number_with_lem}

three_i : (a b c : Bool) → T a → T b → T c → T (a && b && c)
three_i a b c x y z = and_i (a && b) c (and_i a b x y) z

four_i : (a b c d : Bool) → T a → T b → T c → T d → T (a && b && c && d)
four_i a b c d w x y z = and_i (a && b && c) d (three_i a b c w x y) z

module _ (L : Layout) (lf : Full L) (l : List ℕ) (bytes : Bytes l) (len : length l ≡ size L)
    (fo : Formed L (decode L l)) (ru : Ruled L (decode L l)) (la : Lawful (decode L l)) (fi : Fitting L (decode L l)) (parts : Parts L lf l bytes len) where
  abbrev n : ℕ
  n = L.packages

  abbrev m : ℕ
  m = L.services

  abbrev t : Tables
  t = decode L l

  abbrev place : ℕ → List ℕ
  place i = part_at l (aid_at L i) aid_size

  filled : (i : ℕ) → i < n → Filled (place i)
  filled i h = ap write_aid (sym (aid_read L l i h)) ∙ parts.0 i h

  -- ---- packages
  new_aid_lem : (i : ℕ) → i < n → T (t.used i) → T (new_aid L l i)
  new_aid_lem i h u =
      let v : T (valid_aid (read_aid (place i))) = subst (λ (z : Aid). T (valid_aid z)) (aid_read L l i h) (fo.names.aid_valid i u) in
      subst (λ (o : Option ℕ). T (is_found o i)) (sym (found_used L lf l bytes len fo.names filled (aid_at L i) (filled i h) v i u (aid_read L l i h))) (eqb_of refl)

  -- a service with the tokens at at, where its package provides it
  tok_same : (at j k : ℕ) → j < n → k < m → T (is_tok L l at j k) → T (t.provides j k) × (t.tok j k ≡ read_tok (part_at l at 2))
  tok_same at j k h p s = (
    subst T (sym (prov_is L lf l bytes len j k h p)) (and_l (bit (prov_row L l j) k) (same_at l at (tok_at L j k) 2) s),
    tok_read L l j k h p ∙ ap read_tok (sym (same_part l at (tok_at L j k) 2 (and_r (bit (prov_row L l j) k) (same_at l at (tok_at L j k) 2) s))),
  )

  tok_zero : (j k : ℕ) → j < n → k < m → t.tok j k ≡ no_tok → (byte_at l (tok_at L j k) ≡ 0) × (byte_at l (tok_at L j k + 1) ≡ 0)
  tok_zero j k h p e =
      let q = sym (tok_bytes_lem l (tok_at L j k)) ∙ sym (tok_read L l j k h p) ∙ e in
      (ap (λ (s : Tok). s.itf) q, ap (λ (s : Tok). s.mth) q)

  tok_ok_lem : (j k : ℕ) → j < n → k < m → T (tok_ok L l j k)
  unfolding tok_ok new_tok
  tok_ok_lem j k h p = cond_by (bit (prov_row L l j) k) (new_tok L l k (tok_at L j k) j) (zeros_at l (tok_at L j k) 2) (λ s. new (subst T (sym (prov_is L lf l bytes len j k h p)) s))
      (λ f. let z = tok_zero j k h p (fo.names.tok_blank j k (λ s. f (subst T (prov_is L lf l bytes len j k h p) s))) in byte_zeros l (tok_at L j k) 2 inside (both z.0 z.1))
    where
      inside : tok_at L j k + 2 ≤ length l
      inside = let a = row_ends j n (m * 2) h in let b = row_ends k m 2 p in omega arith

      both : byte_at l (tok_at L j k) ≡ 0 → byte_at l (tok_at L j k + 1) ≡ 0 → (q : ℕ) → q < 2 → byte_at l (tok_at L j k + q) ≡ 0
      both a b zero c = let e : tok_at L j k + 0 ≡ tok_at L j k = omega arith in ap (byte_at l) e ∙ a
      both a b (suc zero) c = b
      both a b (suc (suc q)) c = absurd (omega arith)

      new : T (t.provides j k) → T (every (λ q. not (is_tok L l (tok_at L j k) j q)) (upto k))
      new s = in_below (λ q. not (is_tok L l (tok_at L j k) j q)) k (λ q c. not_i (is_tok L l (tok_at L j k) j q) (λ o.
          let d = tok_same (tok_at L j k) j q h (omega arith) o in
          let e : q ≡ k = fo.names.tok_inj j q k d.0 s (d.1 ∙ sym (tok_read L l j k h p)) in
          absurd (omega arith)))

  -- tokens that are not provided are zero, and zero is a method token
  method_ok_lem : (j k : ℕ) → j < n → k < m → T (method_ok L l (tok_at L j k))
  method_ok_lem j k h p = subst T (sym (method_is l (tok_at L j k) L)) (subst (ValidTok L) (tok_read L l j k h p) (valid (test (t.provides j k))))
    where
      valid : T (t.provides j k) ⊎ (T (t.provides j k) → ⊥) → ValidTok L (t.tok j k)
      valid (inl s) = ru.provided j k s
      valid (inr f) = subst (ValidTok L) (sym (fo.names.tok_blank j k f)) (lt→ltb 0 L.methods lf.some_methods)

  -- a row of services without a bit is 0
  row_zero : (x : ℕ) → x < 2 ^ m → ((k : ℕ) → k < m → T (bit x k) → ⊥) → x ≡ 0
  row_zero x h f = bit_ext m x 0 h (omega arith) (λ k p. T_false (bit x k) (f k p) ∙ sym (bit_none k))

  toks_zero : (i : ℕ) → i < n → (T (t.used i) → ⊥) → T (zeros_at l (tok_at L i 0) (m * 2))
  toks_zero i h f = byte_zeros l (tok_at L i 0) (m * 2) (let a = row_ends i n (m * 2) h in omega arith) (λ x p. go x p (test (eqb (x % 2) 0)))
    where
      zero_at : (k : ℕ) → k < m → (byte_at l (tok_at L i k) ≡ 0) × (byte_at l (tok_at L i k + 1) ≡ 0)
      zero_at k p = tok_zero i k h p (fo.names.tok_blank i k (λ s. f (fo.names.prov_used i k s)))

      go : (x : ℕ) → x < m * 2 → T (eqb (x % 2) 0) ⊎ (T (eqb (x % 2) 0) → ⊥) → byte_at l (tok_at L i 0 + x) ≡ 0
      go x p (inl e) =
          let q = eqb→eq (x % 2) 0 e in
          let s : tok_at L i 0 + x ≡ tok_at L i (x / 2) = omega arith in
          ap (byte_at l) s ∙ (zero_at (x / 2) (omega arith)).0
      go x p (inr g) =
          let q : x % 2 ≡ 0 → ⊥ = λ e. g (eqb_of e) in
          let s : tok_at L i 0 + x ≡ tok_at L i (x / 2) + 1 = omega arith in
          ap (byte_at l) s ∙ (zero_at (x / 2) (omega arith)).1

  package_ok_lem : (i : ℕ) → i < n → T (package_ok L l i)
  unfolding package_ok methods_ok toks_ok blank_ok
  package_ok_lem i h = cond_by (bit (used_row L l) i) (aid_ok l (aid_at L i) && new_aid L l i && methods_ok L l i && toks_ok L l i) (blank_ok L l i)
      (λ b. let u = subst T (sym (used_is L lf l bytes len i h)) b in
      four_i (aid_ok l (aid_at L i)) (new_aid L l i) (methods_ok L l i) (toks_ok L l i)
      (filled_ok l (aid_at L i) inside (t.aid i) (fo.names.aid_valid i u) (sym (parts.0 i h))) (new_aid_lem i h u)
      (in_below (λ k. method_ok L l (tok_at L i k)) m (λ k p. method_ok_lem i k h p)) (in_below (tok_ok L l i) m (λ k p. tok_ok_lem i k h p)))
      (λ b. let f : T (t.used i) → ⊥ = λ u. b (subst T (used_is L lf l bytes len i h) u) in
      three_i (zeros_at l (aid_at L i) aid_size) (eqb (prov_row L l i) 0) (zeros_at l (tok_at L i 0) (m * 2))
      (blank_zeros l (aid_at L i) inside (sym (parts.0 i h) ∙ ap write_aid (fo.names.aid_blank i f)))
      (eqb_of (row_zero (prov_row L l i) (prov_small L lf l bytes len i h) (λ k p s. f (fo.names.prov_used i k (subst T (sym (prov_is L lf l bytes len i k h p)) s)))))
      (toks_zero i h f))
    where
      inside : aid_at L i + 17 ≤ length l
      inside = let e = row_ends i n aid_size h in omega arith

  -- ---- bits
  within_all : (a b : ℕ) → a < 2 ^ m → ((k : ℕ) → k < m → T (bit a k) → T (bit b k)) → T (within a b)
  within_all a b h f = in_below (λ k. implies (bit a k) (bit b k)) 16 (λ k q. implies_i (bit a k) (bit b k) (λ s. go k s (in_or_off k m)))
    where
      go : (k : ℕ) → T (bit a k) → (k < m) ⊎ (m ≤ k) → T (bit b k)
      go k s (inl p) = f k p s
      go k s (inr p) = absurd (false_T (bit_past m a k h p) s)

  module _ (i j : ℕ) (h : i < n) (q : j < n) where
    abbrev call : ℕ
    call = row_at L l (entry_at L Calls i j)

    abbrev grant : ℕ
    grant = row_at L l (entry_at L Grants j i)

    abbrev need : ℕ
    need = row_at L l (entry_at L Needs i j)

    -- an entry of a table that begins at at ends in the table
    entry_end : (x y : ℕ) → x < n → y < n → x * (n * L.width) + y * L.width + L.width ≤ n * (n * L.width)
    entry_end x y a b = let c = row_ends x n (n * L.width) a in let d = row_ends y n L.width b in omega arith

    call_small : call < 2 ^ m
    call_small = row_small L lf l bytes len (entry_at L Calls i j) (let e = entry_end i j h q in omega arith)

    grant_small : grant < 2 ^ m
    grant_small = row_small L lf l bytes len (entry_at L Grants j i) (let e = entry_end j i q h in omega arith)

    need_small : need < 2 ^ m
    need_small = row_small L lf l bytes len (entry_at L Needs i j) (let e = entry_end i j h q in omega arith)

    granted : (k : ℕ) → k < m → T (bit grant k) → T (grant_bit t i j k)
    granted k p s = subst T (sym (grants_is L lf l bytes len j i k q h p)) s

    abbrev may : ℕ
    may = cond (bit (used_row L l) i) (prov_row L l j) 0

    may_bit : (b : Bool) (x k : ℕ) → T b → T (bit x k) → T (bit (cond b x 0) k)
    may_bit false x k u s = elim u [ ]
    may_bit true x k u s = s

    pair_ok : T (rows_fit need call grant may)
    pair_ok = three_i (within need call) (within call grant) (within grant may)
        (within_all need call need_small (λ k p s. subst T (calls_is L lf l bytes len i j k h q p) (fo.need_call i j k (subst T (sym (needs_is L lf l bytes len i j k h q p)) s))))
        (within_all call grant call_small (λ k p s. subst T (grants_is L lf l bytes len j i k q h p) (la i j k (subst T (sym (calls_is L lf l bytes len i j k h q p)) s))))
        (within_all grant may grant_small (λ k p s. may_bit (bit (used_row L l) i) (prov_row L l j) k (subst T (used_is L lf l bytes len i h) (fo.grants.by_used i j k (granted k p s)))
        (subst T (prov_is L lf l bytes len j k q p) (fo.grants.of_prov i j k (granted k p s)))))

    diagonal : i ≡ j → T (eqb grant 0)
    diagonal e = eqb_of (row_zero grant grant_small (λ k p s. fo.grants.other i j k (granted k p s) e))

  line_ok_lem : (i : ℕ) → i < n → T (line_ok L l i)
  unfolding line_ok
  line_ok_lem i h = and_i (every fits (upto n)) (eqb (row_at L l (entry_at L Grants i i)) 0) (in_below fits n (λ j q. pair_ok i j h q)) (diagonal i i h h refl)
    where
      fits : ℕ → Bool
      fits j = rows_fit (row_at L l (entry_at L Needs i j)) (row_at L l (entry_at L Calls i j)) (row_at L l (entry_at L Grants j i)) (cond (bit (used_row L l) i) (prov_row L l j) 0)

  -- ---- lists
  -- a list's rows are read by f, and each is written as its AID and the rest
  module _ (k : Kept) {A : Type 0} (f : List ℕ → A) (name : A → Aid) (rest : A → List ℕ) (named : (p : List ℕ) → name (f p) ≡ read_aid (take 17 p))
      (long : (r : A) → length (name r) ≤ 16 → length (write_aid (name r) ++ rest r) ≡ row_size L.early k) where
    abbrev w : ℕ
    w = row_size L.early k

    abbrev spot : ℕ → ℕ
    spot q = place_at L L.early k q

    abbrev count : ℕ
    count = count_of L l k

    abbrev row : ℕ → A
    row q = f (part_at l (spot q) w)

    abbrev listed : List A
    listed = read_list f w (drop (list_at L k) l)

    abbrev write : A → List ℕ
    write r = write_aid (name r) ++ rest r

    module _ (fits : length listed ≤ L.capacity) (valid : (r : A) → In r listed → T (valid_aid (name r))) (once : NoRepeat listed)
        (back : write_list L write w listed ≡ part_at l (list_at L k) (1 + L.capacity * w)) where
      rows_are : listed ≡ map row (upto count)
      rows_are = list_read l f w (list_at L k) (let h = list_end_lem L l len k in omega arith)

      in_list : (q : ℕ) → q < count → In (row q) listed
      in_list q p = subst (In (row q)) (sym rows_are) (in_map row (in_upto count q p))

      count_fits : count ≤ L.capacity
      count_fits = subst (λ (z : ℕ). z ≤ L.capacity) (length_rows L l f write w (list_at L k) (list_end_lem L l len k)) fits

      row_valid_lem : (q : ℕ) → q < count → T (valid_aid (name (row q)))
      row_valid_lem q p = valid (row q) (in_list q p)

      rows_back : ((q : ℕ) → q < count → write (row q) ≡ part_at l (spot q) w) × (part_at l (spot count) ((L.capacity - count) * w) ≡ replicate ((L.capacity - count) * w) 0)
      rows_back = list_parts L l f write w (list_at L k) (list_end_lem L l len k) count_fits (λ q p. long (row q) (valid_short (name (row q)) (row_valid_lem q p))) back

      -- the AID's place of a row
      module _ (q : ℕ) (p : q < count) where
        abbrev at : ℕ
        at = spot q

        front : take 17 (part_at l at w) ≡ part_at l at 17
        front = take-take 17 w (drop at l) (let h = row_low L.early k in omega arith)

        name_back : write_aid (name (row q)) ≡ part_at l at 17
        name_back = sym (take_at (write_aid (name (row q))) (rest (row q)) 17 (length_aid (name (row q)) (valid_short (name (row q)) (row_valid_lem q p)))) ∙ ap (take 17) (rows_back.0 q p) ∙ front

        row_filled : Filled (part_at l at 17)
        row_filled = ap write_aid (sym (named (part_at l at w) ∙ ap read_aid front)) ∙ name_back

        row_aid : T (aid_ok l at)
        row_aid =
            let a = list_end_lem L l len k in
            let b = row_low L.early k in
            let c = count_fits in
            let d = row_ends q L.capacity w (omega arith) in
            filled_ok l at (omega arith) (name (row q)) (row_valid_lem q p) (sym name_back)

      new_row_lem : (q : ℕ) → q < count → T (new_row l (list_at L k) w q)
      unfolding new_row
      new_row_lem q h = in_below (λ p. not (same_at l (spot q) (spot p) w)) q (λ p c. not_i (same_at l (spot q) (spot p) w) (λ s.
          let e : q ≡ p = map_inj row (upto count) (subst NoRepeat rows_are once) (in_upto count q h) (in_upto count p (omega arith)) (ap f (same_part l (spot q) (spot p) w s)) in
          absurd (omega arith)))

      list_ok_lem : ((at : ℕ) → In (f (part_at l at w)) listed → write (f (part_at l at w)) ≡ part_at l at w → Filled (part_at l at 17) → T (aid_ok l at) → T (row_ok L l L.early k at)) → T (list_ok L l L.early k)
      unfolding list_ok
      list_ok_lem ok =
          four_i (leb count L.capacity) (every (place_ok L l L.early k) (upto count)) (rows_differ l (list_at L k) w count) (zeros_at l (spot count) ((L.capacity - count) * w))
          (le→leb count L.capacity count_fits)
          (in_below (place_ok L l L.early k) count (λ q p. ok (spot q) (in_list q p) (rows_back.0 q p) (row_filled q p) (row_aid q p)))
          (in_below (new_row l (list_at L k) w) count new_row_lem)
          (part_zeros l (spot count) ((L.capacity - count) * w) rows_back.1)

  -- ---- a row with tokens
  module _ (k : Kept) (at : ℕ) (fill : Filled (part_at l at 17)) (ok : T (aid_ok l at)) where
    abbrev own : ℕ
    own = byte_at l (at + number_in k)

    abbrev toks : ℕ
    toks = at + tokens_in k

    -- its package is used, its AID another's, its method token in range, and it has no service
    module _ (used : T (t.used own)) (other : read_aid (part_at l at 17) ≡ t.aid own → ⊥) (method : ValidTok L (read_tok (part_at l toks 2)))
        (off : (c q : ℕ) → c < n → T (is_aid L l at c) → T (t.provides (server k c own) q) → t.tok (server k c own) q ≡ read_tok (part_at l toks 2) → ⊥) where
      row_unserved : T (unserved L l k toks own (number_at L l at))
      unfolding new_tok
      row_unserved = go (number_at L l at) (number_is L l at)
        where
          served_in : (k : Kept) (c own : ℕ) → c < n → own < n → server k c own < n
          served_in UnmetCalls c own h i = h
          served_in WaitingGrants c own h i = i

          go : (o : Option ℕ) → NumberIs L l at o → T (unserved L l k toks own o)
          go None b = tt
          go (Some c) b =
              let j = server k c own in
              and_i (not (eqb c own)) (new_tok L l m toks j)
              (not_i (eqb c own) (λ s. other (sym (aid_same L lf l bytes len fo.names filled at fill c b.0 b.1) ∙ ap t.aid (eqb→eq c own s))))
              (in_below (λ q. not (is_tok L l toks j q)) m (λ q d. not_i (is_tok L l toks j q) (λ s.
              let o = tok_same toks j q (served_in k c own b.0 (fo.names.used_lt own used)) d s in off c q b.0 b.1 o.0 o.1)))

      token_row : T (token_row_ok L l k at)
      unfolding token_row_ok
      token_row = four_i (is_used L l own) (aid_ok l at) (method_ok L l toks) (unserved L l k toks own (number_at L l at))
          (subst T (used_read L l own) used) ok (subst T (sym (method_is l toks L)) method) row_unserved

  -- ---- unmet calls
  unmet_ok_lem : (at : ℕ) → In (read_unmet (part_at l at unmet_size)) t.unmet → Filled (part_at l at 17) → T (aid_ok l at) → T (token_row_ok L l UnmetCalls at)
  unmet_ok_lem at has fill ok =
      let u : Unmet = record { callee = read_aid (part_at l at 17); tok = read_tok (part_at l (at + 17) 2); caller = byte_at l (at + 19) } in
      let i : In u t.unmet = subst (λ (z : Unmet). In z t.unmet) (unmet_at_lem l at) has in
      token_row UnmetCalls at fill ok (fo.unmet.off.off_used u i) (fo.unmet.unmet_other u i) (ru.unmet u i)
      (λ c q h e s f. fo.unmet.off.off_card u i c q s (aid_same L lf l bytes len fo.names filled at fill c h e) f)

  unmets_ok : T (list_ok L l L.early UnmetCalls)
  unfolding decode row_ok
  unmets_ok = list_ok_lem UnmetCalls read_unmet (λ u. u.callee) (λ u. write_tok u.tok ++ (u.caller ∷ [])) (λ p. refl) length_unmet
      fi.unmet_fits fo.unmet.unmet_valid fo.unmet.unmet_once parts.1 (λ at has back. unmet_ok_lem at has)

  -- ---- waiting grants, by the rules of their version
  module _ (at : ℕ) (fill : Filled (part_at l at 17)) (ok : T (aid_ok l at)) where
    abbrev callee : ℕ
    callee = byte_at l (at + 17)

    abbrev service : ℕ
    service = byte_at l (at + 18)

    abbrev grant_row_lem : Bool → Waiting
    grant_row_lem early = record { caller = read_aid (part_at l at 17); callee = callee; tok = cond early (read_tok (part_at l (at + 18) 2)) (t.tok callee service) }

    -- a row with a service number, which is the number of a service with the grant's tokens
    module _ (has : In (grant_row_lem false) t.waiting) (back : write_grant L t.provides t.tok false (grant_row_lem false) ≡ part_at l at 19) (k : ℕ) (s : T (t.provides callee k))
        (e : t.tok callee k ≡ t.tok callee service) where
      abbrev caller : Aid
      caller = read_aid (part_at l at 17)

      valid : T (valid_aid caller)
      valid = fo.waiting.wait_valid (grant_row_lem false) has

      provided : T (t.provides callee service)
      provided = subst (λ (q : ℕ). T (t.provides callee q)) (sym (number_with_lem L t fo.names callee k (t.tok callee service) s e) ∙ written) s
        where
          written : number_with L (t.provides callee) (t.tok callee) (t.tok callee service) ≡ service
          written =
              sym (ap (λ (z : List ℕ). get_or z 1 0) (drop_at (write_aid caller) _ 17 (length_aid caller (valid_short caller valid))))
              ∙ ap (λ (z : List ℕ). get_or (drop 17 z) 1 0) back ∙ past l at 19 1 (omega arith)

      absent : T (is_none (number_at L l at))
      absent = go (number_at L l at) (number_is L l at)
        where
          go : (o : Option ℕ) → NumberIs L l at o → T (is_none o)
          go None b = tt
          go (Some c) b = absurd (fo.waiting.wait_off (grant_row_lem false) has c k (same_used L lf l bytes len fo.names filled at fill valid c b.0 b.1)
              (aid_same L lf l bytes len fo.names filled at fill c b.0 b.1) s e)

      number_row : T (number_row_ok L l at)
      unfolding number_row_ok
      number_row =
          let h = fo.names.used_lt callee (fo.names.prov_used callee service provided) in
          let c = fo.names.prov_lt callee service provided in
          three_i (is_provided L l callee service) (aid_ok l at) (is_none (number_at L l at))
          (three_i (ltb callee n) (ltb service m) (bit (prov_row L l callee) service)
          (lt→ltb callee n h) (lt→ltb service m c) (subst T (prov_is L lf l bytes len callee service h c) provided)) ok absent

    waiting_ok_lem : (early : Bool) → In (grant_row_lem early) t.waiting → write_grant L t.provides t.tok early (grant_row_lem early) ≡ part_at l at (row_size early WaitingGrants)
        → ((T early → ⊥) → (k : ℕ) × T (t.provides callee k) × (t.tok callee k ≡ (grant_row_lem early).tok)) → T (row_ok L l early WaitingGrants at)
    unfolding row_ok
    waiting_ok_lem true has back own =
        let v = grant_row_lem true in
        let f = fo.waiting in
        token_row WaitingGrants at fill ok (f.wait_used v has) (f.wait_other v has) (ru.waiting v has)
        (λ c q h e. f.wait_off v has c q (same_used L lf l bytes len fo.names filled at fill (f.wait_valid v has) c h e) (aid_same L lf l bytes len fo.names filled at fill c h e))
    waiting_ok_lem false has back own = let o = own (λ x. x) in number_row has back o.0 o.1 o.2

  waitings_ok : T (list_ok L l L.early WaitingGrants)
  unfolding decode
  waitings_ok = list_ok_lem WaitingGrants (read_waiting L t.tok) (λ v. v.caller) (λ v. v.callee ∷ cond L.early (write_tok v.tok) (number_with L (t.provides v.callee) (t.tok v.callee) v.tok ∷ []))
      (λ p. refl) (length_waiting L t.provides t.tok) fi.waiting_fits fo.waiting.wait_valid fo.waiting.wait_once parts.2
      (λ at has back fill ok.
      let e = grant_at_lem l at t.tok L.early in
      let i = subst (λ (z : Waiting). In z t.waiting) e has in
      waiting_ok_lem at fill ok L.early i (ap (write_grant L t.provides t.tok L.early) (sym e) ∙ back) (λ late. ru.own late (grant_row_lem at fill ok L.early) i))

  pub passes : T (packages_ok L l) × T (lines_ok L l) × T (list_ok L l L.early UnmetCalls) × T (list_ok L l L.early WaitingGrants)
  unfolding packages_ok lines_ok
  passes = (
    in_below (package_ok L l) n package_ok_lem,
    in_below (line_ok L l) n line_ok_lem,
    unmets_ok,
    waitings_ok,
  )
