-- What the tables of an image hold, by the places of its bytes.
use Prim.Native.Nat.{ℕ, zero, suc, ◌+◌, ◌*◌, ◌≤◌, ◌<◌}
use native.Mathlib.Omega.{arith}
use native.Mathlib.Nat.{not-le_of_lt, suc-mul}
use mathlib.Core.Path.{◌≡◌, refl, ap, ◌∙◌}
use mathlib.Core.Logic.{◌⊎◌}
use mathlib.Core.Bool.{◌&&◌}
use mathlib.Core.List.{List, [], ◌∷◌, map}
use lib.Dec.{ltb}
use lib.ListN.{length, get_or, take, drop}
use lib.Seq.{drop-cons, drop-drop}
use Rattle.policy.specs.Lists.{is_nil, from, upto}
use Rattle.policy.specs.Contract.{Tok, eq_tok}
use Rattle.policy.specs.Layout.{Layout, aid_size, aids_at, tokens_at, provides_at, calls_at, grants_at, needs_at}
use Rattle.policy.specs.Tables.{Tables, no_tok, bit, pieces, read_aid, read_tok, read_list, bit_of, read_table, decode}
use Rattle.policy.proofs.Sets.{not_e, not_not, nil_is, is_nil_lem}
use Rattle.policy.proofs.Equal.{eq_tok→, eq_tok_of}
use Rattle.policy.proofs.SoundFacts.{decode_in}
use Rattle.policy.proofs.RoundTrip.{in_not_off}
use Rattle.policy.proofs.Pieces.{read_at, piece_part, row_ends}
use Rattle.geometry.specs.Geometry.{aid_at, tok_at, entry_at}
use Rattle.geometry.specs.declared.Table.TheVariants.{Calls, Grants, Needs}
use Rattle.soundness.specs.Check.{byte_at, part_at, row_at, used_row, prov_row}
use Rattle.rows.proofs.Parts.{part_in}

-- ---- pieces of one width
module _ (l : List ℕ) where
  -- entry k of the pieces from at on, and entry k of line j
  part_at_lem : (at w n k : ℕ) → k < n → get_or (pieces w n (drop at l)) k [] ≡ part_at l (at + k * w) w
  part_at_lem at w n k h = piece_part w n (drop at l) k h ∙ ap (take w) (drop-drop (k * w) at l)

  entry_at_lem : (at w m n j k : ℕ) → j < n → k < m → get_or (pieces w m (get_or (pieces (m * w) n (drop at l)) j [])) k [] ≡ part_at l (at + (j * (m * w) + k * w)) w
  entry_at_lem at w m n j k h i =
      let e : at + j * (m * w) + k * w ≡ at + (j * (m * w) + k * w) = omega arith in
      ap (λ (q : List ℕ). get_or (pieces w m q) k []) (part_at_lem at (m * w) n j h) ∙ piece_part w m (part_at l (at + j * (m * w)) (m * w)) k i
      ∙ part_in l (at + j * (m * w)) (m * w) (k * w) w (row_ends k m w i) ∙ ap (λ (a : ℕ). part_at l a w) e

  pub list_read : {A : Type 0} (f : List ℕ → A) (w at : ℕ) → at < length l → read_list f w (drop at l) ≡ map (λ r. f (part_at l (at + (1 + r * w)) w)) (upto (byte_at l at))
  list_read {A} f w at h = rw (drop-cons l at 0) (rows (byte_at l at) 0 (suc at) (let e : suc at ≡ at + (1 + 0 * w) = omega arith in e))
    where
      rows : (n i a : ℕ) → a ≡ at + (1 + i * w) → map f (pieces w n (drop a l)) ≡ map (λ r. f (part_at l (at + (1 + r * w)) w)) (from i n)
      rows zero i a e = refl
      rows (suc n) i a e =
          let q : a + w ≡ at + (1 + suc i * w) = let s = suc-mul i w in omega arith in
          λ z. f (part_at l (e z) w) ∷ (ap (λ (b : List ℕ). map f (pieces w n b)) (drop-drop w a l) ∙ rows n (suc i) (a + w) q) z

module _ (L : Layout) (l : List ℕ) where
  abbrev t : Tables
  t = decode L l

  pub used_read : (n : ℕ) → t.used n ≡ ltb n L.packages && bit (used_row L l) n
  unfolding decode
  used_read n = refl

  pub aid_read : (n : ℕ) → n < L.packages → t.aid n ≡ read_aid (part_at l (aid_at L n) aid_size)
  unfolding decode
  aid_read n h = read_at aid_size L.packages (drop (aids_at L) l) read_aid [] n h ∙ ap read_aid (part_at_lem l (aids_at L) aid_size L.packages n h)

  pub tok_read : (j k : ℕ) → j < L.packages → k < L.services → t.tok j k ≡ read_tok (part_at l (tok_at L j k) 2)
  unfolding decode
  tok_read j k h i =
      let line : List ℕ → List Tok = λ q. map read_tok (pieces 2 L.services q) in
      let q : List ℕ = get_or (pieces (L.services * 2) L.packages (drop (tokens_at L) l)) j [] in
      ap (λ (z : List Tok). get_or z k no_tok) (read_at (L.services * 2) L.packages (drop (tokens_at L) l) line [] j h)
      ∙ read_at 2 L.services q read_tok no_tok k i ∙ ap read_tok (entry_at_lem l (tokens_at L) 2 L.services L.packages j k h i)

  -- past the tables stand blanks
  pub aid_off : (n : ℕ) → L.packages ≤ n → t.aid n ≡ []
  aid_off n h =
      let blank = is_nil (t.aid n) in
      nil_is (t.aid n) (not_not blank (λ f. not-le_of_lt ((decode_in L l).aid_in n (λ e. not_e blank f (is_nil_lem e))) h))

  pub tok_off : (j k : ℕ) → (L.packages ≤ j) ⊎ (L.services ≤ k) → t.tok j k ≡ no_tok
  tok_off j k o =
      let blank = eq_tok (t.tok j k) no_tok in
      eq_tok→ (t.tok j k) no_tok (not_not blank (λ f. in_not_off ((decode_in L l).tok_in j k (λ e. not_e blank f (eq_tok_of e))) o))

  pub prov_read : (j k : ℕ) → j < L.packages → t.provides j k ≡ ltb k L.services && bit (prov_row L l j) k
  unfolding decode
  prov_read j k h = ap (λ (q : List ℕ). bit_of L L.services q k) (part_at_lem l (provides_at L) L.width L.packages j h)

  pub table_read : (at i j k : ℕ) → i < L.packages → j < L.packages
      → read_table L (drop at l) i j k ≡ ltb k L.services && bit (row_at L l (at + (i * (L.packages * L.width) + j * L.width))) k
  table_read at i j k h m =
      let bs = drop at l in
      let n = L.packages in
      ap (λ (z : List (List ℕ)). bit_of L L.services (get_or z j []) k) (read_at (n * L.width) n bs (pieces L.width n) [] i h)
      ∙ ap (λ (q : List ℕ). bit_of L L.services q k) (entry_at_lem l at L.width n n i j h m)

  pub calls_read : (i j k : ℕ) → i < L.packages → j < L.packages → t.calls i j k ≡ ltb k L.services && bit (row_at L l (entry_at L Calls i j)) k
  unfolding decode
  calls_read = table_read (calls_at L)

  pub grants_read : (i j k : ℕ) → i < L.packages → j < L.packages → t.grants i j k ≡ ltb k L.services && bit (row_at L l (entry_at L Grants i j)) k
  unfolding decode
  grants_read = table_read (grants_at L)

  pub needs_read : (i j k : ℕ) → i < L.packages → j < L.packages → t.needs i j k ≡ ltb k L.services && bit (row_at L l (entry_at L Needs i j)) k
  unfolding decode
  needs_read = table_read (needs_at L)
