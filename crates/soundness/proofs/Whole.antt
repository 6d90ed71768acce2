-- An image is what its tables give exactly when the header is right, the places of AIDs are filled right, and the lists are.
use Prim.Native.Nat.{ℕ, ◌+◌, ◌*◌, ◌^◌, ◌≤◌, ◌<◌}
use native.Mathlib.Omega.{arith}
use mathlib.Core.Path.{◌≡◌, refl, sym, ap, ◌∙◌}
use mathlib.Core.List.{List, [], append-nil}
use lib.ListN.{length, take, drop, length-drop, drop_of_length-le}
use lib.Seq.{take_all}
use Rattle.policy.specs.Lists.{flat, upto}
use Rattle.policy.specs.Layout.{Layout, LayoutOk, aid_size, unmet_size, waiting_size, used_at, aids_at, tokens_at, provides_at, calls_at, grants_at, needs_at, unmet_at, waiting_at, size}
use Rattle.policy.specs.Tables.{Tables, write_aid, write_tok, write_unmet, write_waiting, write_list, bit_of, read_table, write_bits, write_table, decode, encode}
use Rattle.policy.proofs.Bits.{length_bits, write_line, length_line, length_lines}
use Rattle.policy.proofs.Pieces.{length_table, row_ends}
use Rattle.geometry.specs.Geometry.{aid_at, tok_at, prov_at}
use Rattle.geometry.specs.declared.Kept.{Kept}
use Rattle.geometry.specs.declared.Kept.TheVariants.{UnmetCalls, WaitingGrants}
use Rattle.soundness.specs.Check.{part_at, list_end}
use Rattle.rows.proofs.Parts.{part_length}
use Rattle.soundness.proofs.Decoded.{used_read, tok_read, prov_read, table_read}
use Rattle.rows.proofs.Words.{Bytes, part_bytes}
use Rattle.soundness.proofs.Encoded.{bits_back, tok_back, join, split, flat_part, part_flat}

-- a layout whose rows of bits fill their bytes
pub record Full (L : Layout) : Type 0 where
  pub ok : LayoutOk L
  pub packages_full : 2 ^ L.packages ≡ 256 ^ L.width
  pub services_full : 2 ^ L.services ≡ 256 ^ L.width
  pub services_low : L.services ≤ 16
  pub some_methods : 0 < L.methods

-- a list ends in the image
pub list_end_lem : (L : Layout) (l : List ℕ) → length l ≡ size L → (k : Kept) → list_end L L.early k ≤ length l
list_end_lem L l len UnmetCalls = omega arith
list_end_lem L l len WaitingGrants = omega arith

module _ (L : Layout) (lf : Full L) (l : List ℕ) (bytes : Bytes l) (len : length l ≡ size L) where
  abbrev n : ℕ
  n = L.packages

  abbrev m : ℕ
  m = L.services

  abbrev w : ℕ
  w = L.width

  abbrev t : Tables
  t = decode L l

  -- ---- rows of bits and tokens are always written as they were read
  bits_part : (k : ℕ) → 2 ^ k ≡ 256 ^ w → (at : ℕ) → at + w ≤ length l → write_bits L k (bit_of L k (part_at l at w)) ≡ part_at l at w
  bits_part k full at h = bits_back L k full (part_at l at w) (part_length l at w h) (part_bytes l bytes at w)

  used_part : write_bits L n t.used ≡ part_at l (used_at L) w
  used_part = ap (write_bits L n) (λ z k. used_read L l k z) ∙ bits_part n lf.packages_full (used_at L) (omega arith)

  toks_part : flat (λ j. flat (λ k. write_tok (t.tok j k)) (upto m)) (upto n) ≡ part_at l (tokens_at L) (n * (m * 2))
  toks_part =
      flat_part l _ (m * 2) n (tokens_at L) (λ j p. flat_part l _ 2 m (tokens_at L + j * (m * 2)) (λ k q.
      let a = row_ends j n (m * 2) p in
      let b = row_ends k m 2 q in
      let e : tok_at L j k ≡ tokens_at L + j * (m * 2) + k * 2 = omega arith in
      ap write_tok (tok_read L l j k p q) ∙ tok_back (part_at l (tok_at L j k) 2) (part_length l (tok_at L j k) 2 (omega arith)) ∙ ap (λ (z : ℕ). part_at l z 2) e))

  provs_part : flat (λ j. write_bits L m (t.provides j)) (upto n) ≡ part_at l (provides_at L) (n * w)
  provs_part =
      flat_part l _ w n (provides_at L) (λ j p.
      let a = row_ends j n w p in
      ap (write_bits L m) (λ z k. prov_read L l j k p z) ∙ bits_part m lf.services_full (prov_at L j) (omega arith))

  table_part : (at : ℕ) → at + n * (n * w) ≤ length l → write_table L (read_table L (drop at l)) ≡ part_at l at (n * (n * w))
  table_part at h =
      flat_part l _ (n * w) n at (λ i p. flat_part l _ w n (at + i * (n * w)) (λ j q.
      let a = row_ends i n (n * w) p in
      let b = row_ends j n w q in
      let e : at + (i * (n * w) + j * w) ≡ at + i * (n * w) + j * w = omega arith in
      ap (write_bits L m) (λ z k. table_read L l at i j k p q z) ∙ bits_part m lf.services_full (at + (i * (n * w) + j * w)) (omega arith) ∙ ap (λ (z : ℕ). part_at l z w) e))

  abbrev pub unmets : List ℕ
  unmets = write_list L write_unmet unmet_size t.unmet

  abbrev pub waitings : List ℕ
  waitings = write_list L (write_waiting L t.provides t.tok) (waiting_size L) t.waiting

  abbrev pub Parts : Type 0
  Parts = ((i : ℕ) → i < n → write_aid (t.aid i) ≡ part_at l (aid_at L i) aid_size) × (unmets ≡ part_at l (unmet_at L) (1 + L.capacity * unmet_size)) × (waitings ≡ part_at l (waiting_at L) (1 + L.capacity * waiting_size L))

  pub encode_back : take 3 l ≡ L.header → Parts → encode L t ≡ l
  unfolding encode decode
  encode_back h p =
      let past : length l ≤ waiting_at L + (1 + L.capacity * waiting_size L) = omega arith in
      join l L.header _ 0 3 (sym h) (join l _ _ (used_at L) w used_part (join l _ _ (aids_at L) (n * aid_size) (flat_part l _ aid_size n (aids_at L) p.0)
      (join l _ _ (tokens_at L) (n * (m * 2)) toks_part (join l _ _ (provides_at L) (n * w) provs_part
      (join l _ _ (calls_at L) (n * (n * w)) (table_part (calls_at L) (omega arith)) (join l _ _ (grants_at L) (n * (n * w)) (table_part (grants_at L) (omega arith))
      (join l _ _ (needs_at L) (n * (n * w)) (table_part (needs_at L) (omega arith)) (join l _ _ (unmet_at L) (1 + L.capacity * unmet_size) p.1
      (sym (append-nil waitings) ∙ join l waitings [] (waiting_at L) (1 + L.capacity * waiting_size L) p.2 (sym (drop_of_length-le l past)))))))))))

  pub encode_parts : encode L t ≡ l → ((i : ℕ) → i < n → length (write_aid (t.aid i)) ≡ aid_size) → length unmets ≡ 1 + L.capacity * unmet_size → Parts
  unfolding encode decode
  encode_parts e a u =
      let aids : List ℕ = flat (λ i. write_aid (t.aid i)) (upto n) in
      let toks : List ℕ = flat (λ j. flat (λ k. write_tok (t.tok j k)) (upto m)) (upto n) in
      let p1 = split l L.header _ 0 3 lf.ok.header_size e in
      let p2 = split l (write_bits L n t.used) _ (used_at L) w (length_bits L n t.used) p1.1 in
      let p3 = split l aids _ (aids_at L) (n * aid_size) (length_table (λ i. write_aid (t.aid i)) aid_size n a) p2.1 in
      let p4 = split l toks _ (tokens_at L) (n * (m * 2)) (length_table (λ j. flat (λ k. write_tok (t.tok j k)) (upto m)) (m * 2) n (λ j p. length_table (λ k. write_tok (t.tok j k)) 2 m (λ k q. refl))) p3.1 in
      let p5 = split l (write_line L t.provides) _ (provides_at L) (n * w) (length_line L t.provides) p4.1 in
      let p6 = split l (write_table L t.calls) _ (calls_at L) (n * (n * w)) (length_lines L t.calls) p5.1 in
      let p7 = split l (write_table L t.grants) _ (grants_at L) (n * (n * w)) (length_lines L t.grants) p6.1 in
      let p8 = split l (write_table L t.needs) _ (needs_at L) (n * (n * w)) (length_lines L t.needs) p7.1 in
      let p9 = split l unmets waitings (unmet_at L) (1 + L.capacity * unmet_size) u p8.1 in
      let past : length (drop (waiting_at L) l) ≤ 1 + L.capacity * waiting_size L = rw length-drop (omega arith) in
      (part_flat l (λ i. write_aid (t.aid i)) aid_size n (aids_at L) a p3.0, p9.0, p9.1 ∙ sym (take_all (1 + L.capacity * waiting_size L) (drop (waiting_at L) l) past))
