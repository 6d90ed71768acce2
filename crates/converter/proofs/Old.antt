-- A sound image of version 01: where its waiting grants stand, and its image in version 02, byte for byte.
use Prim.Native.Nat.{ℕ, ◌+◌, ◌*◌, ◌-◌, ◌≤◌, ◌<◌}
use native.Mathlib.Omega.{arith}
use mathlib.Core.Path.{◌≡◌, sym, ap, ap₂, ◌∙◌, subst}
use mathlib.Core.Bool.{Bool, ◌&&◌}
use mathlib.Core.Option.{Option, none, some}
use mathlib.Core.List.{List, [], ◌∷◌, ◌++◌, map, append_assoc}
use mathlib.Core.List.{Memᴰ as In}
use lib.Dec.{T}
use lib.ListN.{length, get_or, take, drop, replicate, length-append, length-map, length-drop}
use lib.Seq.{take_at, drop-drop, take-suc, take-take, get_or-drop, get_or-append-add}
use Rattle.policy.specs.Lists.{flat, upto, first, or_else}
use Rattle.policy.specs.Contract.{eq_tok}
use Rattle.policy.specs.Layout.{narrow, small}
use Rattle.policy.specs.Tables.{Tables, Waiting, write_aid, write_tok, number_with, read_waiting, write_waiting, write_list, decode}
use Rattle.policy.specs.Sound.{sound}
use Rattle.policy.specs.Eras.{carried}
use Rattle.policy.proofs.Sets.{Found, found, in_map, in_upto, upto_in, length_from, flat_ext, flat_map}
use Rattle.policy.proofs.Pieces.{piece_part, piece_at, valid_short, length_aid, length_waiting}
use Rattle.policy.proofs.SoundFacts.{sound_sized, sound_formed, sound_fitting}
use Rattle.policy.proofs.Theorems.{narrow_ok, converted_bytes}
use Rattle.geometry.specs.Geometry.{place_at}
use Rattle.geometry.specs.declared.Kept.TheVariants.{WaitingGrants}
use Rattle.rows.specs.Area.{part}
use Rattle.rows.proofs.Over.{length_part, get_d_part}
use Rattle.soundness.proofs.Decoded.{list_read, tok_read}
use Rattle.soundness.proofs.Encoded.{tok_back}
use Rattle.converter.specs.Converted.{old_at, old_count, named_at, front_of, new_row}
use Rattle.converter.proofs.Parts.{parts}

-- ---- bytes
-- a row of 19 bytes that is an AID's place, a callee and a service number
module _ (aid p : List ℕ) (j k : ℕ) (long : length aid ≡ 17) (e : p ≡ aid ++ (j ∷ k ∷ [])) where
  row_head : take 18 p ≡ aid ++ (j ∷ [])
  row_head = ap (take 18) (e ∙ sym (append_assoc aid (j ∷ []) (k ∷ []))) ∙ take_at (aid ++ (j ∷ [])) (k ∷ []) 18 (length-append aid (j ∷ []) ∙ rw long)

  row_last : get_or p 18 0 ≡ k
  row_last = ap (λ (z : List ℕ). get_or z 18 0) e ∙ ap (λ (n : ℕ). get_or (aid ++ (j ∷ k ∷ [])) n 0) (let q : 18 ≡ length aid + 1 = omega arith in q) ∙ get_or-append-add aid (j ∷ k ∷ []) 1 0

-- ---- the number of a service is one of a package's
number_lt : (f : ℕ → Bool) (n : ℕ) → 0 < n → or_else (first f (upto n)) 0 (λ k. k) < n
number_lt f n h = go (first f (upto n)) (found f (upto n))
  where
    go : (o : Option ℕ) → Found f (upto n) o → or_else o 0 (λ k. k) < n
    go none m = h
    go (some k) m = upto_in n m.0

-- ---- a sound image
module _ (old : List ℕ) (ok : T (sound narrow old)) where
  abbrev t : Tables
  t = decode narrow old

  abbrev n : ℕ
  n = old_count old

  pub old_size : length old ≡ 1094
  old_size = sound_sized narrow old ok

  -- the waiting grants, by the bytes of their rows
  abbrev row : ℕ → List ℕ
  row r = part (old_at r) 19 old

  abbrev read : ℕ → Waiting
  read r = read_waiting narrow t.tok (row r)

  waiting_read : t.waiting ≡ map read (upto n)
  unfolding decode
  waiting_read = list_read old (read_waiting narrow t.tok) 19 789 (omega (arith, old_size))

  count : length t.waiting ≡ n
  count = ap length waiting_read ∙ length-map (upto n) read ∙ length_from 0 n

  pub few : n ≤ 16
  few = omega (arith, count, (sound_fitting narrow old ok).waiting_fits)

  -- what it was written from
  abbrev write : Waiting → List ℕ
  write w = write_waiting narrow t.provides t.tok w

  abbrev waits : List ℕ
  waits = write_list narrow write 19 t.waiting

  at_waiting : drop 789 old ≡ waits
  at_waiting = sym (parts narrow narrow_ok old ok).waiting

  rows_after : drop 790 old ≡ flat (λ r. write (read r)) (upto n) ++ replicate ((16 - length t.waiting) * 19) 0
  rows_after = sym (drop-drop 1 789 old) ∙ ap (drop 1) at_waiting
      ∙ ap (λ (z : List ℕ). z ++ replicate ((16 - length t.waiting) * 19) 0) (ap (flat write) waiting_read ∙ flat_map write read (upto n))

  -- ---- row r
  module _ (r : ℕ) (lt : r < n) where
    abbrev w : Waiting
    w = read r

    is_in : In w t.waiting
    is_in = subst (λ (l : List Waiting). In w l) (sym waiting_read) (in_map read (in_upto n r lt))

    short : length w.caller ≤ 16
    short = valid_short w.caller ((sound_formed narrow old ok).waiting.wait_valid w is_in)

  wide : (r : ℕ) → r < n → length (write (read r)) ≡ 19
  wide r lt = length_waiting narrow t.provides t.tok (read r) (short r lt)

  module _ (r : ℕ) (lt : r < n) where
    row_written : row r ≡ write (read r)
    row_written =
        let e : 789 + (1 + r * 19) ≡ 790 + r * 19 = omega arith in
        ap (take 19) (ap (λ (k : ℕ). drop k old) e ∙ sym (drop-drop (r * 19) 790 old)) ∙ sym (piece_part 19 n (drop 790 old) r lt)
        ∙ piece_at (λ r. write (read r)) 19 n wide (drop 790 old) (replicate ((16 - length t.waiting) * 19) 0) rows_after r lt

    abbrev callee : ℕ
    callee = get_or old (old_at r + 17) 0

    abbrev service : ℕ
    service = get_or old (old_at r + 18) 0

    abbrev number : ℕ
    number = number_with narrow (t.provides (read r).callee) (t.tok (read r).callee) (read r).tok

    callee_is : (read r).callee ≡ callee
    callee_is = get_or-drop 17 (row r) 0 0 ∙ get_d_part (old_at r) 19 old 17 (omega arith)

    service_read : get_or (drop 17 (row r)) 1 0 ≡ service
    service_read = get_or-drop 17 (row r) 1 0 ∙ get_d_part (old_at r) 19 old 18 (omega arith)

    aid_long : length (write_aid (read r).caller) ≡ 17
    aid_long = length_aid (read r).caller (short r lt)

    service_is : service ≡ number
    service_is = sym (get_d_part (old_at r) 19 old 18 (omega arith)) ∙ row_last (write_aid (read r).caller) (row r) (read r).callee number aid_long row_written

    pub callee_lt : get_or old (old_at r + 17) 0 < 8
    callee_lt = rw (← callee_is) (let f = sound_formed narrow old ok in f.names.used_lt (read r).callee (f.waiting.wait_used (read r) (is_in r lt)))

    pub service_lt : get_or old (old_at r + 18) 0 < 8
    service_lt = rw service_is (number_lt (λ k. t.provides (read r).callee k && eq_tok (t.tok (read r).callee k) (read r).tok) 8 (omega arith))

    pub row_in : old_at r + 19 ≤ 1094
    row_in = omega (arith, few)

    pub tokens_in_lem : named_at old (old_at r) + 2 ≤ 1094
    tokens_in_lem = omega (arith, callee_lt, service_lt)

    pub row_long : length (new_row old r) ≡ 20
    unfolding new_row
    row_long = length-append (part (old_at r) 18 old) (part (named_at old (old_at r)) 2 old)
        ∙ rw (length_part (old_at r) 18 old (omega (arith, old_size, row_in)), length_part (named_at old (old_at r)) 2 old (omega (arith, old_size, tokens_in_lem)))

    -- the row of version 02
    new_is : write_waiting small t.provides t.tok (read r) ≡ new_row old r
    unfolding new_row
    new_is =
        let w = read r in
        let head : part (old_at r) 18 old ≡ write_aid w.caller ++ (w.callee ∷ []) =
        sym (take-take 18 19 (drop (old_at r) old) (omega arith)) ∙ row_head (write_aid w.caller) (row r) w.callee number aid_long row_written in
        let toks : write_tok w.tok ≡ part (named_at old (old_at r)) 2 old =
        ap₂ (λ (j k : ℕ). write_tok (t.tok j k)) callee_is service_read ∙ ap write_tok (tok_read narrow old callee service callee_lt service_lt)
        ∙ tok_back (part (named_at old (old_at r)) 2 old) (length_part (named_at old (old_at r)) 2 old (omega (arith, old_size, tokens_in_lem))) in
        sym (append_assoc (write_aid w.caller) (w.callee ∷ []) (write_tok w.tok)) ∙ (λ i. sym head i ++ toks i)

  rows_are : flat (write_waiting small t.provides t.tok) t.waiting ≡ flat (new_row old) (upto n)
  rows_are =
      let g = write_waiting small t.provides t.tok in
      ap (flat g) waiting_read ∙ flat_map g read (upto n) ∙ flat_ext (λ r. g (read r)) (new_row old) (upto n) (λ r m. new_is r (upto_in n m))

  -- the whole: what is copied, the new rows, and zeros to the end
  pub carried_bytes : carried narrow small old ≡ (small.header ++ front_of old) ++ (flat (new_row old) (upto n) ++ replicate (1110 - place_at small WaitingGrants n) 0)
  carried_bytes =
      let h = small.header in
      let front = part 3 786 old in
      let rows = flat (new_row old) (upto n) in
      let zeros = replicate {A = ℕ} (1110 - (789 + (1 + n * 20))) 0 in
      let k : (16 - length t.waiting) * 20 ≡ 1110 - (789 + (1 + n * 20)) = omega (arith, count, few) in
      let copied : front_of old ≡ front ++ (n ∷ []) =
      take-suc (drop 3 old) 786 0 (rw length-drop (omega (arith, old_size))) ∙ ap (λ (x : ℕ). front ++ (x ∷ [])) (get_or-drop 3 old 786 0) in
      converted_bytes old ok ∙ (λ i. h ++ (front ++ (count i ∷ (rows_are i ++ replicate (k i) 0))))
      ∙ ap (λ (z : List ℕ). h ++ z) (sym (append_assoc front (n ∷ []) (rows ++ zeros)) ∙ ap (λ (z : List ℕ). z ++ (rows ++ zeros)) (sym copied))
      ∙ sym (append_assoc h (front_of old) (rows ++ zeros))
