-- The check of an image's bytes is the test that it is sound.
use Prim.Native.Nat.{ℕ, ◌^◌, ◌<◌}
use native.Mathlib.Omega.{arith}
use mathlib.Core.Path.{◌≡◌, refl, sym, ap, ◌∙◌}
use mathlib.Core.Bool.{Bool, true, false, ◌&&◌}
use mathlib.Core.List.{List}
use lib.Dec.{T, eqb, eqb→eq}
use lib.ListN.{length, take}
use Rattle.policy.specs.Lists.{eq_bytes, keep, upto}
use Rattle.policy.specs.Layout.{Layout, narrow, small, size, used_at}
use Rattle.policy.specs.Tables.{bit, decode, encode}
use Rattle.policy.specs.Lookup.{used_numbers}
use Rattle.policy.specs.Sound.{sound_tables, sound}
use Rattle.policy.proofs.Sets.{T_eq, and_l, and_r, and_i, keep_ext, upto_in, eq_bytes→}
use Rattle.policy.proofs.Equal.{eq_aid_of}
use Rattle.policy.proofs.Pieces.{length_aid}
use Rattle.policy.proofs.RoundTrip.{formed_room, length_unmets}
use Rattle.policy.proofs.Theorems.{narrow_ok}
use Rattle.policy.proofs.SoundFacts.{sound_formed, sound_ruled, sound_lawful, sound_fitting, sound_tables_lem}
use Rattle.bits.proofs.Row.{keep_row}
use Rattle.geometry.specs.Geometry.{layout_of}
use Rattle.geometry.specs.declared.Card.{Card}
use Rattle.geometry.specs.declared.Card.TheVariants.{Small, Large}
use Rattle.geometry.proofs.Bounds.{layout_ok, early, limits}
use Rattle.geometry.specs.declared.Kept.TheVariants.{UnmetCalls, WaitingGrants}
use Rattle.soundness.specs.Check.{part_at, used_row, number_at, new_tok, tok_ok, toks_ok, methods_ok, blank_ok, package_ok, packages_ok, line_ok, lines_ok, token_row_ok, number_row_ok, row_ok, list_ok, check_by, sized_ok, check_ok}
use Rattle.rows.proofs.Parts.{part_length}
use Rattle.rows.proofs.Words.{Bytes, part_bytes}
use Rattle.soundness.proofs.Encoded.{row_lt}
use Rattle.soundness.proofs.Lookup.{used_is}
use Rattle.soundness.proofs.Whole.{Full, Parts, encode_back, encode_parts}
use Rattle.soundness.proofs.Checked.{check_formed, check_ruled, check_lawful, check_fitting, check_parts}
use Rattle.soundness.proofs.Passes.{passes}

pub full : (c : Card) → Full (layout_of c)
full c = record { ok = layout_ok c; packages_full = (rows_full c).0; services_full = (rows_full c).1; services_low = (limits c).services_low; some_methods = (rows_full c).2 }
  where
    rows_full : (c : Card) → (2 ^ (layout_of c).packages ≡ 256 ^ (layout_of c).width) × (2 ^ (layout_of c).services ≡ 256 ^ (layout_of c).width) × (0 < (layout_of c).methods)
    rows_full Small = (refl, refl, omega arith)
    rows_full Large = (refl, refl, omega arith)

old_full : Full narrow
old_full = record { ok = narrow_ok; packages_full = refl; services_full = refl; services_low = omega arith; some_methods = omega arith }

module _ (L : Layout) (lf : Full L) (l : List ℕ) (bytes : Bytes l) where
  abbrev sized : Bool
  sized = eqb (length l) (size L)

  abbrev headed : Bool
  headed = eq_bytes (take 3 l) L.header

  abbrev unmets : Bool
  unmets = list_ok L l L.early UnmetCalls

  abbrev waitings : Bool
  waitings = list_ok L l L.early WaitingGrants

  checked_sound : T (check_ok L l) → T (sound L l)
  unfolding check_by sound
  checked_sound ok =
      let z = and_l sized (headed && packages_ok L l && lines_ok L l && unmets && waitings) ok in
      let o = and_r sized (headed && packages_ok L l && lines_ok L l && unmets && waitings) ok in
      let a = and_l (headed && packages_ok L l && lines_ok L l && unmets) waitings o in
      let w = and_r (headed && packages_ok L l && lines_ok L l && unmets) waitings o in
      let b = and_l (headed && packages_ok L l && lines_ok L l) unmets a in
      let u = and_r (headed && packages_ok L l && lines_ok L l) unmets a in
      let c = and_l (headed && packages_ok L l) (lines_ok L l) b in
      let i = and_r (headed && packages_ok L l) (lines_ok L l) b in
      let h = and_l headed (packages_ok L l) c in
      let p = and_r headed (packages_ok L l) c in
      let len = eqb→eq (length l) (size L) z in
      let t = decode L l in
      and_i (sized && headed) (eq_bytes (encode L t) l && sound_tables L t) (and_i sized headed z h)
      (and_i (eq_bytes (encode L t) l) (sound_tables L t)
      (eq_aid_of (encode_back L lf l bytes len (eq_bytes→ (take 3 l) L.header h) (check_parts L lf l bytes len p i u w)))
      (sound_tables_lem L t (check_formed L lf l bytes len p i u w) (check_ruled L lf l bytes len p i u w) (check_lawful L lf l bytes len p i u w) (check_fitting L lf l bytes len p i u w)))

  sound_checked : T (sound L l) → T (check_ok L l)
  unfolding check_by sound
  sound_checked ok =
      let t = decode L l in
      let d = and_l (sized && headed) (eq_bytes (encode L t) l && sound_tables L t) ok in
      let e = and_l (eq_bytes (encode L t) l) (sound_tables L t) (and_r (sized && headed) (eq_bytes (encode L t) l && sound_tables L t) ok) in
      let z = and_l sized headed d in
      let len = eqb→eq (length l) (size L) z in
      let fo = sound_formed L l ok in
      let fi = sound_fitting L l ok in
      let ru = sound_ruled L l ok in
      let room = formed_room L t fo ru fi in
      let parts : Parts L lf l bytes len = encode_parts L lf l bytes len (eq_bytes→ (encode L t) l e) (λ i p. length_aid (t.aid i) (room.aid_short i))
      (length_unmets L lf.ok t room) in
      let p = passes L lf l bytes len fo ru (sound_lawful L l ok) fi parts in
      and_i sized (headed && packages_ok L l && lines_ok L l && unmets && waitings) z
      (and_i (headed && packages_ok L l && lines_ok L l && unmets) waitings (and_i (headed && packages_ok L l && lines_ok L l) unmets
      (and_i (headed && packages_ok L l) (lines_ok L l) (and_i headed (packages_ok L l) (and_r sized headed d) p.0) p.1) p.2) p.3)

  check_is_sound : check_ok L l ≡ sound L l
  check_is_sound = T_eq (check_ok L l) (sound L l) checked_sound sound_checked

-- what the code's check says of an image of a card in force, and of one of version 01: there all but the length, the first bytes and the rules is as on the small card
pub sound_of : (c : Card) (l : List ℕ) → Bytes l → {n : ℕ} {h : List ℕ} {r : Bool} → n ≡ size (layout_of c) → h ≡ (layout_of c).header → r ≡ sized_ok (layout_of c) l n h true → r ≡ sound (layout_of c) l
sound_of c l bytes p q e = e ∙ (λ i. sized_ok (layout_of c) l (p i) (q i) (sym (early c) i)) ∙ check_is_sound (layout_of c) (full c) l bytes

old_check : (l : List ℕ) → sized_ok small l (size narrow) narrow.header false ≡ check_ok narrow l
unfolding check_by packages_ok package_ok number_at methods_ok toks_ok tok_ok new_tok blank_ok lines_ok line_ok list_ok row_ok token_row_ok number_row_ok
old_check l = refl

pub old_sound_of : (l : List ℕ) → Bytes l → {n : ℕ} {h : List ℕ} {r : Bool} → n ≡ size narrow → h ≡ narrow.header → r ≡ sized_ok small l n h false → r ≡ sound narrow l
old_sound_of l bytes p q e = e ∙ (λ i. sized_ok small l (p i) (q i) false) ∙ old_check l ∙ check_is_sound narrow old_full l bytes

-- ---- how many package numbers are used
pub used_count : (c : Card) (l : List ℕ) → Bytes l → length l ≡ size (layout_of c) → {row r : ℕ} → row ≡ used_row (layout_of c) l → r ≡ length (keep (bit row) (upto 16))
    → r ≡ length (used_numbers (layout_of c) (decode (layout_of c) l))
used_count c l bytes len {row} {r} e q =
    let L = layout_of c in
    let n = (layout_of c).packages in
    let h : used_row L l < 2 ^ n = row_lt L n (full c).packages_full (part_at l (used_at L) L.width) (part_length l (used_at L) L.width (let i = (limits c).used_in in omega arith)) (part_bytes l bytes (used_at L) L.width) in
    q ∙ ap (λ (x : ℕ). length (keep (bit x) (upto 16))) e
    ∙ ap length (keep_row n 16 (used_row L l) (limits c).packages_low h ∙ keep_ext _ _ (upto n) (λ i m. sym (used_is L (full c) l bytes len i (upto_in n m))))
