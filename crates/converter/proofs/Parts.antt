-- A sound image part by part: each part of its bytes is what is written of its tables. Assumes nothing.
use Prim.Native.Nat.{ℕ, ◌+◌, ◌*◌}
use mathlib.Core.Path.{◌≡◌}
use mathlib.Core.List.{List}
use lib.Dec.{T}
use lib.ListN.{drop}
use Rattle.policy.specs.Lists.{flat, upto}
use Rattle.policy.specs.Layout.{Layout, LayoutOk, aid_size, unmet_size, waiting_size, used_at, aids_at, tokens_at, provides_at, calls_at, grants_at, needs_at, unmet_at, waiting_at}
use Rattle.policy.specs.Tables.{Tables, write_aid, write_tok, write_unmet, write_waiting, write_list, write_bits, write_table, decode, encode}
use Rattle.policy.specs.Room.{Room}
use Rattle.policy.specs.Sound.{sound}
use Rattle.policy.proofs.Bits.{length_bits, write_line, length_line, length_lines}
use Rattle.policy.proofs.RoundTrip.{formed_room, length_aids, length_tokens, length_unmets}
use Rattle.policy.proofs.SoundFacts.{sound_written, sound_formed, sound_ruled, sound_fitting}
use Rattle.rows.specs.Area.{part}
use Rattle.soundness.proofs.Encoded.{split}

pub record Parts (L : Layout) (t : Tables) (img : List ℕ) : Type 0 where
  pub used : write_bits L L.packages t.used ≡ part (used_at L) L.width img
  pub aids : flat (λ i. write_aid (t.aid i)) (upto L.packages) ≡ part (aids_at L) (L.packages * aid_size) img
  pub tokens : flat (λ j. flat (λ k. write_tok (t.tok j k)) (upto L.services)) (upto L.packages) ≡ part (tokens_at L) (L.packages * (L.services * 2)) img
  pub provides : write_line L t.provides ≡ part (provides_at L) (L.packages * L.width) img
  pub calls : write_table L t.calls ≡ part (calls_at L) (L.packages * (L.packages * L.width)) img
  pub grants : write_table L t.grants ≡ part (grants_at L) (L.packages * (L.packages * L.width)) img
  pub needs : write_table L t.needs ≡ part (needs_at L) (L.packages * (L.packages * L.width)) img
  pub unmet : write_list L write_unmet unmet_size t.unmet ≡ part (unmet_at L) (1 + L.capacity * unmet_size) img
  pub waiting : write_list L (write_waiting L t.provides t.tok) (waiting_size L) t.waiting ≡ drop (waiting_at L) img

module _ (L : Layout) (lo : LayoutOk L) (img : List ℕ) (ok : T (sound L img)) where
  abbrev t : Tables
  t = decode L img

  pub room : Room L (decode L img)
  room = formed_room L t (sound_formed L img ok) (sound_ruled L img ok) (sound_fitting L img ok)

  pub parts : Parts L (decode L img) img
  unfolding encode
  parts =
      let p1 = split img L.header _ 0 3 lo.header_size (sound_written L img ok) in
      let p2 = split img (write_bits L L.packages t.used) _ (used_at L) L.width (length_bits L L.packages t.used) p1.1 in
      let p3 = split img _ _ (aids_at L) _ (length_aids L lo t room) p2.1 in
      let p4 = split img _ _ (tokens_at L) _ (length_tokens L lo t room) p3.1 in
      let p5 = split img _ _ (provides_at L) _ (length_line L t.provides) p4.1 in
      let p6 = split img _ _ (calls_at L) _ (length_lines L t.calls) p5.1 in
      let p7 = split img _ _ (grants_at L) _ (length_lines L t.grants) p6.1 in
      let p8 = split img _ _ (needs_at L) _ (length_lines L t.needs) p7.1 in
      let p9 = split img _ _ (unmet_at L) _ (length_unmets L lo t room) p8.1 in
      record {
        used = p2.0;
        aids = p3.0;
        tokens = p4.0;
        provides = p5.0;
        calls = p6.0;
        grants = p7.0;
        needs = p8.0;
        unmet = p9.0;
        waiting = p9.1;
      }
