-- Tables that an image has room for are read back as they were written, for any layout that is ok; and the empty image is that of no package.
use Prim.Native.Nat.{ℕ, ◌+◌, ◌*◌, ◌-◌, ◌≤◌, ◌<◌, zero-le}
use native.Mathlib.Omega.{arith}
use native.Mathlib.Nat.{not-le_of_lt}
use mathlib.Core.Path.{◌≡◌, refl, sym, ap, ◌∙◌, subst}
use mathlib.Core.Logic.{◌⊎◌, inl, inr}
use mathlib.Core.Bool.{Bool, false, ◌&&◌}
use mathlib.Core.Option.{Option, none, some}
use mathlib.Core.List.{List, [], ◌++◌, map, append_assoc, append-nil}
use mathlib.Core.List.Memᴰ.{not-nil as in_nil}
use mathlib.Core.List.{Memᴰ as In}
use lib.Dec.{T}
use lib.ListN.{length, get_or, take, drop, replicate, length-append}
use lib.Seq.{take_at, drop_at, drop-drop}
use Rattle.policy.specs.Lists.{flat, upto, first, or_else}
use Rattle.policy.specs.Contract.{Aid, Tok, eq_tok}
use Rattle.policy.specs.Layout.{Layout, LayoutOk, aid_size, unmet_size, waiting_size, used_at, aids_at, tokens_at, provides_at, calls_at, grants_at, needs_at, unmet_at, waiting_at, size}
use Rattle.policy.specs.Tables.{Tables, Waiting, no_tok, pieces, read_aid, write_aid, read_tok, write_tok, read_unmet, write_unmet, number_with, read_waiting, write_waiting, read_list, write_list, bit_of, write_bits}
use Rattle.policy.specs.Tables.{write_table, decode, encode, empty_image}
use Rattle.policy.proofs.Sets.{and_r, and_i, test, Found, found, in_upto}
use Rattle.policy.proofs.Equal.{eq_tok→, eq_tok_of}
use Rattle.policy.proofs.Pieces.{in_or_off, length_table, piece_at, piece_only, read_at, read_off, length_list, read_list_lem, valid_short, length_aid, read_aid_lem, length_unmet, read_unmet_lem}
use Rattle.policy.proofs.Pieces.{length_waiting, read_waiting_lem, Zeros, zeros_append, zeros_flat, zeros_list}
use Rattle.policy.proofs.Bits.{length_bits, read_bits, zeros_bits, write_line, length_line, length_lines, read_line, read_lines}
use Rattle.policy.specs.Room.{Room}
use Rattle.policy.proofs.Formed.{Formed, Ruled, Fitting}
use Rattle.policy.proofs.Facts.{no_rows, place_in, bit_in, need_bits}

-- the next part of an image, after one of b bytes
past : (img p rest : List ℕ) (a b : ℕ) → length p ≡ b → drop a img ≡ p ++ rest → drop (a + b) img ≡ rest
past img p rest a b e q = sym (drop-drop b a img) ∙ ap (drop b) q ∙ drop_at p rest b e

-- the length of a part and what follows
long : (p rest : List ℕ) {a b : ℕ} → length p ≡ a → length rest ≡ b → length (p ++ rest) ≡ a + b
long p rest e q = length-append p rest ∙ λ i. e i + q i

pub in_not_off : {j k n m : ℕ} → (j < n) × (k < m) → (n ≤ j) ⊎ (m ≤ k) → ⊥
in_not_off h (inl p) = not-le_of_lt h.0 p
in_not_off h (inr p) = not-le_of_lt h.1 p

-- what is formed, within the rules and fits, is in range
pub formed_room : (L : Layout) (t : Tables) → Formed L t → Ruled L t → Fitting L t → Room L t
formed_room L t fo ru fi = record {
  used_in = fo.names.used_lt;
  aid_short = λ i. short i (test (t.used i));
  aid_off = λ i p. fo.names.aid_blank i (λ u. not-le_of_lt (fo.names.used_lt i u) p);
  tok_off = λ j k p. fo.names.tok_blank j k (λ s. in_not_off (place_in L t fo.names j k s) p);
  provides_in = place_in L t fo.names;
  calls_in = bit_in L t fo.names fo.calls;
  grants_in = λ j i k s. let p = bit_in L t fo.names fo.grants i j k s in (p.1, p.0, p.2);
  needs_in = bit_in L t fo.names (need_bits L t fo);
  unmet_fits = fi.unmet_fits;
  unmet_short = λ u i. valid_short u.callee (fo.unmet.unmet_valid u i);
  waiting_fits = fi.waiting_fits;
  waiting_short = λ v i. valid_short v.caller (fo.waiting.wait_valid v i);
  waiting_own = ru.own;
}
  where
    short : (i : ℕ) → T (t.used i) ⊎ (T (t.used i) → ⊥) → length (t.aid i) ≤ 16
    short i (inl u) = valid_short (t.aid i) (fo.names.aid_valid i u)
    short i (inr f) = subst (λ (z : Aid). length z ≤ 16) (sym (fo.names.aid_blank i f)) zero-le

-- ---- all that stands between the header and the waiting grants
module _ (L : Layout) (t : Tables) where
  abbrev lists : List ℕ
  lists = write_list L write_unmet unmet_size t.unmet

  abbrev waits : List ℕ
  waits = write_list L (write_waiting L t.provides t.tok) (waiting_size L) t.waiting

  unfoldable pub front : List ℕ
  front =
      write_bits L L.packages t.used
      ++ (flat (λ i. write_aid (t.aid i)) (upto L.packages)
      ++ (flat (λ j. flat (λ k. write_tok (t.tok j k)) (upto L.services)) (upto L.packages)
      ++ (write_line L t.provides ++ (write_table L t.calls ++ (write_table L t.grants ++ (write_table L t.needs ++ lists))))))

  pub front_encode : encode L t ≡ L.header ++ (front ++ waits)
  unfolding encode front
  front_encode = ap (λ (z : List ℕ). L.header ++ z) (sym
      (behind (write_bits L L.packages t.used) _ (behind (flat (λ i. write_aid (t.aid i)) (upto L.packages)) _
      (behind (flat (λ j. flat (λ k. write_tok (t.tok j k)) (upto L.services)) (upto L.packages)) _
      (behind (write_line L t.provides) _ (behind (write_table L t.calls) _ (behind (write_table L t.grants) _ (append_assoc (write_table L t.needs) lists waits))))))))
    where
      behind : (a b : List ℕ) {c : List ℕ} → b ++ waits ≡ c → (a ++ b) ++ waits ≡ a ++ c
      behind a b e = append_assoc a b waits ∙ ap (λ (z : List ℕ). a ++ z) e

module _ (L : Layout) (lo : LayoutOk L) where
  abbrev n : ℕ
  n = L.packages

  abbrev m : ℕ
  m = L.services

  abbrev w : ℕ
  w = L.width

  pub header_encode : (t : Tables) → take 3 (encode L t) ≡ L.header
  unfolding encode
  header_encode t = take_at L.header _ 3 lo.header_size

  module _ (t : Tables) (room : Room L t) where
    -- ---- the parts, and what stands after each
    abbrev aids : List ℕ
    aids = flat (λ i. write_aid (t.aid i)) (upto n)

    abbrev tokens : ℕ → List ℕ
    tokens j = flat (λ k. write_tok (t.tok j k)) (upto m)

    abbrev from_waiting : List ℕ
    from_waiting = write_list L (write_waiting L t.provides t.tok) (waiting_size L) t.waiting

    abbrev from_unmet : List ℕ
    from_unmet = write_list L write_unmet unmet_size t.unmet ++ from_waiting

    abbrev from_needs : List ℕ
    from_needs = write_table L t.needs ++ from_unmet

    abbrev from_grants : List ℕ
    from_grants = write_table L t.grants ++ from_needs

    abbrev from_calls : List ℕ
    from_calls = write_table L t.calls ++ from_grants

    abbrev from_provides : List ℕ
    from_provides = write_line L t.provides ++ from_calls

    abbrev from_tokens : List ℕ
    from_tokens = flat tokens (upto n) ++ from_provides

    abbrev from_aids : List ℕ
    from_aids = aids ++ from_tokens

    abbrev from_used : List ℕ
    from_used = write_bits L n t.used ++ from_aids

    abbrev img : List ℕ
    img = L.header ++ from_used

    pub length_aids : length aids ≡ n * aid_size
    length_aids = length_table (λ i. write_aid (t.aid i)) aid_size n (λ i p. length_aid (t.aid i) (room.aid_short i))

    length_line_tokens : (j : ℕ) → j < n → length (tokens j) ≡ m * 2
    length_line_tokens j p = length_table (λ k. write_tok (t.tok j k)) 2 m (λ k q. refl)

    pub length_tokens : length (flat tokens (upto n)) ≡ n * (m * 2)
    length_tokens = length_table tokens (m * 2) n length_line_tokens

    pub length_unmets : length (write_list L write_unmet unmet_size t.unmet) ≡ 1 + L.capacity * unmet_size
    length_unmets = length_list L write_unmet unmet_size t.unmet (λ u i. length_unmet u (room.unmet_short u i)) room.unmet_fits

    pub length_waitings : length from_waiting ≡ 1 + L.capacity * waiting_size L
    length_waitings = length_list L (write_waiting L t.provides t.tok) (waiting_size L) t.waiting
        (λ v i. length_waiting L t.provides t.tok v (room.waiting_short v i)) room.waiting_fits

    -- a waiting grant's service has a number, where the image holds that number
    numbered : (v : Waiting) → In v t.waiting → (T L.early → ⊥) → t.tok v.callee (number_with L (t.provides v.callee) (t.tok v.callee) v.tok) ≡ v.tok
    numbered v i late = go (first test' (upto m)) (found test' (upto m))
      where
        test' : ℕ → Bool
        test' k = t.provides v.callee k && eq_tok (t.tok v.callee k) v.tok

        go : (o : Option ℕ) → Found (λ k. t.provides v.callee k && eq_tok (t.tok v.callee k) v.tok) (upto m) o → t.tok v.callee (or_else o 0 (λ k. k)) ≡ v.tok
        go none h =
            let p = room.waiting_own late v i in
            absurd (h p.0 (in_upto m p.0 (room.provides_in v.callee p.0 p.1).1) (and_i (t.provides v.callee p.0) (eq_tok (t.tok v.callee p.0) v.tok) p.1 (eq_tok_of p.2)))
        go (some k) h = eq_tok→ (t.tok v.callee k) v.tok (and_r (t.provides v.callee k) (eq_tok (t.tok v.callee k) v.tok) h.1)

    pub length_front : length (front L t) ≡ waiting_at L - 3
    unfolding front
    length_front =
        long (write_bits L n t.used) _ (length_bits L n t.used) (long aids _ length_aids (long (flat tokens (upto n)) _ length_tokens
        (long (write_line L t.provides) _ (length_line L t.provides) (long (write_table L t.calls) _ (length_lines L t.calls)
        (long (write_table L t.grants) _ (length_lines L t.grants) (long (write_table L t.needs) _ (length_lines L t.needs) length_unmets))))))
        ∙ omega arith

    pub length_encode : length (encode L t) ≡ size L
    unfolding encode
    length_encode =
        long L.header from_used lo.header_size (long (write_bits L n t.used) from_aids (length_bits L n t.used) (long aids from_tokens length_aids
        (long (flat tokens (upto n)) from_provides length_tokens (long (write_line L t.provides) from_calls (length_line L t.provides)
        (long (write_table L t.calls) from_grants (length_lines L t.calls) (long (write_table L t.grants) from_needs (length_lines L t.grants)
        (long (write_table L t.needs) from_unmet (length_lines L t.needs) (long (write_list L write_unmet unmet_size t.unmet) from_waiting length_unmets length_waitings))))))))
        ∙ omega arith

    -- ---- each part is where it is read
    at_used : drop (used_at L) img ≡ from_used
    at_used = drop_at L.header from_used 3 lo.header_size

    at_aids : drop (aids_at L) img ≡ from_aids
    at_aids = past img (write_bits L n t.used) from_aids (used_at L) w (length_bits L n t.used) at_used

    at_tokens : drop (tokens_at L) img ≡ from_tokens
    at_tokens = past img aids from_tokens (aids_at L) (n * aid_size) length_aids at_aids

    at_provides : drop (provides_at L) img ≡ from_provides
    at_provides = past img (flat tokens (upto n)) from_provides (tokens_at L) (n * (m * 2)) length_tokens at_tokens

    at_calls : drop (calls_at L) img ≡ from_calls
    at_calls = past img (write_line L t.provides) from_calls (provides_at L) (n * w) (length_line L t.provides) at_provides

    at_grants : drop (grants_at L) img ≡ from_grants
    at_grants = past img (write_table L t.calls) from_grants (calls_at L) (n * (n * w)) (length_lines L t.calls) at_calls

    at_needs : drop (needs_at L) img ≡ from_needs
    at_needs = past img (write_table L t.grants) from_needs (grants_at L) (n * (n * w)) (length_lines L t.grants) at_grants

    at_unmet : drop (unmet_at L) img ≡ from_unmet
    at_unmet = past img (write_table L t.needs) from_unmet (needs_at L) (n * (n * w)) (length_lines L t.needs) at_needs

    at_waiting : drop (waiting_at L) img ≡ from_waiting
    at_waiting = past img (write_list L write_unmet unmet_size t.unmet) from_waiting (unmet_at L) (1 + L.capacity * unmet_size) length_unmets at_unmet

    -- ---- and is read as it was
    read_used : (i : ℕ) → bit_of L n (take w (drop (used_at L) img)) i ≡ t.used i
    read_used i =
        ap (λ (z : List ℕ). bit_of L n z i) (ap (take w) at_used ∙ take_at (write_bits L n t.used) from_aids w (length_bits L n t.used))
        ∙ read_bits L n t.used lo.packages_fit room.used_in i

    read_aids : (i : ℕ) → get_or (map read_aid (pieces aid_size n (drop (aids_at L) img))) i [] ≡ t.aid i
    read_aids i = go (in_or_off i n)
      where
        bs : List ℕ
        bs = drop (aids_at L) img

        go : (i < n) ⊎ (n ≤ i) → get_or (map read_aid (pieces aid_size n bs)) i [] ≡ t.aid i
        go (inl p) =
            read_at aid_size n bs read_aid [] i p
            ∙ ap read_aid (piece_at (λ i. write_aid (t.aid i)) aid_size n (λ i p. length_aid (t.aid i) (room.aid_short i)) bs from_tokens at_aids i p) ∙ read_aid_lem (t.aid i)
        go (inr p) = read_off aid_size n bs read_aid [] i p ∙ sym (room.aid_off i p)

    abbrev read_toks : List ℕ → List Tok
    read_toks l = map read_tok (pieces 2 m l)

    read_tokens : (j k : ℕ) → get_or (get_or (map read_toks (pieces (m * 2) n (drop (tokens_at L) img))) j []) k no_tok ≡ t.tok j k
    read_tokens j k = go (in_or_off j n) (in_or_off k m)
      where
        bs : List ℕ
        bs = drop (tokens_at L) img

        line_at : j < n → get_or (map read_toks (pieces (m * 2) n bs)) j [] ≡ read_toks (tokens j)
        line_at p = read_at (m * 2) n bs read_toks [] j p ∙ ap read_toks (piece_at tokens (m * 2) n length_line_tokens bs from_provides at_tokens j p)

        go : (j < n) ⊎ (n ≤ j) → (k < m) ⊎ (m ≤ k) → get_or (get_or (map read_toks (pieces (m * 2) n bs)) j []) k no_tok ≡ t.tok j k
        go (inl p) (inl q) =
            ap (λ (z : List Tok). get_or z k no_tok) (line_at p) ∙ read_at 2 m (tokens j) read_tok no_tok k q
            ∙ ap read_tok (piece_only (λ k. write_tok (t.tok j k)) 2 m (λ k q. refl) k q)
        go (inl p) (inr q) = ap (λ (z : List Tok). get_or z k no_tok) (line_at p) ∙ read_off 2 m (tokens j) read_tok no_tok k q ∙ sym (room.tok_off j k (inr q))
        go (inr p) _ = ap (λ (z : List Tok). get_or z k no_tok) (read_off (m * 2) n bs read_toks [] j p) ∙ sym (room.tok_off j k (inl p))

    pub round_trip : decode L (encode L t) ≡ t
    unfolding decode encode
    round_trip = λ z. record {
      used = λ i. read_used i z;
      aid = λ i. read_aids i z;
      tok = λ j k. read_tokens j k z;
      provides = λ j k. read_line L lo t.provides room.provides_in (drop (provides_at L) img) from_calls at_provides j k z;
      calls = λ i j k. read_lines L lo t.calls room.calls_in (drop (calls_at L) img) from_grants at_calls i j k z;
      grants = λ j i k. read_lines L lo t.grants room.grants_in (drop (grants_at L) img) from_needs at_grants j i k z;
      needs = λ i j k. read_lines L lo t.needs room.needs_in (drop (needs_at L) img) from_unmet at_needs i j k z;
      unmet = read_list_lem L write_unmet unmet_size t.unmet (λ u i. length_unmet u (room.unmet_short u i)) read_unmet (λ u i. read_unmet_lem u (room.unmet_short u i)) (drop (unmet_at L) img) from_waiting at_unmet z;
      waiting = (ap (λ (x : ℕ → ℕ → Tok). read_list (read_waiting L x) (waiting_size L) (drop (waiting_at L) img)) (λ y j k. read_tokens j k y)
          ∙ read_list_lem L (write_waiting L t.provides t.tok) (waiting_size L) t.waiting (λ v i. length_waiting L t.provides t.tok v (room.waiting_short v i))
          (read_waiting L t.tok) (λ v i. read_waiting_lem L t.provides t.tok v (room.waiting_short v i) (numbered v i))
          (drop (waiting_at L) img) [] (at_waiting ∙ sym (append-nil from_waiting))) z;
    }

-- ---- no package
abbrev pub empty_tables : Tables
empty_tables = record {
  used = λ n. false;
  aid = λ n. [];
  tok = λ j k. no_tok;
  provides = λ j k. false;
  calls = λ i j k. false;
  grants = λ j i k. false;
  needs = λ i j k. false;
  unmet = [];
  waiting = [];
}

pub empty_formed : (L : Layout) → Formed L empty_tables
empty_formed L = record {
  names = record {
    used_lt = λ n u. absurd u;
    prov_lt = λ j k s. absurd s;
    prov_used = λ j k s. s;
    aid_valid = λ n u. absurd u;
    aid_blank = λ n f. refl;
    tok_blank = λ j k f. refl;
    aid_inj = λ i j u v e. absurd u;
    tok_inj = λ j k l s p e. absurd s;
  };
  calls = record { by_used = λ i j k s. s; of_prov = λ i j k s. s; other = λ i j k s e. s };
  grants = record { by_used = λ i j k s. s; of_prov = λ i j k s. s; other = λ i j k s e. s };
  need_call = λ i j k s. s;
  unmet = record {
    off = no_rows empty_tables;
    unmet_valid = λ u i. absurd (in_nil i);
    unmet_other = λ u i e. in_nil i;
    unmet_once = tt;
  };
  waiting = record
      { wait_valid = λ v i. absurd (in_nil i); wait_used = λ v i. absurd (in_nil i); wait_other = λ v i e. in_nil i; wait_off = λ v i n k u e p f. u; wait_once = tt };
}

pub empty_ruled : (L : Layout) → Ruled L empty_tables
empty_ruled L = record
    { provided = λ j k s. absurd s; unmet = λ u i. absurd (in_nil i); waiting = λ w i. absurd (in_nil i); own = λ late w i. absurd (in_nil i) }

pub empty_fitting : (L : Layout) → Fitting L empty_tables
empty_fitting L = record { unmet_fits = zero-le; waiting_fits = zero-le }

-- zeros after a header, by the length of both
zeros_after : (h rest : List ℕ) (k : ℕ) → length h ≡ 3 → length (h ++ rest) ≡ k → Zeros rest → h ++ rest ≡ h ++ replicate (k - 3) 0
zeros_after h rest k e q z =
    let d : length rest ≡ k - 3 = omega (arith, length-append h rest) in
    ap (λ (l : List ℕ). h ++ l) (z ∙ ap (λ (c : ℕ). replicate c 0) d)

pub empty_encode : (L : Layout) → LayoutOk L → encode L empty_tables ≡ empty_image L
unfolding encode empty_image
empty_encode L lo =
    let each : (f : ℕ → List ℕ) → ((i : ℕ) → Zeros (f i)) → Zeros (flat f (upto L.packages)) = λ f. zeros_flat f (upto L.packages) in
    let line : Zeros (write_line L (λ j k. false)) = each _ (λ j. zeros_bits L L.services) in
    let table : Zeros (write_table L (λ i j k. false)) = each _ (λ i. line) in
    zeros_after L.header _ (size L) lo.header_size (length_encode L lo empty_tables (formed_room L empty_tables (empty_formed L) (empty_ruled L) (empty_fitting L)))
    (zeros_append (zeros_bits L L.packages) (zeros_append (each (λ i. write_aid []) (λ i. refl))
    (zeros_append (each (λ j. flat (λ k. write_tok no_tok) (upto L.services)) (λ j. zeros_flat (λ k. write_tok no_tok) (upto L.services) (λ k. refl)))
    (zeros_append line (zeros_append table (zeros_append table (zeros_append table (zeros_append (zeros_list L write_unmet unmet_size) (zeros_list L (write_waiting L (λ j k. false) (λ j k. no_tok)) (waiting_size L))))))))))
