-- What code reads in a laid image of a card, in the form in which the needs ask it: `search seen`.
use Prim.Native.Nat.{ℕ, ◌+◌, ◌*◌, ◌-◌, ◌≤◌, ◌<◌}
use native.Mathlib.Omega.{arith}
use mathlib.Core.Path.{◌≡◌, sym, ap, ap₂, ◌∙◌}
use mathlib.Core.Bool.{Bool, true, false, not, ◌&&◌, and-true, and-false}
use mathlib.Core.Option.{Option}
use mathlib.Core.List.{List, [], ◌∷◌, ◌++◌}
use lib.ListN.{length, get_or, take, drop, length-take, length-drop, replicate, get_or-replicate, get_or-append}
use lib.Seq.{get_or-drop, get_or-append-add}
use lib.Dec.{ltb}
use borrow.Author.Tests.{not-true, not-false}
use Rattle.std.specs.Prelude.{Option as Answer}
use Rattle.std.specs.Bool.{then_some}
use Rattle.policy.specs.Lists.{eq_bytes, first, upto, or_else}
use Rattle.policy.specs.Contract.{Aid, eq_aid, Tok, eq_tok}
use Rattle.policy.specs.Layout.{size}
use Rattle.policy.specs.Tables.{read_number, write_aid, row_of, bit, decode}
use Rattle.policy.specs.Lookup.{number_of, service_of, free_number, free_service}
use Rattle.policy.proofs.Sets.{T_false, upto_in}
use Rattle.policy.proofs.Equal.{eq_aid→}
use Rattle.policy.proofs.Bits.{row_of_lt, bit_row_of}
use Rattle.bits.proofs.Loops.{first_ext}
use Rattle.bits.proofs.Row.{lowest_row}
use Rattle.rows.specs.Area.{part}
use Rattle.rows.proofs.Over.{length_part, get_d_part}
use Rattle.geometry.specs.declared.Card.{Card}
use Rattle.geometry.specs.declared.Table.{Table}
use Rattle.geometry.specs.declared.Tokens.{Tokens}
use Rattle.geometry.specs.Geometry.{layout_of, aid_at, tok_at, prov_at, entry_at, tok_of}
use Rattle.geometry.proofs.Bounds.{layout_ok, early, limits, front_in, token_row, geo}
use Rattle.image.specs.Laid.{Laid, table_of}
use Rattle.image.specs.Read.{found, last_of, aid_in, tokens_in, aid_held, tokens_held}
use Rattle.image.proofs.Laid.{laid_length}
use Rattle.image.proofs.LaidImage.{is_laid}
use Rattle.image.proofs.Finds.{first_below, number_below}
use Rattle.image.proofs.Access.{used_number, provides_number, entry_number, aid_length, aid_bytes_lem, aid_slot, tok_itf, tok_mth}

-- ---- an AID's place
module _ (img aid : List ℕ) (at : ℕ) (room : at + 17 ≤ length img) (low : get_or img at 0 ≤ 16) where
  place_length : length (aid_in img at) ≡ get_or img at 0
  place_length = simp (length-take, length-drop) (omega arith)

  pub aid_other : (get_or img at 0 ≡ length aid → ⊥) → false ≡ eq_aid (aid_in img at) aid
  aid_other ne = sym (T_false (eq_aid (aid_in img at) aid) (λ t. ne (sym place_length ∙ ap length (eq_aid→ (aid_in img at) aid t))))

  pub aid_long : 16 < length aid → false ≡ eq_aid (aid_in img at) aid
  aid_long h = aid_other (λ e. omega arith)

  -- byte n of the place is byte n - 1 of its AID, of n bytes
  pub aid_last : (last : ℕ) → last ≡ last_of aid → (get_or img (at + length aid) 0 ≡ last → ⊥) → false ≡ eq_aid (aid_in img at) aid
  aid_last last e ne = sym (T_false (eq_aid (aid_in img at) aid) (λ t. ne (go aid (eq_aid→ (aid_in img at) aid t) ∙ sym e)))
    where
      go : (a : Aid) → aid_in img at ≡ a → get_or img (at + length a) 0 ≡ last_of a
      go [] p = let n = sym place_length ∙ ap length p in let z : at + 0 ≡ at = omega arith in ap (λ (x : ℕ). get_or img x 0) z ∙ n
      go (x ∷ a) p =
          let n = sym place_length ∙ ap length p in
          let b : at + length (x ∷ a) ≡ at + 1 + length a = omega arith in
          ap (λ (y : ℕ). get_or img y 0) b ∙ sym (get_d_part (at + 1) (get_or img at 0) img (length a) (omega (arith, n))) ∙ ap (λ (z : Aid). get_or z (length a) 0) p

  -- its length is the AID's, and r compares the bytes
  pub aid_same : get_or img at 0 ≡ length aid → (r : Bool) → r ≡ eq_bytes (part (at + 1) (length aid) img) aid → r ≡ eq_aid (aid_in img at) aid
  aid_same long r p = p ∙ ap (λ (n : ℕ). eq_bytes (take n (drop (at + 1) img)) aid) (sym long)

-- the AID that a place holds, where its length and its bytes are those of a
pub aid_held_lem : (img : List ℕ) (at : ℕ) (a : Aid) → get_or img at 0 ≡ length a → take (length a) (drop (at + 1) img) ≡ a → aid_in img at ≡ a
aid_held_lem img at a p q = ap (λ (n : ℕ). take n (drop (at + 1) img)) p ∙ q

-- ---- the lowest number whose bit is clear, if it is below n
lowest : (n : ℕ) (f : ℕ → Bool) (row r : ℕ) → n ≤ 16 → row ≡ row_of n f → r ≡ or_else (first (λ k. not (bit row k)) (upto 16)) 16 (λ k. k)
    → then_some (ltb r n) r ≡ found (first (λ k. not (f k)) (upto n))
lowest n f row r l e q =
    number_below n (first (λ k. not (f k)) (upto n)) (first_below (λ k. not (f k)) n)
    (q ∙ ap (λ (x : ℕ). or_else (first (λ k. not (bit x k)) (upto 16)) 16 (λ k. k)) e ∙ lowest_row n 16 (row_of n f) l (row_of_lt n f)
    ∙ ap (λ (o : Option ℕ). or_else o n (λ k. k)) (first_ext (λ k. not (bit (row_of n f) k)) (λ k. not (f k)) (upto n) (λ k m. ap not (bit_row_of n f k (upto_in n m)))))

module _ (c : Card) (img : List ℕ) (h : Laid (layout_of c) img) where
  pub laid_size : length img ≡ size (layout_of c)
  laid_size = laid_length (layout_of c) (layout_ok c) h

  -- ---- rows of bits: r is the number read at a
  pub used_seen : (r : ℕ) → r ≡ read_number 0 (take (layout_of c).width (drop 3 img)) → r ≡ row_of (layout_of c).packages (decode (layout_of c) img).used
  used_seen r e = e ∙ used_number (layout_of c) (layout_ok c) (early c) h

  pub provided_seen : (j a r : ℕ) → j < (layout_of c).packages → a ≡ prov_at (layout_of c) j → r ≡ read_number 0 (take (layout_of c).width (drop a img))
      → r ≡ row_of (layout_of c).services ((decode (layout_of c) img).provides j)
  provided_seen j a r p q e = e ∙ ap (λ (x : ℕ). read_number 0 (take (layout_of c).width (drop x img))) q ∙ provides_number (layout_of c) (layout_ok c) (early c) h j p

  pub entry_seen : (tb : Table) (i j a r : ℕ) → i < (layout_of c).packages → j < (layout_of c).packages → a ≡ entry_at (layout_of c) tb i j
      → r ≡ read_number 0 (take (layout_of c).width (drop a img)) → r ≡ row_of (layout_of c).services (table_of tb (decode (layout_of c) img) i j)
  entry_seen tb i j a r p l q e = e ∙ ap (λ (x : ℕ). read_number 0 (take (layout_of c).width (drop x img))) q ∙ entry_number (layout_of c) (layout_ok c) (early c) h tb i j p l

  -- ---- the AID of a package, in the place at a
  module _ (n a : ℕ) (p : n < (layout_of c).packages) (q : a ≡ aid_at (layout_of c) n) where
    pub aid_seen : aid_in img a ≡ (decode (layout_of c) img).aid n
    aid_seen =
        ap (aid_in img) q
        ∙ aid_held_lem img (aid_at (layout_of c) n) ((decode (layout_of c) img).aid n) (aid_length (layout_of c) (layout_ok c) (early c) h n p) (aid_bytes_lem (layout_of c) (layout_ok c) (early c) h n p)

    pub aid_short : get_or img a 0 ≤ 16
    aid_short = let e = ap (λ (x : ℕ). get_or img x 0) q ∙ aid_length (layout_of c) (layout_ok c) (early c) h n p in omega (arith, e, h.room.aid_short n)

  -- ---- the AID's place, copied
  pub place_copied : (n a : ℕ) → n < (layout_of c).packages → a ≡ aid_at (layout_of c) n → take (a + 17 - a) (drop a img) ≡ write_aid ((decode (layout_of c) img).aid n)
  place_copied n a p q =
      let k : a + 17 - a ≡ 17 = omega arith in
      ap₂ (λ (x y : ℕ). take x (drop y img)) k q ∙ aid_slot (layout_of c) (layout_ok c) (early c) h n p

  -- ---- the number n is used, and has the AID; b compares the AID, and r is the bit
  module _ (n a : ℕ) (b : Bool) (aid : List ℕ) (l : n < (layout_of c).packages) (q : a ≡ aid_at (layout_of c) n) (z : b ≡ eq_aid (aid_in img a) aid) where
    abbrev used : Bool
    used = (decode (layout_of c) img).used n

    compared : b ≡ eq_aid ((decode (layout_of c) img).aid n) aid
    compared = z ∙ ap (λ (x : Aid). eq_aid x aid) (aid_seen n a l q)

    pub unnamed : not b ≡ true → false ≡ (decode (layout_of c) img).used n && eq_aid ((decode (layout_of c) img).aid n) aid
    unnamed h = sym (and-false used) ∙ ap (λ (x : Bool). used && x) (sym (not-true b h) ∙ compared)

    pub named : (row : ℕ) (r : Bool) → not b ≡ false → row ≡ row_of (layout_of c).packages (decode (layout_of c) img).used → r ≡ bit row n
        → r ≡ (decode (layout_of c) img).used n && eq_aid ((decode (layout_of c) img).aid n) aid
    named row r h e p =
        p ∙ ap (λ (x : ℕ). bit x n) e ∙ bit_row_of (layout_of c).packages (decode (layout_of c) img).used n l ∙ sym (and-true used)
        ∙ ap (λ (x : Bool). used && x) (sym (not-false b h) ∙ compared)

  -- ---- package j provides service k, whose tokens are at a
  module _ (j k a : ℕ) (p : j < (layout_of c).packages) (l : k < (layout_of c).services) (q : a ≡ tok_at (layout_of c) j k) where
    pub tokens_seen : tokens_in img a ≡ (decode (layout_of c) img).tok j k
    tokens_seen =
        ap (tokens_in img) q
        ∙ λ i. record { itf = tok_itf (layout_of c) (layout_ok c) (early c) h j k p l i; mth = tok_mth (layout_of c) (layout_ok c) (early c) h j k p l i }

    pub tokens_read : (s : Tok) → s ≡ tokens_in img a → s ≡ (decode (layout_of c) img).tok j k
    tokens_read s e = e ∙ tokens_seen

  -- the tokens of package j's services, copied to the front of n zeros
  module _ (j a m : ℕ) (p : j < (layout_of c).packages) (q : a ≡ tok_at (layout_of c) j 0) (d : m ≡ (layout_of c).services * 2) (n : ℕ) {copied : List ℕ}
      (w : copied ≡ take (a + m - a) (drop a img)) where
    abbrev behind : List ℕ
    behind = drop m (replicate n 0)

    is : copied ≡ part a m img
    is = let z : a + m - a ≡ m = omega arith in w ∙ ap (λ (x : ℕ). take x (drop a img)) z

    long : length copied ≡ m
    long = ap length is ∙ length_part a m img (omega (arith, laid_size, (token_row c j p).inside))

    tokens_in_front : (k : ℕ) → k < (layout_of c).services → tokens_in (copied ++ behind) (k * 2) ≡ (decode (layout_of c) img).tok j k
    tokens_in_front k l =
        let here : a + k * 2 ≡ tok_at (layout_of c) j k = omega (arith, (token_row c j p).each k) in
        let byte : (i : ℕ) → i < m → get_or (copied ++ behind) i 0 ≡ get_or img (a + i) 0 = λ i lt.
        get_or-append copied behind 0 i (rw long lt) ∙ ap (λ (z : List ℕ). get_or z i 0) is ∙ get_d_part a m img i lt in
        let next : a + (k * 2 + 1) ≡ a + k * 2 + 1 = omega arith in
        (λ i. record { itf = byte (k * 2) (omega arith) i; mth = (byte (k * 2 + 1) (omega arith) ∙ ap (λ (x : ℕ). get_or img x 0) next) i })
        ∙ tokens_seen j k (a + k * 2) p l here

    zeros_at : (i r : ℕ) → length copied + r ≡ i → m + r ≡ i → i < n → get_or (copied ++ behind) i 0 ≡ 0
    zeros_at i r past from l =
        ap (λ (x : ℕ). get_or (copied ++ behind) x 0) (sym past) ∙ get_or-append-add copied behind r 0
        ∙ get_or-drop m (replicate n 0) r 0 ∙ ap (λ (x : ℕ). get_or (replicate n 0) x 0) from ∙ get_or-replicate n i 0 0 l

    zeros_behind : (i : ℕ) → (layout_of c).services * 2 ≤ i → i < n → get_or (copied ++ behind) i 0 ≡ 0
    zeros_behind i g l = zeros_at i (i - length copied) (omega (arith, long)) (omega (arith, long)) l

    pub tokens_copied : ((k : ℕ) → k < (layout_of c).services → tokens_in (copied ++ drop m (replicate n 0)) (k * 2) ≡ (decode (layout_of c) img).tok j k)
        × ((i : ℕ) → (layout_of c).services * 2 ≤ i → i < n → get_or (copied ++ drop m (replicate n 0)) i 0 ≡ 0)
    tokens_copied = (tokens_in_front, zeros_behind)

  -- ---- the package with an AID: its place is among n from a on, and row has the used numbers
  module _ (n a : ℕ) (e : n ≡ (layout_of c).packages) (q : a ≡ aid_at (layout_of c) 0) where
    place_of : (k : ℕ) → a + k * 17 ≡ aid_at (layout_of c) k
    place_of k = omega arith

    pub aids_in : (n ≤ 16) × (a + n * 17 ≤ length img) × ((k : ℕ) → k < n → get_or img (a + k * 17) 0 ≤ 16)
    aids_in = (omega (arith, limits c), omega (arith, laid_size, front_in c), λ k l. aid_short k (a + k * 17) (rw (← e) l) (place_of k))

    pub package_found : (row : ℕ) (r : Answer ℕ) (aid : Aid) → row ≡ row_of (layout_of c).packages (decode (layout_of c) img).used
        → r ≡ found (first (aid_held img a row aid) (upto n)) → r ≡ found (number_of (layout_of c) (decode (layout_of c) img) aid)
    unfolding number_of
    package_found row r aid w p =
        let t = decode (layout_of c) img in
        p ∙ ap (λ (m : ℕ). found (first (aid_held img a row aid) (upto m))) e
        ∙ ap found (first_ext (aid_held img a row aid) (λ k. t.used k && eq_aid (t.aid k) aid) (upto (layout_of c).packages) (λ k m.
        let l = upto_in (layout_of c).packages m in
        ap₂ (λ (b : Bool) (x : Aid). b && eq_aid x aid) (ap (λ (x : ℕ). bit x k) w ∙ bit_row_of (layout_of c).packages t.used k l) (aid_seen k (a + k * 17) l (place_of k))))

  -- ---- package j's service with these tokens, alike
  module _ (j n a : ℕ) (p : j < (layout_of c).packages) (e : n ≡ (layout_of c).services) (q : a ≡ tok_at (layout_of c) j 0) where
    pub tokens_in_lem : (n ≤ 16) × (a + n * 2 ≤ length img)
    tokens_in_lem = (omega (arith, limits c), omega (arith, laid_size, (token_row c j p).inside))

    pub service_found : (row : ℕ) (r : Answer ℕ) (s : Tokens) → row ≡ row_of (layout_of c).services ((decode (layout_of c) img).provides j)
        → r ≡ found (first (tokens_held img a row s) (upto n)) → r ≡ found (service_of (layout_of c) (decode (layout_of c) img) j (tok_of s))
    unfolding service_of
    service_found row r s w h =
        let t = decode (layout_of c) img in
        h ∙ ap (λ (m : ℕ). found (first (tokens_held img a row s) (upto m))) e
        ∙ ap found (first_ext (tokens_held img a row s) (λ k. t.provides j k && eq_tok (t.tok j k) (tok_of s)) (upto (layout_of c).services) (λ k m.
        let l = upto_in (layout_of c).services m in
        let at : a + k * 2 ≡ tok_at (layout_of c) j k = omega (arith, (token_row c j p).each k) in
        ap₂ (λ (b : Bool) (x : Tok). b && eq_tok x (tok_of s)) (ap (λ (x : ℕ). bit x k) w ∙ bit_row_of (layout_of c).services (t.provides j) k l) (tokens_seen j k (a + k * 2) p l at)))

  -- ---- free numbers
  pub lowest_unused : (row r m : ℕ) → row ≡ row_of (layout_of c).packages (decode (layout_of c) img).used → r ≡ or_else (first (λ k. not (bit row k)) (upto 16)) 16 (λ k. k)
      → m ≡ (layout_of c).packages → then_some (ltb r m) r ≡ found (free_number (layout_of c) (decode (layout_of c) img))
  unfolding free_number
  lowest_unused row r m e q w = ap (λ (x : ℕ). then_some (ltb r x) r) w ∙ lowest (layout_of c).packages (decode (layout_of c) img).used row r (limits c).packages_low e q

  pub lowest_unprovided : (j row r m : ℕ) → row ≡ row_of (layout_of c).services ((decode (layout_of c) img).provides j)
      → r ≡ or_else (first (λ k. not (bit row k)) (upto 16)) 16 (λ k. k) → m ≡ (layout_of c).services
      → then_some (ltb r m) r ≡ found (free_service (layout_of c) (decode (layout_of c) img) j)
  unfolding free_service
  lowest_unprovided j row r m e q w =
      ap (λ (x : ℕ). then_some (ltb r x) r) w ∙ lowest (layout_of c).services ((decode (layout_of c) img).provides j) row r (limits c).services_low e q

pub ruleset seen = (is_laid, laid_size, place_copied, used_seen, provided_seen, entry_seen, aid_other, aid_long, aid_last, aid_same, aid_short, unnamed, named, package_found, service_found, tokens_read, lowest_unused, lowest_unprovided, geo)
