-- What each write of R-9's converter leaves.
use Prim.Native.Nat.{ℕ, ◌+◌, ◌*◌, ◌-◌, ◌/◌, ◌≤◌, ◌<◌}
use native.Mathlib.Omega.{arith}
use mathlib.Core.Path.{◌≡◌, refl, sym, ap, ◌∙◌}
use mathlib.Core.List.{List, [], ◌++◌}
use borrow.Rule.Slice.PartMut.{put_mid}
use lib.Dec.{T}
use lib.ListN.{length, get_or, take, drop, replicate, length-append, length-replicate}
use Rattle.std.specs.Borrow.{Bor, MutBor}
use Rattle.policy.specs.Lists.{flat, upto}
use Rattle.policy.specs.Layout.{small, large}
use Rattle.policy.specs.Tables.{write_number}
use Rattle.policy.specs.Sound.{sound}
use Rattle.policy.specs.Eras.{carried}
use Rattle.policy.proofs.Sets.{flat_ext, upto_in}
use Rattle.policy.proofs.Pieces.{length_table, row_ends}
use Rattle.geometry.specs.Geometry.{aid_at, tok_at, prov_at, table_at, entry_at, list_at}
use Rattle.geometry.specs.declared.Table.{Table}
use Rattle.geometry.specs.declared.Table.TheVariants.{Calls, Grants, Needs}
use Rattle.geometry.specs.declared.Kept.{Kept}
use Rattle.geometry.specs.declared.Kept.TheVariants.{UnmetCalls, WaitingGrants}
use Rattle.rows.specs.Area.{part, over}
use Rattle.rows.proofs.Over.{length_over, length_part, get_d_part}
use Rattle.rows.proofs.Parts.{part_in}
use Rattle.converter.specs.Enlarged.{Puts, filled, lines_of, widened, names_of, tokens_of, all_tokens, before_tables, line_of, table_of, all_tables, list_of}
use Rattle.converter.proofs.Laid.{put_over, put_zeros, put_filled, over_next, over_third, over_whole, Laid, laid_none, laid_on, laid_all, laid_filled}
use Rattle.converter.proofs.Wider.{enlarged}

-- ---- lengths
long : (x y : List ℕ) {a b : ℕ} → length x ≡ a → length y ≡ b → length (x ++ y) ≡ a + b
long x y e q = length-append x y ∙ λ i. e i + q i

with_zeros : (x : List ℕ) {a : ℕ} (d : ℕ) → length x ≡ a → length (x ++ replicate d 0) ≡ a + d
with_zeros x d e = long x (replicate d 0) e (length-replicate d 0)

pub widened_long : (img : List ℕ) (from n : ℕ) → length (widened img from n) ≡ n * 2
widened_long img from n = length_table (λ j. write_number 2 (get_or img (from + j) 0) []) 2 n (λ j _. refl)

filled_long : (n : ℕ) (x : List ℕ) → length x ≤ n → length (filled n x) ≡ n
filled_long n x h = with_zeros x (n - length x) refl ∙ omega arith

filled_is : (k n : ℕ) (x : List ℕ) → length x ≡ k → filled (k + n) x ≡ x ++ replicate n 0
filled_is k n x e = let d : k + n - length x ≡ n = omega arith in ap (λ (i : ℕ). x ++ replicate i 0) d

-- rows of bits that are all of a list, or a part of an image
abbrev pub row_wide : List ℕ → ℕ → List ℕ
row_wide rows j = write_number 2 (get_or rows j 0) []

widened_all : (rows : List ℕ) (n : ℕ) → flat (row_wide rows) (upto n) ≡ widened rows 0 n
widened_all rows n = flat_ext (row_wide rows) (λ j. row_wide rows (0 + j)) (upto n) (λ j m. let k : j ≡ 0 + j = omega arith in ap (row_wide rows) k)

widened_part : (img : List ℕ) (from n : ℕ) → widened (part from n img) 0 n ≡ widened img from n
widened_part img from n =
    sym (widened_all (part from n img) n)
    ∙ flat_ext (row_wide (part from n img)) (λ j. row_wide img (from + j)) (upto n) (λ j m. ap (λ (b : ℕ). write_number 2 b []) (get_d_part from n img j (upto_in n m)))

-- ---- rows of bits widened in a place: the loop, and zeros to its end
pub widened_made : (rows place one zeros : List ℕ) (j : ℕ) → Laid (row_wide rows) 2 0 (length rows) place one j → length rows ≤ j
    → zeros ≡ replicate (length (take (length one - length rows * 2) (drop (length rows * 2) one))) 0
    → put_mid (length rows * 2) (length one - length rows * 2) one zeros ≡ filled (length place) (widened rows 0 (length rows))
widened_made rows place one zeros j h le p =
    let new = widened rows 0 (length rows) in
    let k : length new ≡ length rows * 2 = widened_long rows 0 (length rows) in
    let d : length one - length rows * 2 ≡ length place - length new = omega (arith, h.sized, k) in
    put_zeros (length rows * 2) (length one) one zeros (omega (arith, h.room, h.sized)) (omega arith) p
    ∙ over_next 0 new place (length rows * 2) k (length rows * 2) (replicate (length one - length rows * 2) 0) one _ (laid_all h le ∙ ap (λ (z : List ℕ). over 0 z place) (widened_all rows (length rows))) refl
    (omega (arith, h.room)) (omega arith)
    ∙ over_whole (new ++ replicate (length one - length rows * 2) 0) place (with_zeros new (length one - length rows * 2) k ∙ omega (arith, h.room, h.sized))
    ∙ ap (λ (i : ℕ). new ++ replicate i 0) d

-- ---- a part of an image copied or widened into a place of a buffer
module _ (to size n k : ℕ) (out one img : List ℕ) (from : ℕ) (inside : from + n ≤ length img) (room : to + size ≤ length out) where
  abbrev src : List ℕ
  src = take (from + n - from) (drop from img)

  abbrev hole : ℕ
  hole = length (take (to + size - to) (drop to out))

  src_is : src ≡ part from n img
  src_is = let d : from + n - from ≡ n = omega arith in ap (λ (i : ℕ). take i (drop from img)) d

  pub put_copied : size ≡ n + k → one ≡ filled hole src → put_mid to (to + size - to) out one ≡ over to (part from n img ++ replicate k 0) out
  put_copied e p = put_filled to (to + size) n k out one (part from n img) (length_part from n img inside) (omega arith) room (p ∙ ap (filled hole) src_is)

  pub put_widened : size ≡ n * 2 + k → one ≡ filled hole (widened src 0 (length src)) → put_mid to (to + size - to) out one ≡ over to (widened img from n ++ replicate k 0) out
  put_widened e p =
      let w : widened src 0 (length src) ≡ widened img from n =
      ap (λ (z : List ℕ). widened z 0 (length z)) src_is ∙ ap (widened (part from n img) 0) (length_part from n img inside) ∙ widened_part img from n in
      put_filled to (to + size) (n * 2) k out one (widened img from n) (widened_long img from n) (omega arith) room (p ∙ ap (filled hole) w)

-- the length of a line of 8 in a part of an image
pub eighth : (from n k : ℕ) (img : List ℕ) → from + n ≤ length img → n ≡ 8 * k → length (take (from + n - from) (drop from img)) / 8 ≡ k
eighth from n k img inside e = let l : length (take (from + n - from) (drop from img)) ≡ n = length_part from (from + n - from) img (omega arith) ∙ omega arith in omega arith

-- ---- 8 lines, each written by what leaves f of it
module _ (post : Bor (List ℕ) → MutBor (List ℕ) → Unit {0} → MutBor (List ℕ) → Type 0) (f : List ℕ → List ℕ) (lines place : List ℕ) where
  abbrev w : ℕ
  w = length lines / 8

  abbrev line : ℕ → List ℕ
  line i = f (part (i * w) w lines)

  module _ (h : Puts post w f) (room : length place ≡ 512) where
    line_in : (i : ℕ) → i < 8 → i * w + w ≤ length lines
    line_in i lt = omega (arith, row_ends i 8 w lt)

    pub lines_none : Laid line 32 0 8 place place 0
    lines_none = laid_none line 32 0 8 place (λ i lt. h.long (part (i * w) w lines) (length_part (i * w) w lines (line_in i lt))) (omega arith)

    pub lines_on : (new : List ℕ) (i : ℕ) → Laid line 32 0 8 place new i → i < 8 → (x : Bor (List ℕ)) (p q : MutBor (List ℕ)) → x.now ≡ take (i * w + w - i * w) (drop (i * w) lines)
        → p.now ≡ take (i * 32 + 32 - i * 32) (drop (i * 32) new) → post x p tt q → Laid line 32 0 8 place (put_mid (i * 32) (i * 32 + 32 - i * 32) new q.now) (i + 1)
    lines_on new i l lt x p q e k r =
        let d : i * w + w - i * w ≡ w = omega arith in
        let is : x.now ≡ part (i * w) w lines = e ∙ ap (λ (n : ℕ). take n (drop (i * w) lines)) d in
        let s : length x.now ≡ w = ap length is ∙ length_part (i * w) w lines (line_in i lt) in
        let z : i * 32 + 32 - i * 32 ≡ 32 = omega arith in
        let m : length p.now ≡ 32 = ap length k ∙ length_part (i * 32) (i * 32 + 32 - i * 32) new (omega (arith, l.sized)) ∙ z in
        let t : q.now ≡ line i = h.puts x p q s m r ∙ ap f is in
        laid_on l (i * 32) _ lt (omega arith) (ap (λ (n : ℕ). put_mid (i * 32) n new q.now) z ∙ put_over (i * 32) 32 new q.now (ap length t ∙ l.wide i lt) ∙ ap (λ (b : List ℕ). over (i * 32) b new) t)

    pub lines_made : (new zeros : List ℕ) (i : ℕ) → Laid line 32 0 8 place new i → 8 ≤ i → zeros ≡ replicate (length (take (length new - 256) (drop 256 new))) 0
        → put_mid 256 (length new - 256) new zeros ≡ lines_of f w lines
    unfolding lines_of
    lines_made new zeros i l le p =
        let n : length new - 256 ≡ 256 = omega (arith, l.sized) in
        let all : put_mid 256 (length new - 256) new zeros ≡ over 0 (flat line (upto 8) ++ replicate 256 0) place =
        laid_filled l le 256 256 _ (omega arith) (put_zeros 256 (length new) new zeros (omega (arith, l.sized)) (omega arith) p ∙ ap (λ (k : ℕ). over 256 (replicate k 0) new) n) in
        all ∙ over_whole (flat line (upto 8) ++ replicate 256 0) place (with_zeros (flat line (upto 8)) 256 (length_table line 32 8 l.wide) ∙ sym room)

-- the two ways to write a line
abbrev pub copied : List ℕ → List ℕ
copied x = filled 32 x

abbrev pub wider : List ℕ → List ℕ
wider x = filled 32 (widened x 0 (length x))

pub copied_puts : (post : Bor (List ℕ) → MutBor (List ℕ) → Unit {0} → MutBor (List ℕ) → Type 0) (w : ℕ) → w ≡ 16
    → ((x : Bor (List ℕ)) (p q : MutBor (List ℕ)) → post x p tt q → q.now ≡ filled (length p.now) x.now) → Puts post w copied
copied_puts post w e h = record { long = λ x k. filled_long 32 x (omega arith); puts = λ x p q _ k r. h x p q r ∙ ap (λ (n : ℕ). filled n x.now) k }

pub wider_puts : (post : Bor (List ℕ) → MutBor (List ℕ) → Unit {0} → MutBor (List ℕ) → Type 0) (w : ℕ) → w ≡ 8
    → ((x : Bor (List ℕ)) (p q : MutBor (List ℕ)) → post x p tt q → q.now ≡ filled (length p.now) (widened x.now 0 (length x.now))) → Puts post w wider
wider_puts post w e h =
    record {
      long = λ x k. filled_long 32 (widened x 0 (length x)) (omega (arith, widened_long x 0 (length x)));
      puts = λ x p q _ k r. h x p q r ∙ ap (λ (n : ℕ). filled n (widened x.now 0 (length x.now))) k;
    }

-- the tables and the lists lie in the two images
pub table_in : (t : Table) → (table_at small t + 64 ≤ 1110) × (table_at large t + 512 ≤ 3639)
table_in Calls = omega arith
table_in Grants = omega arith
table_in Needs = omega arith

list_in : (l : Kept) → (list_at small l + 321 ≤ 1110) × (list_at large l + 641 ≤ 3639)
list_in UnmetCalls = omega arith
list_in WaitingGrants = omega arith

module _ (img : List ℕ) (sized : length img ≡ 1110) where
  names_long : length (names_of img) ≡ 277
  unfolding names_of
  names_long = long (large.header ++ widened img 3 1) (part 4 136 img ++ replicate 136 0) refl (with_zeros (part 4 136 img) 136 (length_part 4 136 img (omega arith)))

  tokens_long : (j : ℕ) → j < 8 → length (tokens_of img j) ≡ 32
  unfolding tokens_of
  tokens_long j lt = with_zeros (part (tok_at small j 0) 16 img) 16 (length_part (tok_at small j 0) 16 img (omega arith))

  all_tokens_long : length (all_tokens img) ≡ 512
  unfolding all_tokens
  all_tokens_long = with_zeros (flat (tokens_of img) (upto 8)) 256 (length_table (tokens_of img) 32 8 tokens_long)

  front_long : length (before_tables img) ≡ 821
  unfolding before_tables
  front_long = long (names_of img ++ all_tokens img) _ (long (names_of img) (all_tokens img) names_long all_tokens_long) (with_zeros (widened img 268 8) 16 (widened_long img 268 8))

  line_long : (t : Table) (i : ℕ) → i < 8 → length (line_of t img i) ≡ 32
  unfolding line_of
  line_long t i _ = with_zeros (widened img (entry_at small t i 0) 8) 16 (widened_long img (entry_at small t i 0) 8)

  table_long : (t : Table) → length (table_of t img) ≡ 512
  unfolding table_of
  table_long t = with_zeros (flat (line_of t img) (upto 8)) 256 (length_table (line_of t img) 32 8 (line_long t))

  tables_long : length (all_tables img) ≡ 1536
  unfolding all_tables
  tables_long = long (table_of Calls img ++ table_of Grants img) (table_of Needs img) (long (table_of Calls img) (table_of Grants img) (table_long Calls) (table_long Grants)) (table_long Needs)

  list_long : (l : Kept) → length (list_of l img) ≡ 641
  unfolding list_of
  list_long l = with_zeros (part (list_at small l) 321 img) 320 (length_part (list_at small l) 321 img (omega (arith, list_in l)))

  -- ---- the lines of a part of the image
  lines_tokens : lines_of copied 16 (part 140 128 img) ≡ all_tokens img
  unfolding lines_of all_tokens tokens_of
  lines_tokens =
      ap (λ (z : List ℕ). z ++ replicate 256 0) (flat_ext (λ i. copied (part (i * 16) 16 (part 140 128 img))) (tokens_of img) (upto 8) (λ i m.
      let lt : i < 8 = upto_in 8 m in
      let at : 140 + i * 16 ≡ tok_at small i 0 = omega arith in
      ap copied (part_in img 140 128 (i * 16) 16 (omega arith) ∙ ap (λ (k : ℕ). part k 16 img) at)
      ∙ filled_is 16 16 (part (tok_at small i 0) 16 img) (length_part (tok_at small i 0) 16 img (omega arith))))

  lines_table : (t : Table) → lines_of wider 8 (part (table_at small t) 64 img) ≡ table_of t img
  unfolding lines_of table_of line_of
  lines_table t =
      let a = table_at small t in
      ap (λ (z : List ℕ). z ++ replicate 256 0) (flat_ext (λ i. wider (part (i * 8) 8 (part a 64 img))) (line_of t img) (upto 8) (λ i m.
      let lt : i < 8 = upto_in 8 m in
      let e = entry_at small t i 0 in
      let at : a + i * 8 ≡ e = omega arith in
      ap wider (part_in img a 64 (i * 8) 8 (omega arith) ∙ ap (λ (k : ℕ). part k 8 img) at)
      ∙ ap (λ (k : ℕ). filled 32 (widened (part e 8 img) 0 k)) (length_part e 8 img (omega (arith, table_in t)))
      ∙ ap (filled 32) (widened_part img e 8) ∙ filled_is 16 16 (widened img e 8) (widened_long img e 8)))

  -- ---- the writes, into a buffer of the large card's size
  module _ (out : List ℕ) (room : length out ≡ 3639) where
    pub names_made : (head used aids : List ℕ) (from to : ℕ) → head ≡ large.header → used ≡ filled (length (part 3 2 (head ++ drop 3 out))) (widened (part 3 1 img) 0 (length (part 3 1 img))) → from ≡ aid_at small 0 → to ≡ aid_at large 0
        → aids ≡ filled (length (take (to + 272 - to) (drop to (put_mid 3 2 (head ++ drop 3 out) used)))) (take (from + 136 - from) (drop from img))
        → put_mid to (to + 272 - to) (put_mid 3 2 (head ++ drop 3 out) used) aids ≡ over 0 (names_of img) out
    unfolding names_of
    names_made head used aids from to h p f e r =
        let one = head ++ drop 3 out in
        let two = put_mid 3 2 one used in
        let j : one ≡ over 0 large.header out = ap (λ (z : List ℕ). z ++ drop 3 out) h in
        let s : length one ≡ 3639 = ap length j ∙ length_over 0 large.header out (omega arith) ∙ room in
        let k : two ≡ over 3 (widened img 3 1) one = put_widened 3 2 1 0 one used img 3 (omega arith) (omega arith) refl p in
        let t : length two ≡ 3639 = ap length k ∙ length_over 3 (widened img 3 1) one (omega arith) ∙ s in
        over_third 0 large.header out 3 refl 3 (widened img 3 1) 2 refl 5 (part 4 136 img ++ replicate 136 0) one two _ j k
        (put_copied to 272 136 136 two aids img from (omega arith) (omega arith) refl r ∙ λ i. over (e i) (part (f i) 136 img ++ replicate 136 0) two) (omega arith) refl refl

    -- 8 lines, from a place to a place
    module _ (new : List ℕ) (from to : ℕ) where
      pub tokens_made : from ≡ tok_at small 0 0 → to ≡ tok_at large 0 0 → new ≡ lines_of copied (length (take (from + 128 - from) (drop from img)) / 8) (take (from + 128 - from) (drop from img))
          → put_mid to (to + 512 - to) out new ≡ over 277 (all_tokens img) out
      tokens_made f e p =
          let d : from + 128 - from ≡ 128 = omega arith in
          let x : take (from + 128 - from) (drop from img) ≡ part 140 128 img = λ i. take (d i) (drop (f i) img) in
          let is : new ≡ all_tokens img = p ∙ (λ i. lines_of copied (length (x i) / 8) (x i)) ∙ ap (λ (n : ℕ). lines_of copied (n / 8) (part 140 128 img)) (length_part 140 128 img (omega arith)) ∙ lines_tokens in
          let k : to + 512 - to ≡ 512 = omega arith in
          (λ i. put_mid (e i) (k i) out (is i)) ∙ put_over 277 512 out (all_tokens img) all_tokens_long

      pub table_made : (t : Table) → from ≡ table_at small t → to ≡ table_at large t → new ≡ lines_of wider (length (take (from + 64 - from) (drop from img)) / 8) (take (from + 64 - from) (drop from img))
          → put_mid to (to + 512 - to) out new ≡ over (table_at large t) (table_of t img) out
      table_made t f e p =
          let d : from + 64 - from ≡ 64 = omega arith in
          let a = table_at small t in
          let x : take (from + 64 - from) (drop from img) ≡ part a 64 img = λ i. take (d i) (drop (f i) img) in
          let is : new ≡ table_of t img = p ∙ (λ i. lines_of wider (length (x i) / 8) (x i)) ∙ ap (λ (n : ℕ). lines_of wider (n / 8) (part a 64 img)) (length_part a 64 img (omega (arith, table_in t))) ∙ lines_table t in
          let k : to + 512 - to ≡ 512 = omega arith in
          (λ i. put_mid (e i) (k i) out (is i)) ∙ put_over (table_at large t) 512 out (table_of t img) (table_long t)

    -- a list, from its place to its place
    pub list_made : (l : Kept) (from to : ℕ) (new : List ℕ) → from ≡ list_at small l → to ≡ list_at large l
        → new ≡ filled (length (take (to + 641 - to) (drop to out))) (take (from + 321 - from) (drop from img)) → put_mid to (to + 641 - to) out new ≡ over (list_at large l) (list_of l img) out
    unfolding list_of
    list_made l from to new f e p =
        put_copied to 641 321 320 out new img from (omega (arith, list_in l)) (omega (arith, list_in l)) refl p ∙ λ i. over (e i) (part (f i) 321 img ++ replicate 320 0) out

    -- the parts one after another
    module _ (one two three : List ℕ) where
      pub front_made : (from to : ℕ) → from ≡ prov_at small 0 → to ≡ prov_at large 0 → one ≡ over 0 (names_of img) out → two ≡ over 277 (all_tokens img) one
          → three ≡ filled (length (take (to + 32 - to) (drop to two))) (widened (take (from + 8 - from) (drop from img)) 0 (length (take (from + 8 - from) (drop from img))))
          → put_mid to (to + 32 - to) two three ≡ over 0 (before_tables img) out
      unfolding before_tables
      front_made from to f e p q r =
          let s : length one ≡ 3639 = ap length p ∙ length_over 0 (names_of img) out (omega (arith, names_long)) ∙ room in
          let t : length two ≡ 3639 = ap length q ∙ length_over 277 (all_tokens img) one (omega (arith, all_tokens_long)) ∙ s in
          over_third 0 (names_of img) out 277 names_long 277 (all_tokens img) 512 all_tokens_long 789 (widened img 268 8 ++ replicate 16 0) one two _ p q
          (put_widened to 32 8 16 two three img from (omega arith) (omega arith) refl r ∙ λ i. over (e i) (widened img (f i) 8 ++ replicate 16 0) two) (omega arith) refl refl

      pub tables_made : one ≡ over 821 (table_of Calls img) out → two ≡ over 1333 (table_of Grants img) one → three ≡ over 1845 (table_of Needs img) two → three ≡ over 821 (all_tables img) out
      unfolding all_tables
      tables_made p q r = over_third 821 (table_of Calls img) out 512 (table_long Calls) 1333 (table_of Grants img) 512 (table_long Grants) 1845 (table_of Needs img) one two three p q r (omega arith) refl refl

      pub all_made : T (sound small img) → one ≡ over 0 (before_tables img) out → two ≡ over 821 (all_tables img) one → three ≡ over 2357 (list_of UnmetCalls img) two
          → (four : List ℕ) → four ≡ over 2998 (list_of WaitingGrants img) three → four ≡ carried small large img
      all_made ok p q r four s =
          let before = (before_tables img ++ all_tables img) ++ list_of UnmetCalls img in
          let k : length before ≡ 2998 = long (before_tables img ++ all_tables img) (list_of UnmetCalls img) (long (before_tables img) (all_tables img) front_long tables_long) (list_long UnmetCalls) in
          let b : three ≡ over 0 before out = over_third 0 (before_tables img) out 821 front_long 821 (all_tables img) 1536 tables_long 2357 (list_of UnmetCalls img) one two three p q r (omega arith) refl refl in
          over_next 0 before out 2998 k 2998 (list_of WaitingGrants img) three four b s (omega arith) refl
          ∙ over_whole (before ++ list_of WaitingGrants img) out (long before (list_of WaitingGrants img) k (list_long WaitingGrants) ∙ sym room) ∙ sym (enlarged img ok)
