-- A small image's tables in a large image, byte for byte: each part of the large image is the small one's and zeros. Assumes nothing.
use Prim.Native.Nat.{ℕ, zero, suc, ◌+◌, ◌*◌, ◌-◌, ◌%◌, ◌≤◌, ◌<◌, zero-le}
use native.Mathlib.Omega.{arith}
use native.Mathlib.Nat.{zero-add, suc-add, zero-mul, suc-mul, add-zero, not-le_of_lt}
use mathlib.Core.Path.{◌≡◌, refl, sym, ap, ◌∙◌}
use mathlib.Core.Logic.{◌⊎◌, inl, inr}
use mathlib.Core.Bool.{Bool, false, cond}
use mathlib.Core.List.{List, [], ◌∷◌, ◌++◌, append_assoc}
use lib.Dec.{T}
use lib.ListN.{length, get_or, drop, replicate, length-drop, replicate-append-replicate}
use lib.Seq.{take_all}
use Rattle.policy.specs.Lists.{flat, from, upto}
use Rattle.policy.specs.Contract.{Tok}
use Rattle.policy.specs.Layout.{small, large}
use Rattle.policy.specs.Tables.{no_tok, row_of, write_number, write_aid, write_tok, write_unmet, write_waiting, write_list, write_bits, write_table, decode, encode}
use Rattle.policy.specs.Room.{BitsIn}
use Rattle.policy.specs.Sound.{sound}
use Rattle.policy.specs.Eras.{carried}
use Rattle.policy.proofs.Sets.{T_false, flat_append, flat_ext, upto_in}
use Rattle.policy.proofs.Pieces.{length_table}
use Rattle.policy.proofs.Bits.{row_of_lt, length_bits, write_line, length_line}
use Rattle.policy.proofs.SoundFacts.{sound_sized}
use Rattle.policy.proofs.Theorems.{small_ok}
use Rattle.bits.proofs.Loops.{upto_split}
use Rattle.geometry.specs.Geometry.{tok_at, entry_at}
use Rattle.geometry.specs.declared.Table.{Table}
use Rattle.geometry.specs.declared.Table.TheVariants.{Calls, Grants, Needs}
use Rattle.geometry.specs.declared.Kept.TheVariants.{UnmetCalls, WaitingGrants}
use Rattle.rows.specs.Area.{part}
use Rattle.rows.proofs.Over.{get_d_part}
use Rattle.soundness.proofs.Encoded.{part_flat}
use Rattle.converter.specs.Enlarged.{widened, names_of, tokens_of, all_tokens, before_tables, line_of, table_of, all_tables, list_of}
use Rattle.converter.proofs.Parts.{room, parts}

-- ---- a row of bits that are clear from bit n on is the same at any greater width
row_of_clear : (d : ℕ) (f : ℕ → Bool) → ((k : ℕ) → f k ≡ false) → row_of d f ≡ 0
unfolding row_of
row_of_clear zero f h = refl
row_of_clear (suc d) f h = λ i. row_of_clear d (λ k. f (suc k)) (λ k. h (suc k)) i * 2 + cond (h 0 i) 1 0

pub row_of_wider : (n d : ℕ) (f : ℕ → Bool) → ((k : ℕ) → n ≤ k → f k ≡ false) → row_of (n + d) f ≡ row_of n f
unfolding row_of
row_of_wider zero d f h = ap (λ (m : ℕ). row_of m f) (zero-add d) ∙ row_of_clear d f (λ k. h k zero-le)
row_of_wider (suc n) d f h = ap (λ (m : ℕ). row_of m f) (suc-add n d) ∙ ap (λ (x : ℕ). x * 2 + cond (f 0) 1 0) (row_of_wider n d (λ k. f (suc k)) (λ k le. h (suc k) (omega arith)))

-- ---- pieces of which all from the n-th on are zeros
module _ (g : ℕ → List ℕ) (w : ℕ) where
  zeros_from : (n d : ℕ) → ((i : ℕ) → n ≤ i → g i ≡ replicate w 0) → flat g (from n d) ≡ replicate (d * w) 0
  zeros_from n zero h = rw zero-mul
  zeros_from n (suc d) h =
      let e : w + d * w ≡ suc d * w = rw suc-mul (omega arith) in
      (λ i. h n (omega arith) i ++ zeros_from (suc n) d (λ j le. h j (omega arith)) i) ∙ replicate-append-replicate w (d * w) 0 ∙ ap (λ (k : ℕ). replicate k 0) e

  pub flat_wider : (h : ℕ → List ℕ) (n d : ℕ) → ((i : ℕ) → i < n → g i ≡ h i) → ((i : ℕ) → n ≤ i → g i ≡ replicate w 0) → flat g (upto (n + d)) ≡ flat h (upto n) ++ replicate (d * w) 0
  flat_wider h n d same blank =
      ap (flat g) (upto_split n d) ∙ flat_append g (upto n) (from n d) ∙ (λ i. flat_ext g h (upto n) (λ j m. same j (upto_in n m)) i ++ zeros_from n d blank i)

-- ---- rows of bits
clear : (f : ℕ → Bool) → ((k : ℕ) → T (f k) → k < 8) → (k : ℕ) → 8 ≤ k → f k ≡ false
clear f lt k le = T_false (f k) (λ s. not-le_of_lt (lt k s) le)

module _ (img : List ℕ) where
  row_wider : (f : ℕ → Bool) → ((k : ℕ) → T (f k) → k < 8) → (a : ℕ) → write_bits small 8 f ≡ part a 1 img → write_bits large 16 f ≡ write_number 2 (get_or img a 0) []
  row_wider f lt a e =
      let low : row_of 8 f % 256 ≡ row_of 8 f = omega (arith, row_of_lt 8 f) in
      let byte : row_of 8 f % 256 ≡ get_or img a 0 = ap (λ (l : List ℕ). get_or l 0 0) e ∙ get_d_part a 1 img 0 (omega arith) ∙ ap (λ (k : ℕ). get_or img k 0) (add-zero a) in
      ap (λ (r : ℕ). write_number 2 r []) (row_of_wider 8 8 f (clear f lt) ∙ sym low ∙ byte)

  -- no bit is set
  row_blank : (f : ℕ → Bool) → ((k : ℕ) → T (f k) → ⊥) → write_bits large 16 f ≡ replicate 2 0
  row_blank f h = ap (λ (r : ℕ). write_number 2 r []) (row_of_clear 16 f (λ k. T_false (f k) (h k)))

  line_wider : (f : ℕ → ℕ → Bool) → ((j k : ℕ) → T (f j k) → (j < 8) × (k < 8)) → (a : ℕ) → write_line small f ≡ part a 8 img → write_line large f ≡ widened img a 8 ++ replicate 16 0
  line_wider f lt a e =
      flat_wider (λ j. write_bits large 16 (f j)) 2 (λ j. write_number 2 (get_or img (a + j) 0) []) 8 8
      (λ j p. row_wider (f j) (λ k s. (lt j k s).1) (a + j) (part_flat img (λ j. write_bits small 8 (f j)) 1 8 a (λ i _. length_bits small 8 (f i)) e j p
      ∙ ap (λ (k : ℕ). part (a + k) 1 img) (let q : j * 1 ≡ j = omega arith in q)))
      (λ j le. row_blank (f j) (λ k s. not-le_of_lt (lt j k s).0 le))

  table_wider : (b : ℕ → ℕ → ℕ → Bool) → BitsIn small b → (x : Table) (a : ℕ) → ((i : ℕ) → a + i * 8 ≡ entry_at small x i 0) → write_table small b ≡ part a 64 img → write_table large b ≡ table_of x img
  unfolding table_of line_of
  table_wider b lt x a at e =
      flat_wider (λ i. write_line large (b i)) 32 (line_of x img) 8 8
      (λ i p. line_wider (b i) (λ j k s. let h = lt i j k s in (h.1, h.2)) (entry_at small x i 0)
      (part_flat img (λ i. write_line small (b i)) 8 8 a (λ i _. length_line small (b i)) e i p ∙ ap (λ (k : ℕ). part k 8 img) (at i)))
      (λ i le. flat_wider (λ j. write_bits large 16 (b i j)) 2 (λ j. []) 0 16 (λ j p. absurd (omega arith)) (λ j _. row_blank (b i j) (λ k s. not-le_of_lt (lt i j k s).0 le)))

  tokens_wider : (tok : ℕ → ℕ → Tok) → ((j k : ℕ) → (8 ≤ j) ⊎ (8 ≤ k) → tok j k ≡ no_tok) → flat (λ j. flat (λ k. write_tok (tok j k)) (upto 8)) (upto 8) ≡ part 140 128 img
      → flat (λ j. flat (λ k. write_tok (tok j k)) (upto 16)) (upto 16) ≡ all_tokens img
  unfolding all_tokens tokens_of
  tokens_wider tok off e =
      flat_wider (λ j. flat (λ k. write_tok (tok j k)) (upto 16)) 32 (tokens_of img) 8 8
      (λ j p. flat_wider (λ k. write_tok (tok j k)) 2 (λ k. write_tok (tok j k)) 8 8 (λ k _. refl) (λ k le. ap write_tok (off j k (inr le)))
      ∙ ap (λ (l : List ℕ). l ++ replicate 16 0)
      (part_flat img (λ j. flat (λ k. write_tok (tok j k)) (upto 8)) 16 8 140 (λ j _. length_table (λ k. write_tok (tok j k)) 2 8 (λ k _. refl)) e j p
      ∙ ap (λ (k : ℕ). part k 16 img) (let q : 140 + j * 16 ≡ tok_at small j 0 = omega arith in q)))
      (λ j le. flat_wider (λ k. write_tok (tok j k)) 2 (λ k. []) 0 16 (λ k p. absurd (omega arith)) (λ k _. ap write_tok (off j k (inl le))))

  list_wider : {A : Type 0} (g : A → List ℕ) (l : List A) (a : ℕ) → length l ≤ 16 → write_list small g 20 l ≡ part a 321 img → write_list large g 20 l ≡ part a 321 img ++ replicate 320 0
  list_wider g l a le e =
      let z = replicate {A = ℕ} ((16 - length l) * 20) 0 in
      let n : (32 - length l) * 20 ≡ (16 - length l) * 20 + 320 = omega arith in
      let fill : replicate ((32 - length l) * 20) 0 ≡ z ++ replicate 320 0 = ap (λ (k : ℕ). replicate k 0) n ∙ sym (replicate-append-replicate ((16 - length l) * 20) 320 0) in
      (λ i. length l ∷ flat g l ++ fill i) ∙ (λ i. length l ∷ sym (append_assoc (flat g l) z (replicate 320 0)) i) ∙ (λ i. e i ++ replicate 320 0)

-- parts one after another, however they are grouped
regroup : (h u a k p c g n x y : List ℕ) → h ++ (u ++ (a ++ (k ++ (p ++ (c ++ (g ++ (n ++ (x ++ y)))))))) ≡ ((((((h ++ u) ++ a) ++ k) ++ p) ++ ((c ++ g) ++ n)) ++ x) ++ y
regroup h u a k p c g n x y = simp append_assoc

-- ---- the whole
pub enlarged : (img : List ℕ) → T (sound small img) → carried small large img ≡ ((before_tables img ++ all_tables img) ++ list_of UnmetCalls img) ++ list_of WaitingGrants img
unfolding carried encode names_of before_tables all_tables list_of
enlarged img ok =
    let t = decode small img in
    let r = room small small_ok img ok in
    let p = parts small small_ok img ok in
    let end : length (drop 789 img) ≤ 321 = rw length-drop (omega (arith, sound_sized small img ok)) in
    let aids : flat (λ i. write_aid (t.aid i)) (upto 16) ≡ part 4 136 img ++ replicate 136 0 =
    flat_wider (λ i. write_aid (t.aid i)) 17 (λ i. write_aid (t.aid i)) 8 8 (λ i _. refl) (λ i le. ap write_aid (r.aid_off i le)) ∙ ap (λ (l : List ℕ). l ++ replicate 136 0) p.aids in
    (λ i. large.header ++ (row_wider img t.used r.used_in 3 p.used i ++ (aids i
    ++ (tokens_wider img t.tok r.tok_off p.tokens i ++ (line_wider img t.provides r.provides_in 268 p.provides i
    ++ (table_wider img t.calls r.calls_in Calls 276 (λ i. omega arith) p.calls i
    ++ (table_wider img t.grants r.grants_in Grants 340 (λ i. omega arith) p.grants i
    ++ (table_wider img t.needs r.needs_in Needs 404 (λ i. omega arith) p.needs i
    ++ (list_wider img write_unmet t.unmet 468 r.unmet_fits p.unmet i
    ++ list_wider img (write_waiting small t.provides t.tok) t.waiting 789 r.waiting_fits (p.waiting ∙ sym (take_all 321 (drop 789 img) end)) i)))))))))
    ∙ regroup large.header (widened img 3 1) (part 4 136 img ++ replicate 136 0) (all_tokens img) (widened img 268 8 ++ replicate 16 0) (table_of Calls img) (table_of Grants img) (table_of Needs img)
    (list_of UnmetCalls img) (list_of WaitingGrants img)
