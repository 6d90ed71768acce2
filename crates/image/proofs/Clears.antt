-- Loops that clear bits of a table: what a turn clears, and what all turns leave.
use Prim.Native.Nat.{ℕ, ◌+◌, ◌≤◌, ◌<◌}
use native.Mathlib.Omega.{arith}
use mathlib.Core.Path.{◌≡◌, refl, sym, ap, ap₂, ◌∙◌, subst}
use mathlib.Core.Logic.{◌⊎◌, inl, inr}
use mathlib.Core.Bool.{Bool, true, false, not, ◌&&◌, ◌||◌, cond, and-true}
use mathlib.Core.List.{List}
use lib.Dec.{T, eqb, eqb_refl}
use lib.ListN.{length}
use lib.Pow.{pow_pos}
use borrow.Author.Rules.{rules}
use Rattle.policy.specs.Lists.{exists, upto}
use Rattle.policy.specs.Contract.{Tok}
use Rattle.policy.specs.Layout.{Layout}
use Rattle.policy.specs.Tables.{Tables, no_tok, bit, decode}
use Rattle.policy.specs.Draft.{put3}
use Rattle.policy.proofs.Sets.{T_eq, and_l, and_r, and_i, exists_in, in_exists, in_upto}
use Rattle.policy.proofs.Pieces.{in_or_off}
use Rattle.policy.proofs.Bits.{bit_none}
use Rattle.bits.proofs.Loops.{exists_snoc}
use Rattle.geometry.specs.declared.Card.{Card}
use Rattle.geometry.specs.declared.Table.{Table}
use Rattle.geometry.specs.declared.Table.TheVariants.{Calls, Grants, Needs}
use Rattle.geometry.specs.Geometry.{layout_of}
use Rattle.geometry.proofs.Bounds.{layout_ok}
use Rattle.image.specs.Laid.{table_of, Laid, with_tok, with_provides, with_table, with_entry}
use Rattle.image.specs.Wrote.{Wrote, without_row, without_package, row_in, in_column, in_row, without_service, without_services}
use Rattle.image.proofs.Laid.{entry_in, laid_length}

-- bits of a table by row, column and service
abbrev Bits : Type 0
Bits = ℕ → ℕ → ℕ → Bool

-- ---- one write after another
pub wrote_then : (L : Layout) (G : Tables → Tables) {img img' : List ℕ} {t : Tables} → Wrote L img t → Wrote L img' (G (decode L img)) → Wrote L img' (G t)
wrote_then L G {img' = img'} h w = subst (λ (z : Tables). Wrote L img' (G z)) h.tables w

table_same : (tb : Table) (t : Tables) → with_table tb (table_of tb t) t ≡ t
table_same Calls t = refl
table_same Grants t = refl
table_same Needs t = refl

table_again : (tb : Table) (F : Bits → Bits) (b : Bits) (t : Tables) → with_table tb (F (table_of tb (with_table tb b t))) (with_table tb b t) ≡ with_table tb (F b) t
table_again Calls F b t = refl
table_again Grants F b t = refl
table_again Needs F b t = refl

-- ---- the bits of the first m turns clear, where turn k clears those of p k
abbrev pub cleared_by : (ℕ → Bits) → ℕ → Bits → Bits
cleared_by p m b x y z = b x y z && not (exists (λ k. p k x y z) (upto m))

less : (a p q : Bool) → (a && not p) && not q ≡ a && not (p || q)
less true true q = refl
less true false q = refl
less false p q = refl

off : (p a : Bool) → cond p false a ≡ a && not p
off true true = refl
off true false = refl
off false true = refl
off false false = refl

module _ (p : ℕ → Bits) (b : Bits) where
  cleared_none : cleared_by p 0 b ≡ b
  cleared_none = λ i x y z. and-true (b x y z) i

  cleared_more : (m : ℕ) → (λ (x y z : ℕ). cleared_by p m b x y z && not (p m x y z)) ≡ cleared_by p (m + 1) b
  cleared_more m = λ i x y z. (less (b x y z) (exists (λ k. p k x y z) (upto m)) (p m x y z) ∙ ap (λ (e : Bool). b x y z && not e) (sym (exists_snoc (λ k. p k x y z) m))) i

  -- all n turns clear the bits of q
  cleared_all : (q : Bits) (n : ℕ) → ((k x y z : ℕ) → T (p k x y z) → T (q x y z)) → ((x y z : ℕ) → T (b x y z) → T (q x y z) → (k : ℕ) × (k < n) × T (p k x y z))
      → cleared_by p n b ≡ (λ (x y z : ℕ). b x y z && not (q x y z))
  cleared_all q n f g = λ i x y z. go x y z (b x y z) (g x y z) i
    where
      go : (x y z : ℕ) (a : Bool) → (T a → T (q x y z) → (k : ℕ) × (k < n) × T (p k x y z)) → a && not (exists (λ k. p k x y z) (upto n)) ≡ a && not (q x y z)
      go x y z false h = refl
      go x y z true h =
          ap not
          (T_eq (exists (λ k. p k x y z) (upto n)) (q x y z) (λ e. let k = exists_in (λ k. p k x y z) (upto n) e in f k.0 x y z k.2)
          (λ e. let k = h tt e in in_exists (λ k. p k x y z) (in_upto n k.0 k.1) k.2))

-- what turn k of each loop clears
abbrev pub along_row : ℕ → ℕ → Bits
along_row n k x y z = eqb x n && eqb y k

abbrev pub along_column : ℕ → ℕ → Bits
along_column n k x y z = eqb x k && eqb y n

abbrev pub service : Table → ℕ → ℕ → ℕ → Bits
service tb j s k x y z = eqb x (row_in tb k j) && eqb y (row_in tb j k) && eqb z s

pub row_low : (tb : Table) (n : ℕ) {i j r : ℕ} → r ≡ row_in tb i j → i < n → j < n → r < n
row_low Calls n e p q = omega arith
row_low Grants n e p q = omega arith
row_low Needs n e p q = omega arith

module _ (c : Card) (tb : Table) where
  abbrev L : Layout
  L = layout_of c

  pub cleared_start : (p : ℕ → Bits) {img : List ℕ} → Laid L img → Wrote L img (with_table tb (cleared_by p 0 (table_of tb (decode L img))) (decode L img))
  cleared_start p {img} h =
      record {
        laid = h;
        tables = sym (ap (λ (b : Bits). with_table tb b (decode L img)) (cleared_none p (table_of tb (decode L img))) ∙ table_same tb (decode L img));
      }

  -- ---- a turn
  module _ (t : Tables) where
    change : (F : Bits → Bits) (b b' : Bits) {img img' : List ℕ} → F b ≡ b' → Wrote L img (with_table tb b t) → Wrote L img' (with_table tb (F (table_of tb (decode L img))) (decode L img))
        → Wrote L img' (with_table tb b' t)
    change F b b' {img} {img'} e h w =
        subst (Wrote L img') (table_again tb F b t ∙ ap (λ (z : Bits). with_table tb z t) e)
        (wrote_then L (λ (z : Tables). with_table tb (F (table_of tb z)) z) h w)

    entry_cleared : (i j : ℕ) (b : Bits) {img img' : List ℕ} → Wrote L img (with_table tb b t) → Wrote L img' (with_entry tb i j (bit 0) (decode L img))
        → Wrote L img' (with_table tb (λ x y z. b x y z && not (eqb x i && eqb y j)) t)
    entry_cleared i j b =
        change (λ (b : Bits) (x y z : ℕ). cond (eqb x i && eqb y j) (bit 0 z) (b x y z)) b (λ x y z. b x y z && not (eqb x i && eqb y j))
        (λ r x y z. (ap (λ (v : Bool). cond (eqb x i && eqb y j) v (b x y z)) (bit_none z) ∙ off (eqb x i && eqb y j) (b x y z)) r)

    pub row_turn : (n m : ℕ) (b : Bits) {img img' : List ℕ} → Wrote L img (with_table tb (cleared_by (along_row n) m b) t) → Wrote L img' (with_entry tb n m (bit 0) (decode L img))
        → Wrote L img' (with_table tb (cleared_by (along_row n) (m + 1) b) t)
    row_turn n m b {img' = img'} h w =
        subst (λ (z : Bits). Wrote L img' (with_table tb z t)) (cleared_more (along_row n) b m) (entry_cleared n m (cleared_by (along_row n) m b) h w)

    pub column_turn : (n m : ℕ) (b : Bits) {img img' : List ℕ} → Wrote L img (with_table tb (cleared_by (along_column n) m b) t) → Wrote L img' (with_entry tb m n (bit 0) (decode L img))
        → Wrote L img' (with_table tb (cleared_by (along_column n) (m + 1) b) t)
    column_turn n m b {img' = img'} h w =
        subst (λ (z : Bits). Wrote L img' (with_table tb z t)) (cleared_more (along_column n) b m) (entry_cleared m n (cleared_by (along_column n) m b) h w)

    pub service_turn : (j s m i k : ℕ) (b : Bits) {img img' : List ℕ} → i ≡ row_in tb m j → k ≡ row_in tb j m → Wrote L img (with_table tb (cleared_by (service tb j s) m b) t)
        → Wrote L img' (with_table tb (put3 i k s false (table_of tb (decode L img))) (decode L img)) → Wrote L img' (with_table tb (cleared_by (service tb j s) (m + 1) b) t)
    service_turn j s m i k b p q h w =
        let old = cleared_by (service tb j s) m b in
        change (put3 i k s false) old (cleared_by (service tb j s) (m + 1) b)
        ((λ r x y z. (ap₂ (λ (u v : ℕ). put3 u v s false old x y z) p q ∙ off (service tb j s m x y z) (old x y z)) r) ∙ cleared_more (service tb j s) b m) h w

  -- ---- after the last turn
  module _ {old : List ℕ} (laid : Laid L old) (m n : ℕ) (low : m ≤ n) (high : n ≤ m) (all : n ≡ L.packages) where
    abbrev t : Tables
    t = decode L old

    abbrev b : Bits
    b = table_of tb t

    done : (p : ℕ → Bits) (q : Bits) {img : List ℕ} → ((k x y z : ℕ) → T (p k x y z) → T (q x y z))
        → ((x y z : ℕ) → x < m → y < m → T (q x y z) → (k : ℕ) × (k < m) × T (p k x y z))
        → Wrote L img (with_table tb (cleared_by p m b) t) → Wrote L img (with_table tb (λ x y z. b x y z && not (q x y z)) t)
    done p q {img} f g w =
        subst (λ (z : Bits). Wrote L img (with_table tb z t))
        (cleared_all p b q m f (λ x y z s e. let o = entry_in L t laid.room tb x y z s in g x y z (omega arith) (omega arith) e)) w

    pub along_done : (k : ℕ) {img : List ℕ} → Wrote L img (with_table tb (cleared_by (along_row k) m b) t) → Wrote L img (with_table tb (without_row k b) t)
    along_done k =
        done (along_row k) (λ x y z. eqb x k) (λ i x y z s. and_l (eqb x k) (eqb y i) s) (λ x y z p q s. (y, q, and_i (eqb x k) (eqb y y) s (eqb_refl y)))

    column_left : (k : ℕ) {img : List ℕ} → Wrote L img (with_table tb (cleared_by (along_column k) m b) t) → Wrote L img (with_table tb (λ x y z. b x y z && not (eqb y k)) t)
    column_left k =
        done (along_column k) (λ x y z. eqb y k) (λ i x y z s. and_r (eqb x i) (eqb y k) s) (λ x y z p q s. (x, p, and_i (eqb x x) (eqb y k) (eqb_refl x) s))

    module _ (j s : ℕ) where
      column_done : {img : List ℕ} → Wrote L img (with_table tb (cleared_by (service Calls j s) m b) t) → Wrote L img (with_table tb (in_column j s b) t)
      column_done =
          done (service Calls j s) (λ x y z. eqb y j && eqb z s)
          (λ i x y z e. and_i (eqb y j) (eqb z s) (and_r (eqb x i) (eqb y j) (and_l (eqb x i && eqb y j) (eqb z s) e)) (and_r (eqb x i && eqb y j) (eqb z s) e))
          (λ x y z p q e. (x, p, and_i (eqb x x && eqb y j) (eqb z s) (and_i (eqb x x) (eqb y j) (eqb_refl x) (and_l (eqb y j) (eqb z s) e)) (and_r (eqb y j) (eqb z s) e)))

      row_done : {img : List ℕ} → Wrote L img (with_table tb (cleared_by (service Grants j s) m b) t) → Wrote L img (with_table tb (in_row j s b) t)
      row_done =
          done (service Grants j s) (λ x y z. eqb x j && eqb z s)
          (λ i x y z e. and_i (eqb x j) (eqb z s) (and_l (eqb x j) (eqb y i) (and_l (eqb x j && eqb y i) (eqb z s) e)) (and_r (eqb x j && eqb y i) (eqb z s) e))
          (λ x y z p q e. (y, q, and_i (eqb x j && eqb y y) (eqb z s) (and_i (eqb x j) (eqb y y) (and_l (eqb x j) (eqb z s) e) (eqb_refl y)) (and_r (eqb x j) (eqb z s) e)))

  -- a column, after the row
  pub cross_done : (k : ℕ) (old first : List ℕ) {img : List ℕ} → Wrote L first (with_table tb (without_row k (table_of tb (decode L old))) (decode L old)) → (m n : ℕ) → m ≤ n → n ≤ m → n ≡ L.packages
      → Wrote L img (with_table tb (cleared_by (along_column k) m (table_of tb (decode L first))) (decode L first))
      → Wrote L img (with_table tb (without_package k (table_of tb (decode L old))) (decode L old))
  cross_done k old first h m n low high all w =
      let b = table_of tb (decode L old) in
      change (decode L old) (λ (b : Bits) (x y z : ℕ). b x y z && not (eqb y k)) (without_row k b) (without_package k b)
      (λ r x y z. less (b x y z) (eqb x k) (eqb y k) r) h (column_left h.laid m n low high all k w)

module _ (c : Card) where
  pub service_done : (tb : Table) {old img : List ℕ} → Laid (layout_of c) old → (m n : ℕ) → m ≤ n → n ≤ m → n ≡ (layout_of c).packages → (j s : ℕ)
      → Wrote (layout_of c) img (with_table tb (cleared_by (service tb j s) m (table_of tb (decode (layout_of c) old))) (decode (layout_of c) old))
      → Wrote (layout_of c) img (with_table tb (without_service tb j s (table_of tb (decode (layout_of c) old))) (decode (layout_of c) old))
  service_done Calls laid m n low high all j s = column_done c Calls laid m n low high all j s
  service_done Grants laid m n low high all j s = row_done c Grants laid m n low high all j s
  service_done Needs laid m n low high all j s = column_done c Needs laid m n low high all j s

-- ---- tokens
abbrev with_toks : (ℕ → ℕ → Tok) → Tables → Tables
with_toks f t = record {
  used = t.used;
  aid = t.aid;
  tok = f;
  provides = t.provides;
  calls = t.calls;
  grants = t.grants;
  needs = t.needs;
  unmet = t.unmet;
  waiting = t.waiting;
}

-- the tokens of the first m services of package n clear
abbrev pub without_toks : ℕ → ℕ → Tables → Tables
without_toks n m t = with_toks (λ x y. cond (exists (λ k. eqb x n && eqb y k) (upto m)) no_tok (t.tok x y)) t

module _ (L : Layout) (n : ℕ) where
  pub toks_start : {img : List ℕ} → Laid L img → Wrote L img (without_toks n 0 (decode L img))
  toks_start h = record { laid = h; tables = refl }

  pub toks_turn : (m : ℕ) (t : Tables) {img img' : List ℕ} → Wrote L img (without_toks n m t) → Wrote L img' (with_tok n m no_tok (decode L img)) → Wrote L img' (without_toks n (m + 1) t)
  toks_turn m t {img} {img'} h w =
      subst (λ (f : ℕ → ℕ → Tok). Wrote L img' (with_toks f t))
      (λ r x y. (join (exists (λ k. eqb x n && eqb y k) (upto m)) (eqb x n && eqb y m) (t.tok x y)
      ∙ ap (λ (b : Bool). cond b no_tok (t.tok x y)) (sym (exists_snoc (λ k. eqb x n && eqb y k) m))) r)
      (wrote_then L (with_tok n m no_tok) h w)
    where
      join : (p q : Bool) (s : Tok) → cond q no_tok (cond p no_tok s) ≡ cond (p || q) no_tok s
      join true true s = refl
      join true false s = refl
      join false true s = refl
      join false false s = refl

  -- all services, after the provided ones were cleared
  pub services_done : {old mid : List ℕ} → Laid L old → Wrote L mid (with_provides n (bit 0) (decode L old)) → {img : List ℕ} (m s : ℕ) → m ≤ s → s ≤ m → s ≡ L.services
      → Wrote L img (without_toks n m (decode L mid)) → Wrote L img (without_services n (decode L old))
  services_done {old} {mid} laid v {img} m s low high all w =
      subst (Wrote L img)
      (λ r. record {
        used = t.used;
        aid = t.aid;
        tok = λ x y. toks x y (in_or_off y L.services) r;
        provides = λ x y. (ap (λ (b : Bool). cond (eqb x n) b (t.provides x y)) (bit_none y) ∙ off (eqb x n) (t.provides x y)) r;
        calls = t.calls;
        grants = t.grants;
        needs = t.needs;
        unmet = t.unmet;
        waiting = t.waiting;
      })
      (wrote_then L (without_toks n m) v w)
    where
      t : Tables
      t = decode L old

      some : (x y : ℕ) → y < m → exists (λ k. eqb x n && eqb y k) (upto m) ≡ eqb x n
      some x y p =
          T_eq (exists (λ k. eqb x n && eqb y k) (upto m)) (eqb x n)
          (λ e. let k = exists_in (λ k. eqb x n && eqb y k) (upto m) e in and_l (eqb x n) (eqb y k.0) k.2)
          (λ e. in_exists (λ k. eqb x n && eqb y k) (in_upto m y p) (and_i (eqb x n) (eqb y y) e (eqb_refl y)))

      same : (b : Bool) → cond b no_tok no_tok ≡ no_tok
      same true = refl
      same false = refl

      toks : (x y : ℕ) → (y < L.services) ⊎ (L.services ≤ y) → cond (exists (λ k. eqb x n && eqb y k) (upto m)) no_tok (t.tok x y) ≡ cond (eqb x n) no_tok (t.tok x y)
      toks x y (inl p) = ap (λ (b : Bool). cond b no_tok (t.tok x y)) (some x y (omega arith))
      toks x y (inr p) =
          let e : t.tok x y ≡ no_tok = laid.room.tok_off x y (inr p) in
          ap (cond (exists (λ k. eqb x n && eqb y k) (upto m)) no_tok) e ∙ same (exists (λ k. eqb x n && eqb y k) (upto m)) ∙ sym (same (eqb x n)) ∙ ap (cond (eqb x n) no_tok) (sym e)

-- ---- the loops that clear: `search clears` at each need
-- every laid image of a card has the same length
pub laid_same : (c : Card) {old img : List ℕ} → Laid (layout_of c) img → Laid (layout_of c) old → length img ≡ length old
laid_same c h g = laid_length (layout_of c) (layout_ok c) h ∙ sym (laid_length (layout_of c) (layout_ok c) g)

pub ruleset clears = (laid_same, cleared_start, row_low, row_turn, column_turn, service_turn, along_done, cross_done, service_done, toks_start, toks_turn, services_done, pow_pos, rules)
