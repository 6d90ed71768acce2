-- The equality tests of AIDs, tokens and rows, read as equations.
use Prim.Native.Nat.{ℕ}
use mathlib.Core.Path.{◌≡◌, subst}
use mathlib.Core.Bool.{◌&&◌}
use mathlib.Core.List.{List}
use mathlib.Core.List.{Memᴰ as In}
use lib.Dec.{T, eqb, eqb→eq, eqb_refl}
use Rattle.policy.specs.Lists.{exists}
use Rattle.policy.specs.Contract.{Aid, eq_aid, Tok, eq_tok, Row, eq_row, has_tok, has_row}
use Rattle.policy.specs.Tables.{Unmet, Waiting}
use Rattle.policy.specs.Sound.{eq_unmet, eq_waiting}
use Rattle.policy.specs.Draft.{has_unmet, has_waiting}
use Rattle.policy.proofs.Sets.{and_l, and_r, and_i, has_in, in_has, eq_bytes→, eq_bytes_refl}

pub eq_aid→ : (a b : Aid) → T (eq_aid a b) → a ≡ b
eq_aid→ a b t = eq_bytes→ a b t

pub eq_aid_refl : (a : Aid) → T (eq_aid a a)
eq_aid_refl a = eq_bytes_refl a

pub eq_aid_of : {a b : Aid} → a ≡ b → T (eq_aid a b)
eq_aid_of {a} e = subst (λ (z : Aid). T (eq_aid a z)) e (eq_aid_refl a)

pub eqb_of : {m n : ℕ} → m ≡ n → T (eqb m n)
eqb_of {m} e = subst (λ (z : ℕ). T (eqb m z)) e (eqb_refl m)

pub eq_tok→ : (s t : Tok) → T (eq_tok s t) → s ≡ t
eq_tok→ s t h =
    let a = eqb s.itf t.itf in
    let b = eqb s.mth t.mth in
    λ i. record { itf = eqb→eq s.itf t.itf (and_l a b h) i; mth = eqb→eq s.mth t.mth (and_r a b h) i }

pub eq_tok_refl : (s : Tok) → T (eq_tok s s)
eq_tok_refl s = and_i (eqb s.itf s.itf) (eqb s.mth s.mth) (eqb_refl s.itf) (eqb_refl s.mth)

pub eq_tok_of : {s t : Tok} → s ≡ t → T (eq_tok s t)
eq_tok_of {s} e = subst (λ (z : Tok). T (eq_tok s z)) e (eq_tok_refl s)

-- a row by its AID and its tokens
pub row_path : {r s : Row} → r.aid ≡ s.aid → r.tok ≡ s.tok → r ≡ s
row_path e f = λ i. record { aid = e i; tok = f i }

pub eq_row→ : (r s : Row) → T (eq_row r s) → r ≡ s
eq_row→ r s h =
    let a = eq_aid r.aid s.aid in
    let b = eq_tok r.tok s.tok in
    row_path (eq_aid→ r.aid s.aid (and_l a b h)) (eq_tok→ r.tok s.tok (and_r a b h))

pub eq_row_refl : (r : Row) → T (eq_row r r)
eq_row_refl r = and_i (eq_aid r.aid r.aid) (eq_tok r.tok r.tok) (eq_aid_refl r.aid) (eq_tok_refl r.tok)

pub eq_unmet→ : (u v : Unmet) → T (eq_unmet u v) → u ≡ v
eq_unmet→ u v h =
    let a = eq_aid u.callee v.callee in
    let b = eq_tok u.tok v.tok in
    let c = eqb u.caller v.caller in
    λ i. record {
      callee = eq_aid→ u.callee v.callee (and_l a b (and_l (a && b) c h)) i;
      tok = eq_tok→ u.tok v.tok (and_r a b (and_l (a && b) c h)) i;
      caller = eqb→eq u.caller v.caller (and_r (a && b) c h) i;
    }

pub eq_unmet_refl : (u : Unmet) → T (eq_unmet u u)
eq_unmet_refl u =
    let a = eq_aid u.callee u.callee in
    let b = eq_tok u.tok u.tok in
    and_i (a && b) (eqb u.caller u.caller) (and_i a b (eq_aid_refl u.callee) (eq_tok_refl u.tok)) (eqb_refl u.caller)

pub eq_waiting→ : (v w : Waiting) → T (eq_waiting v w) → v ≡ w
eq_waiting→ v w h =
    let a = eq_aid v.caller w.caller in
    let b = eqb v.callee w.callee in
    let c = eq_tok v.tok w.tok in
    λ i. record {
      caller = eq_aid→ v.caller w.caller (and_l a b (and_l (a && b) c h)) i;
      callee = eqb→eq v.callee w.callee (and_r a b (and_l (a && b) c h)) i;
      tok = eq_tok→ v.tok w.tok (and_r (a && b) c h) i;
    }

pub eq_waiting_refl : (w : Waiting) → T (eq_waiting w w)
eq_waiting_refl w =
    let a = eq_aid w.caller w.caller in
    let b = eqb w.callee w.callee in
    and_i (a && b) (eq_tok w.tok w.tok) (and_i a b (eq_aid_refl w.caller) (eqb_refl w.callee)) (eq_tok_refl w.tok)

-- ---- membership by these tests
pub has_tok_lem : (s : Tok) (l : List Tok) → T (has_tok s l) → In s l
has_tok_lem s l t = has_in eq_tok eq_tok→ eq_tok_refl s l t

pub tok_has : {s : Tok} {l : List Tok} → In s l → T (has_tok s l)
tok_has m = in_has eq_tok eq_tok→ eq_tok_refl m

pub has_row_lem : (r : Row) (l : List Row) → T (has_row r l) → In r l
has_row_lem r l t = has_in eq_row eq_row→ eq_row_refl r l t

pub row_has : {r : Row} {l : List Row} → In r l → T (has_row r l)
row_has m = in_has eq_row eq_row→ eq_row_refl m

pub has_aid : (a : Aid) (l : List Aid) → T (exists (eq_aid a) l) → In a l
has_aid a l t = has_in eq_aid eq_aid→ eq_aid_refl a l t

pub aid_has : {a : Aid} {l : List Aid} → In a l → T (exists (eq_aid a) l)
aid_has m = in_has eq_aid eq_aid→ eq_aid_refl m

pub has_unmet_lem : (u : Unmet) (l : List Unmet) → T (has_unmet u l) → In u l
has_unmet_lem u l t = has_in eq_unmet eq_unmet→ eq_unmet_refl u l t

pub unmet_has : {u : Unmet} {l : List Unmet} → In u l → T (has_unmet u l)
unmet_has m = in_has eq_unmet eq_unmet→ eq_unmet_refl m

pub has_waiting_lem : (w : Waiting) (l : List Waiting) → T (has_waiting w l) → In w l
has_waiting_lem w l t = has_in eq_waiting eq_waiting→ eq_waiting_refl w l t

pub waiting_has : {w : Waiting} {l : List Waiting} → In w l → T (has_waiting w l)
waiting_has m = in_has eq_waiting eq_waiting→ eq_waiting_refl m
