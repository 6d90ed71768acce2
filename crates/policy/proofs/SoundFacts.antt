-- A sound image's tables satisfy the facts, and tables that satisfy the facts pass the tests of a sound image.
use Prim.Native.Nat.{ℕ, zero, suc, ◌<◌, ◌*◌, zero-le, suc-le-suc}
use mathlib.Core.Path.{◌≡◌, refl, sym, ◌∙◌, subst}
use mathlib.Core.Logic.{◌⊎◌, inl, inr}
use mathlib.Core.Bool.{Bool, true, false, not, ◌&&◌, ◌||◌}
use mathlib.Core.List.{List, [], ◌∷◌, map}
use mathlib.Core.List.{Memᴰ as In}
use mathlib.Core.Option.{Option, none, some}
use lib.Dec.{T, eqb, leb, ltb, eqb→eq, ltb→lt, leb→le, le→leb}
use lib.ListN.{length, get_or, take, drop, length-map}
use Rattle.policy.specs.Lists.{implies, every, keep, distinct, is_nil, is_some, upto, eq_bytes, NoRepeat}
use Rattle.policy.specs.Contract.{eq_aid, valid_aid, Tok, eq_tok}
use Rattle.policy.specs.Layout.{Layout, size, aid_size, used_at, aids_at, tokens_at, provides_at, calls_at, grants_at, needs_at}
use Rattle.policy.specs.Record.{valid_tok}
use Rattle.policy.specs.Tables.{Tables, Unmet, Waiting, no_tok, bit, read_number, read_aid, read_tok, pieces, bit_of, read_table, decode, encode}
use Rattle.policy.specs.Lookup.{numbers, places, used_numbers, service_of, server_of, spot_of, wanted, grant_at}
use Rattle.policy.specs.Sound.{eq_unmet, eq_waiting, unmet_ok, waiting_ok, aids_ok, tokens_ok, blanks_ok, entries_ok, bits_provided, needs_called, bits_granted, lists_ok, rows_ok, methods_ok, grants_ok, sound_tables, sound}
use Rattle.policy.proofs.Sets.{false_T, and_l, and_r, and_i, or_l, or_r, or_e, implies_i, implies_e, test, not_i, not_e, none_to, none_back, nil_is, is_nil_lem, every_in, in_every, keep_in, in_keep}
use Rattle.policy.proofs.Sets.{once_keep, once_map, map_inj, distinct→once, once→distinct, in_upto, once_upto, below_in, in_below, eq_bytes→, eq_bytes_refl}
use Rattle.policy.proofs.Equal.{eq_aid→, eq_aid_refl, eq_aid_of, eqb_of, eq_tok→, eq_tok_refl, eq_tok_of, eq_unmet→, eq_unmet_refl, eq_waiting→, eq_waiting_refl}
use Rattle.policy.proofs.EveryBit.{BitIn, among_to, among_back}
use Rattle.policy.proofs.Pieces.{length_pieces}
use Rattle.policy.proofs.Bits.{bit_none}
use Rattle.policy.proofs.Formed.{Names, Bits, UnmetRows, WaitingRows, grant_bit, Formed, Lawful, Fitting, Ruled}
use Rattle.policy.proofs.Found.{ServiceIs, ServerIs, SpotIs, service_is, server_is, spot_is}
use Rattle.policy.proofs.Facts.{need_bits, lawful_of, of_lawful}

-- ---- what tables hold stands in range
pub record InRange (L : Layout) (t : Tables) : Type 0 where
  pub used_in : (n : ℕ) → T (t.used n) → n < L.packages
  pub aid_in : (n : ℕ) → (t.aid n ≡ [] → ⊥) → n < L.packages
  pub tok_in : (j k : ℕ) → (t.tok j k ≡ no_tok → ⊥) → (j < L.packages) × (k < L.services)
  pub prov_in : (j k : ℕ) → T (t.provides j k) → (j < L.packages) × (k < L.services)
  pub calls_in : (i j k : ℕ) → T (t.calls i j k) → BitIn L i j k
  pub grants_in : (i j k : ℕ) → T (t.grants i j k) → BitIn L i j k
  pub needs_in : (i j k : ℕ) → T (t.needs i j k) → BitIn L i j k

-- what is not the default stands in the list
entry_in : {A : Type 0} (l : List A) (d : A) (n : ℕ) → (get_or l n d ≡ d → ⊥) → n < length l
entry_in [] d n h = absurd (h refl)
entry_in (x ∷ l) d zero h = suc-le-suc zero-le
entry_in (x ∷ l) d (suc n) h = suc-le-suc (entry_in l d n h)

-- and in a list of lines of n entries each
cell_in : {A B : Type 0} (f : A → List B) (n : ℕ) → ((x : A) → length (f x) ≡ n) → (l : List A) (d : B) (i j : ℕ) → (get_or (get_or (map f l) i []) j d ≡ d → ⊥) → (i < length l) × (j < n)
cell_in f n wide [] d i j h = absurd (h refl)
cell_in f n wide (x ∷ l) d zero j h = (suc-le-suc zero-le, subst (λ (z : ℕ). j < z) (wide x) (entry_in (f x) d j h))
cell_in f n wide (x ∷ l) d (suc i) j h = let p = cell_in f n wide l d i j h in (suc-le-suc p.0, p.1)

-- a bit of a row is one of its n, and the row has bytes
row_bit : (L : Layout) (n : ℕ) (bs : List ℕ) (k : ℕ) → T (bit_of L n bs k) → (k < n) × (bs ≡ [] → ⊥)
row_bit L n bs k h = (
  ltb→lt k n (and_l (ltb k n) (bit (read_number 0 bs) k) h),
  λ e. false_T (bit_none k) (subst (λ (z : List ℕ). T (bit (read_number 0 z) k)) e (and_r (ltb k n) (bit (read_number 0 bs) k) h)),
)

module _ (L : Layout) (img : List ℕ) where
  table_in : (at : ℕ) (i j k : ℕ) → T (read_table L (drop at img) i j k) → BitIn L i j k
  table_in at i j k h =
      let lines = pieces (L.packages * L.width) L.packages (drop at img) in
      let row = get_or (get_or (map (pieces L.width L.packages) lines) i []) j [] in
      let r = row_bit L L.services row k h in
      let c = cell_in (pieces L.width L.packages) L.packages (length_pieces L.width L.packages) lines [] i j r.1 in
      (subst (λ (z : ℕ). i < z) (length_pieces (L.packages * L.width) L.packages (drop at img)) c.0, c.1, r.0)

  pub decode_in : InRange L (decode L img)
  unfolding decode
  decode_in = record {
    used_in = λ n h. (row_bit L L.packages (take L.width (drop (used_at L) img)) n h).0;
    aid_in = λ n h. subst (λ (z : ℕ). n < z) (length-map aids read_aid ∙ length_pieces aid_size L.packages (drop (aids_at L) img)) (entry_in (map read_aid aids) [] n h);
    tok_in = λ j k h.
        let c = cell_in line L.services (λ l. length-map (pieces 2 L.services l) read_tok ∙ length_pieces 2 L.services l) toks no_tok j k h in
        (subst (λ (z : ℕ). j < z) (length_pieces (L.services * 2) L.packages (drop (tokens_at L) img)) c.0, c.1);
    prov_in = λ j k h.
        let r = row_bit L L.services (get_or provs j []) k h in
        (subst (λ (z : ℕ). j < z) (length_pieces L.width L.packages (drop (provides_at L) img)) (entry_in provs [] j r.1), r.0);
    calls_in = table_in (calls_at L);
    grants_in = table_in (grants_at L);
    needs_in = table_in (needs_at L);
  }
    where
      aids : List (List ℕ)
      aids = pieces aid_size L.packages (drop (aids_at L) img)

      toks : List (List ℕ)
      toks = pieces (L.services * 2) L.packages (drop (tokens_at L) img)

      line : List ℕ → List Tok
      line l = map read_tok (pieces 2 L.services l)

      provs : List (List ℕ)
      provs = pieces L.width L.packages (drop (provides_at L) img)

-- ---- tests of the items, to facts and back
-- conjunctions as they stand in the tests
both : (a b : Bool) → T (a && b) → T a × T b
both a b h = (and_l a b h, and_r a b h)

four : (a b c d : Bool) → T ((a && b) && (c && d)) → T a × T b × T c × T d
four a b c d h = let p = both (a && b) (c && d) h in let q = both a b p.0 in let r = both c d p.1 in (q.0, q.1, r.0, r.1)

four_back : (a b c d : Bool) → T a → T b → T c → T d → T ((a && b) && (c && d))
four_back a b c d w x y z = and_i (a && b) (c && d) (and_i a b w x) (and_i c d y z)

-- the nine items of sound tables
abbrev nine : (a b c d e f g h i : Bool) → Bool
nine a b c d e f g h i = (a && b) && (c && d) && (e && f) && (g && (h && i))

nine_to : (a b c d e f g h i : Bool) → T (nine a b c d e f g h i) → T a × T b × T c × T d × T e × T f × T g × T h × T i
nine_to a b c d e f g h i ok =
    let p = both ((a && b) && (c && d) && (e && f)) (g && (h && i)) ok in
    let q = both ((a && b) && (c && d)) (e && f) p.0 in
    let w = four a b c d q.0 in
    let x = both e f q.1 in
    let y = both g (h && i) p.1 in
    let z = both h i y.1 in
    (w.0, w.1, w.2, w.3, x.0, x.1, y.0, z.0, z.1)

nine_back : (a b c d e f g h i : Bool) → T a → T b → T c → T d → T e → T f → T g → T h → T i → T (nine a b c d e f g h i)
nine_back a b c d e f g h i r s t u v w x y z =
    and_i ((a && b) && (c && d) && (e && f)) (g && (h && i))
    (and_i ((a && b) && (c && d)) (e && f) (four_back a b c d r s t u) (and_i e f v w)) (and_i g (h && i) x (and_i h i y z))

-- b at a place where a fails: the test of the place is at hand unless b holds there anyway
blank_to : (a b : Bool) → ((T b → ⊥) → T (a || b)) → (T a → ⊥) → T b
blank_to true b h n = absurd (n tt)
blank_to false true h n = tt
blank_to false false h n = h (λ u. u)

blank_back : (a b : Bool) → ((T a → ⊥) → T b) → T (a || b)
blank_back true b h = tt
blank_back false b h = h (λ u. u)

-- the values of f at the numbers that pass differ: 'used AIDs differ', 'tokens provided by one package differ'
module _ {A : Type 0} (eq : A → A → Bool) (eq→ : (x y : A) → T (eq x y) → x ≡ y) (eq_refl : (x : A) → T (eq x x)) (f : ℕ → A) (p : ℕ → Bool) (n : ℕ) where
  differ_to : T (distinct eq (map f (keep p (upto n)))) → ((x : ℕ) → T (p x) → x < n) → (x y : ℕ) → T (p x) → T (p y) → f x ≡ f y → x ≡ y
  differ_to h lt x y a b e = map_inj f (keep p (upto n)) (distinct→once eq eq→ eq_refl (map f (keep p (upto n))) h) (kept x a) (kept y b) e
    where
      kept : (z : ℕ) → T (p z) → In z (keep p (upto n))
      kept z c = in_keep p (in_upto n z (lt z c)) c

  differ_back : ((x y : ℕ) → T (p x) → T (p y) → f x ≡ f y → x ≡ y) → T (distinct eq (map f (keep p (upto n))))
  differ_back inj = once→distinct eq eq→ eq_refl (map f (keep p (upto n)))
      (once_map f (keep p (upto n)) (λ x y m o e. inj x y (keep_in p (upto n) m).1 (keep_in p (upto n) o).1 e) (once_keep p (upto n) (once_upto n)))

-- ---- the items, by the facts that they give
module _ (L : Layout) (t : Tables) where
  abbrev aids_valid : Bool
  aids_valid = every (λ n. valid_aid (t.aid n)) (used_numbers L t)

  abbrev aids_differ : Bool
  aids_differ = distinct eq_aid (map t.aid (used_numbers L t))

  abbrev toks_differ : ℕ → Bool
  toks_differ j = distinct eq_tok (map (t.tok j) (keep (t.provides j) (places L)))

  abbrev aid_blank : ℕ → Bool
  aid_blank n = t.used n || is_nil (t.aid n)

  abbrev tok_blank : ℕ → ℕ → Bool
  tok_blank j k = t.provides j k || eq_tok (t.tok j k) no_tok

  abbrev prov_used : ℕ → ℕ → Bool
  prov_used j k = implies (t.provides j k) (t.used j)

  abbrev every_number : (ℕ → Bool) → Bool
  every_number f = every f (numbers L)

  abbrev every_place : (ℕ → ℕ → Bool) → Bool
  every_place f = every (λ j. every (f j) (places L)) (numbers L)

  place_to : (f : ℕ → ℕ → Bool) → T (every_place f) → (j k : ℕ) → j < L.packages → k < L.services → T (f j k)
  place_to f h j k a b = below_in (f j) L.services (below_in (λ j. every (f j) (places L)) L.packages h j a) k b

  place_back : (f : ℕ → ℕ → Bool) → ((j k : ℕ) → T (f j k)) → T (every_place f)
  place_back f h = in_below (λ j. every (f j) (places L)) L.packages (λ j _. in_below (f j) L.services (λ k _. h j k))

  names_to : InRange L t → T (aids_ok L t) → T (tokens_ok L t) → T (blanks_ok L t) → Names L t.used t.aid t.tok t.provides
  unfolding aids_ok tokens_ok blanks_ok
  names_to r a s b =
      let aids = both aids_valid aids_differ a in
      let blanks = both (every_number aid_blank && every_place tok_blank) (every_place prov_used) b in
      let zeros = both (every_number aid_blank) (every_place tok_blank) blanks.0 in
      record {
        used_lt = r.used_in;
        prov_lt = λ j k h. (r.prov_in j k h).1;
        prov_used = λ j k h. let c = r.prov_in j k h in implies_e (t.provides j k) (t.used j) (place_to prov_used blanks.1 j k c.0 c.1) h;
        aid_valid = λ n u. every_in (λ n. valid_aid (t.aid n)) (used_numbers L t) aids.0 (in_keep t.used (in_upto L.packages n (r.used_in n u)) u);
        aid_blank = λ n u. nil_is (t.aid n) (blank_to (t.used n) (is_nil (t.aid n))
            (λ f. below_in aid_blank L.packages zeros.0 n (r.aid_in n (λ e. f (is_nil_lem e)))) u);
        tok_blank = λ j k p. eq_tok→ (t.tok j k) no_tok (blank_to (t.provides j k) (eq_tok (t.tok j k) no_tok)
            (λ f. let c = r.tok_in j k (λ e. f (eq_tok_of e)) in place_to tok_blank zeros.1 j k c.0 c.1) p);
        aid_inj = differ_to eq_aid eq_aid→ eq_aid_refl t.aid t.used L.packages aids.1 r.used_in;
        tok_inj = λ j k l p. differ_to eq_tok eq_tok→ eq_tok_refl (t.tok j) (t.provides j) L.services
            (below_in toks_differ L.packages s j (r.prov_in j k p).0) (λ k q. (r.prov_in j k q).1) k l p;
      }

  module _ (n : Names L t.used t.aid t.tok t.provides) where
    aids_back : T (aids_ok L t)
    unfolding aids_ok
    aids_back = and_i aids_valid aids_differ
        (in_every (λ n. valid_aid (t.aid n)) (used_numbers L t) (λ x m. n.aid_valid x (keep_in t.used (numbers L) m).1))
        (differ_back eq_aid eq_aid→ eq_aid_refl t.aid t.used L.packages n.aid_inj)

    tokens_back : T (tokens_ok L t)
    unfolding tokens_ok
    tokens_back = in_below toks_differ L.packages (λ j _. differ_back eq_tok eq_tok→ eq_tok_refl (t.tok j) (t.provides j) L.services (n.tok_inj j))

    blanks_back : T (blanks_ok L t)
    unfolding blanks_ok
    blanks_back = and_i (every_number aid_blank && every_place tok_blank) (every_place prov_used)
        (and_i (every_number aid_blank) (every_place tok_blank)
        (in_below aid_blank L.packages (λ x _. blank_back (t.used x) (is_nil (t.aid x)) (λ u. is_nil_lem (n.aid_blank x u))))
        (place_back tok_blank (λ j k. blank_back (t.provides j k) (eq_tok (t.tok j k) no_tok) (λ p. eq_tok_of (n.tok_blank j k p)))))
        (place_back prov_used (λ j k. implies_i (t.provides j k) (t.used j) (n.prov_used j k)))

  -- call and grant bits by caller, callee and service; and any bits
  abbrev call_or_grant : ℕ → ℕ → ℕ → Bool
  call_or_grant i j k = t.calls i j k || t.grants j i k

  abbrev some_bit : ℕ → ℕ → ℕ → Bool
  some_bit i j k = call_or_grant i j k || t.needs i j k

  abbrev apart : ℕ → ℕ → ℕ → Bool
  apart i j k = t.used i && t.used j && not (eqb i j)

  abbrev provided : ℕ → ℕ → ℕ → Bool
  provided i j k = t.provides j k

  bits_formed : T (entries_ok L t) → T (bits_provided L t) → (b : ℕ → ℕ → ℕ → Bool) → ((i j k : ℕ) → T (b i j k) → BitIn L i j k) → ((i j k : ℕ) → T (b i j k) → T (call_or_grant i j k))
      → Bits t.used t.provides b
  unfolding entries_ok bits_provided
  bits_formed e p b range one = record {
    by_used = λ i j k h. and_l (t.used i) (t.used j) (and_l (t.used i && t.used j) (not (eqb i j)) (entry i j k h));
    of_prov = λ i j k h. among_to L call_or_grant provided p i j k (range i j k h) (one i j k h);
    other = λ i j k h q. not_e (eqb i j) (and_r (t.used i && t.used j) (not (eqb i j)) (entry i j k h)) (eqb_of q);
  }
    where
      entry : (i j k : ℕ) → T (b i j k) → T (apart i j k)
      entry i j k h = among_to L some_bit apart e i j k (range i j k h) (or_l (call_or_grant i j k) (t.needs i j k) (one i j k h))

  -- what is said of every bit: of calls and grants, and of needs because they are among the calls
  module _ (f : Formed L t) where
    abbrev BitFacts : ℕ → ℕ → ℕ → Type 0
    BitFacts i j k = T (t.used i) × T (t.provides j k) × (i ≡ j → ⊥)

    bit_facts : {b : ℕ → ℕ → ℕ → Bool} → Bits t.used t.provides b → (i j k : ℕ) → T (b i j k) → BitFacts i j k
    bit_facts h i j k x = (h.by_used i j k x, h.of_prov i j k x, h.other i j k x)

    one_facts : (i j k : ℕ) → T (call_or_grant i j k) → BitFacts i j k
    one_facts i j k h = go (or_e (t.calls i j k) (t.grants j i k) h)
      where
        go : T (t.calls i j k) ⊎ T (t.grants j i k) → BitFacts i j k
        go (inl x) = bit_facts f.calls i j k x
        go (inr x) = bit_facts f.grants i j k x

    some_facts : (i j k : ℕ) → T (some_bit i j k) → BitFacts i j k
    some_facts i j k h = go (or_e (call_or_grant i j k) (t.needs i j k) h)
      where
        go : T (call_or_grant i j k) ⊎ T (t.needs i j k) → BitFacts i j k
        go (inl x) = one_facts i j k x
        go (inr x) = bit_facts (need_bits L t f) i j k x

    entries_back : T (entries_ok L t)
    unfolding entries_ok
    entries_back = among_back L some_bit apart (λ i j k h.
        let c = some_facts i j k h in
        and_i (t.used i && t.used j) (not (eqb i j)) (and_i (t.used i) (t.used j) c.0 (f.names.prov_used j k c.1)) (not_i (eqb i j) (λ q. c.2 (eqb→eq i j q))))

    provided_back : T (bits_provided L t)
    unfolding bits_provided
    provided_back = among_back L call_or_grant provided (λ i j k h. (one_facts i j k h).1)

    needs_back : T (needs_called L t)
    unfolding needs_called
    needs_back = among_back L t.needs t.calls f.need_call

  needs_to : InRange L t → T (needs_called L t) → (i j k : ℕ) → T (t.needs i j k) → T (t.calls i j k)
  unfolding needs_called
  needs_to r h i j k x = among_to L t.needs t.calls h i j k (r.needs_in i j k x) x

  granted_to_lem : Formed L t → T (bits_granted L t) → Lawful t
  unfolding bits_granted
  granted_to_lem f = lawful_of L t f

  granted_back : Lawful t → T (bits_granted L t)
  unfolding bits_granted
  granted_back = of_lawful L t

  abbrev fits : Bool
  fits = leb (length t.unmet) L.capacity && leb (length t.waiting) L.capacity

  abbrev rows_differ : Bool
  rows_differ = distinct eq_unmet t.unmet && distinct eq_waiting t.waiting

  lists_to : T (lists_ok L t) → Fitting L t × NoRepeat t.unmet × NoRepeat t.waiting
  unfolding lists_ok
  lists_to h =
      let c = both fits rows_differ h in
      let l = both (leb (length t.unmet) L.capacity) (leb (length t.waiting) L.capacity) c.0 in
      let d = both (distinct eq_unmet t.unmet) (distinct eq_waiting t.waiting) c.1 in (
        record { unmet_fits = leb→le (length t.unmet) L.capacity l.0; waiting_fits = leb→le (length t.waiting) L.capacity l.1 },
        distinct→once eq_unmet eq_unmet→ eq_unmet_refl t.unmet d.0,
        distinct→once eq_waiting eq_waiting→ eq_waiting_refl t.waiting d.1,
      )

  lists_back : Fitting L t → NoRepeat t.unmet → NoRepeat t.waiting → T (lists_ok L t)
  unfolding lists_ok
  lists_back f u w = and_i fits rows_differ
      (and_i (leb (length t.unmet) L.capacity) (leb (length t.waiting) L.capacity)
      (le→leb (length t.unmet) L.capacity f.unmet_fits) (le→leb (length t.waiting) L.capacity f.waiting_fits))
      (and_i (distinct eq_unmet t.unmet) (distinct eq_waiting t.waiting)
      (once→distinct eq_unmet eq_unmet→ eq_unmet_refl t.unmet u) (once→distinct eq_waiting eq_waiting→ eq_waiting_refl t.waiting w))

  -- a row of either list: a valid AID and a test of it, and two tests of the rest
  abbrev other : Unmet → Bool
  other u = not (eq_aid u.callee (t.aid u.caller))

  abbrev unserved : Unmet → Bool
  unserved u = not (is_some (server_of L t (wanted u)))

  abbrev to_other : Waiting → Bool
  to_other w = not (eq_aid w.caller (t.aid w.callee))

  abbrev off_card : Waiting → Bool
  off_card w = not (is_some (spot_of L t w.callee (grant_at w)))

  module _ (names : Names L t.used t.aid t.tok t.provides) where
    unmet_to : T (rows_ok L t) → NoRepeat t.unmet → UnmetRows t.used t.aid t.tok t.provides t.unmet
    unfolding rows_ok
    unmet_to h once = record {
      off = record {
        off_used = λ u m. (row u m).2;
        off_card = λ u m. none_to (ServerIs t (wanted u)) (server_of L t (wanted u)) (server_is L t names (wanted u)) (row u m).3;
      };
      unmet_valid = λ u m. (row u m).0;
      unmet_other = λ u m e. not_e (eq_aid u.callee (t.aid u.caller)) (row u m).1 (eq_aid_of e);
      unmet_once = once;
    }
      where
        row : (u : Unmet) → In u t.unmet → T (valid_aid u.callee) × T (other u) × T (t.used u.caller) × T (unserved u)
        row u m = four (valid_aid u.callee) (other u) (t.used u.caller) (unserved u)
            (every_in (unmet_ok L t) t.unmet (and_l (every (unmet_ok L t) t.unmet) (every (waiting_ok L t) t.waiting) h) m)

    waiting_to : T (rows_ok L t) → NoRepeat t.waiting → WaitingRows t.used t.aid t.tok t.provides t.waiting
    unfolding rows_ok
    waiting_to h once = record {
      wait_valid = λ w m. (row w m).0;
      wait_used = λ w m. (row w m).2;
      wait_other = λ w m e. not_e (eq_aid w.caller (t.aid w.callee)) (row w m).1 (eq_aid_of e);
      wait_off = λ w m. none_to (SpotIs t w.callee (grant_at w)) (spot_of L t w.callee (grant_at w)) (spot_is L t names w.callee (grant_at w)) (row w m).3;
      wait_once = once;
    }
      where
        row : (w : Waiting) → In w t.waiting → T (valid_aid w.caller) × T (to_other w) × T (t.used w.callee) × T (off_card w)
        row w m = four (valid_aid w.caller) (to_other w) (t.used w.callee) (off_card w)
            (every_in (waiting_ok L t) t.waiting (and_r (every (unmet_ok L t) t.unmet) (every (waiting_ok L t) t.waiting) h) m)

    rows_back : UnmetRows t.used t.aid t.tok t.provides t.unmet → WaitingRows t.used t.aid t.tok t.provides t.waiting → T (rows_ok L t)
    unfolding rows_ok
    rows_back r s = and_i (every (unmet_ok L t) t.unmet) (every (waiting_ok L t) t.waiting)
        (in_every (unmet_ok L t) t.unmet (λ u m. four_back (valid_aid u.callee) (other u) (t.used u.caller) (unserved u)
        (r.unmet_valid u m) (not_i (eq_aid u.callee (t.aid u.caller)) (λ e. r.unmet_other u m (eq_aid→ u.callee (t.aid u.caller) e))) (r.off.off_used u m)
        (none_back (ServerIs t (wanted u)) (λ p h. r.off.off_card u m p.callee p.service h.0 h.1 h.2) (server_of L t (wanted u)) (server_is L t names (wanted u)))))
        (in_every (waiting_ok L t) t.waiting (λ w m. four_back (valid_aid w.caller) (to_other w) (t.used w.callee) (off_card w)
        (s.wait_valid w m) (not_i (eq_aid w.caller (t.aid w.callee)) (λ e. s.wait_other w m (eq_aid→ w.caller (t.aid w.callee) e))) (s.wait_used w m)
        (none_back (SpotIs t w.callee (grant_at w)) (λ p h. s.wait_off w m p.caller p.service h.0 h.1 h.2 h.3)
        (spot_of L t w.callee (grant_at w)) (spot_is L t names w.callee (grant_at w)))))

  -- ---- the rules
  abbrev place_valid : ℕ → ℕ → Bool
  place_valid j k = implies (t.provides j k) (valid_tok L (t.tok j k))

  abbrev row_valid : Unmet → Bool
  row_valid u = valid_tok L u.tok

  abbrev waiting_valid : Waiting → Bool
  waiting_valid w = valid_tok L w.tok

  abbrev served : Waiting → Bool
  served w = is_some (service_of L t w.callee w.tok)

  module _ (names : Names L t.used t.aid t.tok t.provides) where
    service_to : (j : ℕ) (s : Tok) (o : Option ℕ) → ServiceIs t j s o → T (is_some o) → (k : ℕ) × T (t.provides j k) × (t.tok j k ≡ s)
    service_to j s none h x = absurd x
    service_to j s (some k) h x = (k, h.0, h.1)

    service_back : (j : ℕ) (s : Tok) (k : ℕ) → T (t.provides j k) → t.tok j k ≡ s → (o : Option ℕ) → ServiceIs t j s o → T (is_some o)
    service_back j s k p e none h = h k p e
    service_back j s k p e (some k') h = tt

    ruled_to : InRange L t → T (methods_ok L t) → T (grants_ok L t) → Ruled L t
    unfolding methods_ok grants_ok
    ruled_to r h own =
        let q = both (every_place place_valid && every row_valid t.unmet) (every waiting_valid t.waiting) h in
        let p = both (every_place place_valid) (every row_valid t.unmet) q.0 in
        record {
          provided = λ j k s. let c = r.prov_in j k s in implies_e (t.provides j k) (valid_tok L (t.tok j k)) (place_to place_valid p.0 j k c.0 c.1) s;
          unmet = λ u m. every_in row_valid t.unmet p.1 m;
          waiting = λ w m. every_in waiting_valid t.waiting q.1 m;
          own = λ late w m. own_to w m late (or_e L.early (every served t.waiting) own);
        }
      where
        own_to : (w : Waiting) → In w t.waiting → (T L.early → ⊥) → T L.early ⊎ T (every served t.waiting) → (k : ℕ) × T (t.provides w.callee k) × (t.tok w.callee k ≡ w.tok)
        own_to w m late (inl e) = absurd (late e)
        own_to w m late (inr x) = service_to w.callee w.tok (service_of L t w.callee w.tok) (service_is L t names w.callee w.tok) (every_in served t.waiting x m)

    ruled_back : Ruled L t → T (methods_ok L t && grants_ok L t)
    unfolding methods_ok grants_ok
    ruled_back r = and_i (methods_ok L t) (grants_ok L t)
        (and_i (every_place place_valid && every row_valid t.unmet) (every waiting_valid t.waiting)
        (and_i (every_place place_valid) (every row_valid t.unmet)
        (place_back place_valid (λ j k. implies_i (t.provides j k) (valid_tok L (t.tok j k)) (r.provided j k))) (in_every row_valid t.unmet r.unmet))
        (in_every waiting_valid t.waiting r.waiting))
        (early_or (test L.early))
      where
        early_or : T L.early ⊎ (T L.early → ⊥) → T (L.early || every served t.waiting)
        early_or (inl e) = or_l L.early (every served t.waiting) e
        early_or (inr late) = or_r L.early (every served t.waiting) (in_every served t.waiting (λ w m.
            let p = r.own late w m in
            service_back w.callee w.tok p.0 p.1 p.2 (service_of L t w.callee w.tok) (service_is L t names w.callee w.tok)))

  -- ---- all items together
  abbrev nine_items : Bool
  nine_items = nine (aids_ok L t) (tokens_ok L t) (blanks_ok L t) (entries_ok L t) (bits_provided L t) (needs_called L t) (bits_granted L t) (lists_ok L t) (rows_ok L t)

  module _ (r : InRange L t) (ok : T (sound_tables L t)) where
    items : T (aids_ok L t) × T (tokens_ok L t) × T (blanks_ok L t) × T (entries_ok L t) × T (bits_provided L t) × T (needs_called L t) × T (bits_granted L t) × T (lists_ok L t) × T (rows_ok L t)
    unfolding sound_tables
    items = nine_to (aids_ok L t) (tokens_ok L t) (blanks_ok L t) (entries_ok L t) (bits_provided L t) (needs_called L t) (bits_granted L t) (lists_ok L t) (rows_ok L t) (and_l nine_items (methods_ok L t && grants_ok L t) ok)

    tables_ruled : Ruled L t
    unfolding sound_tables
    tables_ruled =
        let h = both (methods_ok L t) (grants_ok L t) (and_r nine_items (methods_ok L t && grants_ok L t) ok) in
        ruled_to (names_to r items.0 items.1 items.2) r h.0 h.1

    tables_formed : Formed L t
    tables_formed =
        let names = names_to r items.0 items.1 items.2 in
        let lists = lists_to items.7 in
        record {
          names = names;
          calls = bits_formed items.3 items.4 t.calls r.calls_in (λ i j k h. or_l (t.calls i j k) (t.grants j i k) h);
          grants = bits_formed items.3 items.4 (grant_bit t) (λ i j k h. let c = r.grants_in j i k h in (c.1, c.0, c.2)) (λ i j k h. or_r (t.calls i j k) (t.grants j i k) h);
          need_call = needs_to r items.5;
          unmet = unmet_to names items.8 lists.1;
          waiting = waiting_to names items.8 lists.2;
        }

    tables_lawful : Lawful t
    tables_lawful = granted_to_lem tables_formed items.6

    tables_fitting : Fitting L t
    tables_fitting = (lists_to items.7).0

  pub sound_tables_lem : Formed L t → Ruled L t → Lawful t → Fitting L t → T (sound_tables L t)
  unfolding sound_tables
  sound_tables_lem f r l w = and_i nine_items (methods_ok L t && grants_ok L t) nine_hold (ruled_back f.names r)
    where
      nine_hold : T nine_items
      nine_hold = nine_back (aids_ok L t) (tokens_ok L t) (blanks_ok L t) (entries_ok L t) (bits_provided L t) (needs_called L t) (bits_granted L t) (lists_ok L t) (rows_ok L t)
          (aids_back f.names) (tokens_back f.names) (blanks_back f.names) (entries_back f) (provided_back f) (needs_back f) (granted_back l)
          (lists_back w f.unmet.unmet_once f.waiting.wait_once) (rows_back f.names f.unmet f.waiting)

-- ---- the whole image
module _ (L : Layout) where
  abbrev sized : List ℕ → Bool
  sized img = eqb (length img) (size L)

  abbrev headed : List ℕ → Bool
  headed img = eq_bytes (take 3 img) L.header

  abbrev written : List ℕ → Tables → Bool
  written img t = eq_bytes (encode L t) img

  module _ (img : List ℕ) (ok : T (sound L img)) where
    sound_decoded : T (sound_tables L (decode L img))
    unfolding sound
    sound_decoded = (four (sized img) (headed img) (written img (decode L img)) (sound_tables L (decode L img)) ok).3

    pub sound_sized : length img ≡ size L
    unfolding sound
    sound_sized = eqb→eq (length img) (size L) (four (sized img) (headed img) (written img (decode L img)) (sound_tables L (decode L img)) ok).0

    -- no byte but those that the tables give
    pub sound_written : encode L (decode L img) ≡ img
    unfolding sound
    sound_written = eq_bytes→ (encode L (decode L img)) img (four (sized img) (headed img) (written img (decode L img)) (sound_tables L (decode L img)) ok).2

    pub sound_formed : Formed L (decode L img)
    sound_formed = tables_formed L (decode L img) (decode_in L img) sound_decoded

    pub sound_lawful : Lawful (decode L img)
    sound_lawful = tables_lawful L (decode L img) (decode_in L img) sound_decoded

    pub sound_ruled : Ruled L (decode L img)
    sound_ruled = tables_ruled L (decode L img) (decode_in L img) sound_decoded

    pub sound_fitting : Fitting L (decode L img)
    sound_fitting = tables_fitting L (decode L img) (decode_in L img) sound_decoded

  pub sound_image : (t : Tables) → length (encode L t) ≡ size L → take 3 (encode L t) ≡ L.header → decode L (encode L t) ≡ t → Formed L t → Ruled L t → Lawful t → Fitting L t → T (sound L (encode L t))
  unfolding sound
  sound_image t s h d f r l w =
      let img = encode L t in
      subst (λ (x : Tables). T ((sized img && headed img) && (written img x && sound_tables L x))) (sym d)
      (four_back (sized img) (headed img) (written img t) (sound_tables L t) (eqb_of s) (eq_aid_of h) (eq_bytes_refl img) (sound_tables_lem L t f r l w))
