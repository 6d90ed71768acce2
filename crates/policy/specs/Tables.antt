-- The image as tables: document 01, 'The image'. Numbers, bits and lists; decode reads the bytes, encode writes them.
use Rattle.std.specs.Prelude.{ℕ, zero, suc, ◌+◌, ◌*◌, ◌-◌, ◌/◌, ◌%◌, ◌^◌, Bool, ◌&&◌, cond, eqb, ltb, length, take, drop, replicate}
use mathlib.Core.List.{List, [], ◌∷◌, ◌++◌, map}
use Rattle.std.proofs.Math.ListN.{get_or}
use Rattle.policy.specs.Lists.{flat, upto, first, or_else}
use Rattle.policy.specs.Contract.{Aid, Tok, eq_tok}
use Rattle.policy.specs.Layout.{Layout, aid_size, unmet_size, waiting_size, size}
use Rattle.policy.specs.Layout.{used_at, aids_at, tokens_at, provides_at, calls_at, grants_at, needs_at, unmet_at, waiting_at}

-- a row of the list of unmet calls
pub record Unmet : Type 0 where
  pub callee : Aid
  pub tok : Tok
  pub caller : ℕ

-- a row of the list of waiting grants
pub record Waiting : Type 0 where
  pub caller : Aid
  pub callee : ℕ
  pub tok : Tok

pub record Tables : Type 0 where
  -- package number n is used
  pub used : ℕ → Bool
  -- its AID, the tokens of its service k, and whether it provides service k
  pub aid : ℕ → Aid
  pub tok : ℕ → ℕ → Tok
  pub provides : ℕ → ℕ → Bool
  -- 'row the caller, column the callee', and the callee's service
  pub calls : ℕ → ℕ → ℕ → Bool
  -- 'row the callee, column the caller', and the callee's service
  pub grants : ℕ → ℕ → ℕ → Bool
  -- 'as calls'
  pub needs : ℕ → ℕ → ℕ → Bool
  pub unmet : List Unmet
  pub waiting : List Waiting

-- what stands at the place of no service
abbrev pub no_tok : Tok
no_tok = record { itf = 0; mth = 0 }

-- ---- rows of bits
-- 'bit n is service number n'
unfoldable pub bit : ℕ → ℕ → Bool
bit r k = eqb (r / 2 ^ k % 2) 1

-- the row of n bits whose bit k is f k
unfoldable pub row_of : ℕ → (ℕ → Bool) → ℕ
row_of zero f = 0
row_of (suc n) f = row_of n (λ k. f (suc k)) * 2 + cond (f 0) 1 0

-- ---- numbers, big-endian
abbrev pub read_number : ℕ → List ℕ → ℕ
read_number n [] = n
read_number n (b ∷ bs) = read_number (n * 256 + b) bs

-- n in w bytes, before what follows
abbrev pub write_number : ℕ → ℕ → List ℕ → List ℕ
write_number zero n rest = rest
write_number (suc w) n rest = write_number w (n / 256) (n % 256 ∷ rest)

-- ---- single places
-- an AID's place: 'length, bytes, zero fill'
abbrev pub read_aid : List ℕ → Aid
read_aid [] = []
read_aid (n ∷ bs) = take n bs

abbrev pub write_aid : Aid → List ℕ
write_aid a = length a ∷ a ++ replicate (16 - length a) 0

abbrev pub read_tok : List ℕ → Tok
read_tok bs = record { itf = get_or bs 0 0; mth = get_or bs 1 0 }

abbrev pub write_tok : Tok → List ℕ
write_tok t = t.itf ∷ t.mth ∷ []

-- 'callee AID in 17, tokens, caller number'
abbrev pub read_unmet : List ℕ → Unmet
read_unmet bs = record { callee = read_aid (take aid_size bs); tok = read_tok (drop aid_size bs); caller = get_or (drop aid_size bs) 2 0 }

abbrev pub write_unmet : Unmet → List ℕ
write_unmet u = write_aid u.callee ++ (write_tok u.tok ++ (u.caller ∷ []))

-- n pieces of w bytes each, from the front of a list
abbrev pub pieces : ℕ → ℕ → List ℕ → List (List ℕ)
pieces w zero bs = []
pieces w (suc n) bs = take w bs ∷ pieces w n (drop w bs)

-- a list: 'count, then' its rows of w bytes
abbrev pub read_list : {A : Type 0} → (List ℕ → A) → ℕ → List ℕ → List A
read_list f w [] = []
read_list f w (n ∷ bs) = map f (pieces w n bs)

module _ (L : Layout) where
  abbrev pub write_list : {A : Type 0} → (A → List ℕ) → ℕ → List A → List ℕ
  write_list f w l = length l ∷ flat f l ++ replicate ((L.capacity - length l) * w) 0

  -- a row of n bits; there is none past the n-th
  abbrev pub bit_of : ℕ → List ℕ → ℕ → Bool
  bit_of n bs k = ltb k n && bit (read_number 0 bs) k

  abbrev pub write_bits : ℕ → (ℕ → Bool) → List ℕ
  write_bits n f = write_number L.width (row_of n f) []

  -- a table of bits: a line for each package, an entry in it for each package
  abbrev pub read_table : List ℕ → ℕ → ℕ → ℕ → Bool
  read_table bs =
      let lines = map (pieces L.width L.packages) (pieces (L.packages * L.width) L.packages bs) in
      λ i j k. bit_of L.services (get_or (get_or lines i []) j []) k

  abbrev pub write_table : (ℕ → ℕ → ℕ → Bool) → List ℕ
  write_table b = flat (λ i. flat (λ j. write_bits L.services (b i j)) (upto L.packages)) (upto L.packages)

  -- ---- a row of waiting grants: 'caller AID in 17, callee number, service number', the number read by the tokens that stand there;
  -- R-2: 'tokens in place of the service number'
  abbrev pub read_waiting : (ℕ → ℕ → Tok) → List ℕ → Waiting
  read_waiting toks bs =
      let j = get_or (drop aid_size bs) 0 0 in
      record {
        caller = read_aid (take aid_size bs);
        callee = j;
        tok = cond L.early (read_tok (drop 1 (drop aid_size bs))) (toks j (get_or (drop aid_size bs) 1 0));
      }

  -- the number of the service with tokens s that a package provides
  abbrev pub number_with : (ℕ → Bool) → (ℕ → Tok) → Tok → ℕ
  number_with provides toks s = or_else (first (λ k. provides k && eq_tok (toks k) s) (upto L.services)) 0 (λ k. k)

  abbrev pub write_waiting : (ℕ → ℕ → Bool) → (ℕ → ℕ → Tok) → Waiting → List ℕ
  write_waiting provides toks w =
      write_aid w.caller
      ++ (w.callee ∷ cond L.early (write_tok w.tok) (number_with (provides w.callee) (toks w.callee) w.tok ∷ []))

  -- ---- the whole image
  unfoldable pub decode : List ℕ → Tables
  unfolding bit
  decode img =
      let aids = map read_aid (pieces aid_size L.packages (drop (aids_at L) img)) in
      let toks = map (λ l. map read_tok (pieces 2 L.services l)) (pieces (L.services * 2) L.packages (drop (tokens_at L) img)) in
      let provs = pieces L.width L.packages (drop (provides_at L) img) in
      record {
        used = bit_of L.packages (take L.width (drop (used_at L) img));
        aid = λ i. get_or aids i [];
        tok = λ j k. get_or (get_or toks j []) k no_tok;
        provides = λ j k. bit_of L.services (get_or provs j []) k;
        calls = read_table (drop (calls_at L) img);
        grants = read_table (drop (grants_at L) img);
        needs = read_table (drop (needs_at L) img);
        unmet = read_list read_unmet unmet_size (drop (unmet_at L) img);
        waiting = read_list (read_waiting (λ j k. get_or (get_or toks j []) k no_tok)) (waiting_size L) (drop (waiting_at L) img);
      }

  unfoldable pub encode : Tables → List ℕ
  unfolding row_of
  encode t =
      L.header
      ++ (write_bits L.packages t.used
      ++ (flat (λ i. write_aid (t.aid i)) (upto L.packages)
      ++ (flat (λ j. flat (λ k. write_tok (t.tok j k)) (upto L.services)) (upto L.packages)
      ++ (flat (λ j. write_bits L.services (t.provides j)) (upto L.packages)
      ++ (write_table t.calls
      ++ (write_table t.grants
      ++ (write_table t.needs
      ++ (write_list write_unmet unmet_size t.unmet
      ++ write_list (write_waiting t.provides t.tok) (waiting_size L) t.waiting))))))))

  -- 'The empty image is 04 46 01 and zeros.'
  unfoldable pub empty_image : List ℕ
  empty_image = L.header ++ replicate (size L - 3) 0
