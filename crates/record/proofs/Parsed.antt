-- The header of a record, and the record as a whole. Assumes nothing.
use Prim.Native.Nat.{ℕ, ◌≤◌, ◌<◌}
use mathlib.Core.Path.{◌≡◌, refl, sym, ◌∙◌}
use mathlib.Core.Bool.{◌&&◌}
use mathlib.Core.List.{List, [], ◌∷◌}
use mathlib.Core.Option.{none, some}
use native.Mathlib.Omega.{arith}
use lib.Dec.{eqb}
use lib.ListN.{length, take, drop, get_or, drop_of_length-le}
use lib.Seq.{drop-cons}
use borrow.Author.Tests.{ne_eqb, eq-eqb}
use Rattle.std.specs.Prelude.{None}
use Rattle.policy.specs.Layout.{Layout}
use Rattle.policy.specs.Contract.{Aid}
use Rattle.policy.specs.Tables.{read_number}
use Rattle.policy.specs.Record.{Got, got, bad, and_then, given, Change, Request, byte, number, aid, change, fields, whole, parse, first_aid}
use Rattle.policy.specs.Records.{ValidAid, WithinChange}
use Rattle.policy.proofs.ParseFacts.{parsed_within}
use Rattle.record.specs.Parsing.{Parses}

module _ (L : Layout) where
  -- what follows the kind byte
  tail : Got Aid → ℕ → Got Request
  tail g k = and_then g (λ a u. and_then (change L k u) (λ c v. got (record { aid = a; change = c }) v))

  pub short : (s : List ℕ) → length s < 4 → Parses L s None
  unfolding parse fields number byte
  short [] h = refl
  short (a ∷ []) h = refl
  short (a ∷ b ∷ []) h = refl
  short (a ∷ b ∷ c ∷ []) h = refl
  short (a ∷ b ∷ c ∷ d ∷ s) h = absurd (omega arith)

  header : (s : List ℕ) → 4 ≤ length s
      → parse L s ≡ whole (tail (given (eqb (read_number 0 (take 2 (drop 0 s))) (length s) && eqb (get_or s 2 0) L.version) aid (drop 4 s)) (get_or s 3 0))
  unfolding parse fields number byte tail
  header [] h = absurd (omega arith)
  header (a ∷ []) h = absurd (omega arith)
  header (a ∷ b ∷ []) h = absurd (omega arith)
  header (a ∷ b ∷ c ∷ []) h = absurd (omega arith)
  header (a ∷ b ∷ c ∷ d ∷ s) h = refl

  module _ (s : List ℕ) (l : 4 ≤ length s) {n : ℕ} (e : n ≡ read_number 0 (take 2 (drop 0 s))) where
    pub other_length : (n ≡ length s → ⊥) → Parses L s None
    unfolding tail
    other_length h = sym (header s l ∙ rw (← e, ne_eqb _ _ h))

    module _ (h : n ≡ length s) where
      pub other_version : (get_or s 2 0 ≡ L.version → ⊥) → Parses L s None
      unfolding tail
      other_version v = sym (header s l ∙ rw (← e, eq-eqb _ _ h, ne_eqb _ _ v))

      module _ (v : get_or s 2 0 ≡ L.version) where
        headed : parse L s ≡ whole (tail (aid (drop 4 s)) (get_or s 3 0))
        headed = header s l ∙ rw (← e, eq-eqb _ _ h, eq-eqb _ _ v)

        pub no_aid : bad ≡ aid (drop 4 s) → Parses L s None
        unfolding tail
        no_aid t = sym (headed ∙ rw (← t))

        module _ {a : Aid} {u : List ℕ} (t : got a u ≡ aid (drop 4 s)) where
          pub no_change : bad ≡ change L (get_or s 3 0) u → Parses L s None
          unfolding tail
          no_change k = sym (headed ∙ rw (← t, ← k))

          module _ (z : List ℕ) (at : ℕ) {k : Change} (q : got k (drop at z) ≡ change L (get_or s 3 0) u) where
            read : parse L s ≡ whole (got (record { aid = a; change = k }) (drop at z))
            unfolding tail
            read = headed ∙ rw (← t, ← q)

            pub left_over : at < length z → Parses L s None
            left_over m = sym (read ∙ rw (drop-cons z at 0 m))

            pub all_read : length z ≤ at → some (record { aid = a; change = k }) ≡ parse L s
            all_read m = sym (read ∙ rw (drop_of_length-le z m))

-- a reader has bytes left over
pub not_all : {A : Type 0} {a : A} {g : Got A} (z : List ℕ) (at : ℕ) → at ≤ length z → (at ≡ length z → ⊥) → got a (drop at z) ≡ g → none ≡ whole g
not_all z at h n e = rw (← e, drop-cons z at 0 (omega (arith, h, n)))

-- a record that was read
module _ (L : Layout) (s : List ℕ) where
  pub first_none : none ≡ parse L s → [] ≡ first_aid L s
  unfolding first_aid
  first_none e = rw (← e)

  pub first_some : {q : Request} → some q ≡ parse L s → q.aid ≡ first_aid L s
  unfolding first_aid
  first_some e = rw (← e)

  -- what was read is within the limits: 'AIDs of 5 to 16 bytes', 'Method tokens stop at 127'
  pub parsed_valid : {q : Request} → some q ≡ parse L s → ValidAid q.aid × WithinChange L q.change
  parsed_valid {q} e = parsed_within L s q (sym e)
