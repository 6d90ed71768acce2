-- The longest record, for every layout that is ok; and records of both cards.
use Prim.Native.Nat.{ℕ, zero, suc, ◌≤◌, ◌<◌}
use native.Mathlib.Omega.{arith}
use mathlib.Core.Path.{◌≡◌, refl}
use mathlib.Core.List.{List}
use mathlib.Core.List.Memᴰ.{not-nil as in_nil}
use mathlib.Core.List.{Memᴰ as In}
use mathlib.Core.Option.{Option, none, some}
use lib.Dec.{T, lit≤}
use lib.ListN.{length, length-replicate, replicate}
use lib.Seq.{length-take-le}
use Rattle.policy.specs.Contract.{Aid, Row}
use Rattle.policy.specs.Layout.{Layout, LayoutOk, small, large}
use Rattle.policy.specs.Record.{Request, load, valid_tok, parse}
use Rattle.policy.specs.Tables.{no_tok}
use Rattle.policy.specs.Judge.{read_out}
use Rattle.policy.specs.Records.{kind_of, ValidTok, ValidRow, AtMost, record_bytes, Within, longest_record, LongestRecord}
use Rattle.policy.proofs.Sets.{each_cons}
use Rattle.policy.proofs.ParseFacts.{parsed_within, parsed_length}
use Rattle.policy.proofs.Written.{written_read}
use Rattle.policy.proofs.RecordsLength.{record_length, within_writable}
use Rattle.policy.proofs.Theorems.{small_ok, large_ok}
use Rattle.policy.proofs.Numbering.{read_length}

module _ (L : Layout) (lo : LayoutOk L) where
  parsed_short : (s : List ℕ) (q : Request) → parse L s ≡ some q → length s ≤ longest_record L
  parsed_short s q e = let a = parsed_length L s q e in let b = record_length L q (parsed_within L s q e) in omega arith

  too_long : (s : List ℕ) → longest_record L < length s → parse L s ≡ none
  too_long s h = go (parse L s) refl
    where
      go : (o : Option Request) → parse L s ≡ o → o ≡ none
      go none e = refl
      go (some q) e = let a = parsed_short s q e in absurd (omega arith)

  -- what is read out is a record that is read
  read_out_short : (img : List ℕ) (n : ℕ) (out : List ℕ) → (read_out L img n out).answered ≡ 0 → (read_out L img n out).second ≤ longest_record L
  read_out_short img n out z =
      let (ok, used, fits, e) = read_length L lo img n out z in
      let a = parsed_short _ _ e in
      let b = length-take-le (read_out L img n out).second (read_out L img n out).bytes fits in
      omega arith

  pub longest_record_lem : LongestRecord L
  longest_record_lem = (too_long, read_out_short)

-- ---- the cards of eight and of sixteen packages
-- 'The longest record has 4,145 bytes.' R-9: 'at most 15,564 bytes'
pub small_longest : longest_record small ≡ 4145
small_longest = refl

pub large_longest : longest_record large ≡ 15564
large_longest = refl

-- two bytes hold the length of every record within its limits
pub small_written_read : (q : Request) → Within small q → T (small.reads (kind_of q.change)) → parse small (record_bytes small q) ≡ some q
small_written_read q v on = written_read small small_ok q (within_writable small (lit≤ tt) q on v)

pub large_written_read : (q : Request) → Within large q → T (large.reads (kind_of q.change)) → parse large (record_bytes large q) ≡ some q
large_written_read q v on = written_read large large_ok q (within_writable large (lit≤ tt) q on v)

-- and a load of as many bytes is read: every list at its limit, every AID of 16 bytes
module _ (L : Layout) where
  abbrev longest_aid : Aid
  longest_aid = replicate 16 0

  abbrev longest_row : Row
  longest_row = record { aid = longest_aid; tok = no_tok }

  abbrev longest_rows : List Row
  longest_rows = replicate L.most_rows longest_row

  abbrev longest_of : Request
  longest_of = record { aid = longest_aid; change = load (replicate L.services no_tok) longest_rows longest_rows longest_rows }

  longest_within : T (valid_tok L no_tok) → Within L longest_of
  longest_within v =
      let rows : AtMost L.most_rows (ValidRow L) longest_rows = same (ValidRow L) L.most_rows longest_row (tt, v) in
      (tt, (same (ValidTok L) L.services no_tok v, rows, rows, rows))
    where
      each_same : {A : Type 0} (P : A → Type 0) (n : ℕ) (x : A) → P x → (y : A) → In y (replicate n x) → P y
      each_same P zero x h = λ y m. absurd (in_nil m)
      each_same P (suc n) x h = each_cons P x (replicate n x) h (each_same P n x h)

      same : {A : Type 0} (P : A → Type 0) (n : ℕ) (x : A) → P x → AtMost n P (replicate n x)
      same P n x h = (let e = length-replicate n x in omega arith, each_same P n x h)

pub small_longest_read : (length (record_bytes small (longest_of small)) ≡ longest_record small) × (parse small (record_bytes small (longest_of small)) ≡ some (longest_of small))
small_longest_read = (refl, small_written_read (longest_of small) (longest_within small tt) tt)

pub large_longest_read : (length (record_bytes large (longest_of large)) ≡ longest_record large) × (parse large (record_bytes large (longest_of large)) ≡ some (longest_of large))
large_longest_read = (refl, large_written_read (longest_of large) (longest_within large tt) tt)
