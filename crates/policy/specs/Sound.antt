-- A sound image: document 01, 'An image is sound when', item by item; and what requests add.
use Rattle.std.specs.Prelude.{ℕ, Bool, not, ◌&&◌, ◌||◌, List, map, leb, length, take}
use Rattle.std.proofs.Math.Dec.{eqb}
use Rattle.policy.specs.Lists.{implies, every, keep, distinct, is_nil, is_some, upto, eq_bytes}
use Rattle.policy.specs.Contract.{eq_aid, valid_aid, eq_tok}
use Rattle.policy.specs.Layout.{Layout, size}
use Rattle.policy.specs.Record.{valid_tok}
use Rattle.policy.specs.Tables.{Tables, Unmet, Waiting, no_tok, decode, encode}
use Rattle.policy.specs.Lookup.{numbers, places, used_numbers, service_of, server_of, spot_of, wanted, grant_at}

abbrev pub eq_unmet : Unmet → Unmet → Bool
eq_unmet u v = eq_aid u.callee v.callee && eq_tok u.tok v.tok && eqb u.caller v.caller

abbrev pub eq_waiting : Waiting → Waiting → Bool
eq_waiting v w = eq_aid v.caller w.caller && eqb v.callee w.callee && eq_tok v.tok w.tok

module _ (L : Layout) where
  -- for every caller i, callee j and service k of the callee
  abbrev pub every_bit : (ℕ → ℕ → ℕ → Bool) → Bool
  every_bit f = every (λ i. every (λ j. every (f i j) (upto L.services)) (upto L.packages)) (upto L.packages)

  module _ (t : Tables) where
    -- 'used AIDs are valid and differ'
    unfoldable pub aids_ok : Bool
    aids_ok = every (λ n. valid_aid (t.aid n)) (used_numbers L t) && distinct eq_aid (map t.aid (used_numbers L t))

    -- 'tokens provided by one package differ'
    unfoldable pub tokens_ok : Bool
    tokens_ok = every (λ j. distinct eq_tok (map (t.tok j) (keep (t.provides j) (places L)))) (numbers L)

    -- 'every unused place .. is zero': of an AID, of tokens and of provided services;
    unfoldable pub blanks_ok : Bool
    blanks_ok =
        every (λ n. t.used n || is_nil (t.aid n)) (numbers L)
        && every (λ j. every (λ k. t.provides j k || eq_tok (t.tok j k) no_tok) (places L)) (numbers L)
        && every (λ j. every (λ k. implies (t.provides j k) (t.used j)) (places L)) (numbers L)

    -- 'row and column': entries of unused numbers; 'diagonals are zero'
    unfoldable pub entries_ok : Bool
    entries_ok = every_bit (λ i j k. implies (t.calls i j k || t.grants j i k || t.needs i j k) (t.used i && t.used j && not (eqb i j)))

    -- 'call and grant bits name provided services'
    unfoldable pub bits_provided : Bool
    bits_provided = every_bit (λ i j k. implies (t.calls i j k || t.grants j i k) (t.provides j k))

    -- 'needs are among call bits': so every need is met
    unfoldable pub needs_called : Bool
    needs_called = every_bit (λ i j k. implies (t.needs i j k) (t.calls i j k))

    -- 'the card is lawful': every call bit has its grant bit
    unfoldable pub bits_granted : Bool
    bits_granted = every_bit (λ i j k. implies (t.calls i j k) (t.grants j i k))

    -- 'list counts are at most 16; no list row repeats'
    unfoldable pub lists_ok : Bool
    lists_ok =
        (leb (length t.unmet) L.capacity && leb (length t.waiting) L.capacity)
        && (distinct eq_unmet t.unmet && distinct eq_waiting t.waiting)

    -- 'every unmet call has a valid AID other than its caller's, a used caller and no such service on the card'
    abbrev pub unmet_ok : Unmet → Bool
    unmet_ok u =
        (valid_aid u.callee && not (eq_aid u.callee (t.aid u.caller)))
        && (t.used u.caller && not (is_some (server_of L t (wanted u))))

    -- R-2: 'a grant that waits, of a used callee to another valid AID'
    abbrev pub waiting_ok : Waiting → Bool
    waiting_ok w =
        (valid_aid w.caller && not (eq_aid w.caller (t.aid w.callee)))
        && (t.used w.callee && not (is_some (spot_of L t w.callee (grant_at w))))

    unfoldable pub rows_ok : Bool
    unfolding spot_of server_of
    rows_ok = every unmet_ok t.unmet && every waiting_ok t.waiting

    -- R-7: 'A method token of 128 or more .. in an image makes it unsound': of a provided service, of an unmet call or of a waiting grant
    unfoldable pub methods_ok : Bool
    methods_ok =
        every (λ j. every (λ k. implies (t.provides j k) (valid_tok L (t.tok j k))) (places L)) (numbers L)
        && every (λ u. valid_tok L u.tok) t.unmet
        && every (λ w. valid_tok L w.tok) t.waiting

    -- before R-2 every waiting grant has 'a provided service', so that its AID 'is not installed'
    unfoldable pub grants_ok : Bool
    unfolding service_of
    grants_ok = L.early || every (λ w. is_some (service_of L t w.callee w.tok)) t.waiting

    unfoldable pub sound_tables : Bool
    unfolding aids_ok tokens_ok blanks_ok entries_ok bits_provided needs_called bits_granted lists_ok rows_ok methods_ok grants_ok
    sound_tables =
        (aids_ok && tokens_ok) && (blanks_ok && entries_ok) && (bits_provided && needs_called)
        && (bits_granted && (lists_ok && rows_ok)) && (methods_ok && grants_ok)

  -- 'the first three bytes are as above'; and no byte but those that the tables give: fill bytes, and list places past the count, are zero
  unfoldable pub sound : List ℕ → Bool
  unfolding sound_tables decode encode
  sound img =
      eqb (length img) (size L) && eq_bytes (take 3 img) L.header
      && (let t = decode L img in eq_bytes (encode L t) img && sound_tables t)
