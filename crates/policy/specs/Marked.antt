-- The marked cases of document 01, 'At the edges', in one table, and those that requests add.
use Rattle.std.specs.Prelude.{ℕ, ◌+◌, ◌/◌, ◌%◌, true, cond, List, [], ◌∷◌, ◌++◌, map, eqb, length, drop}
use Rattle.std.proofs.Math.Option.{Option, none, some}
use Rattle.policy.specs.Lists.{first, flat, from, upto}
use Rattle.policy.specs.Contract.{Tok}
use Rattle.policy.specs.Layout.{Layout}
use Rattle.policy.specs.Tables.{Unmet, Waiting}
use Rattle.policy.specs.Judge.{Out, judge}

-- ---- lines, as the session prints them: 'kind (the fourth byte, known or not), answer, package number or `-` on a refusal'
pub record Line : Type 0 where
  pub kind : Option ℕ
  pub answer : ℕ
  pub number : Option ℕ

-- the line of a record and of its verdict
abbrev pub line_of : List ℕ → Out → Line
line_of s o = record {
  kind = first (λ b. true) (drop 3 s);
  answer = o.answered;
  number = cond (eqb o.answered 0) (some o.second) none;
}

-- those of a list of records, each of which finds the image as the last one left it
unfoldable pub lines_from : Layout → List ℕ → List (List ℕ) → List Line
unfolding judge
lines_from L img [] = []
lines_from L img (s ∷ ss) = let o = judge L img s in line_of s o ∷ lines_from L o.bytes ss

-- a record of kind k accepted for package number n, or refused with answer a; and one too short to have a kind
abbrev pub taken : ℕ → ℕ → Line
taken k n = record { kind = some k; answer = 0; number = some n }

abbrev pub refused : ℕ → ℕ → Line
refused k a = record { kind = some k; answer = a; number = none }

abbrev pub refused_short : ℕ → Line
refused_short a = record { kind = none; answer = a; number = none }

-- ---- cases
-- a history from the empty card, and its lines
pub record Case : Type 0 where
  pub records : List (List ℕ)
  pub lines : List Line

-- the AID F0 00 00 00 n, as a record writes it; H is 1, C is 2, B is 3
abbrev pub aid_of : ℕ → List ℕ
aid_of n = 5 ∷ 240 ∷ 0 ∷ 0 ∷ 0 ∷ n ∷ []

-- a record: its length, the version, the kind and what follows; of version 01
abbrev pub record_in : ℕ → ℕ → List ℕ → List ℕ
record_in v k body = (4 + length body) / 256 ∷ (4 + length body) % 256 ∷ v ∷ k ∷ body

abbrev pub record_of : ℕ → List ℕ → List ℕ
record_of = record_in 1

-- service m of package n: tokens 0 and m
abbrev pub row_of : ℕ → ℕ → List ℕ
row_of n m = aid_of n ++ (0 ∷ m ∷ [])

abbrev pub list_of : List (List ℕ) → List ℕ
list_of l = length l ∷ flat (λ r. r) l

-- a whole contract of package n, for kinds 1 and 11
abbrev pub contract_of : ℕ → ℕ → List ℕ → List (List ℕ) → List (List ℕ) → List (List ℕ) → List ℕ
contract_of kind n toks calls grants needs =
    record_of kind (aid_of n ++ (list_of (map (λ m. 0 ∷ m ∷ []) toks) ++ (list_of calls ++ (list_of grants ++ list_of needs))))

abbrev pub load_of : ℕ → List ℕ → List (List ℕ) → List (List ℕ) → List (List ℕ) → List ℕ
load_of = contract_of 1

abbrev pub release_of : ℕ → List ℕ → List (List ℕ) → List (List ℕ) → List (List ℕ) → List ℕ
release_of = contract_of 11

abbrev pub removal_of : ℕ → List ℕ
removal_of n = record_of 2 (aid_of n)

-- package n calls services 1 to m of the absent package 9
abbrev pub calls_on9 : ℕ → List (List ℕ)
calls_on9 m = map (row_of 9) (from 1 m)

-- it grants service 0 to m packages from number n on
abbrev pub grants_from : ℕ → ℕ → List (List ℕ)
grants_from n m = map (λ c. row_of c 0) (from n m)

-- kinds 5 to 10: package n, and service m of package k
abbrev pub row_change : ℕ → ℕ → ℕ → ℕ → List ℕ
row_change kind n k m = record_of kind (aid_of n ++ row_of k m)

-- kind 3 without callers, and kind 4: service m of package n
abbrev pub add_service : ℕ → ℕ → List ℕ
add_service n m = record_of 3 (aid_of n ++ (0 ∷ m ∷ 0 ∷ []))

abbrev pub remove_service : ℕ → ℕ → List ℕ
remove_service n m = record_of 4 (aid_of n ++ (0 ∷ m ∷ []))

-- the records of the session, to the byte
abbrev pub load_h : List ℕ
load_h =
    0x00 ∷ 0x18 ∷ 0x01 ∷ 0x01 ∷ 0x05 ∷ 0xF0 ∷ 0x00 ∷ 0x00 ∷ 0x00 ∷ 0x01
    ∷ 0x01 ∷ 0x00 ∷ 0x00 ∷ 0x00 ∷ 0x01 ∷ 0x05 ∷ 0xF0 ∷ 0x00 ∷ 0x00 ∷ 0x00 ∷ 0x02 ∷ 0x00 ∷ 0x00 ∷ 0x00 ∷ []

abbrev pub load_b : List ℕ
load_b =
    0x00 ∷ 0x16 ∷ 0x01 ∷ 0x01 ∷ 0x05 ∷ 0xF0 ∷ 0x00 ∷ 0x00 ∷ 0x00 ∷ 0x03
    ∷ 0x00 ∷ 0x01 ∷ 0x05 ∷ 0xF0 ∷ 0x00 ∷ 0x00 ∷ 0x00 ∷ 0x01 ∷ 0x00 ∷ 0x00 ∷ 0x00 ∷ 0x00 ∷ []

abbrev pub load_c : List ℕ
load_c =
    0x00 ∷ 0x1E ∷ 0x01 ∷ 0x01 ∷ 0x05 ∷ 0xF0 ∷ 0x00 ∷ 0x00 ∷ 0x00 ∷ 0x02
    ∷ 0x00 ∷ 0x01 ∷ 0x05 ∷ 0xF0 ∷ 0x00 ∷ 0x00 ∷ 0x00 ∷ 0x01 ∷ 0x00 ∷ 0x00 ∷ 0x00
    ∷ 0x01 ∷ 0x05 ∷ 0xF0 ∷ 0x00 ∷ 0x00 ∷ 0x00 ∷ 0x01 ∷ 0x00 ∷ 0x00 ∷ []

abbrev pub remove_h : List ℕ
remove_h = 0x00 ∷ 0x0A ∷ 0x01 ∷ 0x02 ∷ 0x05 ∷ 0xF0 ∷ 0x00 ∷ 0x00 ∷ 0x00 ∷ 0x01 ∷ []

abbrev pub cases : List Case
cases =
    -- the four lines of the session: '1 1 0 0', '2 1 8 -', '3 1 0 1', '4 2 9 -'
    record { records = load_h ∷ load_b ∷ load_c ∷ remove_h ∷ []; lines = taken 1 0 ∷ refused 1 8 ∷ taken 1 1 ∷ refused 2 9 ∷ [] }
    -- a record of no bytes
    ∷ record { records = [] ∷ []; lines = refused_short 2 ∷ [] }
    -- removal on the empty image
    ∷ record { records = removal_of 1 ∷ []; lines = refused 2 5 ∷ [] }
    -- an AID of 4 or 17 bytes is malformed; of 5 or 16 it is read, and not installed
    ∷ record {
      records = record_of 2 (4 ∷ from 1 4) ∷ record_of 2 (17 ∷ from 1 17) ∷ record_of 2 (5 ∷ from 1 5) ∷ record_of 2 (16 ∷ from 1 16) ∷ [];
      lines = refused 2 2 ∷ refused 2 2 ∷ refused 2 5 ∷ refused 2 5 ∷ [];
    }
    -- the ninth package
    ∷ record { records = map (λ n. load_of n [] [] [] []) (from 1 9); lines = map (taken 1) (upto 8) ++ (refused 1 7 ∷ []) }
    -- a 17th unmet call
    ∷ record { records = load_of 1 [] (calls_on9 16) [] [] ∷ row_change 5 1 9 17 ∷ []; lines = taken 1 0 ∷ refused 5 10 ∷ [] }
    -- with 16 standing, a granted load that meets one and adds one
    ∷ record {
      records = load_of 1 [] (calls_on9 16) [] [] ∷ load_of 9 (1 ∷ []) (row_of 10 20 ∷ []) (row_of 1 1 ∷ []) [] ∷ [];
      lines = taken 1 0 ∷ taken 1 1 ∷ [];
    }
    -- removing a server whose callers' calls would make 17 unmet
    ∷ record {
      records = load_h ∷ load_of 2 [] (row_of 1 0 ∷ []) [] [] ∷ load_of 3 [] (calls_on9 16) [] [] ∷ removal_of 1 ∷ [];
      lines = taken 1 0 ∷ taken 1 1 ∷ taken 1 2 ∷ refused 2 10 ∷ [];
    }
    -- a load failing on grant and on need
    ∷ record {
      records = load_h ∷ load_of 4 [] (row_of 1 0 ∷ row_of 9 0 ∷ []) [] (row_of 9 0 ∷ []) ∷ [];
      lines = taken 1 0 ∷ refused 1 8 ∷ [];
    }
    -- R-7: a method token of 127 is read, one of 128 is not: in each list of a load
    ∷ record { records = load_of 1 (127 ∷ []) [] [] [] ∷ load_of 2 (128 ∷ []) [] [] [] ∷ []; lines = taken 1 0 ∷ refused 1 2 ∷ [] }
    ∷ record {
      records = load_of 1 [] (row_of 9 127 ∷ []) [] [] ∷ load_of 2 [] (row_of 9 128 ∷ []) [] [] ∷ [];
      lines = taken 1 0 ∷ refused 1 2 ∷ [];
    }
    ∷ record {
      records = load_of 1 (127 ∷ []) [] (row_of 2 127 ∷ []) [] ∷ load_of 3 (127 ∷ []) [] (row_of 2 128 ∷ []) [] ∷ [];
      lines = taken 1 0 ∷ refused 1 2 ∷ [];
    }
    ∷ record {
      records = load_of 1 (127 ∷ []) [] (row_of 2 127 ∷ []) [] ∷ load_of 2 [] (row_of 1 127 ∷ []) [] (row_of 1 127 ∷ [])
          ∷ load_of 3 [] [] [] (row_of 1 128 ∷ []) ∷ [];
      lines = taken 1 0 ∷ taken 1 1 ∷ refused 1 2 ∷ [];
    }
    -- in kinds 3 to 8
    ∷ record {
      records = load_of 1 [] [] [] [] ∷ load_of 2 [] [] [] []
          ∷ flat (λ f. f 128 ∷ f 127 ∷ [])
          (add_service 1 ∷ row_change 7 1 2 ∷ row_change 5 2 1 ∷ row_change 6 2 1 ∷ row_change 8 1 2 ∷ remove_service 1 ∷ []);
      lines = taken 1 0 ∷ taken 1 1
          ∷ refused 3 2 ∷ taken 3 0 ∷ refused 7 2 ∷ taken 7 0 ∷ refused 5 2 ∷ taken 5 1
          ∷ refused 6 2 ∷ taken 6 1 ∷ refused 8 2 ∷ taken 8 0 ∷ refused 4 2 ∷ taken 4 0 ∷ [];
    }
    -- interface tokens are 0 to 255
    ∷ record { records = record_of 1 (aid_of 1 ++ (1 ∷ 255 ∷ 127 ∷ 0 ∷ 0 ∷ 0 ∷ [])) ∷ []; lines = taken 1 0 ∷ [] }
    -- R-1: 'with 5 for an absent package'; a load's causes 2 and 3
    ∷ record {
      records = release_of 1 [] [] [] [] ∷ load_h ∷ load_of 2 [] [] [] [] ∷ release_of 1 (from 0 9) [] [] []
          ∷ release_of 1 (128 ∷ []) [] [] []
          ∷ release_of 1 (0 ∷ 0 ∷ []) [] [] [] ∷ release_of 1 [] (row_of 1 0 ∷ []) [] [] ∷ release_of 1 [] [] [] (row_of 2 0 ∷ []) ∷ [];
      lines = refused 11 5 ∷ taken 1 0 ∷ taken 1 1 ∷ refused 11 2 ∷ refused 11 2 ∷ refused 11 3 ∷ refused 11 3 ∷ refused 11 3 ∷ [];
    }
    -- a call and a need of its own that fail; 'Kinds 1 and 11 no longer give 3' for a grant of a service not provided
    ∷ record {
      records = load_of 1 (0 ∷ []) [] [] [] ∷ load_of 2 [] [] [] [] ∷ release_of 2 [] (row_of 1 0 ∷ row_of 9 0 ∷ []) [] (row_of 9 0 ∷ [])
          ∷ release_of 2 [] (row_of 9 0 ∷ []) [] (row_of 9 0 ∷ []) ∷ release_of 2 [] (row_of 9 0 ∷ []) (row_of 1 5 ∷ []) [] ∷ [];
      lines = taken 1 0 ∷ taken 1 1 ∷ refused 11 8 ∷ refused 11 9 ∷ taken 11 1 ∷ [];
    }
    -- a service that another package needs may not be dropped, one that is called may; a call on a service that stays or comes asks for
    -- its grant
    ∷ record {
      records = load_h ∷ load_c ∷ release_of 1 (1 ∷ []) [] [] [] ∷ release_of 2 [] (row_of 1 0 ∷ []) [] [] ∷ release_of 1 (0 ∷ []) [] [] []
          ∷ release_of 1 (1 ∷ []) [] [] [] ∷ release_of 1 (1 ∷ 0 ∷ []) [] [] [] ∷ release_of 1 (1 ∷ 0 ∷ []) [] (row_of 2 0 ∷ []) [] ∷ [];
      lines = taken 1 0 ∷ taken 1 1 ∷ refused 11 9 ∷ taken 11 1 ∷ refused 11 8 ∷ taken 11 0 ∷ refused 11 8 ∷ taken 11 0 ∷ [];
    }
    -- its own rows leave first: 16 unmet calls and 16 waiting grants make room for 16 others; a 17th does not fit
    ∷ record {
      records = load_of 1 [] (calls_on9 16) (grants_from 20 16) [] ∷ release_of 1 [] (map (row_of 10) (from 1 16)) (grants_from 50 16) []
          ∷ release_of 1 [] (calls_on9 17) [] [] ∷ release_of 1 [] [] (grants_from 20 17) [] ∷ [];
      lines = taken 1 0 ∷ taken 11 0 ∷ refused 11 10 ∷ refused 11 11 ∷ [];
    }
    -- dropped services free their numbers: eight others take them
    ∷ record {
      records = load_of 1 (from 0 8) [] [] [] ∷ release_of 1 (from 10 8) [] [] [] ∷ release_of 1 (17 ∷ from 20 7) [] [] [] ∷ [];
      lines = taken 1 0 ∷ taken 11 0 ∷ taken 11 0 ∷ [];
    }
    -- other packages' calls on dropped services that would make 17 unmet
    ∷ record {
      records = load_h ∷ load_of 2 [] (row_of 1 0 ∷ []) [] [] ∷ load_of 3 [] (calls_on9 16) [] [] ∷ release_of 1 [] [] [] []
          ∷ release_of 3 [] (calls_on9 15) [] [] ∷ release_of 1 [] [] [] [] ∷ [];
      lines = taken 1 0 ∷ taken 1 1 ∷ taken 1 2 ∷ refused 11 10 ∷ taken 11 2 ∷ taken 11 0 ∷ [];
    }
    ∷ []

-- ---- cases over a change of the rules
-- a history from the empty card by the rules of then, records by those in force, and the lines of these
pub record CaseOver : Type 0 where
  pub before : List (List ℕ)
  pub records : List (List ℕ)
  pub lines : List Line

-- R-7: a card that provides a service with a method token of 128, and one with an unmet call on such a service
abbrev pub providing128 : List (List ℕ)
providing128 = load_of 1 (128 ∷ []) [] [] [] ∷ []

abbrev pub calling128 : List (List ℕ)
calling128 = load_of 1 [] (row_of 9 128 ∷ []) [] [] ∷ []

-- one that lost it before the change, and holds 127 in both places
abbrev pub holding127 : CaseOver
holding127 = record {
  before = providing128 ++ (removal_of 1 ∷ load_of 1 (127 ∷ []) (row_of 9 127 ∷ []) [] [] ∷ []);
  records = removal_of 1 ∷ [];
  lines = taken 2 0 ∷ [];
}

abbrev pub cases_over : List CaseOver
cases_over =
    record { before = providing128; records = load_b ∷ removal_of 1 ∷ [] ∷ []; lines = refused 1 1 ∷ refused 2 1 ∷ refused_short 1 ∷ [] }
    ∷ record { before = calling128; records = removal_of 1 ∷ load_h ∷ []; lines = refused 2 1 ∷ refused 1 1 ∷ [] }
    ∷ holding127
    ∷ []

-- R-2: kind 3 with callers
abbrev pub add_service_to : ℕ → ℕ → List ℕ → List ℕ
add_service_to n m cs = record_of 3 (aid_of n ++ (0 ∷ m ∷ list_of (map aid_of cs)))

-- by R-7's rules, converted, and by R-2's
abbrev pub cases_converted : List CaseOver
cases_converted =
    -- 'Kinds 1 and 11 no longer give 3 for it, nor kind 7 a 6': of package 1, loaded before; a grant that waits already is 6
    record {
      before = load_of 2 [] [] (row_of 1 0 ∷ []) [] ∷ load_of 1 [] [] [] [] ∷ row_change 7 1 2 0 ∷ [];
      records = load_of 3 [] [] (row_of 2 0 ∷ []) [] ∷ row_change 7 1 2 0 ∷ row_change 7 1 2 0
          ∷ row_change 8 1 2 0 ∷ row_change 8 1 2 0 ∷ [];
      lines = taken 1 1 ∷ taken 7 0 ∷ refused 7 6 ∷ taken 8 0 ∷ refused 8 6 ∷ [];
    }
    -- 'it waits until caller and service are both on the card': a call on a service added without callers is granted where its grant waited
    ∷ record {
      before = load_of 1 [] [] [] [] ∷ load_of 2 [] (row_of 1 0 ∷ row_of 1 1 ∷ []) [] [] ∷ [];
      records = row_change 7 1 2 0 ∷ add_service_to 1 1 [] ∷ add_service_to 1 0 [] ∷ [];
      lines = taken 7 0 ∷ refused 3 8 ∷ taken 3 0 ∷ [];
    }
    -- 'Kind 4 keeps the grants': the service comes back with them
    ∷ record {
      before = load_of 1 (0 ∷ []) [] (row_of 2 0 ∷ []) [] ∷ load_of 2 [] (row_of 1 0 ∷ []) [] [] ∷ [];
      records = remove_service 1 0 ∷ row_change 7 1 2 0 ∷ add_service_to 1 0 [] ∷ [];
      lines = taken 4 0 ∷ refused 7 6 ∷ taken 3 0 ∷ [];
    }
    -- 'Kind 3 takes once a grant that is in both places': 16 wait before it and after it; a 17th does not fit
    ∷ record {
      before = load_of 1 [] [] [] [] ∷ [];
      records = load_of 2 [] [] (grants_from 20 15) []
          ∷ row_change 7 1 9 0 ∷ add_service_to 1 0 (9 ∷ []) ∷ row_change 7 1 10 0 ∷ [];
      lines = taken 1 1 ∷ taken 7 0 ∷ taken 3 0 ∷ refused 7 11 ∷ [];
    }
    -- a load turns those that wait for it into bits whose service is there; of the other, the call comes back unmet
    ∷ record {
      before = load_of 1 (0 ∷ []) [] (row_of 2 0 ∷ []) [] ∷ [];
      records = row_change 7 1 2 1 ∷ load_of 2 [] (row_of 1 0 ∷ row_of 1 1 ∷ []) [] [] ∷ add_service_to 1 1 [] ∷ [];
      lines = taken 7 0 ∷ taken 1 1 ∷ taken 3 0 ∷ [];
    }
    ∷ []

-- by R-2's rules, and by R-1's
abbrev pub cases_renewed : List CaseOver
cases_renewed =
    -- kind 11 was not read before; a grant that waited goes with the contract that gave it
    record {
      before =
          load_of 1 [] [] [] []
          ∷ load_of 2 [] (row_of 1 0 ∷ []) [] []
          ∷ release_of 1 (0 ∷ []) [] (row_of 2 0 ∷ []) []
          ∷ row_change 7 1 2 0
          ∷ [];
      records = release_of 1 [] [] [] [] ∷ add_service 1 0 ∷ release_of 1 [] [] (row_of 2 0 ∷ []) []
          ∷ add_service 1 0 ∷ add_service 1 0 ∷ [];
      lines = taken 11 0 ∷ refused 3 8 ∷ taken 11 0 ∷ taken 3 0 ∷ refused 3 6 ∷ [];
    }
    ∷ []

-- kinds 9 and 10 by R-1's rules, the last that read them: the causes of document 01, and R-7's tokens
abbrev pub cases_needs : List Case
cases_needs =
    record {
      records = load_h ∷ row_change 9 2 1 0 ∷ load_of 2 [] (row_of 1 0 ∷ row_of 9 0 ∷ []) [] [] ∷ row_change 9 2 2 0 ∷ row_change 9 2 1 1
          ∷ row_change 9 2 9 0 ∷ row_change 9 2 1 128 ∷ row_change 9 2 1 0 ∷ row_change 9 2 1 0 ∷ removal_of 1 ∷ [];
      lines = taken 1 0 ∷ refused 9 5 ∷ taken 1 1 ∷ refused 9 3 ∷ refused 9 6
          ∷ refused 9 9 ∷ refused 9 2 ∷ taken 9 1 ∷ refused 9 6 ∷ refused 2 9 ∷ [];
    }
    ∷ record {
      records = load_h ∷ load_c ∷ row_change 10 9 1 0 ∷ row_change 10 2 2 0 ∷ row_change 10 2 1 1
          ∷ row_change 10 2 1 128 ∷ row_change 10 2 1 0
          ∷ row_change 10 2 1 0 ∷ removal_of 1 ∷ [];
      lines = taken 1 0 ∷ taken 1 1 ∷ refused 10 5 ∷ refused 10 3 ∷ refused 10 6 ∷ refused 10 2 ∷ taken 10 1
          ∷ refused 10 6 ∷ taken 2 0 ∷ [];
    }
    ∷ []

-- a need set by kind 9
abbrev pub needing : List (List ℕ)
needing = load_h ∷ load_of 2 [] (row_of 1 0 ∷ []) [] [] ∷ row_change 9 2 1 0 ∷ []

-- by R-1's rules, and by R-13's
abbrev pub cases_retired : List CaseOver
cases_retired =
    -- 'Kinds 9 and 10 are retired and get 2', whatever else applies; 'Needs set by them stay in force', and 'go with their call'
    record {
      before = needing;
      records = row_change 10 2 1 0 ∷ row_change 9 2 1 0 ∷ row_change 9 2 2 0 ∷ row_change 10 9 1 0 ∷ removal_of 1 ∷ remove_service 1 0
          ∷ release_of 1 [] [] [] [] ∷ row_change 6 2 1 0 ∷ removal_of 1 ∷ [];
      lines = refused 10 2 ∷ refused 9 2 ∷ refused 9 2 ∷ refused 10 2 ∷ refused 2 9 ∷ refused 4 9
          ∷ refused 11 9 ∷ taken 6 1 ∷ taken 2 0 ∷ [];
    }
    -- 'or with the next whole contract', where it has not the need
    ∷ record {
      before = needing;
      records = release_of 2 [] (row_of 1 0 ∷ []) [] (row_of 1 0 ∷ []) ∷ remove_service 1 0 ∷ release_of 2 [] (row_of 1 0 ∷ []) [] []
          ∷ remove_service 1 0 ∷ [];
      lines = taken 11 1 ∷ refused 4 9 ∷ taken 11 1 ∷ taken 4 0 ∷ [];
    }
    -- a need that kind 10 took before is gone
    ∷ record { before = needing ++ (row_change 10 2 1 0 ∷ []); records = removal_of 1 ∷ []; lines = taken 2 0 ∷ [] }
    ∷ []

-- R-9: on the card of sixteen packages, 'two-byte counts, big-endian too .. for calls, grants and needs alone'
abbrev pub rows_of : List (List ℕ) → List ℕ
rows_of l = length l / 256 ∷ length l % 256 ∷ flat (λ r. r) l

-- a load of version 02
abbrev pub large_load : ℕ → List ℕ → List (List ℕ) → List (List ℕ) → List (List ℕ) → List ℕ
large_load n toks calls grants needs =
    record_in 2 1 (aid_of n ++ (list_of (map (λ m. 0 ∷ m ∷ []) toks) ++ (rows_of calls ++ (rows_of grants ++ rows_of needs))))

-- the load of H, to the byte
abbrev pub large_h : List ℕ
large_h =
    0x00 ∷ 0x1B ∷ 0x02 ∷ 0x01 ∷ 0x05 ∷ 0xF0 ∷ 0x00 ∷ 0x00 ∷ 0x00 ∷ 0x01
    ∷ 0x01 ∷ 0x00 ∷ 0x00 ∷ 0x00 ∷ 0x00 ∷ 0x00 ∷ 0x01 ∷ 0x05 ∷ 0xF0 ∷ 0x00 ∷ 0x00 ∷ 0x00 ∷ 0x02 ∷ 0x00 ∷ 0x00 ∷ 0x00 ∷ 0x00 ∷ []

-- from the empty large image
abbrev pub cases_large : List Case
cases_large =
    -- 'A record of the other card's version gets 2', and so does one of its own version with one-byte counts
    record {
      records = load_h ∷ record_in 2 1 (drop 4 load_h) ∷ large_h ∷ large_load 3 [] (row_of 1 0 ∷ []) [] [] ∷ remove_h ∷ [];
      lines = refused 1 2 ∷ refused 1 2 ∷ taken 1 0 ∷ refused 1 8 ∷ refused 2 2 ∷ [];
    }
    -- 'up to 16 services': a 17th of a load, and a 17th number; kind 3's callers have one count byte
    ∷ record {
      records = large_load 1 (from 0 17) [] [] [] ∷ large_load 1 (from 0 15) [] [] [] ∷ record_in 2 3 (aid_of 1 ++ (0 ∷ 15 ∷ 1 ∷ aid_of 2))
          ∷ record_in 2 3 (aid_of 1 ++ (0 ∷ 16 ∷ 0 ∷ [])) ∷ [];
      lines = refused 1 2 ∷ taken 1 0 ∷ taken 3 0 ∷ refused 3 7 ∷ [];
    }
    ∷ []

-- by the rules in force, enlarged, and on the large card: numbers, needs and grants are kept, and 'a record of the other card's
-- version gets 2'
abbrev pub cases_enlarged : List CaseOver
cases_enlarged =
    record {
      before = load_h ∷ load_c ∷ record_in 2 2 (aid_of 1) ∷ [];
      records = remove_h ∷ record_in 2 2 (aid_of 1) ∷ large_load 3 (from 0 16) (row_of 2 9 ∷ []) [] [] ∷ record_in 2 2 (aid_of 2)
          ∷ record_in 2 2 (aid_of 1) ∷ [];
      lines = refused 2 2 ∷ refused 2 9 ∷ taken 1 2 ∷ taken 2 1 ∷ taken 2 0 ∷ [];
    }
    ∷ []

-- ---- where things stand after some records: the places and the tokens of the services of package number 0, and the lists
pub record Standing : Type 0 where
  pub places : List ℕ
  pub services : List Tok
  pub unmet : List Unmet
  pub waiting : List Waiting

pub record PlacingCase : Type 0 where
  pub records : List (List ℕ)
  pub leaves : Standing

abbrev pub plain_aid : ℕ → List ℕ
plain_aid n = 240 ∷ 0 ∷ 0 ∷ 0 ∷ n ∷ []

abbrev pub tok_of : ℕ → Tok
tok_of m = record { itf = 0; mth = m }

-- package number i calls service m of package n, which is not there; package number j grants service m to package n, and it waits
abbrev pub unmet_of : ℕ → ℕ → ℕ → Unmet
unmet_of n m i = record { callee = plain_aid n; tok = tok_of m; caller = i }

abbrev pub waiting_of : ℕ → ℕ → ℕ → Waiting
waiting_of j n m = record { caller = plain_aid n; callee = j; tok = tok_of m }

-- R-1: service 2 keeps its number 2, services 0 and 1 free theirs, 6 and 5 take them. The call of package 1 and that of package 3 on
-- service 5, which is met, leave the list; those of package 1 follow, then those of packages 2 and 3 on services 0 and 1. The grants of
-- package 1 leave and follow alike; that of package 2 to package 1 stays in place
abbrev pub replacing : PlacingCase
replacing = record {
  records = load_of 1 (0 ∷ 1 ∷ 2 ∷ []) (row_of 9 1 ∷ []) (row_of 8 1 ∷ row_of 2 0 ∷ row_of 2 1 ∷ row_of 3 1 ∷ row_of 3 2 ∷ []) []
      ∷ load_of 2 [] (row_of 1 1 ∷ row_of 1 0 ∷ []) (row_of 1 4 ∷ []) []
      ∷ load_of 3 [] (row_of 1 2 ∷ row_of 1 5 ∷ row_of 1 1 ∷ row_of 9 7 ∷ []) [] []
      ∷ release_of 1 (6 ∷ 2 ∷ 5 ∷ []) (row_of 9 2 ∷ row_of 9 1 ∷ []) (row_of 8 6 ∷ row_of 3 5 ∷ row_of 2 9 ∷ row_of 3 2 ∷ []) []
      ∷ [];
  leaves = record {
    places = 0 ∷ 1 ∷ 2 ∷ [];
    services = tok_of 6 ∷ tok_of 5 ∷ tok_of 2 ∷ [];
    unmet = unmet_of 9 7 2 ∷ unmet_of 9 2 0 ∷ unmet_of 9 1 0 ∷ unmet_of 1 0 1 ∷ unmet_of 1 1 1 ∷ unmet_of 1 1 2 ∷ [];
    waiting = waiting_of 1 1 4 ∷ waiting_of 0 8 6 ∷ waiting_of 0 2 9 ∷ [];
  };
}
