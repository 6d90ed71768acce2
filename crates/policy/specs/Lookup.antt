-- What tables hold: numbers found by AID and tokens, and the contract of a package number.
use Rattle.std.specs.Prelude.{ℕ, not, ◌&&◌, List, ◌++◌, map, eqb}
use Rattle.std.proofs.Math.Option.{Option, none, some}
use Rattle.policy.specs.Lists.{keep, first, flat, upto, or_else}
use Rattle.policy.specs.Contract.{Aid, eq_aid, Tok, eq_tok, Row, Contract}
use Rattle.policy.specs.Layout.{Layout}
use Rattle.policy.specs.Tables.{Tables, Unmet, Waiting}

-- the service k of package j, in full
abbrev pub service_at : Tables → ℕ → ℕ → Row
service_at t j k = record { aid = t.aid j; tok = t.tok j k }

-- the service that an unmet call asks for
abbrev pub wanted : Unmet → Row
wanted u = record { aid = u.callee; tok = u.tok }

-- a grant that waits, in full
abbrev pub grant_at : Waiting → Row
grant_at w = record { aid = w.caller; tok = w.tok }

-- package and service number
pub record Place : Type 0 where
  pub callee : ℕ
  pub service : ℕ

-- a caller's number, and the number of a service that is granted to it
pub record Spot : Type 0 where
  pub caller : ℕ
  pub service : ℕ

-- the package numbers of a card, and the service numbers of a package
abbrev pub numbers : Layout → List ℕ
numbers L = upto L.packages

abbrev pub places : Layout → List ℕ
places L = upto L.services

module _ (L : Layout) (t : Tables) where
  abbrev pub used_numbers : List ℕ
  used_numbers = keep t.used (numbers L)

  -- the number of an installed package
  unfoldable pub number_of : Aid → Option ℕ
  number_of a = first (λ n. t.used n && eq_aid (t.aid n) a) (numbers L)

  -- the number of a service that package j provides
  unfoldable pub service_of : ℕ → Tok → Option ℕ
  service_of j s = first (λ k. t.provides j k && eq_tok (t.tok j k) s) (places L)

  -- where a service stands on the card
  unfoldable pub server_of : Row → Option Place
  unfolding number_of service_of
  server_of r = or_else (number_of r.aid) none (λ j. or_else (service_of j r.tok) none (λ k. some (record { callee = j; service = k })))

  -- where a grant of package j stands as a bit: caller and service are both on the card
  unfoldable pub spot_of : ℕ → Row → Option Spot
  unfolding number_of service_of
  spot_of j r = or_else (number_of r.aid) none (λ i. or_else (service_of j r.tok) none (λ k. some (record { caller = i; service = k })))

  -- 'the lowest unused package number', and 'service number'
  unfoldable pub free_number : Option ℕ
  free_number = first (λ n. not (t.used n)) (numbers L)

  unfoldable pub free_service : ℕ → Option ℕ
  free_service j = first (λ k. not (t.provides j k)) (places L)

  -- the contract of package number n, in the order of document 01's reading out: 'provides by service number; calls by callee
  -- number and service number, then the unmet in list order; grants by caller number and service number, then the waiting;
  -- needs by callee number and service number'
  unfoldable pub contract_at : ℕ → Contract
  contract_at n = record {
    aid = t.aid n;
    provides = map (t.tok n) (keep (t.provides n) (places L));
    calls = flat (λ j. map (service_at t j) (keep (t.calls n j) (places L))) (numbers L)
        ++ map wanted (keep (λ u. eqb u.caller n) t.unmet);
    grants = flat (λ i. map (λ k. record { aid = t.aid i; tok = t.tok n k }) (keep (t.grants n i) (places L))) (numbers L)
        ++ map grant_at (keep (λ w. eqb w.callee n) t.waiting);
    needs = flat (λ j. map (service_at t j) (keep (t.needs n j) (places L))) (numbers L);
  }
