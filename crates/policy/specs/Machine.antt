-- The plain machine: document 01, 'The plain machine'. It is fed the records' bytes and holds contracts; nothing of the engine's.
use Rattle.std.specs.Prelude.{ℕ, zero, suc, not, ◌||◌, cond, List, [], ◌∷◌, ◌++◌, map, leb, length}
use Rattle.std.proofs.Math.Option.{none, some}
use Rattle.policy.specs.Lists.{keep}
use Rattle.policy.specs.Contract.{Aid, eq_aid, eq_tok, Row, eq_row, Contract, has_tok, has_row, under, installed}
use Rattle.policy.specs.Contract.{calls_granted, needs_met, unmet_calls, waiting_grants}
use Rattle.policy.specs.Layout.{Layout}
use Rattle.policy.specs.Record.{Request, Change, load, remove, parse, proper}
use Rattle.policy.specs.Record.{add_service, remove_service, add_call, remove_call, add_grant, remove_grant, add_need, remove_need, replace}
use Rattle.policy.specs.Causes.{Cause, ◌when◌, answer}

-- ---- what a change makes of one contract; R-2: 'kind 4 keeps the grants', 'kind 3 takes once a grant that is in both places'
abbrev pub without_row : Row → List Row → List Row
without_row r l = keep (λ x. not (eq_row r x)) l

abbrev pub altered : Layout → Change → Contract → Contract
altered L (load p c g n) k = k
altered L remove k = k
altered L (add_service s l) k = record {
  aid = k.aid;
  provides = k.provides ++ (s ∷ []);
  calls = k.calls;
  grants = k.grants ++ keep (λ r. not (has_row r k.grants)) (map (λ a. record { aid = a; tok = s }) l);
  needs = k.needs;
}
altered L (remove_service s) k = record {
  aid = k.aid;
  provides = keep (λ x. not (eq_tok s x)) k.provides;
  calls = k.calls;
  grants = cond L.early k.grants (keep (λ x. not (eq_tok s x.tok)) k.grants);
  needs = k.needs;
}
altered L (add_call r) k =
    record { aid = k.aid; provides = k.provides; calls = k.calls ++ (r ∷ []); grants = k.grants; needs = k.needs }
altered L (remove_call r) k =
    record { aid = k.aid; provides = k.provides; calls = without_row r k.calls; grants = k.grants; needs = without_row r k.needs }
altered L (add_grant r) k =
    record { aid = k.aid; provides = k.provides; calls = k.calls; grants = k.grants ++ (r ∷ []); needs = k.needs }
altered L (remove_grant r) k =
    record { aid = k.aid; provides = k.provides; calls = k.calls; grants = without_row r k.grants; needs = k.needs }
altered L (add_need r) k =
    record { aid = k.aid; provides = k.provides; calls = k.calls; grants = k.grants; needs = k.needs ++ (r ∷ []) }
altered L (remove_need r) k =
    record { aid = k.aid; provides = k.provides; calls = k.calls; grants = k.grants; needs = without_row r k.needs }
altered L (replace p c g n) k = record { aid = k.aid; provides = p; calls = c; grants = g; needs = n }

-- the contract under a altered, and no other
abbrev pub alter : Aid → (Contract → Contract) → List Contract → List Contract
alter a f cs = map (λ k. cond (eq_aid k.aid a) (f k) k) cs

-- ---- the contracts that a record would leave
abbrev pub effect : Layout → List Contract → Aid → Change → List Contract
effect L cs a (load p c g n) = record { aid = a; provides = p; calls = c; grants = g; needs = n } ∷ cs
effect L cs a remove = keep (λ k. not (eq_aid k.aid a)) cs
effect L cs a (add_service s l) = alter a (altered L (add_service s l)) cs
effect L cs a (remove_service s) = alter a (altered L (remove_service s)) cs
effect L cs a (add_call r) = alter a (altered L (add_call r)) cs
effect L cs a (remove_call r) = alter a (altered L (remove_call r)) cs
effect L cs a (add_grant r) = alter a (altered L (add_grant r)) cs
effect L cs a (remove_grant r) = alter a (altered L (remove_grant r)) cs
effect L cs a (add_need r) = alter a (altered L (add_need r)) cs
effect L cs a (remove_need r) = alter a (altered L (remove_need r)) cs
effect L cs a (replace p c g n) = alter a (altered L (replace p c g n)) cs

module _ (L : Layout) where
  -- ---- causes 4 to 7: 'by the contracts held too, 7 when a load finds eight contracts or kind 3 eight services in the package'
  abbrev pub causes4to7 : List Contract → Aid → Change → List Cause
  causes4to7 cs a (load p c g n) = 4 when installed cs a ∷ 7 when leb L.packages (length cs) ∷ []
  causes4to7 cs a remove = 5 when not (installed cs a) ∷ []
  causes4to7 cs a (add_service s l) =
      5 when not (installed cs a)
      ∷ 6 when under cs a (λ k. has_tok s k.provides)
      ∷ 7 when under cs a (λ k. leb L.services (length k.provides))
      ∷ []
  causes4to7 cs a (remove_service s) = 5 when not (installed cs a) ∷ 6 when not (under cs a (λ k. has_tok s k.provides)) ∷ []
  causes4to7 cs a (add_call r) = 5 when not (installed cs a) ∷ 6 when under cs a (λ k. has_row r k.calls) ∷ []
  causes4to7 cs a (remove_call r) = 5 when not (installed cs a) ∷ 6 when not (under cs a (λ k. has_row r k.calls)) ∷ []
  causes4to7 cs a (add_grant r) =
      5 when not (installed cs a)
      ∷ 6 when (not (L.early || under cs a (λ k. has_tok r.tok k.provides)) || under cs a (λ k. has_row r k.grants))
      ∷ []
  causes4to7 cs a (remove_grant r) = 5 when not (installed cs a) ∷ 6 when not (under cs a (λ k. has_row r k.grants)) ∷ []
  causes4to7 cs a (add_need r) =
      5 when not (installed cs a)
      ∷ 6 when (not (under cs a (λ k. has_row r k.calls)) || under cs a (λ k. has_row r k.needs))
      ∷ []
  causes4to7 cs a (remove_need r) = 5 when not (installed cs a) ∷ 6 when not (under cs a (λ k. has_row r k.needs)) ∷ []
  causes4to7 cs a (replace p c g n) = 5 when not (installed cs a) ∷ []

  -- ---- causes 8 to 11, on the contracts that the record would leave
  abbrev pub causes8to11 : List Contract → List Cause
  causes8to11 ds =
      8 when not (calls_granted ds)
      ∷ 9 when not (needs_met ds)
      ∷ 10 when not (leb (length (unmet_calls ds)) L.capacity)
      ∷ 11 when not (leb (length (waiting_grants ds)) L.capacity)
      ∷ []

  -- every cause of a record that was read, in order
  abbrev pub causes3to11 : List Contract → Request → List Cause
  causes3to11 cs q =
      3 when not (proper L q.aid q.change) ∷ causes4to7 cs q.aid q.change ++ causes8to11 (effect L cs q.aid q.change)

  pub record Held : Type 0 where
    pub answered : ℕ
    pub contracts : List Contract

  -- 'Else it answers 0 and keeps the change; after any other answer it holds what it held.'
  abbrev pub held : List Contract → List Contract → ℕ → Held
  held cs ds zero = record { answered = 0; contracts = ds }
  held cs ds (suc n) = record { answered = suc n; contracts = cs }

  unfoldable pub machine : List Contract → List ℕ → Held
  unfolding parse proper calls_granted needs_met unmet_calls waiting_grants
  machine cs s = elim (parse L s) [
    | none ↦ held cs cs 2
    | some q ↦ held cs (effect L cs q.aid q.change) (answer (causes3to11 cs q))
  ]
