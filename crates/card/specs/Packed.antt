-- An answer and its second number in the one number that a C function returns.
use Rattle.std.specs.Prelude.{ℕ, ◌+◌, ◌*◌, ◌/◌, ◌%◌, [], ◌∷◌, length}
use Rattle.policy.specs.Contract.{Aid}
use Rattle.policy.specs.Judge.{Out}

abbrev pub joined : ℕ → ℕ → ℕ
joined number second = number * 65536 + second

abbrev pub packed : Out → ℕ
packed o = joined o.answered o.second

-- where a record's first AID starts, and its length; 0 where there is none
abbrev pub aid_place : Aid → ℕ
aid_place [] = 0
aid_place (b ∷ l) = joined 5 (length (b ∷ l))

-- the two numbers that a host reads from a result
abbrev pub answer_of : ℕ → ℕ
answer_of r = r / 65536

abbrev pub second_of : ℕ → ℕ
second_of r = r % 65536
