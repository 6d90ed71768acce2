-- Rows of a list that a mask names.
use Rattle.std.specs.Prelude.{ℕ, suc, ◌≡◌, Bool, true, false, ◌&&◌, ◌||◌, cond, List, [], ◌∷◌}
use Rattle.policy.specs.Tables.{bit}
use Rattle.policy.specs.Draft.{put3}
use Rattle.image.specs.Read.{mask_of}

-- the mask m names the rows that pass a test
pub record Named {A : Type 0} (m : ℕ) (l : List A) : Type 0 where
  pub by : A → Bool
  pub is : m ≡ mask_of by l

-- ---- rows of a list that a mask names; the first of l has bit r
-- they become bits, at the numbers that a row gives
module _ {A : Type 0} (row column service : A → ℕ) (mask : ℕ) where
  abbrev pub listed : ℕ → List A → (ℕ → ℕ → ℕ → Bool) → ℕ → ℕ → ℕ → Bool
  listed r [] b = b
  listed r (x ∷ l) b = listed (suc r) l (cond (bit mask r) (put3 (row x) (column x) (service x) true b) b)

-- one of them passes
module _ {A : Type 0} (f : A → Bool) (mask : ℕ) where
  abbrev pub some_listed : ℕ → List A → Bool
  some_listed r [] = false
  some_listed r (x ∷ l) = bit mask r && f x || some_listed (suc r) l
